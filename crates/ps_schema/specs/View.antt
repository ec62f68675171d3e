-- One level of a pattern, with each pattern inside already seen as its data.
use Rattle.std.specs.Prelude.{List, [], ◌∷◌}
use Rattle.ps_schema.specs.Patterns.{PlainPattern, any_value, of_kind, literal, reference, embedded_as, record_with}
use Rattle.ps_schema.specs.Patterns.{record_of_both, tuple, tuple_with_rest, set_of_all, dictionary_of_all}
use Rattle.ps_schema.specs.Patterns.{dictionary_with, one_of, all_of, PlainFields, no_fields, then_field, patterns}
use Rattle.ps_schema.specs.declared.Field.{Field}
use Rattle.ps_schema.specs.declared.Form.{Form}
use Rattle.ps_schema.specs.declared.Form.TheVariants as F

abbrev pub listed_fields : List Field → PlainFields
listed_fields [] = no_fields
listed_fields (f ∷ fs) = then_field f.key f.pattern (listed_fields fs)

abbrev pub view_form : Form → PlainPattern
view_form F.Any = any_value
view_form (F.OfKind k) = of_kind k
view_form (F.Literal v) = literal v
view_form (F.Name a) = reference a
view_form (F.Embedded p) = embedded_as p.value
view_form (F.Record l ps) = record_with l (patterns ps.items)
view_form (F.RecordOf p q) = record_of_both p.value q.value
view_form (F.Tuple ps) = tuple (patterns ps.items)
view_form (F.TupleWithRest ps q) = tuple_with_rest (patterns ps.items) q.value
view_form (F.SetOf p) = set_of_all p.value
view_form (F.DictOf p q) = dictionary_of_all p.value q.value
view_form (F.Dict fs) = dictionary_with (listed_fields fs.items)
view_form (F.OneOf ps) = one_of (patterns ps.items)
view_form (F.AllOf ps) = all_of (patterns ps.items)
