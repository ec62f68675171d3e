-- One level of a pattern, with each pattern inside already seen as its data.
use Rattle.std.specs.Prelude.{List, [], ◌∷◌}
use Rattle.dp_pattern.specs.Patterns.{Pattern, discard, bind, literal, group, Fields, no_fields, then_field}
use Rattle.dp_pattern.specs.declared.Field.{Field}
use Rattle.dp_pattern.specs.declared.Form.{Form}
use Rattle.dp_pattern.specs.declared.Form.TheVariants.{Discard, Bind, Lit, Group}

abbrev pub listed_fields : List Field → Fields
listed_fields [] = no_fields
listed_fields (f ∷ fs) = then_field f.key f.pattern (listed_fields fs)

abbrev pub view_form : Form → Pattern
view_form Discard = discard
view_form (Bind p) = bind p.value
view_form (Lit v) = literal v
view_form (Group g fs) = group g (listed_fields fs.items)
