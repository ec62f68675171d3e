-- Each pattern inside a pattern is smaller, and so is each one of a list.
use Rattle.std.specs.Prelude.{◌≡◌, ℕ, zero, suc, ◌+◌, ◌≤◌, ◌<◌, max, List, [], ◌∷◌, length}
use Rattle.std.proofs.Common.{arith, ap, get_or}
use denote.Param.Weighed.{most}
use Rattle.ps_schema.specs.Patterns.{PlainPattern, patterns}
use Rattle.ps_schema.specs.Lemmas.Measures.{measure, measure_all, measure_fields}
use Rattle.ps_schema.specs.View.{view_form, listed_fields}
use Rattle.ps_schema.specs.declared.Field.{Field}
use Rattle.ps_schema.specs.declared.Form.{Form}
use Rattle.ps_schema.specs.declared.Form.TheVariants as F
use Rattle.ps_schema.specs.declared.Pattern.TheDeep.{deep-Form, deep-Field}

pub most_patterns : (ps : List PlainPattern) → most (λ p. measure p + 1) ps ≤ measure_all (patterns ps)
most_patterns [] = omega arith
most_patterns (p ∷ ps) = omega (arith, most_patterns ps)

pub most_fields : (fs : List Field) → most deep-Field fs ≤ measure_fields (listed_fields fs)
most_fields [] = omega arith
most_fields (f ∷ fs) = omega (arith, most_fields fs)

pub falls : (n : Form) → max (deep-Form n) 0 ≤ measure (view_form n)
falls F.Any = omega arith
falls (F.OfKind k) = omega arith
falls (F.Literal v) = omega arith
falls (F.Name a) = omega arith
falls (F.Embedded p) = omega arith
falls (F.Record l ps) = omega (arith, most_patterns ps.items)
falls (F.RecordOf p q) = omega arith
falls (F.Tuple ps) = omega (arith, most_patterns ps.items)
falls (F.TupleWithRest ps q) = omega (arith, most_patterns ps.items)
falls (F.SetOf p) = omega arith
falls (F.DictOf p q) = omega arith
falls (F.Dict fs) = omega (arith, most_fields fs.items)
falls (F.OneOf ps) = omega (arith, most_patterns ps.items)
falls (F.AllOf ps) = omega (arith, most_patterns ps.items)

-- ---- what stands in a list

pub pattern_at : (ps : List PlainPattern) (i : ℕ) (p : PlainPattern) → i < length ps → p ≡ get_or ps i p
    → measure p < measure_all (patterns ps)
pattern_at [] i p h e = absurd (omega arith)
pattern_at (q ∷ qs) zero p h e = omega (arith, ap measure e)
pattern_at (q ∷ qs) (suc i) p h e = omega (arith, pattern_at qs i p (omega arith) e)

pub field_at : (fs : List Field) (i : ℕ) (f : Field) → i < length fs → f ≡ get_or fs i f
    → measure f.pattern < measure_fields (listed_fields fs)
field_at [] i f h e = absurd (omega arith)
field_at (g ∷ gs) zero f h e = omega (arith, ap (λ (z : Field). measure z.pattern) e)
field_at (g ∷ gs) (suc i) f h e = omega (arith, field_at gs i f (omega arith) e)
