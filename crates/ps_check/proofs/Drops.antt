-- What is left of a list, by its first one.
use Rattle.std.proofs.Common.{◌≡◌, ◌+◌, ◌<◌, ℕ, List, [], ◌∷◌, length, get_or, drop, map, Bool, true}
use Rattle.std.proofs.Common.{false, ◌&&◌}
use Rattle.std.proofs.Common.{◌==◌, refl, sym, ap, ◌∙◌, arith, Some}
use Rattle.std.proofs.lemmas.List.{at_drop_more}
use Rattle.std.proofs.Math.Seq.{drop-length}
use Rattle.std.proofs.lemmas.Bool.Decides.{nat_tests}
use Rattle.std.specs.Prelude.{Option}
use Rattle.std.specs.Ordering.{eq_by_cmp, ordering_then, is_eq}
use Rattle.std.specs.declared.cmp.Ordering.{Ordering}
use Rattle.std.specs.declared.cmp.Ordering.TheVariants.{Less, Equal, Greater}
use Rattle.pv_value.specs.Plain.{Plain, Plains, no_more, then_more, PlainPairs, then_pair, plains, pairs}
use Rattle.pv_value.specs.View.{key_and_value}
use Rattle.pv_value.specs.Order.{order, orders}
use Rattle.pv_value.specs.declared.Entry.{Entry}
use Rattle.ps_schema.specs.Patterns.{PlainPattern, then_pattern, patterns, PlainFields, then_field}
use Rattle.ps_schema.specs.View.{listed_fields}
use Rattle.ps_schema.specs.Conforms.{are_none, have_all, matches}
use Rattle.pv_words.specs.Parts.{value_under}
use Rattle.ps_check.specs.Subjects.{held}
use Rattle.ps_check.proofs.Inside.{have_is}
use Rattle.ps_schema.specs.declared.Field.{Field}

pub values_drop : (xs : List Plain) (i : ℕ) (x : Plain) → i < length xs → x ≡ get_or xs i x
    → plains (drop i xs) ≡ then_more x (plains (drop (i + 1) xs))
values_drop xs i x h is = at_drop_more plains xs i x h ∙ rw (← is) refl

pub patterns_drop : (ps : List PlainPattern) (i : ℕ) (p : PlainPattern) → i < length ps → p ≡ get_or ps i p
    → patterns (drop i ps) ≡ then_pattern p (patterns (drop (i + 1) ps))
patterns_drop ps i p h is = at_drop_more patterns ps i p h ∙ rw (← is) refl

pub entries_drop : (es : List Entry) (i : ℕ) (e : Entry) → i < length es → e ≡ get_or es i e
    → pairs (map key_and_value (drop i es)) ≡ then_pair e.key e.value (pairs (map key_and_value (drop (i + 1) es)))
entries_drop es i e h is =
    at_drop_more (λ (fs : List Entry). pairs (map key_and_value fs)) es i e h ∙ rw (← is) refl

pub fields_drop : (fs : List Field) (i : ℕ) (f : Field) → i < length fs → f ≡ get_or fs i f
    → listed_fields (drop i fs) ≡ then_field f.key f.pattern (listed_fields (drop (i + 1) fs))
fields_drop fs i f h is = at_drop_more listed_fields fs i f h ∙ rw (← is) refl

-- ---- no items

pub none_are : (xs : List Plain) → (length xs == 0) ≡ are_none (plains xs)
none_are [] = refl
none_are (x ∷ xs) = grind (arith, nat_tests)

-- ---- the same items

pub same_then : (x y : Plain) (xs ys : Plains)
    → eq_by_cmp orders (then_more x xs) (then_more y ys) ≡ (eq_by_cmp order x y && eq_by_cmp orders xs ys)
same_then x y xs ys = by (order x y) (orders xs ys)
  where
    by : (r s : Ordering) → is_eq (ordering_then r s) ≡ (is_eq r && is_eq s)
    by Less s = refl
    by Equal s = refl
    by Greater s = refl

all_gone : (ys : List Plain) → (length ys == 0) ≡ eq_by_cmp orders no_more (plains ys)
all_gone [] = refl
all_gone (y ∷ ys) = grind (arith, nat_tests)

pub same_at_end : (xs ys zs : List Plain) (i : ℕ) → i ≡ length xs
    → eq_by_cmp orders (plains (drop i xs)) (plains ys) ≡ eq_by_cmp orders (plains xs) (plains zs)
    → (length ys == 0) ≡ eq_by_cmp orders (plains xs) (plains zs)
same_at_end xs ys zs i e h =
    all_gone ys ∙ ap (λ (ds : List Plain). eq_by_cmp orders (plains ds) (plains ys)) (sym (gone xs i e)) ∙ h
  where
    gone : (ds : List Plain) (n : ℕ) → n ≡ length ds → drop n ds ≡ []
    gone ds n f = ap (λ (k : ℕ). drop k ds) f ∙ drop-length ds

-- ---- fields of a pattern

field_step : (m : List ℕ → Plain → Bool) (fs : List Field) (i : ℕ) (f : Field) (ps : PlainPairs) → i < length fs
    → f ≡ get_or fs i f → have_all m (listed_fields (drop i fs)) ps
    ≡ (held (matches m f.pattern) (value_under ps f.key) && have_all m (listed_fields (drop (i + 1) fs)) ps)
field_step m fs i f ps h is =
    ap (λ (gs : PlainFields). have_all m gs ps) (fields_drop fs i f h is)
    ∙ ap (λ (b : Bool). b && have_all m (listed_fields (drop (i + 1) fs)) ps) (have_is f.key (matches m f.pattern) ps)

pub field_fails : (m : List ℕ → Plain → Bool) (fs : List Field) (i : ℕ) (f : Field) (ps : PlainPairs)
    (o : Option PlainPairs) → i < length fs → f ≡ get_or fs i f
    → have_all m (listed_fields (drop i fs)) ps ≡ have_all m (listed_fields fs) ps
    → held (matches m f.pattern) (value_under ps f.key) ≡ false → o ≡ Some ps
    → false ≡ held (have_all m (listed_fields fs)) o
field_fails m fs i f ps o h is inv fails e =
    sym (ap (λ (b : Bool). b && have_all m (listed_fields (drop (i + 1) fs)) ps) fails)
    ∙ sym (field_step m fs i f ps h is) ∙ inv ∙ ap (held (have_all m (listed_fields fs))) (sym e)

pub field_passes : (m : List ℕ → Plain → Bool) (fs : List Field) (i : ℕ) (f : Field) (ps : PlainPairs)
    → i < length fs → f ≡ get_or fs i f → have_all m (listed_fields (drop i fs)) ps ≡ have_all m (listed_fields fs) ps
    → held (matches m f.pattern) (value_under ps f.key) ≡ true
    → have_all m (listed_fields (drop (i + 1) fs)) ps ≡ have_all m (listed_fields fs) ps
field_passes m fs i f ps h is inv holds =
    sym (ap (λ (b : Bool). b && have_all m (listed_fields (drop (i + 1) fs)) ps) holds)
    ∙ sym (field_step m fs i f ps h is) ∙ inv
