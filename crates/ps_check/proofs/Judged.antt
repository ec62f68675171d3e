-- What was found of names stays right.
use Rattle.std.proofs.Common.{◌≡◌, ℕ, Bool, true, false, List, [], Option, Some, None, Result, Ok, Err, cond, refl}
use Rattle.std.proofs.Common.{sym, ap, ◌∙◌}
use Rattle.std.specs.Prelude.{OnOk, OnErr}
use Rattle.std.specs.Ordering.{is_eq}
use Rattle.std.specs.declared.cmp.Ordering.{Ordering}
use Rattle.std.specs.declared.cmp.Ordering.TheVariants.{Less, Equal, Greater}
use Rattle.std.specs.Map.{lookup}
use Rattle.std.specs.BTreeMap as tree
use Rattle.std.specs.BTreeMap.{BTreeMap, is_at}
use Rattle.std.proofs.lemmas.Map.Lookups.{exact_unsigned, exact_pairs}
use Rattle.pv_value.specs.Plain.{Plain}
use Rattle.pv_value.specs.Lemmas.OrderLaws.{order_same}
use Rattle.ps_schema.specs.Patterns.{PlainPattern}
use Rattle.ps_schema.specs.Names.{pattern_under}
use Rattle.ps_schema.specs.Schemas.{IsSchema}
use Rattle.ps_schema.specs.Conforms.{conforms, matches_defined}
use Rattle.ps_schema.specs.declared.Definition.{Definition}
use Rattle.ps_check.specs.Verdicts.{place_order, Tells}
use Rattle.ps_check.proofs.Meanings.{has_meaning}

-- an empty table tells nothing
pub none_told : (found : ℕ → Plain → Bool) (table : BTreeMap (ℕ × Plain) Bool) → table.entries ≡ []
    → Tells found table
none_told found table e i v b is =
    let none : None ≡ Some b = sym (ap (λ es. lookup (is_at (place_order (i, v))) es) e) ∙ is in absurd cc

equal_is : (o : Ordering) → is_eq o ≡ true → o ≡ Equal
equal_is Less e = cc
equal_is Equal e = refl
equal_is Greater e = cc

place_same : (j k : ℕ × Plain) → is_at (place_order j) k ≡ true → j ≡ k
place_same j k e = exact_pairs _ _ exact_unsigned order_same j k (equal_is (place_order j k) e)

-- nor does one more verdict that is so tell what isn't
pub more_told : (found : ℕ → Plain → Bool) (m n : BTreeMap (ℕ × Plain) Bool) (i : ℕ) (v : Plain) (b : Bool)
    → tree.Updates place_order m n (i, v) (Some b) → Tells found m → b ≡ found i v → Tells found n
more_told found m n i v b u h e j w c is =
    by (is_at (place_order (i, v)) (j, w)) refl (sym (u.0 (j, w)) ∙ is)
  where
    by : (t : Bool) → is_at (place_order (i, v)) (j, w) ≡ t
        → cond t (Some b) (tree.get place_order m (j, w)) ≡ Some c → c ≡ found j w
    by true at k =
        let told : c ≡ b = cc in
        told ∙ e ∙ ap (λ (p : ℕ × Plain). found p.0 p.1) (place_same (i, v) (j, w) at)
    by false at k = h j w c k

-- with room for it or without
pub still_told : {A B : Type 0} (r : Result A B) (found : ℕ → Plain → Bool) (m n : BTreeMap (ℕ × Plain) Bool) (i : ℕ)
    (v : Plain) (b : Bool) → OnOk r (tree.Updates place_order m n (i, v) (Some b)) → OnErr r (tree.IsUnchanged m n)
    → Tells found m → b ≡ found i v → Tells found n
still_told (Ok x) found m n i v b u k h e = more_told found m n i v b u h e
still_told (Err y) found m n i v b u k h e = λ j w c is.
    h j w c (sym (ap (λ es. lookup (is_at (place_order (j, w))) es) k) ∙ is)

-- a value conforms to a name just where it matches what the name stands for
pub name_means : (ds : List Definition) → IsSchema ds → (a : List ℕ) (v : Plain) (o : Option PlainPattern)
    → pattern_under ds a ≡ o → matches_defined (conforms ds) o v ≡ conforms ds a v
name_means ds s a v o u =
    sym (has_meaning ds s a v ∙ ap (λ (x : Option PlainPattern). matches_defined (conforms ds) x v) u)
