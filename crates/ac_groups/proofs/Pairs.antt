-- Keys `[o c]` are told apart by o and by c, and from all other keys.
use Rattle.std.proofs.Common.{◌≡◌, List, [], ◌∷◌, length, Bool, true, false, ◌&&◌, Some, None, refl, ap}
use Rattle.std.proofs.Common.{◌∙◌, is_some, arith}
use Rattle.std.specs.declared.cmp.Ordering.{Ordering}
use Rattle.std.specs.declared.cmp.Ordering.TheVariants.{Less, Equal, Greater}
use Rattle.std.specs.Ordering.{is_eq, ordering_then}
use Rattle.pv_value.specs.Plain.{Plain, sequence, no_more, then_more, plains}
use Rattle.pv_value.specs.Order.{order}
use Rattle.pv_words.specs.Parts.{same}
use Rattle.ac_groups.specs.Groups.{pair, parts}
use Rattle.ac_groups.proofs.Entries.{same_is, same_turns}

pub parts_is : (k o c : Plain) → parts k ≡ Some (o, c) → k ≡ pair o c
parts_is (sequence (then_more p (then_more d no_more))) o c e =
    let both : ◌≡◌ {A = Plain × Plain} (p, d) (o, c) = cc in ap (λ (x : Plain × Plain). pair x.0 x.1) both
parts_is k o c e = cc

-- sequences of another length
pub no_parts : (xs : List Plain) → (length xs ≡ 2 → ⊥) → parts (sequence (plains xs)) ≡ None
no_parts [] h = refl
no_parts (x ∷ []) h = refl
no_parts (x ∷ y ∷ []) h = absurd (h (omega arith))
no_parts (x ∷ y ∷ z ∷ zs) h = refl

both_same : (a b : Ordering) → is_eq (ordering_then a (ordering_then b Equal)) ≡ (is_eq a && is_eq b)
both_same Less b = refl
both_same Equal Less = refl
both_same Equal Equal = refl
both_same Equal Greater = refl
both_same Greater b = refl

pub same_pairs : (o c p d : Plain) → same (pair o c) (pair p d) ≡ (same o p && same c d)
same_pairs o c p d = both_same (order o p) (order c d)

-- a key of another form is no `[o c]`
pub no_pair : (k o c : Plain) → parts k ≡ None → same (pair o c) k ≡ false
no_pair k o c e = by (same (pair o c) k) refl
  where
    by : (b : Bool) → same (pair o c) k ≡ b → b ≡ false
    by true is = ap (λ v. is_some (parts v)) (same_is (pair o c) k is) ∙ ap is_some e
    by false is = refl

pub no_pair_too : (k o c : Plain) → parts k ≡ None → same k (pair o c) ≡ false
no_pair_too k o c e = same_turns k (pair o c) ∙ no_pair k o c e
