-- Sets of one key.
use Rattle.std.proofs.Common.{◌≡◌, Bool, true, false, cond, ◌||◌, List, [], ◌∷◌, refl, ap, sym, ◌∙◌, subst}
use Rattle.std.specs.BTreeSet.{BTreeSet, contains, IsOrdered}
use Rattle.std.specs.List.Sorted.{IsStrictlySortedBy}
use Rattle.std.specs.Cmp.{eq_by_cmp_equiv}
use Rattle.pv_value.specs.Plain.{Plain}
use Rattle.pv_value.specs.Order.{order}
use Rattle.pv_value.specs.Lemmas.OrderLaws.{order_total}
use Rattle.pv_words.specs.Lemmas.Same.{same_is, same_self}
use Rattle.pv_words.specs.Parts.{same}
use Rattle.ds_small.specs.Sets.{Keys, set_of}
use Rattle.ds_small.specs.Sets.kept

pub same_turns : (x y : Plain) → same x y ≡ same y x
same_turns x y = (eq_by_cmp_equiv order_total).symm x y

-- what is kept, as the set that is seen
pub seen : (k n : Keys) (s : BTreeSet Plain) → k ≡ n → set_of k ≡ s → set_of n ≡ s
seen k n s e f = ap set_of (sym e) ∙ f

pub none_ordered : (s : BTreeSet Plain) → set_of kept.Nothing ≡ s → IsOrdered order s
unfolding IsStrictlySortedBy
none_ordered s e = subst (IsOrdered order) e tt

pub one_ordered : (v : Plain) (s : BTreeSet Plain) → set_of (kept.One v) ≡ s → IsOrdered order s
unfolding IsStrictlySortedBy
one_ordered v s e = subst (IsOrdered order) e (tt, tt)

either : (b : Bool) → (b || false) ≡ cond b true false
either true = refl
either false = refl

stays : (k v q : Plain) (b : Bool) → same k q ≡ b → same k v ≡ false → (same q v || false)
    ≡ cond b false (same q v || false)
stays k v q true e other = ap (λ w. same w v || false) (sym (same_is k q e)) ∙ ap (λ b. b || false) other
stays k v q false e other = refl

-- another key is taken out
pub other_stays : (k v : Plain) (s : BTreeSet Plain) → set_of (kept.One v) ≡ s → same k v ≡ false
    → (q : Plain) → contains order (set_of (kept.One v)) q ≡ cond (same k q) false (contains order s q)
other_stays k v s e other q =
    stays k v q (same k q) refl other ∙ ap (λ s. cond (same k q) false (contains order s q)) e

goes : (k v q : Plain) (b : Bool) → same k q ≡ b → k ≡ v → false ≡ cond b false (same q v || false)
goes k v q true e is = refl
goes k v q false e is = ap (λ b. b || false) (sym (sym (ap (λ w. same q w) is) ∙ same_turns q k ∙ e))

-- the key itself is taken out
pub one_goes : (k v : Plain) (n : Keys) (s : BTreeSet Plain) → set_of (kept.One v) ≡ s → n ≡ kept.Nothing
    → same k v ≡ true → (q : Plain) → contains order (set_of n) q ≡ cond (same k q) false (contains order s q)
one_goes k v n s e none is q =
    ap (λ m. contains order (set_of m) q) none ∙ goes k v q (same k q) refl (same_is k v is)
    ∙ ap (λ s. cond (same k q) false (contains order s q)) e

again : (k v q : Plain) (b : Bool) → same k q ≡ b → k ≡ v → (same q v || false) ≡ cond b true (same q v || false)
again k v q true e is =
    ap (λ b. b || false) (sym (ap (λ w. same q w) is) ∙ same_turns q k ∙ e)
again k v q false e is = refl

-- the key itself is put in once more
pub one_again : (k v : Plain) (s : BTreeSet Plain) → set_of (kept.One v) ≡ s → same k v ≡ true
    → (q : Plain) → contains order (set_of (kept.One v)) q ≡ cond (same k q) true (contains order s q)
one_again k v s e is q =
    again k v q (same k q) refl (same_is k v is) ∙ ap (λ s. cond (same k q) true (contains order s q)) e

-- the first key is put in
pub first_comes : (k : Plain) (n : Keys) (s : BTreeSet Plain) → set_of kept.Nothing ≡ s → n ≡ kept.One k
    → (q : Plain) → contains order (set_of n) q ≡ cond (same k q) true (contains order s q)
first_comes k n s e one q =
    ap (λ m. contains order (set_of m) q) one ∙ either (same q k) ∙ ap (λ b. cond b true false) (same_turns q k)
    ∙ ap (λ s. cond (same k q) true (contains order s q)) e
