-- The first actors: they are live, nobody else is, and nothing waits for them.
use Rattle.std.proofs.Common.{◌≡◌, ℕ, zero, suc, ◌<◌, ◌≤◌, [], true, false, Some}
use Rattle.std.proofs.Common.{refl, sym, ap, ◌∙◌, arith, inl, inr}
use Rattle.ac_table.specs.Tables.{Actor, IsTable, find_actor, is_live, joined}
use Rattle.ac_world.specs.Worlds.{first_actors}
use Rattle.ac_world.specs.Lemmas.Entries.{ascend_none}
use Rattle.hub_laws.proofs.Joining.{joined_is_table, joined_new, joined_other, joined_live, joined_live_other}
use Rattle.hub_laws.proofs.Leaving.{one_or_not}

pub first_dead : (n a : ℕ) → n ≤ a → is_live a (first_actors n) ≡ false
first_dead zero a l = refl
first_dead (suc n) a l =
    joined_live_other n a (first_actors n) (λ same. absurd (omega (arith, l, same))) ∙ first_dead n a (omega (arith, l))

pub first_live : (n a : ℕ) → a < n → is_live a (first_actors n) ≡ true
first_live zero a l = absurd (omega (arith, l))
first_live (suc n) a l = elim (one_or_not a n) [
  | inl same ↦ ap (λ i. is_live i (joined n (first_actors n))) same
      ∙ joined_live n (first_actors n) (first_dead n n (omega arith))
  | inr ne ↦ joined_live_other n a (first_actors n) ne ∙ first_live n a (omega (arith, l, ne))
]

pub first_table : (n : ℕ) → IsTable (first_actors n)
first_table zero = record {
  rows_ascend = ascend_none;
  rows_below_next = tt;
  actors_ascend = ascend_none;
  owners_live = tt;
}
first_table (suc n) = joined_is_table n (first_actors n) (first_dead n n (omega arith)) (first_table n)

pub first_inbox : (n a : ℕ) (x : Actor) → find_actor a (first_actors n).actors ≡ Some x → x.inbox ≡ []
first_inbox zero a x found = absurd cc
first_inbox (suc n) a x found = elim (one_or_not a n) [
  | inl same ↦
      (let new = joined_new n (first_actors n) (first_dead n n (omega arith)) in
      let here = ap (λ i. find_actor i (joined n (first_actors n)).actors) (sym same) ∙ found in
      let is : record { number = n; inbox = [] } ≡ x = cc in
      sym (ap (λ (z : Actor). z.inbox) is))
  | inr ne ↦ first_inbox n a x (sym (joined_other n a (first_actors n) ne) ∙ found)
]
