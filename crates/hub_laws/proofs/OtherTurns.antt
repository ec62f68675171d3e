-- The turns of connections, and of whoever it is.
use Rattle.std.proofs.Common.{◌≡◌, ◌≢◌, ℕ, ◌≤◌, List, [], Bool, true, false, cond, Option, Some}
use Rattle.std.proofs.Common.{None}
use Rattle.std.proofs.Common.{refl, sym, ap, ◌∙◌, subst, inl, inr, arith}
use Rattle.std.specs.Prelude.{unwrap_or}
use Rattle.std.proofs.lemmas.Bool.Decides.{nat_tests}
use Rattle.ac_table.specs.declared.batches.Batch.{Batch}
use Rattle.ac_table.specs.Tables.{TableState, Actor, find_actor, is_live, first_batch, popped}
use Rattle.ac_world.specs.Outboxes.{Plan, plan_over}
use Rattle.ac_world.specs.Turns.{turn_with, turn, turn_first, connection_turn, system_turn}
use Rattle.ac_world.specs.Turns.{deliver}
use Rattle.ac_world.specs.Worlds.{WorldState, Deliveries, held_by, with_entry, is_system}
use Rattle.ac_world.specs.Worlds.{all_delivered}
use Rattle.ac_world.specs.declared.turns.Turned.TheVariants as turned
use Rattle.ac_world.specs.Lemmas.Entries.{put_found, put_other, ascend_with}
use Rattle.hub_laws.specs.Standing.{took_all, at_object}
use Rattle.hub_laws.proofs.Committing.{IsPlanned, commit_sound}
use Rattle.hub_laws.proofs.Good.{begin_good}
use Rattle.hub_laws.proofs.Kept.{Moves, AreGood, IsServedBy, IsServed, IsSound, IsMetIn}
use Rattle.hub_laws.proofs.Leaving.{one_or_not}
use Rattle.hub_laws.proofs.Logs.{connection_took}
use Rattle.hub_laws.proofs.Moving.{begin_moves}
use Rattle.hub_laws.proofs.Packets.{come_some}
use Rattle.hub_laws.proofs.Posting.{posted_to, posted_table, live-popped, table-popped, found-popped}
use Rattle.hub_laws.proofs.Posting.{found-popped_other}
use Rattle.hub_laws.proofs.Serving.{served_after, popped_served}
use Rattle.hub_laws.proofs.Turns.{IsTurned, without_first, system_turned}

-- ---- what was delivered to a connection

held_self : (a : ℕ) (got : Deliveries) (w : WorldState)
    → held_by a (record (without_first a w) { held = with_entry a got w.held }) ≡ got
held_self a got w = ap (λ o. unwrap_or o []) (put_found a got w.held)

held_other : (a c : ℕ) (got : Deliveries) (w : WorldState) → c ≢ a
    → held_by c (record (without_first a w) { held = with_entry a got w.held }) ≡ held_by c w
held_other a c got w ne = ap (λ o. unwrap_or o []) (put_other a c got w.held ne)

abbrev pub delivered : ℕ → Batch → WorldState → WorldState
delivered a b w = deliver a b.events (without_first a w)

served_other : (a c : ℕ) (b : Batch) (w : WorldState) (inbox : List Batch) → c ≢ a →
    (s : Bool) → IsServed [] c inbox w s
    → IsServed [] c inbox (delivered a b w) s
served_other a c b w inbox ne true s = s
served_other a c b w inbox ne false s =
    subst (λ (got : Deliveries). IsServedBy at_object [] w.table.rows w.table.next c got inbox)
    (sym (held_other a c (all_delivered b.events (held_by a w)) w ne)) s

served_delivered : (a : ℕ) (b : Batch) (w : WorldState) → IsSound [] w → is_system a ≡ false
    → first_batch a w.table ≡ Some b → (c : ℕ) (x : Actor) → find_actor c (popped a w.table).actors ≡ Some x
    → IsServed [] c x.inbox (delivered a b w) (is_system c)
served_delivered a b w k far is c x found = elim (one_or_not c a) [
  | inr ne ↦ served_other a c b w x.inbox ne (is_system c)
      (k.served c x (sym (found-popped_other a c w.table ne) ∙ found))
  | inl same ↦
      (let y = found-popped a w.table b x is (ap (λ i. find_actor i (popped a w.table).actors) (sym same) ∙ found) in
      let s = subst (IsServed [] a y.0.inbox w) far (k.served a y.0 y.1) in
      let t = subst (λ bs. IsServedBy at_object [] w.table.rows w.table.next a
      (held_by a w) bs) y.2 s in
      let u = popped_served _ at_object [] w.table.rows w.table.next a (held_by a w) b x.inbox t in
      let got : took_all at_object b.events (held_by a w) ≡ held_by a (delivered a b w) =
      sym (held_self a (all_delivered b.events (held_by a w)) w ∙ connection_took b.events (held_by a w)) in
      subst (λ i. IsServed [] i x.inbox (delivered a b w) (is_system i)) (sym same)
      (subst (IsServed [] a x.inbox (delivered a b w)) (sym far)
      (subst (λ (g : Deliveries). IsServedBy at_object [] w.table.rows w.table.next a g x.inbox) got u)))
]

-- ---- a plan over it that leaves the rows

pub record LeavesRows (a : ℕ) (t : TableState) (p : Plan) : Type 1 where
  pub moves : Moves a t p
  pub good : AreGood a p
  pub same : p.table ≡ t

delivered_planned : (a : ℕ) (b : Batch) (w : WorldState) (p : Plan) → IsSound [] w → is_system a ≡ false
    → first_batch a w.table ≡ Some b → is_live a w.table ≡ true → LeavesRows a (popped a w.table) p
    → IsPlanned [] (delivered a b w) a p
delivered_planned a b w p k far is live plan = record {
  table = table-popped a w.table k.table;
  always = λ c l. live-popped a c w.table ∙ k.always c l;
  watchers = λ c l here. k.watchers c l (sym (live-popped a c w.table) ∙ here);
  watches = k.watches;
  numbers = λ c here. k.numbers c (sym (live-popped a c w.table) ∙ here);
  served = served_delivered a b w k far is;
  residents_ascend = k.residents_ascend;
  unkept = λ c dead. k.unkept c (sym (live-popped a c w.table) ∙ dead);
  held_ascends = ascend_with a (all_delivered b.events (held_by a w)) w.held k.held_ascends;
  unheld = λ c dead.
      let before : is_live c w.table ≡ false = sym (live-popped a c w.table) ∙ dead in
      let ne : c ≢ a = λ same. absurd (let f : is_live c w.table ≡ true =
      ap (λ i. is_live i w.table) same ∙ live in cc) in
      put_other a c (all_delivered b.events (held_by a w)) w.held ne ∙ k.unheld c before;
  system_unheld = λ c low.
      let high : 17 ≤ a = grind (arith, nat_tests, far) in
      put_other a c (all_delivered b.events (held_by a w)) w.held (λ same. absurd (omega (arith, low, same, high)))
      ∙ k.system_unheld c low;
  moves = plan.moves;
  good = plan.good;
  met = λ c l here.
      subst (λ (t : TableState). IsMetIn w t.rows c) (sym plan.same)
      (k.met c l (sym (live-popped a c w.table) ∙ here));
  quiet = λ none. absurd (come_some [] a w (grind (arith, nat_tests, far)) live k none);
}

connection_turned : (a : ℕ) (b : Batch) (w : WorldState) → IsSound [] w → is_system a ≡ false → is_live a w.table ≡ true
    → first_batch a w.table ≡ Some b → IsTurned w (connection_turn a b (without_first a w))
connection_turned a b w k far live is = record {
  sound = commit_sound posted_to posted_table served_after [] (delivered a b w) a (plan_over (popped a w.table))
      (delivered_planned a b w (plan_over (popped a w.table)) k far is live
      (record {
        moves = begin_moves a (popped a w.table) (table-popped a w.table k.table);
        good = begin_good a (popped a w.table) k.rows;
        same = refl;
      }));
  far = tt;
  lives = λ c. live-popped a c w.table;
}

-- ---- whoever it is

turned_with : (a : ℕ) (b : Batch) (w : WorldState) → IsSound [] w → is_live a w.table ≡ true
    → first_batch a w.table ≡ Some b → IsTurned w (turn_with a b (without_first a w))
turned_with a b w k live is = by (is_system a) refl
  where
    by : (c : Bool) → is_system a ≡ c
        → IsTurned w (cond c (system_turn a b (without_first a w)) (connection_turn a b (without_first a w)))
    by true system = system_turned a b w k system live is
    by false system = connection_turned a b w k system live is

pub turn_turned : (a : ℕ) (w : WorldState) → IsSound [] w → IsTurned w (turn a w)
turn_turned a w k = by (is_live a w.table) (first_batch a w.table) refl refl
  where
    by : (c : Bool) (o : Option Batch) → is_live a w.table ≡ c → first_batch a w.table ≡ o
        → IsTurned w (cond c (turn_first a o w) (record { world = w; turned = turned.Gone }))
    by true None live is = record { sound = k; far = tt; lives = λ c. refl }
    by true (Some b) live is = turned_with a b w k live is
    by false o live is = record { sound = k; far = tt; lives = λ c. refl }
