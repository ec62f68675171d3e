use Rattle.std.proofs.Common.{◌≡◌, ◌∙◌, sym, ap, refl, arith, Some, ◌==◌}
use Rattle.std.specs.BTreeSet.{btree_set_len}
use Rattle.ac_table.specs.Faults.{actor_fault}
use Rattle.ac_table.specs.declared.table.LiveActor.{LiveActor}
use Rattle.ac_table.proofs.Becomes.{ended_is}
use Rattle.ac_table.proofs.Counting.{counted_ended, counted_within}
use Rattle.ac_table.proofs.Finding.{fault_from, no_fault, memory_fault}
use Rattle.ac_table.proofs.Keeps.{kept_ended}
use Rattle.ac_table.proofs.Removing.{ascend_from}
use Rattle.ac_table.proofs.Standing.{standing_ended}
use Rattle.std.specs.Map.{values_of}
use Rattle.ac_table.proofs.table.Table.end_actor.Goals as goal

pub returns-in_default-clause-fault : goal.returns-in_default-clause-fault
returns-in_default-clause-fault c = let i = c.self.inside in (
  sym (ap (actor_fault c.args.actor) c.self.view_is)
      ∙ fault_from c.args.actor i.next i.rows.entries i.actors.entries (sym c.in_default.ensures.value),
  refl,
)

pub returns-in_err-room-clause-fault : goal.returns-in_err-room-clause-fault
returns-in_err-room-clause-fault c = let i = c.self.inside in
    memory_fault _ _ _ _ (sym (ap (actor_fault c.args.actor) c.self.view_is)
    ∙ no_fault c.args.actor i.next i.rows.entries i.actors.entries _ (sym c.in-Some.ensures.value))
    c.from_residual.ensures.0 c.from_residual.ensures.1

pub overflow_sub-self : goal.overflow_sub-self
overflow_sub-self c = let i = c.self.inside in
    let within = counted_within c.args.actor i.waiting c.in-Some-remove.it i.actors.entries c.self.invariant.counted
    (sym c.in-Some-remove.ensures.value) in
    omega (arith, within, c.len-2.ensures)

pub take_rows-requires : goal.take_rows-requires
take_rows-requires c =
    let both : Some c.in-Some.it.now ≡ Some c.in-Some-remove.it =
    c.in-Some.ensures.value ∙ sym c.in-Some-remove.ensures.value in
    let same : c.in-Some.it.now ≡ c.in-Some-remove.it = grind (arith, both) in
    let len : btree_set_len c.in-Some.it.now.own ≡ btree_set_len c.in-Some-remove.it.own =
    ap (λ (s : LiveActor). btree_set_len s.own) same in
    record {
      keyed = c.self.invariant.kept.keyed;
      ordered = c.self.invariant.kept.rows_ascend;
      room = omega (arith, c.in_ok-room.ensures.capacity, c.len.ensures.len, len);
      empty = c.in_ok-room.ensures.items;
    }

pub invariant_of-self-2 : goal.invariant_of-self-2
invariant_of-self-2 c = let i = c.self.inside in
    let own = c.self.invariant.kept.owned c.args.actor c.in-Some-remove.it (sym c.in-Some-remove.ensures.value) in
    let taken = c.take_rows.ensures.taken (λ r. r.owner == c.args.actor) own in
    let s = c.in-Some-remove.it in
    let was = sym c.in-Some-remove.ensures.value in
    let within = counted_within c.args.actor i.waiting s i.actors.entries c.self.invariant.counted was in
    record {
      kept = kept_ended c.args.actor i.next i.rows.entries c.take_rows.new.rows.entries i.actors.entries
          c.remove.new.self.entries i.busy.keys c.remove-2.new.self.keys c.self.invariant.kept
          c.remove.ensures.updates.0 c.remove.ensures.ordered c.remove-2.ensures.updates.0
          c.take_rows.ensures.keyed taken.0 c.take_rows.ensures.ordered;
      counted = counted_ended c.args.actor i.waiting _ s i.actors.entries c.remove.new.self.entries
          c.self.invariant.counted was c.remove.ensures.entries (omega (arith, within, c.len-2.ensures));
      standing = standing_ended c.args.actor i.actors.entries c.remove.new.self.entries (values_of i.rows.entries)
          (values_of c.take_rows.new.rows.entries) c.self.invariant.standing c.remove.ensures.updates.0
          (ascend_from i.rows.entries c.self.invariant.kept.keyed c.self.invariant.kept.rows_ascend) taken.0;
    }

pub returns-clause-fault : goal.returns-clause-fault
returns-clause-fault c = let i = c.self.inside in
    sym (ap (actor_fault c.args.actor) c.self.view_is)
    ∙ no_fault c.args.actor i.next i.rows.entries i.actors.entries _ (sym c.in-Some.ensures.value)

pub returns-clause-ended : goal.returns-clause-ended
returns-clause-ended c = let i = c.self.inside in
    let own = c.self.invariant.kept.owned c.args.actor c.in-Some-remove.it (sym c.in-Some-remove.ensures.value) in
    let taken = c.take_rows.ensures.taken (λ r. r.owner == c.args.actor) own in
    ended_is c.args.actor i.next i.rows.entries c.take_rows.new.rows.entries i.actors.entries
    c.remove.new.self.entries _ c.self.view_is taken.0 c.self.invariant.kept.actors_ascend c.remove.ensures.entries
