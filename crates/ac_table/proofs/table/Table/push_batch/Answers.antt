use Rattle.std.proofs.Common.{◌∙◌, sym, ap, refl, ℕ}
use Rattle.std.specs.BTreeMap.{BTreeMap}
use Rattle.ac_table.specs.Faults.{actor_fault}
use Rattle.ac_table.specs.Kept.{state_of, waits_at}
use Rattle.ac_table.specs.declared.table.LiveActor.{LiveActor}
use Rattle.ac_table.proofs.Becomes.{pushed_is}
use Rattle.ac_table.proofs.Finding.{fault_from, no_fault, memory_fault}
use Rattle.ac_table.proofs.Renewing.{with_batches, whole_refilled}
use Rattle.ac_table.proofs.table.Table.push_batch.Goals as goal

pub returns-in_default-clause-fault : goal.returns-in_default-clause-fault
returns-in_default-clause-fault c = let i = c.self.inside in (
  sym (ap (actor_fault c.args.actor) c.self.view_is)
      ∙ fault_from c.args.actor i.next i.rows.entries i.actors.entries (sym c.in_default.ensures.value),
  ap (λ (m : BTreeMap ℕ LiveActor). state_of i.next i.rows.entries m.entries) c.get_mut.follows.holds-at-none
      ∙ c.self.view_is,
)

pub push_busy-requires : goal.push_busy-requires
push_busy-requires c = c.self.invariant.kept.busy_is c.args.actor ∙ ap waits_at (sym c.in-Some.ensures.value)

pub invariant_of-self-in_err-push_busy : goal.invariant_of-self-in_err-push_busy
invariant_of-self-in_err-push_busy c = let i = c.self.inside in
    let t = with_batches c.in-Some.it.now c.push_busy.new.inbox in
    whole_refilled c.args.actor i.next c.in-Some.it.now c.push_busy.new.inbox i.rows.entries i.actors
    (c.get_mut.follows.lender t) i.busy.keys c.push_busy.new.busy.keys i.waiting c.push_busy.new.waiting
    c.self.invariant (sym c.in-Some.ensures.value) (c.get_mut.follows.holds t) c.push_busy.ensures.busy
    c.push_busy.ensures.counted

pub returns-in_err-push_busy-clause-fault : goal.returns-in_err-push_busy-clause-fault
returns-in_err-push_busy-clause-fault c = let i = c.self.inside in
    memory_fault _ _ _ _ (sym (ap (actor_fault c.args.actor) c.self.view_is)
    ∙ no_fault c.args.actor i.next i.rows.entries i.actors.entries _ (sym c.in-Some.ensures.value))
    c.from_residual.ensures.0 c.from_residual.ensures.1

pub invariant_of-self-2 : goal.invariant_of-self-2
invariant_of-self-2 c = let i = c.self.inside in
    let t = with_batches c.in-Some.it.now c.push_busy.new.inbox in
    whole_refilled c.args.actor i.next c.in-Some.it.now c.push_busy.new.inbox i.rows.entries i.actors
    (c.get_mut.follows.lender t) i.busy.keys c.push_busy.new.busy.keys i.waiting c.push_busy.new.waiting
    c.self.invariant (sym c.in-Some.ensures.value) (c.get_mut.follows.holds t) c.push_busy.ensures.busy
    c.push_busy.ensures.counted

pub returns-clause-fault : goal.returns-clause-fault
returns-clause-fault c = let i = c.self.inside in
    sym (ap (actor_fault c.args.actor) c.self.view_is)
    ∙ no_fault c.args.actor i.next i.rows.entries i.actors.entries _ (sym c.in-Some.ensures.value)

pub returns-clause-pushed : goal.returns-clause-pushed
returns-clause-pushed c = let i = c.self.inside in
    let s = c.in-Some.it.now in
    let t = with_batches s c.push_busy.new.inbox in
    let new = c.get_mut.follows.lender t in
    let w = c.get_mut.follows.holds t in
    pushed_is c.args.actor i.next c.args.batch s t i.rows.entries i.actors.entries new.entries _ c.self.view_is
    (sym c.in-Some.ensures.value) c.in_ok-push_busy.ensures.pushed refl w.0
