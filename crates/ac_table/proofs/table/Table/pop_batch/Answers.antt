use Rattle.std.proofs.Common.{◌≡◌, ◌∙◌, sym, ap, refl, ℕ, List, Some, Option, None, IfNone, slice_get, drop, [], ◌∷◌}
use Rattle.std.specs.BTreeMap.{BTreeMap}
use Rattle.ac_table.specs.Faults.{actor_fault}
use Rattle.ac_table.specs.Kept.{state_of, waits_at}
use Rattle.ac_table.specs.Tables.{Batch, first_batch}
use Rattle.ac_table.specs.declared.table.LiveActor.{LiveActor}
use Rattle.ac_table.proofs.Becomes.{popped_is, same_is}
use Rattle.ac_table.proofs.Counting.{counted_within}
use Rattle.ac_table.proofs.Finding.{fault_from, no_fault, front_of, first_batch-seen}
use Rattle.ac_table.proofs.Renewing.{with_batches, whole_refilled}
use Rattle.ac_table.proofs.table.Table.pop_batch.Goals as goal

pub returns-in_default-clause-fault : goal.returns-in_default-clause-fault
returns-in_default-clause-fault c = let i = c.self.inside in (
  sym (ap (actor_fault c.args.actor) c.self.view_is)
      ∙ fault_from c.args.actor i.next i.rows.entries i.actors.entries (sym c.in_default.ensures.value),
  ap (λ (m : BTreeMap ℕ LiveActor). state_of i.next i.rows.entries m.entries) c.get_mut.follows.holds-at-none
      ∙ c.self.view_is,
)

pub pop_busy-batch-requires-clause-busy : goal.pop_busy-batch-requires-clause-busy
pop_busy-batch-requires-clause-busy c =
    c.self.invariant.kept.busy_is c.args.actor ∙ ap waits_at (sym c.in-Some.ensures.value)

pub pop_busy-batch-requires-clause-counted : goal.pop_busy-batch-requires-clause-counted
pop_busy-batch-requires-clause-counted c = let i = c.self.inside in
    counted_within c.args.actor i.waiting c.in-Some.it.now i.actors.entries c.self.invariant.counted
    (sym c.in-Some.ensures.value)

pub invariant_of-self-2 : goal.invariant_of-self-2
invariant_of-self-2 c = let i = c.self.inside in
    let t = with_batches c.in-Some.it.now c.pop_busy-batch.new.inbox in
    whole_refilled c.args.actor i.next c.in-Some.it.now c.pop_busy-batch.new.inbox i.rows.entries i.actors
    (c.get_mut.follows.lender t) i.busy.keys c.pop_busy-batch.new.busy.keys i.waiting c.pop_busy-batch.new.waiting
    c.self.invariant (sym c.in-Some.ensures.value) (c.get_mut.follows.holds t) c.pop_busy-batch.ensures.busy
    c.pop_busy-batch.ensures.counted

pub returns-clause-fault : goal.returns-clause-fault
returns-clause-fault c = let i = c.self.inside in
    sym (ap (actor_fault c.args.actor) c.self.view_is)
    ∙ no_fault c.args.actor i.next i.rows.entries i.actors.entries _ (sym c.in-Some.ensures.value)

pub returns-clause-batch : goal.returns-clause-batch
returns-clause-batch c = let i = c.self.inside in
    c.pop_busy-batch.ensures.batch ∙ ap front_of c.in-Some.ensures.value
    ∙ sym (first_batch-seen c.args.actor i.next i.rows.entries i.actors.entries)
    ∙ ap (first_batch c.args.actor) c.self.view_is

pub returns-clause-popped : goal.returns-clause-popped
returns-clause-popped c = let i = c.self.inside in
    let s = c.in-Some.it.now in
    let t = with_batches s c.pop_busy-batch.new.inbox in
    let new = c.get_mut.follows.lender t in
    let w = c.get_mut.follows.holds t in
    popped_is c.args.actor i.next s t i.rows.entries i.actors.entries new.entries _ c.self.view_is
    (sym c.in-Some.ensures.value) c.pop_busy-batch.ensures.rest refl w.0

if_none : {X : Type 0} (r : Option X) (P : Type 0) → (r ≡ None → P) → IfNone r P
if_none None P holds = holds refl
if_none (Some x) P holds = tt

-- where there is no first one, none is taken
none_taken : (all : List Batch) → slice_get all 0 ≡ None → drop 1 all ≡ all
none_taken [] none = refl
none_taken (b ∷ bs) none = absurd cc

pub returns-clause-none : goal.returns-clause-none
returns-clause-none c = let i = c.self.inside in
    let s = c.in-Some.it.now in
    let t = with_batches s c.pop_busy-batch.new.inbox in
    let new = c.get_mut.follows.lender t in
    let w = c.get_mut.follows.holds t in
    if_none c.pop_busy-batch.result _ (λ none.
    let same : t.inbox ≡ s.inbox =
    c.pop_busy-batch.ensures.rest ∙ none_taken s.inbox (sym c.pop_busy-batch.ensures.batch ∙ none) in
    same_is c.args.actor i.next s t i.rows.entries i.actors.entries new.entries _ c.self.view_is
    (sym c.in-Some.ensures.value) same refl w.0)
