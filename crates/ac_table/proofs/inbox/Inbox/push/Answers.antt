use Rattle.std.proofs.Common.{◌≡◌, ◌∙◌, ap, sym, subst, arith, List, ◌++◌, ◌∷◌, []}
use Rattle.ac_table.specs.Inboxes.{IsLoaded}
use Rattle.ac_table.specs.Sums.{Load, load_in, load_of_batch, load_if_from, top_load}
use Rattle.ac_table.specs.Tables.{Batch, Event}
use Rattle.ac_table.proofs.Totals.{sum_has_room, loaded_push}
use Rattle.ac_table.proofs.inbox.Inbox.push.Goals as goal

pub add_sent-requires-clause-count : goal.add_sent-requires-clause-count
add_sent-requires-clause-count c =
    let i = c.self.inside in
    let from = c.args.batch.from in
    let l = ap (λ (l : Load). l.count) c.load_in-load.ensures in
    sum_has_room (λ (b : Batch). (load_if_from from b).count) i.batches.items _ c.load_in-load.result.count
    (ap (λ (l : Load). l.count) (c.self.invariant.each from)) c.keeps_its_bound.ensures
    (omega (arith, l))

pub add_sent-requires-clause-weight : goal.add_sent-requires-clause-weight
add_sent-requires-clause-weight c =
    let i = c.self.inside in
    let from = c.args.batch.from in
    let l = ap (λ (l : Load). l.weight) c.load_in-load.ensures in
    sum_has_room (λ (b : Batch). (load_if_from from b).weight) i.batches.items _ c.load_in-load.result.weight
    (ap (λ (l : Load). l.weight) (c.self.invariant.each from)) c.keeps_its_bound.ensures
    (omega (arith, l))

pub add-requires-clause-count : goal.add-requires-clause-count
add-requires-clause-count c =
    let i = c.self.inside in
    let l = ap (λ (l : Load). l.count) c.load_in-load.ensures in
    sum_has_room (λ (b : Batch). (load_of_batch b).count) i.batches.items _ c.load_in-load.result.count
    (ap (λ (l : Load). l.count) c.self.invariant.all) c.keeps_its_bound.ensures
    (omega (arith, l))

pub add-requires-clause-weight : goal.add-requires-clause-weight
add-requires-clause-weight c =
    let i = c.self.inside in
    let l = ap (λ (l : Load). l.weight) c.load_in-load.ensures in
    sum_has_room (λ (b : Batch). (load_of_batch b).weight) i.batches.items _ c.load_in-load.result.weight
    (ap (λ (l : Load). l.weight) c.self.invariant.all) c.keeps_its_bound.ensures
    (omega (arith, l))

pub invariant_of-self-2 : goal.invariant_of-self-2
invariant_of-self-2 c =
    let i = c.self.inside in
    let b = c.args.batch in
    let l = c.load_in-load.result in
    let more : c.push_back.new.self.items ≡ i.batches.items ++ b ∷ [] =
    c.in_ok-push_back.ensures.items ∙ ap (λ (bs : List Batch). bs ++ b ∷ []) c.reserve.ensures.items in
    let loaded : c.load_in-load.result ≡ top_load (load_in b.events) =
    c.load_in-load.ensures ∙ ap (λ (es : List Event). top_load (load_in es)) c.as_slice.ensures.events in
    subst (λ (bs : List Batch). IsLoaded bs c.add.new.self c.add_sent.new.senders.entries) (sym more)
    (loaded_push i.batches.items b l i.total c.add.new.self i.senders.entries c.add_sent.new.senders.entries
    c.self.invariant loaded c.add.ensures c.in_ok-add_sent.ensures.added
    (c.add_sent.ensures.kept c.self.invariant.kept))
