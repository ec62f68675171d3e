use Rattle.std.proofs.Common.{◌∙◌, ap, unwrap_or, Option}
use Rattle.ac_table.specs.Sums.{Load, nothing, top_load, load_from}
use Rattle.ac_table.proofs.Totals.{from_told}
use Rattle.ac_table.proofs.inbox.Inbox.load_from.Goals as goal

pub returns-in-Some : goal.returns-in-Some
returns-in-Some c = let i = c.self.inside in
    c.load.ensures ∙ ap (λ (o : Option Load). top_load (unwrap_or o nothing)) c.in-Some.ensures.value
    ∙ ap top_load (c.self.invariant.each c.args.sender) ∙ from_told c.args.sender i.batches.items
    ∙ ap (λ bs. top_load (load_from c.args.sender bs)) c.self.view_is

pub returns-in-None : goal.returns-in-None
returns-in-None c = let i = c.self.inside in
    c.none.ensures ∙ ap (λ (o : Option Load). top_load (unwrap_or o nothing)) c.in-None.ensures.value
    ∙ ap top_load (c.self.invariant.each c.args.sender) ∙ from_told c.args.sender i.batches.items
    ∙ ap (λ bs. top_load (load_from c.args.sender bs)) c.self.view_is
