use Rattle.std.proofs.Common.{◌∙◌, ap, sym, List, Option}
use Rattle.ac_table.specs.Sums.{top_load, load_waiting, load_for}
use Rattle.ac_table.specs.Tables.{Batch, TableState}
use Rattle.ac_table.specs.declared.table.LiveActor.{LiveActor}
use Rattle.ac_table.proofs.Finding.{inbox_at, inbox-seen}
use Rattle.ac_table.proofs.table.Table.load.Goals as goal

pub returns-in-Some : goal.returns-in-Some
returns-in-Some c = let i = c.self.inside in
    c.load.ensures ∙ ap (λ (s : Option LiveActor). top_load (load_waiting (inbox_at s))) c.in-Some.ensures.value
    ∙ ap (λ (bs : List Batch). top_load (load_waiting bs)) (sym (inbox-seen c.args.actor i.actors.entries))
    ∙ ap (λ (t : TableState). top_load (load_for c.args.actor t)) c.self.view_is

pub returns-in-None : goal.returns-in-None
returns-in-None c = let i = c.self.inside in
    c.none.ensures ∙ ap (λ (s : Option LiveActor). top_load (load_waiting (inbox_at s))) c.in-None.ensures.value
    ∙ ap (λ (bs : List Batch). top_load (load_waiting bs)) (sym (inbox-seen c.args.actor i.actors.entries))
    ∙ ap (λ (t : TableState). top_load (load_for c.args.actor t)) c.self.view_is
