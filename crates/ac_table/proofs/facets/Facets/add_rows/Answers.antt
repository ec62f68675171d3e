use Rattle.std.proofs.Common.{◌∙◌, sym, ap, ◌||◌}
use Rattle.ac_table.specs.Maps.{is_key}
use Rattle.ac_table.specs.Placed.{has_at}
use Rattle.ac_table.proofs.Placing.{has-seen, rows_in}
use Rattle.ac_table.proofs.Members.{or_false, on_result}
use Rattle.ac_table.proofs.facets.Facets.add_rows.Goals as goal

pub returns-in-Some-clause-rows : goal.returns-in-Some-clause-rows
returns-in-Some-clause-rows c = let i = c.self.inside in
    on_result _ _ c.insert_all.result c.insert_all.ensures.all (λ all h. all h
    ∙ ap (λ b. is_key h c.args.handles.now.keys || b)
    (ap (λ o. is_key h (rows_in o)) c.in-Some.ensures.value ∙ sym (has-seen c.args.facet h i.all.entries)
    ∙ ap (has_at c.args.facet h) c.self.view_is))

pub returns-in-None-clause-rows : goal.returns-in-None-clause-rows
returns-in-None-clause-rows c h = let i = c.self.inside in
    let none = ap (λ o. is_key h (rows_in o)) c.in-None.ensures.value ∙ sym (has-seen c.args.facet h i.all.entries)
    ∙ ap (has_at c.args.facet h) c.self.view_is in
    sym (or_false (is_key h c.args.handles.now.keys)) ∙ ap (λ b. is_key h c.args.handles.now.keys || b) none
