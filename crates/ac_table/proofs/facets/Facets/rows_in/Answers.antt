use Rattle.std.proofs.Common.{◌∙◌, sym, ap, ◌||◌}
use Rattle.std.specs.List.{list_any}
use Rattle.std.specs.Map.Iter.{deref}
use Rattle.std.proofs.lemmas.Map.Iter.{iter_end}
use Rattle.ac_table.specs.Maps.{is_key}
use Rattle.ac_table.specs.Placed.{has_at}
use Rattle.ac_table.proofs.Members.{any_push}
use Rattle.ac_table.proofs.facets.Facets.rows_in.Goals as goal

pub loop-facet-init : goal.loop-facet-init
loop-facet-init c = record {
  rows = λ h. ap (is_key h) c.new-handles.ensures.empty;
  ordered = c.new-handles.ensures.ordered;
}

pub loop-facet-preserved : goal.loop-facet-preserved
loop-facet-preserved c = record {
  rows = λ h. c.in_ok-add_rows.ensures.rows h
      ∙ ap (λ b. b || has_at c.in-Some.facet.now h c.args.self.now) (c.loop-facet.invariant.rows h)
      ∙ sym (any_push (λ f. has_at f h c.args.self.now) c.loop-facet.yielded c.in-Some.facet);
  ordered = c.in_ok-add_rows.ensures.ordered;
}

pub returns-clause-rows : goal.returns-clause-rows
returns-clause-rows c h =
    let end =
    iter_end deref c.args.facets.now.keys c.loop-facet.yielded _ _ _ _
    (c.into_iter-facet-iterator.ensures.into_iter_gives ∙ c.iter-facet-items.ensures.rest)
    c.loop-facet.yielded_by c.in-None.is c.next.ensures.steps in
    c.loop-facet.invariant.rows h ∙ ap (list_any (λ f. has_at f h c.args.self.now)) end.0
