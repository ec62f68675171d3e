use Rattle.std.proofs.Common.{ap, ◌∙◌}
use Rattle.std.specs.BTreeMap.{is_at}
use Rattle.std.specs.Map.{remove_entry}
use Rattle.pv_value.specs.Order.{order}
use Rattle.ac_groups.specs.Groups.{Grouped}
use Rattle.ac_groups.specs.Kept.{all_facets, IsKept}
use Rattle.ac_groups.proofs.Changes.{handles_still, facet_gone}
use Rattle.ac_groups.proofs.groups.Groups.take_facet.Goals as goal

pub returns-clause-facets : goal.returns-clause-facets
returns-clause-facets c =
    let i = c.self.inside in
    let k = c.self.invariant in
    facet_gone i.groups c.take_facet.new.groups k.groups_ascend c.take_facet.ensures.ordered c.in_ok-marked.marked
    c.take_facet.ensures.facets
    ∙ ap (λ o. remove_entry (is_at (order o)) (all_facets i.groups.entries)) c.in_ok-marked.ensures
    ∙ ap (λ (v : Grouped). remove_entry (is_at (order c.args.group.now)) v.facets) c.self.view_is

pub returns-clause-handles : goal.returns-clause-handles
returns-clause-handles c =
    let i = c.self.inside in
    let k = c.self.invariant in
    let new = c.take_facet.new.groups in
    let now : IsKept new i.others = record {
      groups_ascend = c.take_facet.ensures.ordered;
      others_ascend = k.others_ascend;
      none_bare = c.take_facet.ensures.none_bare;
      apart = k.apart;
    } in
    handles_still i.groups new i.others k now c.take_facet.ensures.handles
    ∙ ap (λ (v : Grouped). v.handles) c.self.view_is
