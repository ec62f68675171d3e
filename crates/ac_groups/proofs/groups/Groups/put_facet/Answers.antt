use Rattle.std.proofs.Common.{ap, ◌∙◌}
use Rattle.std.specs.BTreeMap.{insert_entry}
use Rattle.std.proofs.lemmas.Result.{on_ok_weaker, on_err_weaker}
use Rattle.pv_value.specs.Order.{order}
use Rattle.ac_groups.specs.Groups.{Grouped}
use Rattle.ac_groups.specs.Kept.{all_facets, IsKept}
use Rattle.ac_groups.proofs.Changes.{handles_of, handles_still}
use Rattle.ac_groups.proofs.Changes.{facet_come, facets_still, grouped}
use Rattle.ac_groups.proofs.groups.Groups.put_facet.Goals as goal

pub returns-clause-facets : goal.returns-clause-facets
returns-clause-facets c =
    let i = c.self.inside in
    let k = c.self.invariant in
    on_ok_weaker c.put_facet.result
    (λ h. facet_come i.groups c.put_facet.new.groups k.groups_ascend c.put_facet.ensures.ordered c.in_ok-marked.marked
    c.args.facet h
    ∙ ap (λ o. insert_entry order (all_facets i.groups.entries) o c.args.facet) c.in_ok-marked.ensures
    ∙ ap (λ (v : Grouped). insert_entry order v.facets c.args.group.now c.args.facet) c.self.view_is)
    c.put_facet.ensures.facets

pub returns-clause-handles : goal.returns-clause-handles
returns-clause-handles c =
    let i = c.self.inside in
    let k = c.self.invariant in
    let new = c.put_facet.new.groups in
    let now : IsKept new i.others = record {
      groups_ascend = c.put_facet.ensures.ordered;
      others_ascend = k.others_ascend;
      none_bare = c.put_facet.ensures.none_bare;
      apart = k.apart;
    } in
    handles_still i.groups new i.others k now c.put_facet.ensures.handles ∙ ap (λ (v : Grouped). v.handles) c.self.view_is

pub returns-clause-stands : goal.returns-clause-stands
returns-clause-stands c =
    let i = c.self.inside in
    let k = c.self.invariant in
    let new = c.put_facet.new.groups in
    let now : IsKept new i.others = record {
      groups_ascend = c.put_facet.ensures.ordered;
      others_ascend = k.others_ascend;
      none_bare = c.put_facet.ensures.none_bare;
      apart = k.apart;
    } in
    on_err_weaker c.put_facet.result
    (λ h. grouped (record { handles = handles_of new i.others; facets = all_facets new.entries }) c.args.self.now
    (handles_still i.groups new i.others k now c.put_facet.ensures.handles
    ∙ ap (λ (v : Grouped). v.handles) c.self.view_is)
    (facets_still i.groups new k.groups_ascend now.groups_ascend h ∙ ap (λ (v : Grouped). v.facets) c.self.view_is))
    c.put_facet.ensures.facets_stand
