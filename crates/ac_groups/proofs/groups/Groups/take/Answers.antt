use Rattle.std.proofs.Common.{◌≡◌, None, option_and_then, sym, ap, ◌∙◌}
use Rattle.std.specs.BTreeMap.{is_at}
use Rattle.std.specs.Map.{lookup, remove_entry}
use Rattle.pv_value.specs.Order.{order}
use Rattle.ac_groups.specs.Groups.{Grouped, group_of, pair, parts}
use Rattle.ac_groups.specs.Kept.{group_at, facet_in, IsKept}
use Rattle.ac_groups.proofs.Entries.{found}
use Rattle.ac_groups.proofs.Flat.{found_other}
use Rattle.ac_groups.proofs.Pairs.{parts_is}
use Rattle.ac_groups.proofs.Changes.{handles_of, pair_was, handle_gone}
use Rattle.ac_groups.proofs.Changes.{facets_still, facet_told, kept_still, other_gone}
use Rattle.ac_groups.proofs.groups.Groups.take.Goals as goal

pub returns-in-Some-clause-handle : goal.returns-in-Some-clause-handle
returns-in-Some-clause-handle c =
    let i = c.self.inside in
    let k = c.self.invariant in
    let new = c.take.new.groups in
    let now : IsKept new i.others = record {
      groups_ascend = c.take.ensures.ordered;
      others_ascend = k.others_ascend;
      none_bare = c.take.ensures.none_bare;
      apart = k.apart;
    } in
    let key = c.args.key.now in
    let o = c.in_ok-marked.marked in
    let d = c.in-Some.rest.now in
    let form : key ≡ pair o d =
    parts_is key c.in-Some.group.now d (sym c.in-Some.ensures) ∙ ap (λ x. pair x d) (sym c.in_ok-marked.ensures) in
    c.take.ensures.handle ∙ sym (pair_was i.groups new i.others k now o d)
    ∙ ap (λ x. found x (handles_of i.groups i.others)) (sym form)
    ∙ ap (λ (v : Grouped). found key v.handles) c.self.view_is

pub returns-in-Some-clause-facet : goal.returns-in-Some-clause-facet
returns-in-Some-clause-facet c =
    let i = c.self.inside in
    let k = c.self.invariant in
    let key = c.args.key.now in
    let o = c.in_ok-marked.marked in
    let d = c.in-Some.rest.now in
    let form : key ≡ pair o d =
    parts_is key c.in-Some.group.now d (sym c.in-Some.ensures) ∙ ap (λ x. pair x d) (sym c.in_ok-marked.ensures) in
    let told : facet_in (group_at i.groups o)
    ≡ option_and_then (λ p. lookup (is_at (order p)) c.args.self.now.facets) (group_of key) =
    ap (λ x. option_and_then (λ p. facet_in (group_at i.groups p)) (group_of x)) (sym form)
    ∙ facet_told i.groups k.groups_ascend key
    ∙ ap (λ (v : Grouped). option_and_then (λ p. found p v.facets) (group_of key)) c.self.view_is in
    c.take.ensures.facet ∙ told

pub returns-in-Some-clause-handles : goal.returns-in-Some-clause-handles
returns-in-Some-clause-handles c =
    let i = c.self.inside in
    let k = c.self.invariant in
    let new = c.take.new.groups in
    let now : IsKept new i.others = record {
      groups_ascend = c.take.ensures.ordered;
      others_ascend = k.others_ascend;
      none_bare = c.take.ensures.none_bare;
      apart = k.apart;
    } in
    let key = c.args.key.now in
    let o = c.in_ok-marked.marked in
    let d = c.in-Some.rest.now in
    let form : key ≡ pair o d =
    parts_is key c.in-Some.group.now d (sym c.in-Some.ensures) ∙ ap (λ x. pair x d) (sym c.in_ok-marked.ensures) in
    handle_gone i.groups new i.others k now key o d form c.take.ensures.handles
    ∙ ap (λ (v : Grouped). remove_entry (is_at (order key)) v.handles) c.self.view_is

pub returns-in-Some-clause-facets : goal.returns-in-Some-clause-facets
returns-in-Some-clause-facets c =
    let i = c.self.inside in
    let k = c.self.invariant in
    facets_still i.groups c.take.new.groups k.groups_ascend c.take.ensures.ordered c.take.ensures.facets
    ∙ ap (λ (v : Grouped). v.facets) c.self.view_is

pub invariant_of-self-2 : goal.invariant_of-self-2
invariant_of-self-2 c =
    let i = c.self.inside in
    let k = c.self.invariant in
    let key = c.args.key.now in
    let form : parts key ≡ None = sym c.in_default.ensures in
    kept_still i.groups i.others c.remove-handle.new.self k key form None c.remove-handle.ensures.updates.0
    c.remove-handle.ensures.ordered

pub returns-clause-handle : goal.returns-clause-handle
returns-clause-handle c =
    let i = c.self.inside in
    let k = c.self.invariant in
    let key = c.args.key.now in
    let form : parts key ≡ None = sym c.in_default.ensures in
    c.remove-handle.ensures.value ∙ sym (found_other i.groups.entries i.others.entries key form)
    ∙ ap (λ (v : Grouped). found key v.handles) c.self.view_is

pub returns-clause-facet : goal.returns-clause-facet
returns-clause-facet c =
    let i = c.self.inside in
    let k = c.self.invariant in
    c.in_ok-facet.ensures ∙ facet_told i.groups k.groups_ascend c.args.key.now
    ∙ ap (λ (v : Grouped). option_and_then (λ p. found p v.facets) (group_of c.args.key.now)) c.self.view_is

pub returns-clause-handles : goal.returns-clause-handles
returns-clause-handles c =
    let i = c.self.inside in
    let k = c.self.invariant in
    let key = c.args.key.now in
    let form : parts key ≡ None = sym c.in_default.ensures in
    let new = c.remove-handle.new.self in
    let now : IsKept i.groups new =
    kept_still i.groups i.others new k key form None c.remove-handle.ensures.updates.0 c.remove-handle.ensures.ordered in
    other_gone i.groups i.others new k now key form c.remove-handle.ensures.updates.0
    ∙ ap (λ (v : Grouped). remove_entry (is_at (order key)) v.handles) c.self.view_is
