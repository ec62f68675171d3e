use Rattle.std.proofs.Common.{◌≡◌, Some, None, option_and_then, sym, ap, ◌∙◌, cond}
use Rattle.std.specs.BTreeMap as tree
use Rattle.std.specs.BTreeMap.{insert_entry, is_at}
use Rattle.std.specs.Map.{lookup}
use Rattle.std.proofs.lemmas.Result.{IfOk-weaker, on_ok_weaker, on_err_weaker}
use Rattle.pv_value.specs.Plain.{Plain}
use Rattle.pv_value.specs.Order.{order}
use Rattle.pv_words.specs.Parts.{same}
use Rattle.ac_groups.specs.Groups.{Grouped, group_of, pair, parts}
use Rattle.ac_groups.specs.Kept.{group_at, facet_in, all_facets, IsKept}
use Rattle.ac_groups.proofs.Entries.{found}
use Rattle.ac_groups.proofs.Pairs.{parts_is}
use Rattle.ac_groups.proofs.Changes.{handles_of, handle_come, handles_still}
use Rattle.ac_groups.proofs.Changes.{facets_still, facet_told, kept_still, other_come, grouped}
use Rattle.ac_groups.proofs.groups.Groups.put.Goals as goal

pub returns-in-Some-clause-facet : goal.returns-in-Some-clause-facet
returns-in-Some-clause-facet c =
    let i = c.self.inside in
    let k = c.self.invariant in
    let key = c.args.key.now in
    let o = c.in_ok-marked.marked in
    let d = c.in-Some.rest.now in
    let form : key ≡ pair o d =
    parts_is key c.in-Some.group.now d (sym c.in-Some.ensures) ∙ ap (λ x. pair x d) (sym c.in_ok-marked.ensures) in
    let told : facet_in (group_at i.groups o)
    ≡ option_and_then (λ p. lookup (is_at (order p)) c.args.self.now.facets) (group_of key) =
    ap (λ x. option_and_then (λ p. facet_in (group_at i.groups p)) (group_of x)) (sym form)
    ∙ facet_told i.groups k.groups_ascend key
    ∙ ap (λ (v : Grouped). option_and_then (λ p. found p v.facets) (group_of key)) c.self.view_is in
    IfOk-weaker c.put.result _ _ (λ f is. is ∙ told) c.put.ensures.facet

pub returns-in-Some-clause-handles : goal.returns-in-Some-clause-handles
returns-in-Some-clause-handles c =
    let i = c.self.inside in
    let k = c.self.invariant in
    let new = c.put.new.groups in
    let now : IsKept new i.others = record {
      groups_ascend = c.put.ensures.ordered;
      others_ascend = k.others_ascend;
      none_bare = c.put.ensures.none_bare;
      apart = k.apart;
    } in
    let key = c.args.key.now in
    let o = c.in_ok-marked.marked in
    let d = c.in-Some.rest.now in
    let form : key ≡ pair o d =
    parts_is key c.in-Some.group.now d (sym c.in-Some.ensures) ∙ ap (λ x. pair x d) (sym c.in_ok-marked.ensures) in
    on_ok_weaker c.put.result
    (λ h. handle_come i.groups new i.others k now key o d c.args.handle form h
    ∙ ap (λ (v : Grouped). insert_entry order v.handles key c.args.handle) c.self.view_is)
    c.put.ensures.handles

pub returns-in-Some-clause-facets : goal.returns-in-Some-clause-facets
returns-in-Some-clause-facets c =
    let i = c.self.inside in
    let k = c.self.invariant in
    facets_still i.groups c.put.new.groups k.groups_ascend c.put.ensures.ordered c.put.ensures.facets
    ∙ ap (λ (v : Grouped). v.facets) c.self.view_is

pub returns-in-Some-clause-stands : goal.returns-in-Some-clause-stands
returns-in-Some-clause-stands c =
    let i = c.self.inside in
    let k = c.self.invariant in
    let new = c.put.new.groups in
    let now : IsKept new i.others = record {
      groups_ascend = c.put.ensures.ordered;
      others_ascend = k.others_ascend;
      none_bare = c.put.ensures.none_bare;
      apart = k.apart;
    } in
    on_err_weaker c.put.result
    (λ h. grouped (record { handles = handles_of new i.others; facets = all_facets new.entries }) c.args.self.now
    (handles_still i.groups new i.others k now h ∙ ap (λ (v : Grouped). v.handles) c.self.view_is)
    (facets_still i.groups new k.groups_ascend now.groups_ascend c.put.ensures.facets
    ∙ ap (λ (v : Grouped). v.facets) c.self.view_is))
    c.put.ensures.handles_stand

pub invariant_of-self-2 : goal.invariant_of-self-2
invariant_of-self-2 c =
    let i = c.self.inside in
    let k = c.self.invariant in
    let key = c.args.key.now in
    let form : parts key ≡ None = sym c.in_default.ensures in
    let put : (q : Plain) → tree.get order c.insert.new.self q
    ≡ cond (same key q) (Some c.args.handle) (tree.get order i.others q) =
    λ q. c.in_ok-insert.ensures.updates.0 q
    ∙ ap (λ x. cond (same x q) (Some c.args.handle) (tree.get order i.others q)) c.in_ok-copy.ensures in
    kept_still i.groups i.others c.insert.new.self k key form (Some c.args.handle) put c.in_ok-insert.ensures.ordered

pub returns-clause-facet : goal.returns-clause-facet
returns-clause-facet c =
    let i = c.self.inside in
    let k = c.self.invariant in
    c.in_ok-facet.ensures ∙ facet_told i.groups k.groups_ascend c.args.key.now
    ∙ ap (λ (v : Grouped). option_and_then (λ p. found p v.facets) (group_of c.args.key.now)) c.self.view_is

pub returns-clause-handles : goal.returns-clause-handles
returns-clause-handles c =
    let i = c.self.inside in
    let k = c.self.invariant in
    let key = c.args.key.now in
    let form : parts key ≡ None = sym c.in_default.ensures in
    let put : (q : Plain) → tree.get order c.insert.new.self q
    ≡ cond (same key q) (Some c.args.handle) (tree.get order i.others q) =
    λ q. c.in_ok-insert.ensures.updates.0 q
    ∙ ap (λ x. cond (same x q) (Some c.args.handle) (tree.get order i.others q)) c.in_ok-copy.ensures in
    let new = c.insert.new.self in
    let now : IsKept i.groups new =
    kept_still i.groups i.others new k key form (Some c.args.handle) put c.in_ok-insert.ensures.ordered in
    other_come i.groups i.others new k now key c.args.handle form put
    ∙ ap (λ (v : Grouped). insert_entry order v.handles key c.args.handle) c.self.view_is
