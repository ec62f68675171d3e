use Rattle.std.proofs.Common.{◌≡◌, [], ◌∷◌, ◌&&◌, not, cond, ap, sym, ◌∙◌, arith, rules}
use Rattle.std.specs.BTreeMap.{insert_entry}
use Rattle.std.specs.Map.{values_of}
use Rattle.std.specs.Ordering.{nat_cmp}
use Rattle.ds_space.specs.Changes.{among}
use Rattle.ds_space.specs.Spaces.{Rows}
use Rattle.ds_space.specs.declared.space.Change.TheVariants.{Came}
use Rattle.ac_world.specs.Behaviours.{asks, gatekeeper}
use Rattle.ac_world.specs.Worlds.{Gatekeeping}
use Rattle.ac_watch.specs.Lemmas.Rows.{longer_by_row}
use Rattle.ac_world.specs.Lemmas.Asking.{came_changes}
use Rattle.ac_world.proofs.gatekeeper.Gatekeeper.add.Goals as goal

pub returns-clause-applied : goal.returns-clause-applied
returns-clause-applied c =
    let v = c.args.value in
    let old : Rows = c.args.self.now.got in
    let new : Rows = insert_entry nat_cmp old c.args.handle v in
    let first : c.in_ok-first.first ≡ not (among v (values_of old)) =
    c.in_ok-first.ensures.first ∙ ap (λ (g : Gatekeeping). not (among v (values_of g.got))) c.self.view_is in
    let both : c.if-asked.change_if ≡ (c.asks-asked.result && c.in_ok-first.first) = search rules in
    let items : c.in_ok-changes.changes.items ≡ cond (asks v && not (among v (values_of old))) (Came v ∷ []) [] =
    c.in_ok-changes.ensures ∙ ap (λ b. cond b (Came c.in_ok-copy.field-0 ∷ []) []) both
    ∙ (λ i. cond (c.asks-asked.ensures i && first i) (Came (c.in_ok-copy.ensures i) ∷ []) []) in
    λ ds. (
      c.in_ok-first.ensures.added
          ∙ ap (λ (g : Gatekeeping). insert_entry nat_cmp g.got c.args.handle v) c.self.view_is,
      ap (λ (g : Gatekeeping). gatekeeper ds g.bindings) c.self.view_is,
      items ∙ sym (came_changes v (values_of old) (values_of new) (longer_by_row c.args.handle v old c.requires)),
      omega arith,
    )
