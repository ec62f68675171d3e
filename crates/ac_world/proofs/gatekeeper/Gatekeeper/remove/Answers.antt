use Rattle.std.proofs.Common.{◌≡◌, [], ◌∷◌, ◌&&◌, not, cond, Some, ap, sym, ◌∙◌, rules}
use Rattle.std.specs.BTreeMap.{is_at}
use Rattle.std.specs.Map.{values_of, lookup, remove_entry}
use Rattle.std.specs.Ordering.{nat_cmp}
use Rattle.ds_space.specs.Changes.{among, changes}
use Rattle.ds_space.specs.Spaces.{Rows}
use Rattle.ds_space.specs.declared.space.Change.TheVariants.{Left}
use Rattle.ac_world.specs.Behaviours.{gatekeeper}
use Rattle.ac_world.specs.Worlds.{Gatekeeping}
use Rattle.ac_watch.specs.Lemmas.Rows.{longer_than_without}
use Rattle.ac_world.specs.Lemmas.Asking.{asked, left_changes, no_changes}
use Rattle.ac_world.proofs.gatekeeper.Gatekeeper.remove.Goals as goal

pub returns-in_default-clause-applied : goal.returns-in_default-clause-applied
returns-in_default-clause-applied c =
    let h = c.args.handle in
    let old : Rows = c.args.self.now.got in
    let removed : c.remove.new.self ≡ remove_entry (is_at (nat_cmp h)) old =
    c.in_default.ensures.removed
    ∙ ap (λ (g : Gatekeeping). remove_entry (is_at (nat_cmp h)) g.got) c.self.view_is in
    let same : remove_entry (is_at (nat_cmp h)) old ≡ old =
    sym removed ∙ c.in_default.ensures.unchanged ∙ ap (λ (g : Gatekeeping). g.got) c.self.view_is in
    λ ds. (
      removed,
      ap (λ (g : Gatekeeping). gatekeeper ds g.bindings) c.self.view_is,
      c.new.ensures.items ∙ sym (no_changes (values_of old))
          ∙ ap (λ (rows : Rows). changes (asked (values_of old)) (asked (values_of rows))) (sym same),
      tt,
    )

pub returns-clause-applied : goal.returns-clause-applied
returns-clause-applied c =
    let h = c.args.handle in
    let v = c.in-Some.value in
    let old : Rows = c.args.self.now.got in
    let new : Rows = remove_entry (is_at (nat_cmp h)) old in
    let rows : c.remove.new.self ≡ new =
    c.in-Some.ensures.removed ∙ ap (λ (g : Gatekeeping). remove_entry (is_at (nat_cmp h)) g.got) c.self.view_is in
    let found : lookup (is_at (nat_cmp h)) old ≡ Some v =
    ap (λ (g : Gatekeeping). lookup (is_at (nat_cmp h)) g.got) (sym c.self.view_is) ∙ sym c.in-Some.ensures.value in
    let last : c.in-Some.last ≡ not (among v (values_of new)) =
    c.in-Some.ensures.last ∙ ap (λ (rs : Rows). not (among v (values_of rs))) rows in
    let both : c.if-asked.change_if ≡ (c.asks-asked.result && c.in-Some.last) = search rules in
    λ ds. (
      rows,
      ap (λ (g : Gatekeeping). gatekeeper ds g.bindings) c.self.view_is,
      c.in_ok-changes.ensures ∙ ap (λ b. cond b (Left v ∷ []) []) both
          ∙ (λ i. cond (c.asks-asked.ensures i && last i) (Left v ∷ []) [])
          ∙ sym (left_changes v (values_of new) (values_of old) (longer_than_without h v old found)),
      tt,
    )
