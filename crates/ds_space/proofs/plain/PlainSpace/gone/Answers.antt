use Rattle.std.proofs.Common.{◌≡◌, ◌++◌, map, ap, ◌∙◌}
use Rattle.std.specs.Ordering.{nat_cmp}
use Rattle.std.specs.Map.{values_of, remove_entry}
use Rattle.std.specs.BTreeMap.{is_at}
use Rattle.ds_space.specs.Wants.{wants}
use Rattle.ds_space.specs.Changes.{Left, Came, lacking}
use Rattle.ds_space.specs.Lemmas.Walks.{changes_are}
use Rattle.ds_space.proofs.plain.PlainSpace.gone.Goals as goal

pub returns : goal.returns
returns c =
    let left : c.remove-gone.new.self.entries ≡ remove_entry (is_at (nat_cmp c.args.number)) c.args.self =
    c.remove-gone.ensures.entries ∙ ap (remove_entry (is_at (nat_cmp c.args.number))) c.self.view_is in (
      left,
      tt,
      changes_are (values_of c.args.self) (values_of (remove_entry (is_at (nat_cmp c.args.number)) c.args.self))
          c.self.inside.wanted.items c.in_ok-after.after.items c.in_ok-changes.changes.items
          (c.self.invariant ∙ ap (λ es. wants (values_of es)) c.self.view_is)
          (c.in_ok-after.ensures ∙ ap (λ es. wants (values_of es)) left)
          (c.in_ok-changes.ensures
          ∙ (λ i. map Left (lacking (c.deref.ensures.value i) (c.deref-2.ensures.value i))
          ++ map Came (lacking (c.deref-2.ensures.value i) (c.deref.ensures.value i)))),
      tt,
    )
