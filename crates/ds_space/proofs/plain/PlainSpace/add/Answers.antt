use Rattle.std.proofs.Common.{◌≡◌, ◌≤◌, ◌++◌, map, min, ◌-◌, ◌^◌, subst, sym, ap, ◌∙◌}
use Rattle.std.proofs.lemmas.Bool.{ltb-true, ltb-false}
use Rattle.std.specs.Ordering.{nat_cmp}
use Rattle.std.specs.Map.{values_of, lookup, remove_entry}
use Rattle.std.specs.BTreeMap.{insert_entry, is_at}
use Rattle.ds_space.specs.Limits.{most_wanted_weight}
use Rattle.ds_space.specs.Wants.{wants, weight_of_keys}
use Rattle.ds_space.specs.Changes.{Left, Came, lacking}
use Rattle.ds_space.proofs.Rows.{removed_again}
use Rattle.ds_space.specs.Lemmas.Walks.{changes_are}
use Rattle.ds_space.proofs.plain.PlainSpace.add.Goals as goal

pub invariant_of-result : goal.invariant_of-result
invariant_of-result c =
    let back : c.remove.new.self.entries ≡ c.self.inside.rows.entries =
    c.remove.ensures.entries ∙ ap (remove_entry (is_at (nat_cmp c.args.number))) c.in_ok-put_row.ensures
    ∙ removed_again c.args.number c.args.value c.self.inside.rows.entries
    (ap (lookup (is_at (nat_cmp c.args.number))) c.self.view_is ∙ c.requires) in
    c.self.invariant ∙ ap (λ es. wants (values_of es)) (sym back)

pub returns-then-is_over : goal.returns-then-is_over
returns-then-is_over c =
    let back : c.remove.new.self.entries ≡ c.self.inside.rows.entries =
    c.remove.ensures.entries ∙ ap (remove_entry (is_at (nat_cmp c.args.number))) c.in_ok-put_row.ensures
    ∙ removed_again c.args.number c.args.value c.self.inside.rows.entries
    (ap (lookup (is_at (nat_cmp c.args.number))) c.self.view_is ∙ c.requires) in
    let come : c.put_row.new.rows.entries ≡ insert_entry nat_cmp c.args.self c.args.number c.args.value =
    c.in_ok-put_row.ensures ∙ ap (λ es. insert_entry nat_cmp es c.args.number c.args.value) c.self.view_is in (
      back ∙ c.self.view_is,
      tt,
      (
        ltb-true most_wanted_weight c.weigh_keys-weight.result (sym c.is_over.ensures ∙ c.if-is_over.true),
        c.weigh_keys-weight.ensures
            ∙ ap (λ ks. min (weight_of_keys ks) (2 ^ 64 - 1))
            (c.deref.ensures.value ∙ c.in_ok-after.ensures ∙ ap (λ es. wants (values_of es)) come),
      ),
    )

pub returns : goal.returns
returns c =
    let come : c.put_row.new.rows.entries ≡ insert_entry nat_cmp c.args.self c.args.number c.args.value =
    c.in_ok-put_row.ensures ∙ ap (λ es. insert_entry nat_cmp es c.args.number c.args.value) c.self.view_is in
    let after : c.in_ok-after.after.items
    ≡ wants (values_of (insert_entry nat_cmp c.args.self c.args.number c.args.value)) =
    c.in_ok-after.ensures ∙ ap (λ es. wants (values_of es)) come in (
      come,
      tt,
      changes_are (values_of c.args.self) (values_of (insert_entry nat_cmp c.args.self c.args.number c.args.value))
          c.self.inside.wanted.items c.in_ok-after.after.items c.in_ok-changes.changes.items
          (c.self.invariant ∙ ap (λ es. wants (values_of es)) c.self.view_is) after
          (c.in_ok-changes.ensures
          ∙ (λ i. map Left (lacking (c.deref-2.ensures.value i) (c.deref-3.ensures.value i))
          ++ map Came (lacking (c.deref-3.ensures.value i) (c.deref-2.ensures.value i)))),
      subst (λ w. w ≤ most_wanted_weight)
          (c.weigh_keys-weight.ensures
          ∙ ap (λ ks. min (weight_of_keys ks) (2 ^ 64 - 1)) (c.deref.ensures.value ∙ after))
          (ltb-false most_wanted_weight c.weigh_keys-weight.result (sym c.is_over.ensures ∙ c.if-is_over.false)),
    )
