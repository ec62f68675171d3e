use Rattle.std.proofs.Common.{◌≡◌, ◌≤◌, ◌∷◌, None, refl, subst, sym, ap, ◌∙◌}
use Rattle.std.specs.Ordering.{nat_cmp}
use Rattle.std.specs.Map.{values_of, lookup}
use Rattle.std.specs.BTreeMap as tree
use Rattle.std.specs.BTreeMap.{is_at, insert_entry}
use Rattle.std.proofs.lemmas.Bool.{ltb-true, ltb-false}
use Rattle.pv_value.specs.Order.{order}
use Rattle.pv_words.specs.Parts.{same}
use Rattle.ds_space.specs.Limits.{most_wanted_weight}
use Rattle.ds_skeleton.specs.Places.{count}
use Rattle.ds_skeleton.proofs.Rows.{present}
use Rattle.ds_skeleton.proofs.Steps.{skeleton_in, weighs_in, changes_in}
use Rattle.ds_skeleton.proofs.skeleton.Skeleton.add.Goals as goal

pub take_back-requires-clause-present : goal.take_back-requires-clause-present
take_back-requires-clause-present c =
    let vs = values_of c.self.inside.rows.entries in
    present (tree.get order c.count_in.new.index.values c.args.value) c.args.value vs
    (count (same c.args.value) (c.args.value ∷ vs))
    (c.in_ok-keys.ensures.values vs c.self.invariant.values c.args.value)
    refl

pub invariant_of-space : goal.invariant_of-space
invariant_of-space c =
    let vs = values_of c.self.inside.rows.entries in
    record {
      values = c.in_ok-take_back.ensures.values vs (c.in_ok-keys.ensures.values vs c.self.invariant.values);
      whole = c.in_ok-take_back.ensures.whole;
      weight = c.self.invariant.weight;
    }

pub returns-then-is_over : goal.returns-then-is_over
returns-then-is_over c =
    let none : lookup (is_at (nat_cmp c.args.number)) c.self.inside.rows.entries ≡ None =
    ap (lookup (is_at (nat_cmp c.args.number))) c.self.view_is ∙ c.requires in (
      c.self.view_is,
      tt,
      (
        ltb-true most_wanted_weight c.weight_with-after.result (sym c.is_over.ensures ∙ c.if-is_over.true),
        weighs_in c.args.number c.args.value c.args.self c.self.inside.rows.entries c.self.inside.index
            c.self.inside.weight c.weight_with-after.result c.in_ok-keys.keys.items c.self.view_is none c.self.invariant
            c.in_ok-keys.ensures.ascending c.in_ok-keys.ensures.keys c.weight_with-after.ensures,
      ),
    )

pub invariant_of-space-2 : goal.invariant_of-space-2
invariant_of-space-2 c =
    let none : lookup (is_at (nat_cmp c.args.number)) c.self.inside.rows.entries ≡ None =
    ap (lookup (is_at (nat_cmp c.args.number))) c.self.view_is ∙ c.requires in
    skeleton_in c.args.number c.args.value c.self.inside.rows.entries c.insert.new.self.entries c.self.inside.index
    c.count_in.new.index c.self.inside.weight c.weight_with-after.result c.in_ok-keys.keys.items none
    c.in_ok-insert.ensures.entries c.self.invariant c.in_ok-keys.ensures.whole c.in_ok-keys.ensures.values
    c.in_ok-keys.ensures.ascending c.in_ok-keys.ensures.keys c.weight_with-after.ensures
    (ltb-false most_wanted_weight c.weight_with-after.result (sym c.is_over.ensures ∙ c.if-is_over.false))

pub returns : goal.returns
returns c =
    let none : lookup (is_at (nat_cmp c.args.number)) c.self.inside.rows.entries ≡ None =
    ap (lookup (is_at (nat_cmp c.args.number))) c.self.view_is ∙ c.requires in (
      c.in_ok-insert.ensures.entries
          ∙ ap (λ es. insert_entry nat_cmp es c.args.number c.args.value) c.self.view_is,
      tt,
      changes_in c.args.number c.args.value c.args.self c.self.inside.rows.entries c.self.inside.index
          c.self.inside.weight c.in_ok-keys.keys.items c.in_ok-changes.changes.items c.self.view_is none c.self.invariant
          c.in_ok-keys.ensures.ascending c.in_ok-keys.ensures.keys c.in_ok-changes.ensures,
      subst (λ w. w ≤ most_wanted_weight)
          (weighs_in c.args.number c.args.value c.args.self c.self.inside.rows.entries c.self.inside.index
          c.self.inside.weight c.weight_with-after.result c.in_ok-keys.keys.items c.self.view_is none c.self.invariant
          c.in_ok-keys.ensures.ascending c.in_ok-keys.ensures.keys c.weight_with-after.ensures)
          (ltb-false most_wanted_weight c.weight_with-after.result (sym c.is_over.ensures ∙ c.if-is_over.false)),
    )
