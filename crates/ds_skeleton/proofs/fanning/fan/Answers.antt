use Rattle.std.proofs.Common.{◌≡◌, ◌≤◌, ◌-◌, ◌^◌, ◌&&◌, min, subst, sym, ap, ◌∙◌}
use Rattle.std.specs.List.{list_any}
use Rattle.std.specs.BTreeMap as tree
use Rattle.std.proofs.lemmas.Bool.{ltb-true, ltb-false}
use Rattle.pv_value.specs.declared.Entry.{Entry}
use Rattle.ds_space.specs.Limits.{most_wanted_weight}
use Rattle.ds_space.specs.Changes.{among}
use Rattle.ds_skeleton.specs.Places.{same_entry, catches}
use Rattle.ds_skeleton.specs.Indexes.{met}
use Rattle.ds_skeleton.proofs.Fans.{met_is, fan_is, fan_weighs}
use Rattle.ds_skeleton.proofs.Tallies.{among_counts}
use Rattle.ds_skeleton.proofs.fanning.fan.Goals as goal

pub returns-then-is_over : goal.returns-then-is_over
returns-then-is_over c vs a =
    let m = c.args.message.now in
    let index = c.args.index.now in
    let h : (q : Entry) → list_any (same_entry q) c.in_ok-keys.keys.items ≡ (among q.key vs && catches q.key q.value m) =
    λ q. c.in_ok-keys.ensures.keys q ∙ ap (λ xs. list_any (met m q) xs) c.deref.ensures.value
    ∙ met_is (tree.keys index.values) index.shapes.items c.requires.index m q
    ∙ ap (λ t. t && catches q.key q.value m) (among_counts index.values vs a q.key) in (
      ltb-true most_wanted_weight c.weigh-weight.result (sym c.is_over.ensures ∙ c.if-is_over.true),
      c.weigh-weight.ensures
          ∙ ap (λ n. min n (2 ^ 64 - 1)) (fan_weighs vs m c.in_ok-keys.keys.items c.in_ok-keys.ensures.ascending h),
    )

pub returns : goal.returns
returns c vs a =
    let m = c.args.message.now in
    let index = c.args.index.now in
    let h : (q : Entry) → list_any (same_entry q) c.in_ok-keys.keys.items ≡ (among q.key vs && catches q.key q.value m) =
    λ q. c.in_ok-keys.ensures.keys q ∙ ap (λ xs. list_any (met m q) xs) c.deref.ensures.value
    ∙ met_is (tree.keys index.values) index.shapes.items c.requires.index m q
    ∙ ap (λ t. t && catches q.key q.value m) (among_counts index.values vs a q.key) in (
      c.in_ok-list.ensures ∙ fan_is vs m c.in_ok-keys.keys.items c.in_ok-keys.ensures.ascending h,
      subst (λ w. w ≤ most_wanted_weight)
          (c.weigh-weight.ensures
          ∙ ap (λ n. min n (2 ^ 64 - 1)) (fan_weighs vs m c.in_ok-keys.keys.items c.in_ok-keys.ensures.ascending h))
          (ltb-false most_wanted_weight c.weigh-weight.result (sym c.is_over.ensures ∙ c.if-is_over.false)),
    )
