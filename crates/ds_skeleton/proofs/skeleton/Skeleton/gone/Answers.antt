use Rattle.std.proofs.Common.{◌≡◌, ◌∷◌, Some, refl, subst, sym, ap, ◌∙◌, rules, arith}
use Rattle.std.specs.Ordering.{nat_cmp}
use Rattle.std.specs.Map.{values_of, lookup, remove_entry}
use Rattle.std.specs.BTreeMap as tree
use Rattle.std.specs.BTreeMap.{is_at}
use Rattle.pv_value.specs.Order.{order}
use Rattle.pv_words.specs.Parts.{same}
use Rattle.ds_space.specs.Changes.{AreChanges}
use Rattle.ds_skeleton.specs.Places.{count}
use Rattle.ds_skeleton.proofs.Changed.{unchanged}
use Rattle.ds_skeleton.proofs.Rows.{present}
use Rattle.ds_skeleton.proofs.Steps.{counts_out, weight_out, skeleton_out, changes_out}
use Rattle.ds_skeleton.proofs.skeleton.Skeleton.gone.Goals as goal

pub count_out-requires-clause-present : goal.count_out-requires-clause-present
count_out-requires-clause-present c =
    let some : lookup (is_at (nat_cmp c.args.number)) c.self.inside.rows.entries
    ≡ Some c.in-Some.value = search rules in
    let vs = values_of (remove_entry (is_at (nat_cmp c.args.number)) c.self.inside.rows.entries) in
    present (tree.get order c.self.inside.index.values c.in-Some.value) c.in-Some.value vs
    (count (same c.in-Some.value) (c.in-Some.value ∷ vs))
    (counts_out c.args.number c.in-Some.value c.self.inside.rows.entries c.self.inside.index c.self.inside.weight some
    c.self.invariant c.in-Some.value)
    refl

pub returns-in_default : goal.returns-in_default
returns-in_default c =
    let same : c.remove.new.self.entries ≡ c.self.inside.rows.entries = search rules in
    let still : remove_entry (is_at (nat_cmp c.args.number)) c.args.self ≡ c.args.self =
    ap (remove_entry (is_at (nat_cmp c.args.number))) (sym c.self.view_is) ∙ sym c.remove.ensures.entries ∙ same
    ∙ c.self.view_is in (
      c.remove.ensures.entries ∙ ap (remove_entry (is_at (nat_cmp c.args.number))) c.self.view_is,
      tt,
      subst (λ es. AreChanges (values_of c.args.self) (values_of es) c.new.result.items) (sym still)
          (unchanged (values_of c.args.self) c.new.result.items c.new.ensures.items),
      tt,
    )

pub invariant_of-space-2 : goal.invariant_of-space-2
invariant_of-space-2 c =
    let some : lookup (is_at (nat_cmp c.args.number)) c.self.inside.rows.entries
    ≡ Some c.in-Some.value = search rules in
    skeleton_out c.args.number c.in-Some.value c.self.inside.rows.entries c.remove.new.self.entries c.self.inside.index
    c.count_out.new.index c.self.inside.weight c.weight_without-after.result c.in_ok-keys.keys.items some
    c.remove.ensures.entries c.self.invariant c.in_ok-keys.ensures.whole c.in_ok-keys.ensures.values
    c.in_ok-keys.ensures.ascending c.in_ok-keys.ensures.keys
    (c.weight_without-after.ensures
    (let total =
    weight_out c.args.number c.in-Some.value c.self.inside.rows.entries c.self.inside.index c.self.inside.weight
    c.in_ok-keys.keys.items some c.self.invariant c.in_ok-keys.ensures.ascending c.in_ok-keys.ensures.keys in
    omega (arith, total)))

pub returns : goal.returns
returns c =
    let some : lookup (is_at (nat_cmp c.args.number)) c.self.inside.rows.entries
    ≡ Some c.in-Some.value = search rules in (
      c.remove.ensures.entries ∙ ap (remove_entry (is_at (nat_cmp c.args.number))) c.self.view_is,
      tt,
      changes_out c.args.number c.in-Some.value c.args.self c.self.inside.rows.entries c.self.inside.index
          c.self.inside.weight c.in_ok-keys.keys.items c.in_ok-changes.changes.items c.self.view_is some c.self.invariant
          c.in_ok-keys.ensures.ascending c.in_ok-keys.ensures.keys c.in_ok-changes.ensures,
      tt,
    )
