use Rattle.std.proofs.Common.{not, ◌&&◌, ◌||◌, ◌∙◌, sym, ap, arith}
use Rattle.std.proofs.Common.{refl}
use Rattle.std.specs.Map.Iter.{deref}
use Rattle.std.proofs.lemmas.Map.Iter.{iter_end}
use Rattle.ac_table.specs.Maps.{is_key}
use Rattle.ac_table.specs.Placed.{tree_in, is_child}
use Rattle.ac_table.proofs.Members.{or_false, and_false, found_step, left_step}
use Rattle.ac_table.proofs.Placing.{childless, child_listed}
use Rattle.ac_table.proofs.facets.Facets.look_below.Goals as goal

pub returns-in_default-clause-found : goal.returns-in_default-clause-found
returns-in_default-clause-found c g = let i = c.self.inside in
    let none = childless g c.args.facet i.all.entries _ c.self.view_is c.self.invariant.tree
    (sym c.in_default.ensures.value) in
    sym (ap (λ b. is_key g c.args.found.now.keys || b) none ∙ or_false (is_key g c.args.found.now.keys))

pub returns-in_default-clause-left : goal.returns-in_default-clause-left
returns-in_default-clause-left c g = let i = c.self.inside in
    let none = childless g c.args.facet i.all.entries _ c.self.view_is c.self.invariant.tree
    (sym c.in_default.ensures.value) in
    sym (ap (λ b. is_key g c.args.left.now.keys || (not (is_key g c.args.found.now.keys) && b)) none
    ∙ ap (λ b. is_key g c.args.left.now.keys || b) (and_false (not (is_key g c.args.found.now.keys)))
    ∙ or_false (is_key g c.args.left.now.keys))

pub loop-child-init : goal.loop-child-init
loop-child-init c = record {
  found = λ g. sym (or_false (is_key g c.args.found.now.keys));
  left = λ g. sym (ap (λ b. is_key g c.args.left.now.keys || b) (and_false (not (is_key g c.args.found.now.keys)))
      ∙ or_false (is_key g c.args.left.now.keys));
  count = omega arith;
  ordered = c.keeps_its_order.ensures.ordered;
}

pub loop-child-preserved : goal.loop-child-preserved
loop-child-preserved c =
    let v = c.loop-child.invariant in
    record {
      found = λ g. found_step g c.in-Some-child.child.now (is_key g c.args.found.now.keys) _ _
          (is_child g c.args.facet (tree_in c.args.self.now)) c.loop-child.yielded c.in-Some-child.child refl
          (c.in_ok-find_child.ensures.found g) (v.found g);
      left = λ g. left_step g c.in-Some-child.child.now (is_key g c.args.found.now.keys)
          (is_key g c.args.left.now.keys) _ _
          c.loop-child.found.keys (is_child g c.args.facet (tree_in c.args.self.now)) c.loop-child.yielded
          c.in-Some-child.child refl (c.in_ok-find_child.ensures.left g) (v.left g) (v.found g);
      count = omega (arith, v.count, c.in_ok-find_child.ensures.count);
      ordered = c.in_ok-find_child.ensures.ordered;
    }

pub returns-clause-found : goal.returns-clause-found
returns-clause-found c g = let i = c.self.inside in
    let end =
    iter_end deref c.in-Some.it.now.below.keys c.loop-child.yielded _ _ _ _
    (c.into_iter-child-iterator.ensures.into_iter_gives ∙ c.iter-child-items.ensures.rest)
    c.loop-child.yielded_by c.in-None.is c.next.ensures.steps in
    c.loop-child.invariant.found g
    ∙ ap (λ b. is_key g c.args.found.now.keys || b)
    (ap (λ ks. is_key g ks && is_child g c.args.facet (tree_in c.args.self.now)) end.0
    ∙ child_listed g c.args.facet c.in-Some.it.now i.all.entries _ c.self.view_is c.self.invariant.linked
    (sym c.in-Some.ensures.value))

pub returns-clause-left : goal.returns-clause-left
returns-clause-left c g = let i = c.self.inside in
    let end =
    iter_end deref c.in-Some.it.now.below.keys c.loop-child.yielded _ _ _ _
    (c.into_iter-child-iterator.ensures.into_iter_gives ∙ c.iter-child-items.ensures.rest)
    c.loop-child.yielded_by c.in-None.is c.next.ensures.steps in
    c.loop-child.invariant.left g
    ∙ ap (λ b. is_key g c.args.left.now.keys || (not (is_key g c.args.found.now.keys) && b))
    (ap (λ ks. is_key g ks && is_child g c.args.facet (tree_in c.args.self.now)) end.0
    ∙ child_listed g c.args.facet c.in-Some.it.now i.all.entries _ c.self.view_is c.self.invariant.linked
    (sym c.in-Some.ensures.value))
