use Rattle.std.proofs.Common.{◌∙◌, sym, ap, subst, ℕ, List, arith}
use Rattle.std.specs.BTreeMap.{insert_entry}
use Rattle.std.specs.Ordering.{nat_cmp}
use Rattle.ac_table.specs.Facets.{is_facet, IsLeastFree, IsTree}
use Rattle.ac_table.specs.Maps.{KeysAscend}
use Rattle.ac_table.specs.Placed.{tree_in, bare, IsPlaced}
use Rattle.ac_table.specs.declared.facets.Facet.{Facet}
use Rattle.ac_table.proofs.Freeing.{IsAdding, added_seen, placed_added_free, placed_added_end, ascend_seen}
use Rattle.ac_table.proofs.Least.{least_number}
use Rattle.ac_table.proofs.Placing.{placed_same}
use Rattle.ac_table.proofs.Members.{on_false}
use Rattle.ac_table.proofs.Trees.{root_there}
use Rattle.ac_table.proofs.facets.Facets.add.Goals as goal

pub least_free-requires : goal.least_free-requires
least_free-requires c =
    root_there c.args.parent (tree_in c.args.self.now)
    (subst (λ fs. IsTree (tree_in fs)) c.self.view_is c.self.invariant.tree) c.requires

pub invariant_of-self : goal.invariant_of-self
invariant_of-self c = let i = c.self.inside in
    placed_same i.all.entries c.link.new.all.entries i.free.keys i.end c.self.invariant
    (ap tree_in c.link.ensures.same) c.link.ensures.kept c.link.ensures.ordered

pub invariant_of-self-in_err-insert : goal.invariant_of-self-in_err-insert
invariant_of-self-in_err-insert c = let i = c.self.inside in
    subst (λ (es : List (ℕ × Facet)). IsPlaced es i.free.keys i.end) (sym c.in_err-insert.ensures.err)
    (placed_same i.all.entries c.link.new.all.entries i.free.keys i.end c.self.invariant
    (ap tree_in c.link.ensures.same) c.link.ensures.kept c.link.ensures.ordered)

pub invariant_of-self-then-not-remove : goal.invariant_of-self-then-not-remove
invariant_of-self-then-not-remove c = let i = c.self.inside in
    let n = c.in-Some.number in
    let p = c.args.parent in
    let y = c.below.result in
    let m = c.link.new.all.entries in
    let new = c.insert.new.self.entries in
    let d : IsAdding n p y i.all.entries m new = record {
      same = c.link.ensures.same;
      links = c.link.ensures.kept;
      linked = c.in_ok-link.ensures.linked;
      parent = c.below.ensures.parent;
      none = c.below.ensures.below;
      empty = c.below.ensures.rows;
      is = c.in_ok-insert.ensures.entries;
      changes = c.in_ok-insert.ensures.updates.0;
      ascends = c.insert.ensures.ordered;
    } in
    let least = subst (λ fs. IsLeastFree n (tree_in fs)) (sym c.self.view_is) c.in-Some.ensures in
    let there = ap (λ fs. is_facet p (tree_in fs)) c.self.view_is ∙ c.requires in
    placed_added_end n p y i.all.entries m new i.free.keys i.end c.self.invariant d least there c.remove.new.self.keys
    (sym c.remove.ensures.test ∙ c.if-not-remove.true)
    (on_false c.remove.result _ c.if-not-remove.true c.remove.ensures.unchanged) (omega arith)
    (ascend_seen new d.ascends)

pub invariant_of-self-else-not-remove : goal.invariant_of-self-else-not-remove
invariant_of-self-else-not-remove c = let i = c.self.inside in
    let n = c.in-Some.number in
    let p = c.args.parent in
    let y = c.below.result in
    let m = c.link.new.all.entries in
    let new = c.insert.new.self.entries in
    let d : IsAdding n p y i.all.entries m new = record {
      same = c.link.ensures.same;
      links = c.link.ensures.kept;
      linked = c.in_ok-link.ensures.linked;
      parent = c.below.ensures.parent;
      none = c.below.ensures.below;
      empty = c.below.ensures.rows;
      is = c.in_ok-insert.ensures.entries;
      changes = c.in_ok-insert.ensures.updates.0;
      ascends = c.insert.ensures.ordered;
    } in
    let least = subst (λ fs. IsLeastFree n (tree_in fs)) (sym c.self.view_is) c.in-Some.ensures in
    let there = ap (λ fs. is_facet p (tree_in fs)) c.self.view_is ∙ c.requires in
    placed_added_free n p y i.all.entries m new i.free.keys i.end c.self.invariant d least there c.remove.new.self.keys
    (sym c.remove.ensures.test ∙ c.if-not-remove.false) c.remove.ensures.updates.0 (ascend_seen new d.ascends)

pub returns-then-not-remove-clause-made : goal.returns-then-not-remove-clause-made
returns-then-not-remove-clause-made c = let i = c.self.inside in
    added_seen c.in-Some.number c.args.parent c.below.result i.all.entries c.link.new.all.entries
    c.insert.new.self.entries c.link.ensures.same c.in_ok-insert.ensures.entries c.below.ensures.parent
    c.below.ensures.rows
    ∙ ap (λ fs. insert_entry nat_cmp fs c.in-Some.number (bare c.args.parent)) c.self.view_is

pub returns-else-not-remove-clause-made : goal.returns-else-not-remove-clause-made
returns-else-not-remove-clause-made c = let i = c.self.inside in
    added_seen c.in-Some.number c.args.parent c.below.result i.all.entries c.link.new.all.entries
    c.insert.new.self.entries c.link.ensures.same c.in_ok-insert.ensures.entries c.below.ensures.parent
    c.below.ensures.rows
    ∙ ap (λ fs. insert_entry nat_cmp fs c.in-Some.number (bare c.args.parent)) c.self.view_is

pub returns-then-not-remove-clause-number : goal.returns-then-not-remove-clause-number
returns-then-not-remove-clause-number c =
    least_number c.in-Some.number (tree_in c.args.self.now)
    (subst (λ fs. KeysAscend (tree_in fs)) c.self.view_is c.self.invariant.tree.ascends) c.in-Some.ensures

pub returns-else-not-remove-clause-number : goal.returns-else-not-remove-clause-number
returns-else-not-remove-clause-number c =
    least_number c.in-Some.number (tree_in c.args.self.now)
    (subst (λ fs. KeysAscend (tree_in fs)) c.self.view_is c.self.invariant.tree.ascends) c.in-Some.ensures
