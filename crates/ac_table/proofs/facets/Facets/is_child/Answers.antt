use Rattle.std.proofs.Common.{◌≡◌, true, false, ◌&&◌, ◌==◌, nat_lt, ◌∙◌, sym, ap, arith, refl}
use Rattle.std.proofs.lemmas.Bool.Decides.{nat_tests}
use Rattle.ac_table.specs.Placed.{tree_in, is_child}
use Rattle.ac_table.proofs.Placing.{child_missing, child_at}
use Rattle.ac_table.proofs.facets.Facets.is_child.Goals as goal

pub returns-in-None : goal.returns-in-None
returns-in-None c = let i = c.self.inside in
    sym (child_missing c.args.facet c.args.parent i.all.entries (sym c.in-None.ensures.value))
    ∙ ap (λ fs. is_child c.args.facet c.args.parent (tree_in fs)) c.self.view_is

pub returns-then-facet-gt0 : goal.returns-then-facet-gt0
returns-then-facet-gt0 c = let i = c.self.inside in
    let some : nat_lt 0 c.args.facet ≡ true = grind (arith, nat_tests, c.if-facet-gt0.true) in
    let at = child_at c.args.facet c.args.parent i.all.entries _ (sym c.in-Some.ensures.value) in
    ap (λ b. b && c.in-Some.it.now.parent == c.args.parent) (sym some) ∙ sym at
    ∙ ap (λ fs. is_child c.args.facet c.args.parent (tree_in fs)) c.self.view_is

pub returns-else-facet-gt0 : goal.returns-else-facet-gt0
returns-else-facet-gt0 c = let i = c.self.inside in
    let none : nat_lt 0 c.args.facet ≡ false = grind (arith, nat_tests, c.if-facet-gt0.false) in
    rw none refl
