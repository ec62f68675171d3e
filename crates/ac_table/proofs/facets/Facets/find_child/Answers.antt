use Rattle.std.proofs.Common.{◌≡◌, ℕ, Bool, true, false, not, ◌==◌, ◌&&◌, ◌||◌, ◌∙◌, sym, ap, arith, refl, subst}
use Rattle.std.proofs.lemmas.Bool.Decides.{nat_tests}
use Rattle.ac_table.specs.Maps.{is_key}
use Rattle.ac_table.specs.Facets.{Tree}
use Rattle.ac_table.specs.Placed.{tree_in, is_child}
use Rattle.ac_table.proofs.Members.{or_false, and_false}
use Rattle.ac_table.proofs.facets.Facets.find_child.Goals as goal

-- one that is no child is none at its own number
at_no_child : (g n p : ℕ) (t : Tree) → is_child n p t ≡ false → (g == n && is_child g p t) ≡ false
at_no_child g n p t none = split (g == n) refl
  where
    split : (b : Bool) → (g == n) ≡ b → (g == n && is_child g p t) ≡ false
    split true at =
        let same : n ≡ g = grind (arith, nat_tests, at) in
        let out : is_child g p t ≡ false = subst (λ (k : ℕ). is_child k p t ≡ false) same none in
        ap (λ b. g == n && b) out ∙ and_false (g == n)
    split false other = ap (λ b. b && is_child g p t) other

-- and one that is one is there
at_child : (g n p : ℕ) (t : Tree) → is_child n p t ≡ true → (g == n) ≡ (g == n && is_child g p t)
at_child g n p t is = split (g == n) refl
  where
    split : (b : Bool) → (g == n) ≡ b → (g == n) ≡ (g == n && is_child g p t)
    split true at =
        let same : n ≡ g = grind (arith, nat_tests, at) in
        let in_it : is_child g p t ≡ true = subst (λ (k : ℕ). is_child k p t ≡ true) same is in
        at ∙ sym (ap (λ b. b && is_child g p t) at ∙ in_it)
    split false other = other ∙ sym (ap (λ b. b && is_child g p t) other)

pub returns-then-not-is_child-clause-found : goal.returns-then-not-is_child-clause-found
returns-then-not-is_child-clause-found c g =
    let none = at_no_child g c.args.facet c.args.parent (tree_in c.args.self.now)
    (sym c.is_child.ensures ∙ c.if-not-is_child.true) in
    sym (ap (λ b. is_key g c.args.found.now.keys || b) none ∙ or_false (is_key g c.args.found.now.keys))

pub returns-then-not-is_child-clause-left : goal.returns-then-not-is_child-clause-left
returns-then-not-is_child-clause-left c g =
    let none = at_no_child g c.args.facet c.args.parent (tree_in c.args.self.now)
    (sym c.is_child.ensures ∙ c.if-not-is_child.true) in
    sym (ap (λ b. is_key g c.args.left.now.keys || (not (is_key c.args.facet c.args.found.now.keys) && b)) none
    ∙ ap (λ b. is_key g c.args.left.now.keys || b) (and_false (not (is_key c.args.facet c.args.found.now.keys)))
    ∙ or_false (is_key g c.args.left.now.keys))
