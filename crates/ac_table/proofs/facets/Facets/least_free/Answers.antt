use Rattle.std.proofs.Common.{◌≡◌, ◌∙◌, ap, subst, []}
use Rattle.std.proofs.lemmas.Map.Keys.{le_from_not_gt}
use Rattle.ac_table.specs.Facets.{is_facet, IsLeastFree}
use Rattle.ac_table.specs.Placed.{tree_in}
use Rattle.ac_table.proofs.Freeing.{free_least, end_least}
use Rattle.ac_table.proofs.Lowest.{no_keys}
use Rattle.ac_table.proofs.facets.Facets.least_free.Goals as goal

pub returns-in-Some : goal.returns-in-Some
returns-in-Some c = let i = c.self.inside in
    subst (λ fs. IsLeastFree c.in-Some.number.now (tree_in fs)) c.self.view_is
    (free_least c.in-Some.number.now i.all.entries i.free.keys i.end c.self.invariant
    (ap (λ fs. is_facet 0 (tree_in fs)) c.self.view_is ∙ c.requires) c.in-Some.ensures.member
    (λ q have. le_from_not_gt c.in-Some.number.now q (c.in-Some.ensures.least q have)))

pub returns-then-self : goal.returns-then-self
returns-then-self c = let i = c.self.inside in
    let none : i.free.keys ≡ [] = no_keys i.free.keys c.in_default.ensures.variant.1 in
    subst (λ fs. IsLeastFree i.end (tree_in fs)) c.self.view_is
    (end_least i.all.entries i.free.keys i.end c.self.invariant
    (ap (λ fs. is_facet 0 (tree_in fs)) c.self.view_is ∙ c.requires) none)
