-- Fronts of lists.
use Rattle.std.proofs.Common.{List, ◌++◌, filter, Bool, ap, ◌∙◌, append_assoc}
use Rattle.std.proofs.lemmas.List.Elements.{filter-append}
use Rattle.srv_cuts.specs.Fronts.{IsFrontOf}

pub front_chain : {X : Type 0} (xs ys zs : List X) → IsFrontOf xs ys → IsFrontOf ys zs → IsFrontOf xs zs
front_chain {X} xs ys zs (a, e) (b, f) = (a ++ b, f ∙ ap (λ (l : List X). l ++ b) e ∙ append_assoc xs a b)

pub front_filtered : {X : Type 0} (p : X → Bool) (xs ys : List X) → IsFrontOf xs ys
    → IsFrontOf (filter p xs) (filter p ys)
front_filtered {X} p xs ys (a, e) = (filter p a, ap (filter p) e ∙ filter-append p xs a)
