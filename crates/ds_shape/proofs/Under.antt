-- Parts seen from a value in which a path leads to the whole.
use Rattle.std.proofs.Common.{◌≡◌, List, [], ◌∷◌, ◌++◌, map, append_assoc, refl, ap}
use Rattle.ds_shape.specs.Paths.{Step}
use Rattle.ds_shape.specs.Outlines.{Test}
use Rattle.ds_shape.specs.Splitting.{Constant, test_under, constant_under}

-- from one step further in
pub tests_further : (path : List Step) (s : Step) (ts : List Test)
    → map (test_under (path ++ s ∷ [])) ts ≡ map (test_under path) (map (test_under (s ∷ [])) ts)
tests_further path s [] = refl
tests_further path s (t ∷ ts) =
    λ i. record { path = append_assoc path (s ∷ []) t.path i; kind = t.kind } ∷ tests_further path s ts i

pub constants_further : (path : List Step) (s : Step) (cs : List Constant)
    → map (constant_under (path ++ s ∷ [])) cs ≡ map (constant_under path) (map (constant_under (s ∷ [])) cs)
constants_further path s [] = refl
constants_further path s (c ∷ cs) =
    λ i. record { path = append_assoc path (s ∷ []) c.path i; value = c.value } ∷ constants_further path s cs i

pub captures_further : (path : List Step) (s : Step) (ps : List (List Step))
    → map (λ p. (path ++ s ∷ []) ++ p) ps ≡ map (λ p. path ++ p) (map (λ p. s ∷ p) ps)
captures_further path s [] = refl
captures_further path s (p ∷ ps) = λ i. append_assoc path (s ∷ []) p i ∷ captures_further path s ps i

-- from the value itself
pub tests_here : (ts : List Test) → map (test_under []) ts ≡ ts
tests_here [] = refl
tests_here (t ∷ ts) = ap (λ us. t ∷ us) (tests_here ts)

pub constants_here : (cs : List Constant) → map (constant_under []) cs ≡ cs
constants_here [] = refl
constants_here (c ∷ cs) = ap (λ ds. c ∷ ds) (constants_here cs)

pub captures_here : (ps : List (List Step)) → map (λ p. [] ++ p) ps ≡ ps
captures_here [] = refl
captures_here (p ∷ ps) = ap (λ qs. p ∷ qs) (captures_here ps)
