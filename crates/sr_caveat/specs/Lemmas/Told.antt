-- What calls tell, in other words.
use Rattle.std.proofs.Common.{◌≡◌, List, [], ◌∷◌, Option, Some, None, option_map, Result, Ok, Err, IfOk, refl, ap, ◌∙◌}
use Rattle.sr_caveat.specs.Patterns.{Caveat, caveats, listed_caveats}

pub if_ok_is : {A E : Type 0} (r : Result A E) (a b : A) → a ≡ b → IfOk r (λ p. p ≡ a) → IfOk r (λ p. p ≡ b)
if_ok_is (Ok p) a b e h = h ∙ e
if_ok_is (Err f) a b e h = tt

pub map_twice : {A B C : Type 0} (f : B → C) (g : A → B) (o : Option A)
    → option_map (λ a. f (g a)) o ≡ option_map f (option_map g o)
map_twice f g None = refl
map_twice f g (Some a) = refl

pub listed_same : (cs : List Caveat) → listed_caveats (caveats cs) ≡ cs
listed_same [] = refl
listed_same (c ∷ cs) = ap (λ ds. c ∷ ds) (listed_same cs)
