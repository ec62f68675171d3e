-- Lists from a place on.
use Rattle.std.proofs.Common.{◌≡◌, ℕ, ◌+◌, ◌<◌, ◌≤◌, List, [], ◌∷◌, length, drop, get_or, sym, ap, ◌∙◌}
use Rattle.std.proofs.lemmas.List.{at_drop_more, at_drop_all}

-- what stands at the place, and the rest
pub drop_is : {A : Type 0} (es : List A) (i : ℕ) (e : A) → i < length es → e ≡ get_or es i e
    → drop i es ≡ e ∷ drop (i + 1) es
drop_is es i e h is = at_drop_more (λ ds. ds) es i e h ∙ ap (λ x. x ∷ drop (i + 1) es) (sym is)

-- nothing, from the end on
pub drop_end : {A : Type 0} (es : List A) (i : ℕ) → length es ≤ i → drop i es ≡ []
drop_end es i h = at_drop_all (λ ds. ds) es i h
