-- Elements joined with a text between two: one more at the end.
use Rattle.std.proofs.Common.{◌≡◌, ℕ, zero, suc, ◌+◌, ◌<◌, ◌++◌, ◌∷◌, [], List, length, take, get_or, ap, sym}
use Rattle.std.proofs.Common.{◌∙◌, arith, append_assoc, append-nil, add-one}
use Rattle.std.specs.List.{join_by, flat_map, repeat}
use Rattle.std.proofs.lemmas.Grind.{flat_map-append}
use Rattle.std.proofs.lemmas.List.{take_more}
use Rattle.std.proofs.lemmas.Bool.Decides.{nat_tests}
use Rattle.row_cases.specs.Shown.{behind_first}

push_joined : {X : Type 0} (f : X → List ℕ) (sep : List ℕ) (x y : X) (xs : List X)
    → join_by f sep (x ∷ (xs ++ y ∷ [])) ≡ join_by f sep (x ∷ xs) ++ (sep ++ f y)
push_joined f sep x y xs =
    ap (λ t. f x ++ t) (flat_map-append (λ z. sep ++ f z) xs (y ∷ []) ∙ ap (λ t. flat_map (λ z. sep ++ f z) xs ++ t)
    (append-nil (sep ++ f y)))
    ∙ sym (append_assoc (f x) (flat_map (λ z. sep ++ f z) xs) (sep ++ f y))

take_next : {X : Type 0} (xs : List X) (i : ℕ) (d : X) → i < length xs → take (suc i) xs
    ≡ take i xs ++ get_or xs i d ∷ []
take_next xs i d h = let next : suc i ≡ i + 1 = omega arith in ap (λ n. take n xs) next ∙ take_more xs i d h

behind_next : (i : ℕ) (sep : List ℕ) → behind_first (suc i) sep ≡ sep
behind_next i sep = grind (arith, nat_tests)

pub join_by_more : {X : Type 0} (f : X → List ℕ) (sep : List ℕ) (xs : List X) (i : ℕ) (d : X) → i < length xs
    → join_by f sep (take (i + 1) xs) ≡ join_by f sep (take i xs) ++ (behind_first i sep ++ f (get_or xs i d))
join_by_more f sep [] i d h = absurd (omega arith)
join_by_more f sep (x ∷ xs) zero d h = append-nil (f x)
join_by_more f sep (x ∷ xs) (suc i) d h =
    rw add-one (ap (λ t. join_by f sep (x ∷ t)) (take_next xs i d (omega arith))
    ∙ push_joined f sep x (get_or xs i d) (take i xs)
    ∙ ap (λ t. join_by f sep (x ∷ take i xs) ++ (t ++ f (get_or xs i d))) (sym (behind_next i sep)))

-- one element more behind what stood there, and what is joined
pub joined_step : (old line mid new joined sep x : List ℕ) → new ≡ mid ++ x → mid ≡ line ++ sep → line ≡ old ++ joined
    → new ≡ old ++ (joined ++ (sep ++ x))
joined_step old line mid new joined sep x at between so_far =
    at ∙ ap (λ t. t ++ x) (between ∙ ap (λ t. t ++ sep) so_far)
    ∙ append_assoc (old ++ joined) sep x ∙ append_assoc old joined (sep ++ x)

-- a text so often, and once more
pub repeated_more : (n : ℕ) (xs : List ℕ) → repeat (suc n) xs ≡ repeat n xs ++ xs
repeated_more zero xs = append-nil xs
repeated_more (suc n) xs = ap (λ t. xs ++ t) (repeated_more n xs) ∙ sym (append_assoc xs (repeat n xs) xs)
