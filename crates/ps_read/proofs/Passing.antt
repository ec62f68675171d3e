-- Pieces of lists, those first that were passed.
use Rattle.std.proofs.Common.{◌≡◌, ◌+◌, ◌<◌, ◌≤◌, ℕ, Bool, true, false, List, [], ◌∷◌, ◌++◌, length, get_or, take, drop}
use Rattle.std.proofs.Common.{refl, sym, ap, ◌∙◌, append_assoc, if◌then◌else◌}
use Rattle.std.proofs.lemmas.List.{drop_more, drop_all, take_more, take_all}
use Rattle.ps_read.specs.Pieces.{pieces, begun_with}

append_none : (A : Type 0) (xs : List A) → xs ++ [] ≡ xs
append_none A [] = refl
append_none A (x ∷ xs) = ap (λ (ys : List A). x ∷ ys) (append_none A xs)

abbrev pub in_first : {A : Type 0} → List A → List (List A) → List (List A)
in_first xs [] = xs ∷ []
in_first xs (ys ∷ rest) = (xs ++ ys) ∷ rest

in_first_more : (A : Type 0) (xs : List A) (x : A) (ps : List (List A))
    → in_first xs (begun_with x ps) ≡ in_first (xs ++ x ∷ []) ps
in_first_more A xs x [] = refl
in_first_more A xs x (p ∷ ps) = ap (λ (q : List A). q ∷ ps) (sym (append_assoc xs (x ∷ []) p))

pieces_no : (A : Type 0) (test : A → Bool) (x : A) (xs : List A) → test x ≡ false
    → pieces test (x ∷ xs) ≡ begun_with x (pieces test xs)
pieces_no A test x xs e = rw e refl

pieces_yes : (A : Type 0) (test : A → Bool) (x : A) (xs : List A) → test x ≡ true
    → pieces test (x ∷ xs) ≡ [] ∷ pieces test xs
pieces_yes A test x xs e = rw e refl

dropped : (A : Type 0) (xs : List A) (i : ℕ) (x : A) → i < length xs → x ≡ get_or xs i x
    → drop i xs ≡ x ∷ drop (i + 1) xs
dropped A xs i x h e = drop_more xs i x h ∙ ap (λ (y : A). y ∷ drop (i + 1) xs) (sym e)

taken : (A : Type 0) (xs : List A) (i : ℕ) (x : A) → i < length xs → x ≡ get_or xs i x
    → take (i + 1) xs ≡ take i xs ++ x ∷ []
taken A xs i x h e = take_more xs i x h ∙ ap (λ (y : A). take i xs ++ y ∷ []) (sym e)

-- an element that isn't one between pieces
pub piece_on : (A : Type 0) (test : A → Bool) (xs : List A) (i : ℕ) (x : A) → i < length xs → x ≡ get_or xs i x
    → test x ≡ false
    → in_first (take (i + 1) xs) (pieces test (drop (i + 1) xs)) ≡ in_first (take i xs) (pieces test (drop i xs))
piece_on A test xs i x h e n =
    ap (λ (ys : List A). in_first ys (pieces test (drop (i + 1) xs))) (taken A xs i x h e)
    ∙ sym (in_first_more A (take i xs) x (pieces test (drop (i + 1) xs)))
    ∙ ap (in_first (take i xs)) (sym (pieces_no A test x (drop (i + 1) xs) n))
    ∙ ap (λ (ys : List A). in_first (take i xs) (pieces test ys)) (sym (dropped A xs i x h e))

-- one between pieces
pub piece_ends : (A : Type 0) (test : A → Bool) (xs : List A) (i : ℕ) (x : A) → i < length xs → x ≡ get_or xs i x
    → test x ≡ true
    → in_first (take i xs) (pieces test (drop i xs)) ≡ take i xs ∷ pieces test (drop (i + 1) xs)
piece_ends A test xs i x h e y =
    ap (λ (ys : List A). in_first (take i xs) (pieces test ys)) (dropped A xs i x h e)
    ∙ ap (in_first (take i xs)) (pieces_yes A test x (drop (i + 1) xs) y)
    ∙ ap (λ (ys : List A). ys ∷ pieces test (drop (i + 1) xs)) (append_none A (take i xs))

-- the end
pub piece_last : (A : Type 0) (test : A → Bool) (xs : List A) (i : ℕ) → length xs ≤ i
    → in_first (take i xs) (pieces test (drop i xs)) ≡ xs ∷ []
piece_last A test xs i h =
    ap (λ (ys : List A). in_first (take i xs) (pieces test ys)) (drop_all i xs h)
    ∙ ap (λ (ys : List A). ys ∷ []) (append_none A (take i xs) ∙ take_all i xs h)

pub piece_first : (A : Type 0) (test : A → Bool) (xs : List A) → in_first [] (pieces test xs) ≡ pieces test xs
piece_first A test [] = refl
piece_first A test (x ∷ xs) = by (test x)
  where
    begun : (ps : List (List A)) → in_first [] (begun_with x ps) ≡ begun_with x ps
    begun [] = refl
    begun (p ∷ ps) = refl

    by : (b : Bool) → in_first [] (if b then [] ∷ pieces test xs else begun_with x (pieces test xs))
        ≡ (if b then [] ∷ pieces test xs else begun_with x (pieces test xs))
    by true = refl
    by false = begun (pieces test xs)
