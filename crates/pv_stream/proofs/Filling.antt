-- Bytes that are put behind those that are left, where more stands.
use Rattle.std.proofs.Common.{◌≡◌, ℕ, ◌+◌, ◌≤◌, List, ◌++◌, length, take, drop, ap, ◌∙◌, subst, arith}
use Rattle.std.proofs.lemmas.List.{append_assoc, length-take-le, take-take, take-append-le, drop-append-le}
use Rattle.std.proofs.Math.Seq.{take-append-add}

-- the first so many bytes of the room stand behind the front
front_and : (front room rest : List ℕ) (e n : ℕ) → length front ≡ e → n ≤ length room
    → take (e + n) (front ++ (room ++ rest)) ≡ front ++ take n room
front_and front room rest e n is fits =
    subst (λ k. take (k + n) (front ++ (room ++ rest)) ≡ front ++ take n (room ++ rest)) is
    (take-append-add front (room ++ rest) n)
    ∙ ap (λ (ys : List ℕ). front ++ ys) (take-append-le n room rest fits)

pub put_behind : (s e n len : ℕ) (xs room tail rest : List ℕ) → s ≤ e → e ≤ length xs → n ≤ length room → e + n ≤ len
    → drop s (take (e + n) (take len ((take e xs ++ (room ++ tail)) ++ rest))) ≡ drop s (take e xs) ++ take n room
put_behind s e n len xs room tail rest order within fits short =
    let front : List ℕ = take e xs in
    let is : length front ≡ e = length-take-le e xs within in
    let all : (front ++ (room ++ tail)) ++ rest ≡ front ++ (room ++ (tail ++ rest)) =
    append_assoc front (room ++ tail) rest ∙ ap (λ (ys : List ℕ). front ++ ys) (append_assoc room tail rest) in
    ap (λ (ys : List ℕ). drop s ys)
    (take-take (e + n) len ((front ++ (room ++ tail)) ++ rest) short
    ∙ ap (λ (ys : List ℕ). take (e + n) ys) all
    ∙ front_and front room (tail ++ rest) e n is fits)
    ∙ drop-append-le s front (take n room) (omega (arith, is, order))
