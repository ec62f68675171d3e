-- What is read and written in parts: a part more, and the whole.
use Rattle.std.proofs.Common.{◌≡◌, ℕ, zero, suc, ◌+◌, ◌-◌, min, List, [], ◌∷◌, ◌++◌, length, take, drop, Option, None}
use Rattle.std.proofs.Common.{Some}
use Rattle.std.proofs.Common.{IfSome, refl, subst, append_assoc, arith}
use Rattle.std.proofs.lemmas.List.{take-append-drop}
use Rattle.std.proofs.Math.Seq.{take-add}
use Rattle.out_ports.specs.Ports.{IsFront, Appends}

-- what was read and what is left make up what there was, where that is told
abbrev pub IsPartRead : Option (List ℕ) → List ℕ → Option (List ℕ) → Type 0
IsPartRead whole read left =
    IfSome whole (λ bytes. (rest : List ℕ) × (left ≡ Some rest) × (read ++ rest ≡ bytes))

-- one piece more is read
pub IsPartRead-front :
    (whole : Option (List ℕ)) (read : List ℕ) (left : Option (List ℕ)) (n : ℕ) (buf more : List ℕ)
    (now : Option (List ℕ)) →
    IsPartRead whole read left →
    IfSome left (λ bytes. IsFront n buf bytes now) →
    more ≡ read ++ take n buf →
    IsPartRead whole more now
IsPartRead-front None read left n buf more now part front is_more = tt
IsPartRead-front (Some bytes) read left n buf more now (rest, is, whole) front is_more =
    let P : Option (List ℕ) → Type 0 = λ o. IfSome o (λ bytes. IsFront n buf bytes now) in
    let f : IsFront n buf rest now = subst P is front in
    (drop n rest, f.rest, rw (is_more, f.given, append_assoc, take-append-drop) whole)

-- the first bytes of what was read were kept
abbrev pub IsPartKept : ℕ → Option (List ℕ) → List ℕ → Option (List ℕ) → Type 0
IsPartKept most whole kept left = (read : List ℕ) × IsPartRead whole read left × (kept ≡ take most read)

-- one piece more is read, of which as much is kept as there is room for
pub IsPartKept-front :
    (most : ℕ) (whole : Option (List ℕ)) (kept : List ℕ) (left : Option (List ℕ)) (n : ℕ) (buf more : List ℕ)
    (now : Option (List ℕ)) →
    IsPartKept most whole kept left →
    IfSome left (λ bytes. IsFront n buf bytes now) →
    ((read : List ℕ) → kept ≡ take most read → more ≡ take most (read ++ take n buf)) →
    IsPartKept most whole more now
IsPartKept-front most whole kept left n buf more now (read, part, is) front is_more =
    (read ++ take n buf, IsPartRead-front whole read left n buf _ now part front refl, is_more read is)

-- a list has no more than its length
pub take-min : (n : ℕ) (xs : List ℕ) → take (min n (length xs)) xs ≡ take n xs
take-min zero xs =
    let e : min 0 (length xs) ≡ 0 = omega arith in
    rw e refl
take-min (suc n) [] =
    let e : min (suc n) 0 ≡ 0 = omega arith in
    rw e refl
take-min (suc n) (x ∷ xs) =
    let e : min (suc n) (suc (length xs)) ≡ suc (min n (length xs)) = omega arith in
    rw (e, take-min n xs) refl

-- as much of a piece as there is room for
pub take-kept :
    (most : ℕ) (read piece : List ℕ) →
    take most read ++ take (most - length (take most read)) piece ≡ take most (read ++ piece)
take-kept zero read piece = refl
take-kept (suc n) [] piece =
    let e : suc n - 0 ≡ suc n = omega arith in
    rw e refl
take-kept (suc n) (x ∷ xs) piece =
    let e : suc n - suc (length (take n xs)) ≡ n - length (take n xs) = omega arith in
    rw (e, take-kept n xs piece) refl

-- so a front of the piece as long as the room, and no longer than the piece
pub take-kept-min :
    (most room : ℕ) (front read piece : List ℕ) →
    front ≡ take most read →
    room ≡ most - length front →
    front ++ take (min room (length piece)) piece ≡ take most (read ++ piece)
take-kept-min most room front read piece is is_room =
    rw (is_room, is, take-min _ piece, take-kept most read piece) refl

-- one piece more is written
pub Appends-front :
    (before mid now : Option (List ℕ)) (bytes : List ℕ) (at n : ℕ) (piece : List ℕ) →
    Appends before mid (take at bytes) →
    Appends mid now (take n piece) →
    piece ≡ drop at bytes →
    Appends before now (take (at + n) bytes)
Appends-front None mid now bytes at n piece first next is_rest = tt
Appends-front (Some held) mid now bytes at n piece first next is_rest =
    let P : Option (List ℕ) → Type 0 = λ o. Appends o now (take n piece) in
    let e : now ≡ Some ((held ++ take at bytes) ++ take n piece) = subst P first next in
    rw (e, is_rest, take-add at n bytes, append_assoc) refl
