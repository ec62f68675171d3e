-- Pieces that are appended one behind another, and fronts of them.
use Rattle.std.proofs.Common.{◌≡◌, ℕ, ◌+◌, ◌≤◌, List, ◌++◌, length, take, Option, Some, None, IfSome, Result, Ok, Err}
use Rattle.std.proofs.Common.{OnOk, OnErr, sym, ap, ◌∙◌, subst, arith, append_assoc, length-append}
use Rattle.std.proofs.lemmas.List.{take_all, take-append-le}
use Rattle.std.proofs.Math.Seq.{take-append-add}
use Rattle.out_ports.specs.Ports.{Appends, AppendsFront}

pub append_both : (a b c : Option (List ℕ)) (xs ys : List ℕ) → Appends a b xs → Appends b c ys → Appends a c (xs ++ ys)
append_both None b c xs ys p q = tt
append_both (Some held) b c xs ys p q =
    let more : c ≡ Some ((held ++ xs) ++ ys) = subst (λ o. IfSome o (λ h. c ≡ Some (h ++ ys))) p q in
    more ∙ ap Some (append_assoc held xs ys)

-- a front of the first is one of both
pub front_first : (a b : Option (List ℕ)) (xs ys : List ℕ) → AppendsFront a b xs → AppendsFront a b (xs ++ ys)
front_first a b xs ys f =
    let few : f.0 ≤ length (xs ++ ys) = omega (arith, length-append xs ys, f.1) in
    (f.0, few, subst (λ p. Appends a b p) (sym (take-append-le f.0 xs ys f.1)) f.2)

-- so is the first with a front of the second
pub front_then : (a b c : Option (List ℕ)) (xs ys : List ℕ) → Appends a b xs → AppendsFront b c ys
    → AppendsFront a c (xs ++ ys)
front_then a b c xs ys p f =
    let few : length xs + f.0 ≤ length (xs ++ ys) = omega (arith, length-append xs ys, f.1) in (
      length xs + f.0,
      few,
      subst (λ q. Appends a c q) (sym (take-append-add xs ys f.0)) (append_both a b c xs (take f.0 ys) p f.2),
    )

pub front_behind : {T E : Type 0} (r : Result T E) (a b c : Option (List ℕ)) (xs ys : List ℕ) → Appends a b xs
    → OnErr r (AppendsFront b c ys) → OnErr r (AppendsFront a c (xs ++ ys))
front_behind (Ok t) a b c xs ys p f = tt
front_behind (Err e) a b c xs ys p f = front_then a b c xs ys p f

-- the whole is a front
pub front_all : (a b : Option (List ℕ)) (xs : List ℕ) → Appends a b xs → AppendsFront a b xs
front_all a b xs p =
    let all : length xs ≤ length xs = omega arith in
    (length xs, all, subst (λ q. Appends a b q) (sym (take_all (length xs) xs all)) p)

-- what is said of an answer, whichever it is
pub front_of : {T E : Type 0} (r : Result T E) (a b : Option (List ℕ)) (xs : List ℕ) → OnOk r (Appends a b xs)
    → OnErr r (AppendsFront a b xs) → AppendsFront a b xs
front_of (Ok t) a b xs p q = front_all a b xs p
front_of (Err e) a b xs p q = q

pub whole_unless : {T E : Type 0} (r : Result T E) (a b : Option (List ℕ)) (xs : List ℕ) (Failed : Type 0)
    → OnOk r (Appends a b xs) → OnErr r Failed → (Failed → ⊥) → Appends a b xs
whole_unless (Ok t) a b xs Failed p q none = p
whole_unless (Err e) a b xs Failed p q none = absurd (none q)
