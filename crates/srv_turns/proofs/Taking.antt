-- What was taken from a link, in pieces.
use Rattle.std.proofs.Common.{◌≡◌, ℕ, ◌+◌, ◌-◌, ◌≤◌, ◌<◌, ◌^◌, List, [], ◌++◌, length, take, drop, Option, None}
use Rattle.std.proofs.Common.{Some, IfSome, refl, sym, ap, ◌∙◌, subst, append_assoc, length-append, length-take, arith}
use Rattle.std.proofs.lemmas.List.{take-append-drop}
use Rattle.out_ports.specs.Ports.{IsFront, raised}
use Rattle.srv_turns.specs.Reading.{AreTaken}

-- nothing was taken
pub none_taken : (left leaves : Option (List ℕ)) (given : ℕ) → leaves ≡ left → AreTaken [] left leaves given given
none_taken None leaves given same = record { told = tt; counted = λ few. omega arith }
none_taken (Some bytes) leaves given same = record { told = (bytes, refl, same); counted = λ few. omega arith }

-- the link ended
pub end_taken : (left leaves : Option (List ℕ)) (given : ℕ)
    → IfSome left (λ bytes. (bytes ≡ []) × (leaves ≡ Some [])) → AreTaken [] left leaves given given
end_taken None leaves given is = record { told = tt; counted = λ few. omega arith }
end_taken (Some bytes) leaves given (none, is) = record { told = ([], none, is); counted = λ few. omega arith }

pub end_left : (left leaves : Option (List ℕ)) → IfSome left (λ bytes. (bytes ≡ []) × (leaves ≡ Some []))
    → IfSome left (λ bytes. leaves ≡ Some [])
end_left None leaves is = tt
end_left (Some bytes) leaves is = is.1

-- a piece was taken
pub piece_taken : (left leaves : Option (List ℕ)) (given gives n : ℕ) (buf : List ℕ) → n ≤ length buf
    → IfSome left (λ bytes. IsFront n buf bytes leaves) → gives ≡ raised n given
    → AreTaken (take n buf) left leaves given gives
piece_taken None leaves given gives n buf fits is counted =
    record { told = tt; counted = λ few. omega (arith, length-take n buf) }
piece_taken (Some bytes) leaves given gives n buf fits is counted = record {
  told = (
    drop n bytes,
    sym (ap (λ (xs : List ℕ). xs ++ drop n bytes) is.given ∙ take-append-drop n bytes),
    is.rest,
  );
  counted = λ few. omega (arith, length-take n buf);
}

-- one piece behind another
told_both : (left mid leaves : Option (List ℕ)) (a b : List ℕ)
    → IfSome left (λ bytes. (rest : List ℕ) × (bytes ≡ a ++ rest) × (mid ≡ Some rest))
    → IfSome mid (λ bytes. (rest : List ℕ) × (bytes ≡ b ++ rest) × (leaves ≡ Some rest))
    → IfSome left (λ bytes. (rest : List ℕ) × (bytes ≡ (a ++ b) ++ rest) × (leaves ≡ Some rest))
told_both None mid leaves a b first then = tt
told_both (Some bytes) mid leaves a b (rest, is, so) then =
    let then' : (r : List ℕ) × (rest ≡ b ++ r) × (leaves ≡ Some r) =
    subst (λ o. IfSome o (λ bytes. (r : List ℕ) × (bytes ≡ b ++ r) × (leaves ≡ Some r))) so then in
    (then'.0, is ∙ ap (λ (xs : List ℕ). a ++ xs) then'.1 ∙ sym (append_assoc a b then'.0), then'.2)

counted_both : (given gave gives m n l : ℕ) → l ≡ m + n → (gave < 2 ^ 64 - 1 → gave ≡ given + m)
    → (gives < 2 ^ 64 - 1 → gives ≡ gave + n) → gives < 2 ^ 64 - 1 → gives ≡ given + l
counted_both given gave gives m n l is first then few =
    let e : gives ≡ gave + n = then few in
    let f : gave ≡ given + m = first (omega arith) in
    omega arith

pub both_taken : (left mid leaves : Option (List ℕ)) (given gave gives : ℕ) (a b : List ℕ)
    → AreTaken a left mid given gave → AreTaken b mid leaves gave gives → AreTaken (a ++ b) left leaves given gives
both_taken left mid leaves given gave gives a b first then = record {
  told = told_both left mid leaves a b first.told then.told;
  counted = counted_both given gave gives (length a) (length b) (length (a ++ b)) (length-append a b) first.counted
      then.counted;
}

-- behind what was taken nothing is left
pub ended_left : (left mid leaves : Option (List ℕ))
    → (b : List ℕ) → IfSome left (λ bytes. (rest : List ℕ) × (bytes ≡ b ++ rest) × (mid ≡ Some rest))
    → IfSome mid (λ bytes. leaves ≡ Some []) → IfSome left (λ bytes. leaves ≡ Some [])
ended_left None mid leaves b told is = tt
ended_left (Some bytes) mid leaves b (rest, whole, so) is = subst (λ o. IfSome o (λ bytes. leaves ≡ Some [])) so is
