-- What was heard, in pieces.
use Rattle.std.proofs.Common.{◌≡◌, ℕ, ◌+◌, ◌-◌, ◌≤◌, ◌<◌, ◌^◌, List, [], ◌∷◌, ◌++◌, length, take, drop, Option, None, Bool, true, false}
use Rattle.std.proofs.Common.{Some, IfSome, refl, sym, ap, ◌∙◌, subst, append_assoc, length-append, length-take, arith}
use Rattle.std.proofs.lemmas.List.{append-nil, take-append-drop}
use Rattle.out_ports.specs.Ports.{IsFront, raised}
use Rattle.out_ports.specs.Dialled.{ToldHearing}
use Rattle.dq_link.specs.Asked.{AreHeard}

not_both : (now before : Bool) → now ≡ before → before ≡ false → now ≡ true → ⊥
not_both true true same unended ended = absurd cc
not_both true false same unended ended = absurd cc
not_both false before same unended ended = absurd cc

-- nothing was heard
pub none_heard : (before now : ToldHearing) → now.left ≡ before.left → now.given ≡ before.given
    → now.ended ≡ before.ended → AreHeard [] before now
none_heard before now same counted still = record {
  told = by before.left same;
  counted = λ few. omega arith;
  all = λ unended ended. absurd (not_both now.ended before.ended still unended ended);
}
  where
    by : (left : Option (List ℕ)) → now.left ≡ left
        → IfSome left (λ bytes. (rest : List ℕ) × (bytes ≡ [] ++ rest) × (now.left ≡ Some rest))
    by None is = tt
    by (Some bytes) is = (bytes, refl, is)

pub same_heard : (before now : ToldHearing) → now ≡ before → AreHeard [] before now
same_heard before now same =
    none_heard before now (ap (λ (h : ToldHearing). h.left) same) (ap (λ (h : ToldHearing). h.given) same)
    (ap (λ (h : ToldHearing). h.ended) same)

-- the link ended
pub end_heard : (before now : ToldHearing) → IfSome before.left (λ bytes. (bytes ≡ []) × (now.left ≡ Some []))
    → now.given ≡ before.given → AreHeard [] before now
end_heard before now is counted = record {
  told = by before.left is;
  counted = λ few. omega arith;
  all = λ unended ended. none_left before.left is;
}
  where
    by : (left : Option (List ℕ)) → IfSome left (λ bytes. (bytes ≡ []) × (now.left ≡ Some []))
        → IfSome left (λ bytes. (rest : List ℕ) × (bytes ≡ [] ++ rest) × (now.left ≡ Some rest))
    by None e = tt
    by (Some bytes) (none, e) = ([], none, e)

    none_left : (left : Option (List ℕ)) → IfSome left (λ bytes. (bytes ≡ []) × (now.left ≡ Some []))
        → IfSome left (λ bytes. bytes ≡ [])
    none_left None e = tt
    none_left (Some bytes) e = e.0

-- a piece was heard
pub piece_heard : (before now : ToldHearing) (n : ℕ) (buf : List ℕ) → n ≤ length buf
    → IfSome before.left (λ bytes. IsFront n buf bytes now.left) → now.given ≡ raised n before.given
    → now.ended ≡ before.ended → AreHeard (take n buf) before now
piece_heard before now n buf fits is counted still = record {
  told = by before.left is;
  counted = λ few. omega (arith, length-take n buf);
  all = λ unended ended. absurd (not_both now.ended before.ended still unended ended);
}
  where
    by : (left : Option (List ℕ)) → IfSome left (λ bytes. IsFront n buf bytes now.left)
        → IfSome left (λ bytes. (rest : List ℕ) × (bytes ≡ take n buf ++ rest) × (now.left ≡ Some rest))
    by None e = tt
    by (Some bytes) e = (
      drop n bytes,
      sym (ap (λ (xs : List ℕ). xs ++ drop n bytes) e.given ∙ take-append-drop n bytes),
      e.rest,
    )

told_both : (left mid leaves : Option (List ℕ)) (a b : List ℕ)
    → IfSome left (λ bytes. (rest : List ℕ) × (bytes ≡ a ++ rest) × (mid ≡ Some rest))
    → IfSome mid (λ bytes. (rest : List ℕ) × (bytes ≡ b ++ rest) × (leaves ≡ Some rest))
    → IfSome left (λ bytes. (rest : List ℕ) × (bytes ≡ (a ++ b) ++ rest) × (leaves ≡ Some rest))
told_both None mid leaves a b first then = tt
told_both (Some bytes) mid leaves a b (rest, is, so) then =
    let then' : (r : List ℕ) × (rest ≡ b ++ r) × (leaves ≡ Some r) =
    subst (λ o. IfSome o (λ bytes. (r : List ℕ) × (bytes ≡ b ++ r) × (leaves ≡ Some r))) so then in
    (then'.0, is ∙ ap (λ (xs : List ℕ). a ++ xs) then'.1 ∙ sym (append_assoc a b then'.0), then'.2)

counted_both : (given gave gives m n l : ℕ) → l ≡ m + n → (gave < 2 ^ 64 - 1 → gave ≡ given + m)
    → (gives < 2 ^ 64 - 1 → gives ≡ gave + n) → gives < 2 ^ 64 - 1 → gives ≡ given + l
counted_both given gave gives m n l is first then few =
    let e : gives ≡ gave + n = then few in
    let f : gave ≡ given + m = first (omega arith) in
    omega arith

no_length : (l : List ℕ) → length l ≡ 0 → l ≡ []
no_length [] is = refl
no_length (x ∷ xs) is = absurd (omega arith)

all_both : (unended mid ended : Bool) (left between leaves : Option (List ℕ)) (a b : List ℕ)
    → IfSome left (λ bytes. (rest : List ℕ) × (bytes ≡ a ++ rest) × (between ≡ Some rest))
    → IfSome between (λ bytes. (rest : List ℕ) × (bytes ≡ b ++ rest) × (leaves ≡ Some rest))
    → (unended ≡ false → mid ≡ true → IfSome left (λ bytes. bytes ≡ a))
    → (mid ≡ false → ended ≡ true → IfSome between (λ bytes. bytes ≡ b))
    → unended ≡ false → ended ≡ true → IfSome left (λ bytes. bytes ≡ a ++ b)
all_both unended mid ended None between leaves a b first then all all' is at = tt
all_both unended true ended (Some bytes) between leaves a b (rest, whole, so) then all all' is at =
    let then' : (r : List ℕ) × (rest ≡ b ++ r) × (leaves ≡ Some r) =
    subst (λ o. IfSome o (λ bytes. (r : List ℕ) × (bytes ≡ b ++ r) × (leaves ≡ Some r))) so then in
    let same : bytes ≡ a = all is refl in
    let l : length bytes ≡ length a = ap length same in
    let m : length bytes ≡ length a + length rest = ap length whole ∙ length-append a rest in
    let n : length rest ≡ length b + length then'.0 = ap length then'.1 ∙ length-append b then'.0 in
    same ∙ sym (append-nil a) ∙ ap (λ (xs : List ℕ). a ++ xs) (sym (no_length b (omega (arith, l, m, n))))
all_both unended false ended (Some bytes) between leaves a b (rest, whole, so) then all all' is at =
    let same : rest ≡ b = subst (λ o. IfSome o (λ bytes. bytes ≡ b)) so (all' refl at) in
    whole ∙ ap (λ (xs : List ℕ). a ++ xs) same

pub both_heard : (before mid now : ToldHearing) (a b : List ℕ) → AreHeard a before mid → AreHeard b mid now
    → AreHeard (a ++ b) before now
both_heard before mid now a b first then = record {
  told = told_both before.left mid.left now.left a b first.told then.told;
  counted = counted_both before.given mid.given now.given (length a) (length b) (length (a ++ b)) (length-append a b)
      first.counted then.counted;
  all = all_both before.ended mid.ended now.ended before.left mid.left now.left a b first.told then.told first.all
      then.all;
}
