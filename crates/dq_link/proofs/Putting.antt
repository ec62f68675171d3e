-- Bytes behind bytes.
use Rattle.std.proofs.Common.{◌≡◌, ℕ, ◌+◌, List, [], ◌++◌, length, take, Option, None, Some}
use Rattle.std.proofs.Common.{sym, ap, ◌∙◌, subst, arith, append_assoc, length-append}
use Rattle.std.proofs.lemmas.List.{append-nil, take-append-le}
use Rattle.std.proofs.Math.Seq.{take-append_seam, take-append-add}
use Rattle.out_ports.specs.Ports.{Appends, AppendsFront}

pub puts_none : (before now : Option (List ℕ)) → now ≡ before → Appends before now []
puts_none None now is = tt
puts_none (Some held) now is = is ∙ ap Some (sym (append-nil held))

pub puts_both : (before mid now : Option (List ℕ)) (a b : List ℕ) → Appends before mid a → Appends mid now b
    → Appends before now (a ++ b)
puts_both None mid now a b first then = tt
puts_both (Some held) mid now a b first then =
    let both : now ≡ Some ((held ++ a) ++ b) = subst (λ o. Appends o now b) first then in
    both ∙ ap Some (append_assoc held a b)

-- a front of the first bytes is a front of all
pub front_of_first : (before now : Option (List ℕ)) (a b : List ℕ) → AppendsFront before now a
    → AppendsFront before now (a ++ b)
front_of_first before now a b (n, few, is) = (
  n,
  omega (arith, length-append a b),
  subst (Appends before now) (sym (take-append-le n a b few)) is,
)

-- all of the first bytes are a front of all
pub all_of_first : (before now : Option (List ℕ)) (a b : List ℕ) → Appends before now a → AppendsFront before now (a ++ b)
all_of_first before now a b is = (
  length a,
  omega (arith, length-append a b),
  subst (Appends before now) (sym (take-append_seam a b)) is,
)

pub front_none : (before now : Option (List ℕ)) (a : List ℕ) → now ≡ before → AppendsFront before now a
front_none before now a is = all_of_first before now [] a (puts_none before now is)

-- all of the first bytes, and then a front of the others
pub puts_front : (before mid now : Option (List ℕ)) (a b : List ℕ) → Appends before mid a → AppendsFront mid now b
    → AppendsFront before now (a ++ b)
puts_front before mid now a b first (n, few, is) = (
  length a + n,
  omega (arith, length-append a b),
  subst (Appends before now) (sym (take-append-add a b n)) (puts_both before mid now a (take n b) first is),
)
