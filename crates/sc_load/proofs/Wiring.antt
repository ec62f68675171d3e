-- What items assert may stand on the wire.
use Rattle.std.proofs.Common.{◌≡◌, ℕ, ◌+◌, ◌^◌, ◌≤◌, suc, zero, true, ◌&&◌, List, [], ◌∷◌, ◌++◌, Some, None}
use Rattle.std.proofs.Common.{arith, ap, nat_lt, is_some, if◌then◌else◌}
use Rattle.std.proofs.lemmas.Bool.Decides.{nat_tests}
use Rattle.std.specs.List.{AllByRecursion}
use Rattle.rl_packet.specs.Wired.{is_wired, IsTurnEvent}
use Rattle.sc_load.specs.Limits.{most_items}
use Rattle.sc_load.specs.Loads.{observation, observes, events_of}

pub one_more : {A : Type 0} (P : A → Type 0) (xs : List A) (x : A) → AllByRecursion P xs → P x
    → AllByRecursion P (xs ++ x ∷ [])
one_more P [] x all one = (one, tt)
one_more P (y ∷ xs) x all one = (all.0, one_more P xs x all.1 one)

wired : (i : ℕ) → i ≤ most_items → is_wired (observation i) ≡ true
wired i few =
    let small : nat_lt (i + 1) (2 ^ 63) ≡ true = grind (arith, nat_tests, few) in
    ap (λ b. is_some (if b then Some (i + 1) else None) && true) small

observed : (i : ℕ) → i ≤ most_items → IsTurnEvent (observes i)
observed i few = (omega arith, (wired i few, omega (arith, few)))

pub all_observed : (i k : ℕ) → i + k ≤ most_items → AllByRecursion IsTurnEvent (events_of observes i k)
all_observed i zero few = tt
all_observed i (suc k) few =
    one_more IsTurnEvent (events_of observes i k) (observes (i + k)) (all_observed i k (omega (arith, few)))
    (observed (i + k) (omega (arith, few)))
