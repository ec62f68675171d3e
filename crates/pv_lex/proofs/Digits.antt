-- Digits one by one: a number only grows.
use Rattle.std.proofs.Common.{ℕ, suc, ◌+◌, ◌-◌, ◌*◌, ◌<◌, ◌≤◌, List, [], ◌∷◌, length, get_or, drop, drop-cons, arith}
use Rattle.pv_lex.specs.Numbers.{digits_value}

pub value_grows : (n : ℕ) (ds : List ℕ) → n ≤ digits_value n ds
value_grows n [] = omega arith
value_grows n (d ∷ ds) = omega (arith, value_grows (10 * n + (d - 48)) ds)

pub one_more : (n i : ℕ) (ds : List ℕ) → i < length ds → 10 * n ≤ digits_value n (drop i ds)
one_more n i ds h =
    let e = drop-cons ds i 0 h in
    let d = get_or ds i 0 in
    rw e (omega (arith, value_grows (10 * n + (d - 48)) (drop (suc i) ds)))
