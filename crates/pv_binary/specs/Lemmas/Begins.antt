-- What bytes begin with: a byte at least, and one value, where no spelling of a value begins another.
use Rattle.std.proofs.Common.{◌≡◌, ℕ, zero, suc, ◌<◌, ◌≤◌, true, false, List, [], ◌++◌, length, take, drop}
use Rattle.std.proofs.Common.{sym, ap, ◌∙◌, length-take, length-drop, arith}
use Rattle.std.proofs.lemmas.List.{take-append-drop}
use Rattle.pv_value.specs.Plain.{Plain, boolean, double, integer, string, byte_string, symbol}
use Rattle.pv_value.specs.Plain.{record_of, sequence, set_of, dictionary, embedded}
use Rattle.pv_binary.specs.Spells.{Spells}
use Rattle.pv_binary.specs.Reads.{BeginsWith, Leads}

-- a value has a byte at least
pub spelled_some : (v : Plain) → Spells [] v → ⊥
spelled_some (boolean false) s = cc
spelled_some (boolean true) s = cc
spelled_some (double n) s = let e = s.1 in cc
spelled_some (integer z) s = let e = s.1 in cc
spelled_some (string t) s = let e = s.2 in cc
spelled_some (byte_string t) s = let e = s.1 in cc
spelled_some (symbol t) s = let e = s.2 in cc
spelled_some (record_of l fs) s = let e = s.4 in cc
spelled_some (sequence xs) s = let e = s.2 in cc
spelled_some (set_of xs) s = let e = s.5 in cc
spelled_some (dictionary ps) s = let e = s.5 in cc
spelled_some (embedded x) s = let e = s.2 in cc

pub begins_some : (bytes : List ℕ) (n : ℕ) (v : Plain) → BeginsWith bytes n v → 1 ≤ n
begins_some bytes zero v b = absurd (spelled_some v b.1)
begins_some bytes (suc n) v b = omega arith

pub nothing_begins : (n : ℕ) (v : Plain) → BeginsWith [] n v → ⊥
nothing_begins zero v b = spelled_some v b.1
nothing_begins (suc n) v b = absurd (omega (arith, b.0))

-- what is left is shorter
pub leads_less : (bytes : List ℕ) (v : Plain) (more : List ℕ) → Leads bytes v more → length more < length bytes
leads_less bytes v more (n, b, e) =
    omega (arith, begins_some bytes n v b, b.0, length-drop n bytes, ap (λ (x : List ℕ). length x) e)

-- no spelling of a value begins another: what spellings_are_unique ensures
abbrev pub IsUnique : Type 0
IsUnique = (a b x y : List ℕ) (v w : Plain) → Spells a v → Spells b w → a ++ x ≡ b ++ y → (a ≡ b) × (v ≡ w)

pub begins_same : IsUnique → (bytes : List ℕ) (n m : ℕ) (v w : Plain) → BeginsWith bytes n v → BeginsWith bytes m w
    → (n ≡ m) × (v ≡ w)
begins_same unique bytes n m v w a b =
    let split = take-append-drop n bytes ∙ sym (take-append-drop m bytes) in
    let u = unique (take n bytes) (take m bytes) (drop n bytes) (drop m bytes) v w a.1 b.1 split in
    let l = ap (λ (x : List ℕ). length x) u.0 in
    (omega (arith, length-take n bytes, length-take m bytes, a.0, b.0, l), u.1)
