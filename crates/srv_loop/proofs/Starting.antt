-- Two jobs that are started one after the other.
use Rattle.std.proofs.Common.{◌≡◌, ℕ, Bool, true, false, nat_eq, List, [], ◌∷◌, length, take}
use Rattle.std.proofs.Common.{Option, refl, sym, subst, arith}
use Rattle.out_ports.specs.Ports.{raised, RoseBy, IsStarted, took_after}
use Rattle.srv_loop.specs.Links.{AreTaken}
use Rattle.srv_loop.proofs.Leading.{AreTaken-more}

RoseBy-raised : (a b : ℕ) → b ≡ raised 1 a → RoseBy 1 a b
RoseBy-raised a b e small = omega (arith, e)

one_taken :
    {J : Type 0} (job : J) (before now : Option (List J)) (m n : ℕ) → IsStarted true job before now → n ≡ raised 1 m →
    AreTaken (job ∷ []) before now m n
one_taken job before now m n told e = record { told = told; count = RoseBy-raised m n e }

-- the first job was taken, and the second was or wasn't
abbrev pub StartsBoth : {J : Type 0} → J → J → Bool → Option (List J) → Option (List J) → ℕ → ℕ → Type 0
StartsBoth first second both before now m n =
    (k : ℕ) × (nat_eq (length (take k (first ∷ second ∷ []))) 2 ≡ both)
    × AreTaken (take k (first ∷ second ∷ [])) before now m n

pub second_started :
    {J : Type 0} (first second : J) (both : Bool) (a b c : Option (List J)) (k m n : ℕ) → IsStarted true first a b →
    m ≡ raised 1 k → IsStarted both second b c → n ≡ took_after both m → StartsBoth first second both a c k n
second_started first second true a b c k m n told e then f =
    let one = one_taken first a b k m told e in
    let two = one_taken second b c m n then f in
    (2, refl, AreTaken-more (first ∷ []) (second ∷ []) a b c k m n one two)
second_started {J} first second false a b c k m n told e then f =
    let P : Option (List J) → Type 0 = λ o. IsStarted true first a o in
    let Q : ℕ → Type 0 = λ x. x ≡ raised 1 k in
    (1, refl, one_taken first a c k n (subst P (sym then) told) (subst Q (sym f) e))
