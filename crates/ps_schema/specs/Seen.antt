-- What a walk over names has seen.
use Rattle.std.specs.Prelude.{◌≡◌, ◌+◌, ◌≤◌, ℕ, Bool, true, false, ◌||◌, List, [], ◌∷◌, length, take, ◌⊎◌}
use Rattle.std.specs.Str.{bytes_eq}
use Rattle.ps_schema.specs.Names.{knows}
use Rattle.ps_schema.specs.Schemas.{leads, IsWay, LeadsBack}
use Rattle.ps_schema.specs.declared.Definition.{Definition}

abbrev pub among : List (List ℕ) → List ℕ → Bool
among [] a = false
among (b ∷ bs) a = bytes_eq b a || among bs a

-- a name that is asked for, or one to which such a name leads
abbrev pub IsReached : List Definition → (List ℕ → Bool) → List ℕ → Type 0
IsReached ds from b =
    (from b ≡ true) ⊎ ((c : List ℕ) × (cs : List (List ℕ)) × (from c ≡ true) × IsWay ds c cs b)

-- how many definitions have a name that was not seen
abbrev pub one_unless : Bool → ℕ
one_unless true = 0
one_unless false = 1

abbrev pub unseen : List Definition → List (List ℕ) → ℕ
unseen [] bs = 0
unseen (d ∷ ds) bs = one_unless (among bs d.name) + unseen ds bs

-- what is seen where some names are asked for: those of them that have definitions stand behind what was seen
pub record Sees (ds : List Definition) (from : List ℕ → Bool) (old new : List (List ℕ)) : Type 0 where
  pub begins : (n : ℕ) → n ≤ length old → take n new ≡ take n old
  pub longer : length old ≤ length new
  pub kept : (b : List ℕ) → among old b ≡ true → among new b ≡ true
  pub reached : (b : List ℕ) → from b ≡ true → knows ds b ≡ true → among new b ≡ true
  pub sound : (b : List ℕ) → among new b ≡ true → (among old b ≡ true) ⊎ (from b ≡ true)
  pub fewer : unseen ds new + length new ≤ unseen ds old + length old

-- a walk that began with the names that were asked for, and has looked behind so many of those that it has seen
pub record Walked (ds : List Definition) (from : List ℕ → Bool) (looked : ℕ) (seen : List (List ℕ)) : Type 0 where
  pub reached : (b : List ℕ) → from b ≡ true → knows ds b ≡ true → among seen b ≡ true
  pub closed : (b c : List ℕ) → among (take looked seen) b ≡ true → leads ds b c ≡ true → knows ds c ≡ true
      → among seen c ≡ true
  pub sound : (b : List ℕ) → among seen b ≡ true → IsReached ds from b

-- none of these definitions' names leads back to itself
abbrev pub NoneBack : List Definition → List Definition → Type 0
NoneBack ds [] = Unit {0}
NoneBack ds (d ∷ es) = (LeadsBack ds d.name → ⊥) × NoneBack ds es
