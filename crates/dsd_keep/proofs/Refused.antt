-- What is said of words that ask for nothing.
use Rattle.std.proofs.Common.{◌≡◌, ℕ, suc, List, [], ◌∷◌, Option, Err, Contains, lit<, refl, arith}
use Rattle.kp_keeper.specs.declared.records.Record.{Record}
use Rattle.dsd_top.specs.Minting.{IsFound}
use Rattle.dsd_top.specs.Statuses.{status_of, from_words}
use Rattle.dsd_top.specs.declared.minting.WordsFault.{WordsFault}
use Rattle.dsd_top.specs.declared.minting.WordsFault.TheVariants.{Bad, NoMemory}
use Rattle.dsd_keep.specs.Endings.{StandsUndone}
use Rattle.dsd_keep.specs.Undone.{bindings_statuses}
use Rattle.dsd_keep.specs.Requests.{MakeARequest, IsRequest, Request}
use Rattle.dsd_keep.specs.declared.undone.Undone.TheVariants.{Of}

-- a list has what it has behind its first
pub behind_first : (x : ℕ) (xs : List ℕ) (n : ℕ) → Contains xs n → Contains (x ∷ xs) n
behind_first x xs n h = (suc h.0, omega (arith, h.1), h.2)

pub refused_known : (f : WordsFault) → Contains bindings_statuses (status_of (from_words f))
refused_known Bad = (0, lit< tt, refl)
refused_known NoMemory = (3, lit< tt, refl)

pub refused_few : (f : WordsFault) → Contains (2 ∷ 5 ∷ []) (status_of (from_words f))
refused_few Bad = (0, lit< tt, refl)
refused_few NoMemory = (1, lit< tt, refl)

module _ (words : List (List ℕ)) where
  abbrev pub IsRefused : WordsFault → Type 0
  IsRefused f = IsFound {T = Request} {A = Request} (λ w. w) (IsRequest words) (Err f)

  pub refused_words : (f : WordsFault) → IsRefused f → status_of (from_words f) ≡ 2 → MakeARequest words → ⊥
  refused_words Bad h e a = h a.0 a.1
  refused_words NoMemory h e a = absurd (cc e)

  pub refused_stands : (kept : Option (List Record)) (f : WordsFault) → IsRefused f
      → StandsUndone words kept (Of (from_words f))
  refused_stands kept Bad h = λ a. h a.0 a.1
  refused_stands kept NoMemory h = tt
