-- What a record is of: the oid of its binding and the caveats, as a `<bind ..>` of a configuration has them.
use Rattle.std.specs.Prelude.{◌≡◌, ℕ, suc, zero, ◌≤◌, List, [], ◌∷◌, length, Option, Some, None}
use Rattle.pv_value.specs.Plain.{Plain, plains, sequence}
use Rattle.kp_keeper.specs.declared.records.Record.{Record}
use Rattle.kp_bound.specs.Forms.{IsBareFormOf}
pub use Rattle.kp_bound.specs.declared.spelled.Parts.{Parts}

-- it is to one of eight dataspaces, under a key of at most 64 bytes
abbrev pub IsWithin : Record → Type 0
IsWithin r = (length r.key ≤ 64) × (1 ≤ r.space) × (r.space ≤ 8)

-- the record is of this oid and of these caveats
pub record IsRecordOf (r : Record) (p : Parts) : Type 0 where
  pub within : IsWithin r
  pub oid : IsBareFormOf r.oid p.oid
  pub caveats : IsBareFormOf r.caveats (sequence (plains p.caveats))

-- both parts, where both are there
abbrev pub parts_with : Option Plain → Option (List Plain) → Option Parts
parts_with (Some oid) (Some caveats) = Some (record { oid = oid; caveats = caveats })
parts_with (Some oid) None = None
parts_with None caveats = None

-- it is of some
abbrev pub HasParts : Record → Type 0
HasParts r = (p : Parts) × IsRecordOf r p

-- record n, counted from 0, is the first that is of none
abbrev pub IsFirstBad : List Record → ℕ → Type 0
IsFirstBad [] n = ⊥
IsFirstBad (r ∷ rs) zero = HasParts r → ⊥
IsFirstBad (r ∷ rs) (suc n) = HasParts r × IsFirstBad rs n

-- one for each record, in order
abbrev pub AreEach : {X : Type 0} → (Record → X → Type 0) → List Record → List X → Type 0
AreEach Is [] [] = Unit {0}
AreEach Is [] (x ∷ xs) = ⊥
AreEach Is (r ∷ rs) [] = ⊥
AreEach Is (r ∷ rs) (x ∷ xs) = Is r x × AreEach Is rs xs
