-- What the words give: the record that is to be kept and the line of its signed reference, or the oid that is let go.
use Rattle.std.specs.Prelude.{◌≡◌, ℕ, List, [], ◌∷◌, Option, Some}
use Rattle.pv_value.specs.Plain.{Plain, plains, sequence}
use Rattle.pv_canon.specs.Canonical.{canonical}
use Rattle.kp_keeper.specs.declared.records.Record.{Record}
use Rattle.kp_keeper.specs.Commands.{Command, add, revoke, list}
use Rattle.kp_bound.specs.Spelled.{HasParts}
use Rattle.dsd_top.specs.Asked.{Minting}
use Rattle.dsd_top.specs.Minting.{IsPlainText, IsKey, IsReferenceLine}
use Rattle.dsd_top.specs.Numbers.{IsNumberWithin}
use Rattle.dsd_keep.specs.Asked.{Adding}
use Rattle.dsd_keep.specs.Words.{asking_of, Asking}
use Rattle.dsd_keep.specs.declared.words.Asked.{Asked}
use Rattle.dsd_keep.specs.declared.words.Asked.TheVariants as asks
use Rattle.dsd_keep.specs.declared.requests.Action.{Action}
use Rattle.dsd_keep.specs.declared.requests.Action.TheVariants as actions
pub use Rattle.dsd_keep.specs.Request.{Request}

-- the word is the text of a value with nothing embedded in it, and this is its canonical form
abbrev pub IsForm : List ℕ → List ℕ → Type 0
IsForm word form = (v : Plain) × IsPlainText word v × (form ≡ canonical v)

-- each word is the text of a value with nothing embedded in it, and these are the values
abbrev pub ArePlainTexts : List (List ℕ) → List Plain → Type 0
ArePlainTexts [] [] = Unit {0}
ArePlainTexts [] (v ∷ vs) = ⊥
ArePlainTexts (w ∷ ws) [] = ⊥
ArePlainTexts (w ∷ ws) (v ∷ vs) = IsPlainText w v × ArePlainTexts ws vs

-- this is the canonical form of their sequence
abbrev pub AreCaveats : List (List ℕ) → List ℕ → Type 0
AreCaveats words form = (vs : List Plain) × ArePlainTexts words vs × (form ≡ canonical (sequence (plains vs)))

-- the words behind `add` spell the record: its oid, its key, its dataspace from 1 to 8, and its caveats
pub record IsSpelledBy (a : Adding) (r : Record) : Type 0 where
  pub oid : IsForm a.oid r.oid
  pub key : IsKey a.key r.key
  pub space : IsNumberWithin 1 8 a.space r.space
  pub caveats : AreCaveats a.caveats r.caveats

-- and it can be read again, as one whose caveats nest too deep can't
abbrev pub IsRecordBy : Adding → Record → Type 0
IsRecordBy a r = IsSpelledBy a r × HasParts r

-- what `mint` takes for its signed reference: the oid and the key alone, since the caveats are the binding's
abbrev pub minting_of : Adding → Minting
minting_of a = record { oid = a.oid; key = a.key; caveats = [] }

-- what is asked is this: to keep the record, whose signed reference `mint` prints on that line; or to let the oid go; or
-- to list
abbrev pub IsAction : Asked → Action → Type 0
IsAction (asks.Add a) (actions.Add r line) = IsRecordBy a r × IsReferenceLine (minting_of a) line.items
IsAction (asks.Revoke w) (actions.Revoke oid) = IsForm w.oid oid
IsAction asks.List actions.List = Unit {0}
IsAction asked action = ⊥

abbrev pub command_of : Action → Command
command_of (actions.Add r line) = add r
command_of (actions.Revoke oid) = revoke oid
command_of actions.List = list

-- the words ask this, of this file
pub record IsRequest (words : List (List ℕ)) (w : Request) : Type 0 where
  pub asking : Asking
  pub asked : asking_of words ≡ Some asking
  pub file : w.file ≡ asking.file
  pub action : IsAction asking.asked w.action

abbrev pub MakeARequest : List (List ℕ) → Type 0
MakeARequest words = (w : Request) × IsRequest words w

-- the words ask something, of which this holds
abbrev pub IfRequest : List (List ℕ) → (Request → Type 0) → Type 0
IfRequest words Is = (w : Request) × IsRequest words w × Is w
