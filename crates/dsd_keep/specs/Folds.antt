-- What is kept after words, one list of them after another, is what their commands leave; and keys aren't shown.
use Rattle.std.specs.Prelude.{◌≡◌, ℕ, ◌≤◌, ◌⊎◌, List, [], ◌∷◌, length, Contains, Option}
use Rattle.std.specs.Option.{option_map}
use Rattle.pv_value.specs.Plain.{Plain}
use Rattle.kp_keeper.specs.declared.records.Record.{Record}
use Rattle.kp_keeper.specs.Commands.{Ended, After}
use Rattle.kp_bound.specs.Bound.{IsShownOf}
use Rattle.dsd_keep.specs.Endings.{left_of}
use Rattle.dsd_keep.specs.Requests.{IfRequest, command_of}

-- words that ended at this status have left this of what was kept: all of it, where they were bad or memory was
-- wanting, else what their command leaves
abbrev pub Leave : List (List ℕ) → ℕ → Option (List Record) → Option (List Record) → Type 0
Leave words status before now =
    (Contains (2 ∷ 5 ∷ []) status × (now ≡ before)) ⊎ IfRequest words (λ w. now ≡ left_of w.action status before)

-- words, and the status at which they ended
pub record Said : Type 0 where
  pub words : List (List ℕ)
  pub status : ℕ

-- one after another they have left this
abbrev pub LeaveInTurn : List Said → Option (List Record) → Option (List Record) → Type 0
LeaveInTurn [] before now = now ≡ before
LeaveInTurn (s ∷ ss) before now =
    (between : Option (List Record)) × Leave s.words s.status before between × LeaveInTurn ss between now

-- their commands, each with its status: of words that ended at 2 or 5 there may be none
abbrev pub AreCommandsOf : List Said → List Ended → Type 0
AreCommandsOf [] es = es ≡ []
AreCommandsOf (s ∷ ss) es =
    (Contains (2 ∷ 5 ∷ []) s.status × AreCommandsOf ss es)
    ⊎ IfRequest s.words (λ w. (rest : List Ended)
    × (es ≡ record { command = command_of w.action; status = s.status } ∷ rest) × AreCommandsOf ss rest)

-- what is kept after words is what their commands leave, one after another
abbrev pub CommandsFold : Type 0
CommandsFold = (ss : List Said) (before now : Option (List Record)) → LeaveInTurn ss before now
    → (es : List Ended) × AreCommandsOf ss es × (now ≡ option_map (After es) before)

-- a record is shown as every other one that differs in its key alone
abbrev pub KeysAreNotShown : Type 0
KeysAreNotShown = (r s : Record) (v : Plain) → s.oid ≡ r.oid → s.space ≡ r.space → s.caveats ≡ r.caveats
    → length s.key ≤ 64 → IsShownOf r v → IsShownOf s v
