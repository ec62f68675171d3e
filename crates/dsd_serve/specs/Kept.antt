-- Serving by kept bindings: the hub, and why the status isn't 0.
use Rattle.std.specs.Prelude.{◌≡◌, ℕ, List, [], ◌∷◌, Option, IfSome}
use Rattle.hub_machine.specs.State.{State}
use Rattle.kp_keeper.specs.declared.records.Record.{Record}
use Rattle.kp_bound.specs.Spelled.{IsFirstBad}
use Rattle.sc_kept.specs.Configured.{IsConfiguredBy}
use Rattle.dsd_top.specs.declared.faults.Fault.TheVariants as fault
use Rattle.dsd_serve.specs.Causes.{status_for, line_for}
use Rattle.dsd_serve.specs.Serving.{AskToServeKept}
use Rattle.dsd_serve.specs.declared.unserved.Unserved.{Unserved}
use Rattle.dsd_serve.specs.declared.unserved.Unserved.TheVariants.{Of, Unheard, KeeperFailed}

-- the statuses of words that ask to serve by kept bindings
abbrev pub kept_statuses : List ℕ
kept_statuses = 0 ∷ 2 ∷ 4 ∷ 5 ∷ 7 ∷ 8 ∷ 15 ∷ []

-- the records that were listed, which are those that are kept, where that is told, are such
abbrev pub IfListed : Option (List Record) → (List Record → Type 0) → Type 0
IfListed kept Are = (rs : List Record) × IfSome kept (λ told. rs ≡ told) × Are rs

-- each of them is bound in it, in order
abbrev pub IsKeptConfig : Option (List Record) → State → Type 0
IsKeptConfig kept s = IfListed kept (λ rs. IsConfiguredBy rs s)

-- what a cause says of the records that are kept, before anything is served
abbrev pub IsWhyUnbound : Option (List Record) → Unserved → Type 0
IsWhyUnbound kept (Of fault.NoMemory) = Unit {0}
IsWhyUnbound kept (Of (fault.BadConfig n)) = IfListed kept (λ rs. IsFirstBad rs n)
IsWhyUnbound kept (Of f) = ⊥
IsWhyUnbound kept Unheard = ⊥
IsWhyUnbound kept KeeperFailed = Unit {0}

-- and at any time
abbrev pub IsWhyUnservedKept : Option (List Record) → Unserved → Type 0
IsWhyUnservedKept kept (Of fault.WriteFailed) = Unit {0}
IsWhyUnservedKept kept Unheard = Unit {0}
IsWhyUnservedKept kept why = IsWhyUnbound kept why

-- what it says of the words
abbrev pub StandsServingKept : List (List ℕ) → Option (List Record) → Unserved → Type 0
StandsServingKept words kept (Of fault.BadWords) = AskToServeKept words → ⊥
StandsServingKept words kept why = AskToServeKept words × IsWhyUnservedKept kept why

-- a cause of this status stands
abbrev pub IsUnservedKept : List (List ℕ) → Option (List Record) → ℕ → Type 0
IsUnservedKept words kept status =
    (why : Unserved) × (status_for why ≡ status) × StandsServingKept words kept why

-- and its line was appended, all of it or a front, as `Grows` says
abbrev pub SaysWhyKept : (Option (List ℕ) → Option (List ℕ) → List ℕ → Type 0) → List (List ℕ) → Option (List Record)
    → ℕ → Option (List ℕ) → Option (List ℕ) → Type 0
SaysWhyKept Grows words kept status before now =
    (why : Unserved) × (status_for why ≡ status) × StandsServingKept words kept why × Grows before now (line_for why)
