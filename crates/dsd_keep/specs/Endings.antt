-- What a status says of what was asked, of what was kept and of what was written, and what is kept after it.
use Rattle.std.specs.Prelude.{◌≡◌, ℕ, true, false, List, [], Option, IfSome}
use Rattle.std.specs.Option.{option_map}
use Rattle.pv_value.specs.Plain.{Plain}
use Rattle.pv_print.specs.Lines.{lines}
use Rattle.kp_keeper.specs.Records.{is_kept}
use Rattle.kp_keeper.specs.declared.records.Record.{Record}
use Rattle.kp_keeper.specs.Keeping.{most_records, put_answer}
use Rattle.kp_keeper.specs.Commands.{left_by}
use Rattle.kp_keeper.specs.declared.keeper.Kept.TheVariants.{Done, There, Full}
use Rattle.kp_bound.specs.Bound.{AreShownOf}
use Rattle.kp_bound.specs.Spelled.{IsFirstBad}
use Rattle.dsd_top.specs.declared.faults.Fault.TheVariants as fault
use Rattle.dsd_keep.specs.Undone.{status_by, line_by}
use Rattle.dsd_keep.specs.Requests.{MakeARequest, IfRequest, command_of}
use Rattle.dsd_keep.specs.declared.undone.Undone.{Undone}
use Rattle.dsd_keep.specs.declared.undone.Undone.TheVariants.{Of, KeeperFailed, BoundAlready, NotBound}
use Rattle.dsd_keep.specs.declared.requests.Action.{Action}
use Rattle.dsd_keep.specs.declared.requests.Action.TheVariants as actions

-- ---- what is kept

-- what is kept, where that is told, after what was asked ended at this status: of what commands leave
abbrev pub left_of : Action → ℕ → Option (List Record) → Option (List Record)
left_of d status kept = option_map (left_by (command_of d) status) kept

-- ---- where it is done

-- `<binding oid space [caveat ..]>` for each record, on a line each, in order
abbrev pub AreLinesOf : List Record → List ℕ → Type 0
AreLinesOf rs text = (vs : List Plain) × AreShownOf rs vs × (text ≡ lines vs)

-- it is done over what was kept, where that is told, and its text is this: the line of the record that wasn't kept
-- before and for which there was room; the lines of what is kept; nothing for the oid that was kept
abbrev pub IsDoneBy : Action → Option (List Record) → List ℕ → Type 0
IsDoneBy (actions.Add r line) kept text = IfSome kept (λ rs. put_answer r rs ≡ Done) × (text ≡ line.items)
IsDoneBy actions.List kept text = (rs : List Record) × IfSome kept (λ told. rs ≡ told) × AreLinesOf rs text
IsDoneBy (actions.Revoke oid) kept text = IfSome kept (λ rs. is_kept oid rs ≡ true) × (text ≡ [])

-- and the text was appended, all of it or a front, as `Grows` says
abbrev pub IsDone : (Option (List ℕ) → Option (List ℕ) → List ℕ → Type 0) → Action → Option (List Record)
    → Option (List ℕ) → Option (List ℕ) → Type 0
IsDone Grows d kept before now = (text : List ℕ) × IsDoneBy d kept text × Grows before now text

-- ---- where it isn't

-- what a cause says of the record that was to be kept, and of what was kept
abbrev pub IsWhyUnadded : Record → Option (List Record) → Undone → Type 0
IsWhyUnadded r kept (Of fault.NoMemory) = Unit {0}
IsWhyUnadded r kept (Of (fault.Limit w)) = (w ≡ 6) × IfSome kept (λ rs. put_answer r rs ≡ Full most_records)
IsWhyUnadded r kept (Of f) = ⊥
IsWhyUnadded r kept KeeperFailed = Unit {0}
IsWhyUnadded r kept BoundAlready = IfSome kept (λ rs. put_answer r rs ≡ There)
IsWhyUnadded r kept NotBound = ⊥

-- of what was listed
abbrev pub IsWhyUnlisted : Option (List Record) → Undone → Type 0
IsWhyUnlisted kept (Of fault.NoMemory) = Unit {0}
IsWhyUnlisted kept (Of (fault.BadConfig n)) =
    (rs : List Record) × IfSome kept (λ told. rs ≡ told) × IsFirstBad rs n
IsWhyUnlisted kept (Of f) = ⊥
IsWhyUnlisted kept KeeperFailed = Unit {0}
IsWhyUnlisted kept BoundAlready = ⊥
IsWhyUnlisted kept NotBound = ⊥

-- of the oid that was to be let go
abbrev pub IsWhyUnrevoked : List ℕ → Option (List Record) → Undone → Type 0
IsWhyUnrevoked oid kept (Of fault.NoMemory) = Unit {0}
IsWhyUnrevoked oid kept (Of f) = ⊥
IsWhyUnrevoked oid kept KeeperFailed = Unit {0}
IsWhyUnrevoked oid kept BoundAlready = ⊥
IsWhyUnrevoked oid kept NotBound = IfSome kept (λ rs. is_kept oid rs ≡ false)

-- a cause that comes of the keeper and of what it keeps
abbrev pub IsWhyUnsettled : Action → Option (List Record) → Undone → Type 0
IsWhyUnsettled (actions.Add r line) kept why = IsWhyUnadded r kept why
IsWhyUnsettled actions.List kept why = IsWhyUnlisted kept why
IsWhyUnsettled (actions.Revoke oid) kept why = IsWhyUnrevoked oid kept why

-- to let an oid go writes nothing
abbrev pub Writes : Action → Type 0
Writes (actions.Revoke oid) = ⊥
Writes d = Unit {0}

-- what a cause says of what was asked, and of what was kept
abbrev pub IsWhyUndone : Action → Option (List Record) → Undone → Type 0
IsWhyUndone d kept (Of fault.WriteFailed) = Writes d
IsWhyUndone d kept why = IsWhyUnsettled d kept why

-- what it says of the words
abbrev pub StandsUndone : List (List ℕ) → Option (List Record) → Undone → Type 0
StandsUndone words kept (Of fault.BadWords) = MakeARequest words → ⊥
StandsUndone words kept (Of fault.NoMemory) = Unit {0}
StandsUndone words kept why = IfRequest words (λ w. IsWhyUndone w.action kept why)

-- a cause of this status stands
abbrev pub IsUndone : List (List ℕ) → Option (List Record) → ℕ → Type 0
IsUndone words kept status = (why : Undone) × (status_by why ≡ status) × StandsUndone words kept why

-- and its line was appended, all of it or a front, as `Grows` says
abbrev pub SaysWhy : (Option (List ℕ) → Option (List ℕ) → List ℕ → Type 0) → List (List ℕ) → Option (List Record) → ℕ
    → Option (List ℕ) → Option (List ℕ) → Type 0
SaysWhy Grows words kept status before now =
    (why : Undone) × (status_by why ≡ status) × StandsUndone words kept why × Grows before now (line_by why)
