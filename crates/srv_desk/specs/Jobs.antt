-- Which half of a link a job has, and what a job does behind its session.
use Rattle.std.specs.Prelude.{◌≡◌, ◌⊎◌, ℕ, List, [], ◌∷◌, ◌++◌, Bool, true, false}
use Rattle.hub_machine.specs.declared.steps.Step.TheVariants.{Close}
use Rattle.hub_machine.specs.declared.steps.Reply.{Reply}
use Rattle.srv_turns.specs.Rounds.{Pair}
use Rattle.srv_turns.specs.declared.reader.ReaderEnd.{ReaderEnd}
use Rattle.srv_turns.specs.declared.reader.ReaderEnd.TheVariants as reader
use Rattle.srv_turns.specs.declared.writer.WriterEnd.{WriterEnd}
use Rattle.srv_turns.specs.declared.writer.WriterEnd.TheVariants as writer
use Rattle.srv_desk.specs.declared.jobs.Half.{Half}
use Rattle.srv_desk.specs.declared.jobs.Half.TheVariants.{Reads, Writes}

abbrev pub is_reading : {R W : Type 0} → Half R W → Bool
is_reading (Reads r) = true
is_reading (Writes w) = false

-- a session ended for want of memory
abbrev pub is_reader_out : ReaderEnd → Bool
is_reader_out reader.NoMemory = true
is_reader_out e = false

abbrev pub is_writer_out : WriterEnd → Bool
is_writer_out writer.NoMemory = true
is_writer_out e = false

-- connection k was closed; or the steps are spent, or what they change was given up
abbrev pub IsClosed : ℕ → List Pair → List Pair → Bool → Bool → Type 0
IsClosed k before now spent lost =
    ((r : Reply) × (now ≡ before ++ (Close k, r) ∷ []))
    ⊎ ((now ≡ before) × ((spent ≡ true) ⊎ (lost ≡ true)))

-- behind a session that ended for want of memory its connection is closed, and behind others nothing is done
abbrev pub IsLeft : ℕ → Bool → List Pair → List Pair → Bool → Bool → Type 0
IsLeft k true before now spent lost = IsClosed k before now spent lost
IsLeft k false before now spent lost = now ≡ before
