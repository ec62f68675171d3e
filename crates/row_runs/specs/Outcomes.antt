-- What comes of a row, and what a row that passes says of the definitions.
use Rattle.std.specs.Prelude.{◌≡◌, ◌≢◌, ◌≤◌, ◌⊎◌, ℕ, List, [], ◌∷◌, length, take, Bool, true, Some, None, Contains}
use Rattle.std.specs.Prelude.{All, IfSome}
use Rattle.dsd_top.specs.Commands.{request_of, command_of, notice_of, AreOfTable, IsTextOf, is_serve}
use Rattle.dsd_top.specs.Schemas.{Files}
use Rattle.dsd_top.specs.Statuses.{statuses_of, file_of, IsAnswerOf, IsBadInput, IsOver, IsBadConfig}
use Rattle.dsd_top.specs.Statuses.{IsUntold, Stands}
use Rattle.dsd_top.specs.Lines.{Says, SaysFront}
use Rattle.dsd_top.specs.declared.words.Command.{Command}
use Rattle.dsd_top.specs.declared.words.Notice.{Notice}
use Rattle.out_ports.specs.Ports.{Rose}
use Rattle.out_ports.specs.MemHost.{ToldHost, host_of}
use Rattle.out_ports.specs.MemListen.{listener_of}
use Rattle.out_ports.specs.MemSource.{ToldSource, source_of}
use Rattle.out_ports.specs.MemSink.{ToldSink, sink_of}
use Rattle.row_files.specs.Rows.{RowTold, AreRowsIn}

-- a front of these bytes
abbrev pub IsSomeFront : List ℕ → List ℕ → Type 0
IsSomeFront bytes out = (n : ℕ) × (n ≤ length bytes) × (out ≡ take n bytes)

-- a front of what the command makes of the input, where these are the files
abbrev pub IsFrontOfAnswer : Files → Command → List ℕ → List ℕ → Type 0
IsFrontOfAnswer files c input output = (whole : List ℕ) × IsAnswerOf files c input whole × IsSomeFront whole output

-- a front of the notice's text
abbrev pub IsFrontOfText : Notice → List ℕ → Type 0
IsFrontOfText n output = (whole : List ℕ) × IsTextOf n whole × IsSomeFront whole output

-- the input, the output and standard error, and the host, in memory
pub record Streams : Type 0 where
  pub input : ToldSource
  pub out : ToldSink
  pub diag : ToldSink
  pub host : ToldHost

-- those that a row gives: the input and the output fail where it says so; of a line 4,096 bytes are kept; the host has
-- the row's files, and no links
abbrev pub streams_of : RowTold → Streams
streams_of row = record {
  input = source_of row.input row.piece row.takes;
  out = sink_of row.room row.puts;
  diag = sink_of 4096 [];
  host = host_of row.files (listener_of [] []) [] [];
}

-- what a status says of the program's words, and of what the streams were and are then
pub record IsRun (words : List (List ℕ)) (before now : Streams) (status : ℕ) : Type 0 where
  pub of_request : Contains (statuses_of (request_of words)) status
  pub bad_words : status ≡ 2 → AreOfTable words → ⊥
  pub other_words : (AreOfTable words → ⊥) → Contains (2 ∷ 5 ∷ []) status
  pub done : status ≡ 0 → IfSome (command_of words) (λ c. IsAnswerOf (Some before.host.files) c before.input.left
      now.out.held)
  pub shown : status ≡ 0 → IfSome (notice_of words) (λ n. IsTextOf n now.out.held)
  pub bad_input : status ≡ 1 → IfSome (command_of words) (λ c. IsBadInput (Some before.host.files) c before.input.left)
  pub limit : status ≡ 6 → IfSome (command_of words) (λ c. IsOver (Some before.host.files) c before.input.left)
  pub bad_config : status ≡ 7 → IfSome (command_of words) (λ c. IsBadConfig (Some before.host.files) c
      before.input.left)
  pub cut : status ≡ 4 → IfSome (command_of words) (λ c. IsFrontOfAnswer (Some before.host.files) c before.input.left
      now.out.held)
  pub shown_front : status ≡ 4 → IfSome (notice_of words) (λ n. IsFrontOfText n now.out.held)
  pub untold : status ≢ 0 → IfSome (notice_of words) (IsUntold status)
  pub unwritten : status ≢ 0 → status ≢ 4 → now.out.held ≡ []
  -- the input ended, or wasn't read
  pub ended : status ≢ 3 → status ≢ 5 → (status ≡ 7 → file_of (command_of words) ≡ None)
      → IfSome (command_of words) (λ c. now.input.ended ≡ true)
  pub unread : command_of words ≡ None → now.input ≡ before.input
  pub unread_yet : status ≡ 7 → file_of (command_of words) ≢ None → now.input ≡ before.input
  -- a take, or the reading of a file before it, or a put, has failed
  pub read_failed : status ≡ 3 → Rose before.input.calls.faults now.input.calls.faults
      ⊎ ((file_of (command_of words) ≢ None) × (now.input ≡ before.input)
      × Rose before.host.file_calls.faults now.host.file_calls.faults)
  pub write_failed : status ≡ 4 → 1 ≤ now.out.calls.faults
  -- the host was asked for a file, where a command reads one, and for nothing else
  pub unasked : file_of (command_of words) ≡ None → now.host ≡ before.host
  pub same_files : now.host.files ≡ before.host.files
  -- standard error has a front of the line of a cause that stands, and all of it where no put has failed
  pub silent : status ≡ 0 → now.diag.held ≡ before.diag.held
  pub said : status ≢ 0 → SaysFront (Stands (request_of words) (Some before.host.files) (Some before.input.left)) status
      (Some before.diag.held) (Some now.diag.held)
  pub said_all : status ≢ 0 → (Rose before.diag.calls.faults now.diag.calls.faults → ⊥)
      → Says (Stands (request_of words) (Some before.host.files) (Some before.input.left)) status
      (Some before.diag.held) (Some now.diag.held)

-- a status, a line on standard error and an output come of a row
abbrev pub IsOutcome : RowTold → ℕ → List ℕ → List ℕ → Type 0
IsOutcome row status line output =
    (now : Streams) × IsRun row.words (streams_of row) now status × (line ≡ now.diag.held)
    × (output ≡ now.out.held)

-- what isn't run: words whose first begins with `serve`, or an input in pieces of no byte
abbrev pub IsUnfit : List (List ℕ) → ℕ → Type 0
IsUnfit words piece = (is_serve words ≡ true) ⊎ (piece ≡ 0)

-- the status, the line and the output of a row are what comes of it
abbrev pub RowHolds : RowTold → Type 0
RowHolds row = IsOutcome row row.status row.error row.output

-- the rows of a file hold, and so many passed
abbrev pub FileHolds : List ℕ → ℕ → Type 0
FileHolds text passed =
    (rows : List RowTold) × AreRowsIn text rows × All RowHolds rows × (passed ≡ length rows)

-- each row is a case
abbrev pub is_row : RowTold → Bool
is_row row = true
