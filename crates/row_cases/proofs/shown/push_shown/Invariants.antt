use Rattle.std.proofs.Common.{◌≡◌, ◌++◌, drop, string_bytes}
use Rattle.row_cases.specs.Shown.{shown}
use Rattle.row_cases.proofs.shown.push_shown.Given as goal

-- what is shown, with what is to come
abbrev pub invariant-loop-byte : goal.invariant-loop-byte
invariant-loop-byte l =
    string_bytes l.line ++ shown (drop l.byte-index l.bytes) ≡ string_bytes l.initial.line ++ shown l.bytes
