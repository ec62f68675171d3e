use Rattle.std.proofs.Common.{◌≡◌, ◌++◌, take, string_bytes}
use Rattle.row_cases.specs.Shown.{digits_shown}
use Rattle.row_cases.proofs.shown.push_digits.Given as goal

-- the bytes so far are shown
abbrev pub invariant-loop-i : goal.invariant-loop-i
invariant-loop-i l = string_bytes l.line ≡ string_bytes l.initial.line ++ digits_shown (take l.i l.bytes)
