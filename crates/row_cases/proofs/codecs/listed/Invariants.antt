use Rattle.std.proofs.Common.{◌≡◌, take, string_bytes}
use Rattle.row_cases.specs.Told.{tokens_told}
use Rattle.row_cases.proofs.codecs.listed.Given as goal

-- the tokens so far are told
abbrev pub invariant-loop-i : goal.invariant-loop-i
invariant-loop-i l = string_bytes l.line ≡ tokens_told (take l.i l.tokens)
