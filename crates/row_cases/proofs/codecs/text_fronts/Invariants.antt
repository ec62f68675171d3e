use Rattle.std.proofs.Common.{◌-◌, ◌≤◌, length, codes, string_bytes}
use Rattle.row_cases.specs.Calls.{TellFronts, GivesFirstEnd}
use Rattle.row_cases.proofs.codecs.text_fronts.Given as goal

-- the fronts of fewer bytes are told
abbrev pub invariant-loop-count : goal.invariant-loop-count
invariant-loop-count l =
    TellFronts GivesFirstEnd (codes "Unclosed at ") l.text (l.count - 1) (string_bytes l.line)
    × (l.count - 1 ≤ length l.text - 1)
