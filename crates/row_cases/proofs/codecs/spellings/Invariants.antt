use Rattle.std.proofs.Common.{◌≡◌, ◌++◌, drop}
use Rattle.pv_value.specs.Plain.{plains}
use Rattle.pv_binary.specs.Written.{written_all}
use Rattle.row_cases.proofs.codecs.spellings.Given as goal

-- what is written, with what is to come
abbrev pub invariant-loop-value : goal.invariant-loop-value
invariant-loop-value l =
    l.bytes.items ++ written_all (plains (drop l.value-index l.values)) ≡ written_all (plains l.values)
