use Rattle.std.proofs.Common.{drop}
use Rattle.dsd_top.specs.Asked.{texts}
use Rattle.dsd_keep.proofs.Spelled.{AreReadSoFar}
use Rattle.dsd_keep.proofs.spelling.values_in.Given as goal

-- the words so far are read
abbrev pub invariant-loop-word : goal.invariant-loop-word
invariant-loop-word l = AreReadSoFar (texts l.words) (texts (drop l.word-index l.words)) l.values.items
