use Rattle.std.proofs.Common.{◌≡◌, ◌++◌, drop}
use Rattle.pv_lex.specs.Unspaced.{without_spaces}
use Rattle.pv_lex.proofs.characters.without_spaces.Given as goal

abbrev pub invariant-loop-b : goal.invariant-loop-b
invariant-loop-b l = l.out.items ++ without_spaces (drop l.b-index l.bytes) ≡ without_spaces l.bytes
