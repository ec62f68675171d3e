use Rattle.std.proofs.Common.{◌≡◌}
use Rattle.pv_lex.specs.Characters.{run}
use Rattle.pv_lex.specs.Classes.{has}
use Rattle.pv_lex.specs.Lemmas.Runs.{from}
use Rattle.pv_lex.proofs.runs.run.Given as goal

abbrev pub invariant-loop-i : goal.invariant-loop-i
invariant-loop-i l = from (has l.class) l.bytes l.i ≡ run (has l.class) l.bytes
