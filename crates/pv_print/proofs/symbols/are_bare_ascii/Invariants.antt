use Rattle.std.proofs.Common.{◌≡◌, drop}
use Rattle.pv_lex.specs.Characters.{all_of}
use Rattle.pv_print.specs.Bare.{is_bare_ascii}
use Rattle.pv_print.proofs.symbols.are_bare_ascii.Given as goal

abbrev pub invariant-loop-b : goal.invariant-loop-b
invariant-loop-b l = all_of is_bare_ascii (drop l.b-index l.text) ≡ all_of is_bare_ascii l.text
