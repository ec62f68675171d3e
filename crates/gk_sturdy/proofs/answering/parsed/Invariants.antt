use Rattle.std.proofs.Common.{◌≡◌, take, map, false}
use Rattle.sr_caveat.specs.Written.{caveat_of}
use Rattle.gk_sturdy.proofs.answering.parsed.Given as goal

abbrev pub invariant-loop-caveat : goal.invariant-loop-caveat
invariant-loop-caveat l = l.caveats.items ≡ map (caveat_of false) (take l.caveat-index l.list)
