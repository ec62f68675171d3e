use Rattle.std.proofs.Common.{arith}
use Rattle.out_ports.proofs.Parts.{IsPartKept-front}
use Rattle.out_ports.proofs.streams.read_kept.Goals as goal

pub loop-preserved : goal.loop-preserved
loop-preserved g c = record {
  content = IsPartKept-front _ _ _ _ _ _ _ _ c.loop.invariant.content c.in-Some.ensures.content
      c.in_ok-keep-in-Some.ensures;
  lasting = omega arith;
}
