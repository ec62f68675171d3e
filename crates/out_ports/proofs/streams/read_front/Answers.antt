use Rattle.std.proofs.Common.{arith}
use Rattle.out_ports.proofs.Parts.{IsPartRead-front}
use Rattle.out_ports.proofs.streams.read_front.Goals as goal

pub loop-buf-preserved : goal.loop-buf-preserved
loop-buf-preserved g c = record {
  content = IsPartRead-front _ _ _ _ _ _ _ c.loop-buf.invariant.content c.in-Some.ensures.content
      c.in_ok-extend_from_slice-in-Some.ensures.items;
  lasting = omega arith;
}
