use Rattle.std.proofs.Common.{refl, arith}
use Rattle.pv_binary.specs.Numbers.{varint}
use Rattle.pv_value.specs.Lemmas.Appending.{starts_same, starts_trans}
use Rattle.pv_binary.proofs.Numbers.{varint_more}
use Rattle.pv_binary.proofs.writing.push_varint.Goals as goal

pub loop-rest-init : goal.loop-rest-init
unfolding varint
loop-rest-init c = ((c.args.n, omega arith, refl), starts_same _)

pub loop-rest-preserved : goal.loop-rest-preserved
loop-rest-preserved c =
    let i = c.loop-rest.invariant.0 in (
      varint_more i.0 c.loop-rest.rest _ _ _ (omega arith) i.1 i.2 c.in_ok-push_byte.ensures.all,
      starts_trans _ _ _ c.loop-rest.invariant.1 c.in_ok-push_byte.ensures.front,
    )
