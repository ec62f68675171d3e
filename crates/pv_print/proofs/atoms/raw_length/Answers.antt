use Rattle.std.proofs.Common.{◌∙◌, refl, sym, arith}
use Rattle.pv_print.proofs.Escaped.{raw_more}
use Rattle.pv_print.proofs.atoms.raw_length.Goals as goal

pub loop-n-preserved : goal.loop-n-preserved
loop-n-preserved c = record {
  within = omega arith;
  raw = raw_more c.args.quote c.args.text.now c.loop-n.n _ (omega arith) refl c.loop-n.invariant.raw
      (sym c.stands_raw.ensures ∙ c.if-stands_raw.true);
}
