-- What is made of the values of an input: of one more of them, and at its end.
use Rattle.std.proofs.Common.{Err, [], refl, ap, arith, rules}
use Rattle.dsd_top.specs.Forms.{made_of}
use Rattle.dsd_top.proofs.Readings.{made_more, is_few, all_read, cut_off}
use Rattle.dsd_top.proofs.values.values_to_end.Goals as goal

pub loop-value-init : goal.loop-value-init
loop-value-init c = record {
  short = omega (arith, c.if-bytes-gt-INPUT_BYTES.false);
  made = record { vs = []; counted = refl; read = c.of-values.ensures; made = search rules };
}

pub overflow_add-place : goal.overflow_add-place
overflow_add-place c =
    let l = c.loop-value in
    let next = rw c.in-Ok-Some.field-0-is at c.in-Ok-Some.ensures.next in
    omega (
      arith,
      l.invariant.short,
      is_few c.args.input (made_of c.args.each) c.args.bytes.now l.place l.values l.out.items
          l.invariant.made c.next.new.self c.in-Ok-Some.value (λ vs s. next c.args.input c.args.bytes.now vs s),
    )

pub loop-value-preserved : goal.loop-value-preserved
loop-value-preserved c =
    let l = c.loop-value in
    let next = rw c.in-Ok-Some.field-0-is at c.in-Ok-Some.ensures.next in record {
      short = l.invariant.short;
      made = made_more c.args.input (made_of c.args.each) c.args.bytes.now l.place l.values l.out.items l.invariant.made
          c.next.new.self c.in-Ok-Some.value (λ vs s. next c.args.input c.args.bytes.now vs s) _
          c.in_ok-push_made-in-Ok-Some.ensures;
    }

pub returns-in-Ok-None-clause-made : goal.returns-in-Ok-None-clause-made
returns-in-Ok-None-clause-made c =
    let l = c.loop-value in
    let next = rw c.in-Ok-None.field-0-is at c.in-Ok-None.ensures.next in
    all_read c.args.input (made_of c.args.each) c.args.bytes.now l.place l.values l.out.items l.invariant.made
    l.invariant.short
    (λ vs s. next c.args.input c.args.bytes.now vs s)

pub returns-in-Err-Bad-clause-fault : goal.returns-in-Err-Bad-clause-fault
returns-in-Err-Bad-clause-fault c =
    let l = c.loop-value in
    cut_off c.args.input (made_of c.args.each) c.args.bytes.now l.place l.values l.out.items l.invariant.made
    l.invariant.short
    (λ vs s. c.in-Err-Bad.ensures.stop (ap Err c.in-Err-Bad.field-0-is) c.args.input c.args.bytes.now vs s)
