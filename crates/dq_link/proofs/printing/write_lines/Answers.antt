use Rattle.std.proofs.Common.{◌≡◌, ◌∙◌, ◌+◌, ◌++◌, ◌∷◌, List, [], take, ap, sym, subst, arith}
use Rattle.std.proofs.lemmas.List.{take_more}
use Rattle.out_ports.specs.Ports.{Appends}
use Rattle.dq_core.specs.declared.lines.Line.{Line}
use Rattle.dq_core.specs.Lines.{lines_text}
use Rattle.dq_link.specs.Going.{Written}
use Rattle.dq_link.proofs.Reacting.{one_line, lines_stop}
use Rattle.dq_link.proofs.Staying.{on_err, output_later}
use Rattle.dq_link.proofs.printing.write_lines.Goals as goal

pub loop-line-preserved : goal.loop-line-preserved
loop-line-preserved g c =
    let xs = c.args.lines.now in
    let i = c.loop-line.line-index in
    let l = c.line-item.result in
    let so_far = c.loop-line.invariant in
    let wrote = c.in_ok-write_line.ensures in
    let before = g.O.Sink.held c.args.out.now in
    let mid = g.O.Sink.held c.loop-line.out in
    let now = g.O.Sink.held c.write_line.new.out in
    let more : take (i + 1) xs ≡ take i xs ++ l ∷ [] =
    take_more xs i l (omega arith) ∙ ap (λ (x : Line). take i xs ++ x ∷ []) (sym c.line-item.is) in
    record {
      written = subst (λ (ls : List Line). Appends before now (lines_text ls)) (sym more)
          (one_line before mid now (take i xs) l so_far.written wrote.written);
      lasting = omega (arith, so_far.lasting, wrote.lasting);
      unfinished = wrote.unfinished ∙ so_far.unfinished;
    }

pub returns-in_err-write_line-clause-written : goal.returns-in_err-write_line-clause-written
returns-in_err-write_line-clause-written g c =
    let xs = c.args.lines.now in
    let i = c.loop-line.line-index in
    let l = c.line-item.result in
    let so_far = c.loop-line.invariant in
    let wrote = c.in_err-write_line.ensures.written in
    let e = c.in_err-write_line.field-0.0 in
    let before = g.O.Sink.held c.args.out.now in
    let mid = g.O.Sink.held c.loop-line.out in
    let now = g.O.Sink.held c.write_line.new.out in
    let faults = g.O.Sink.faults c.args.out.now in
    let rises = g.O.Sink.faults c.loop-line.out in
    let risen = g.O.Sink.faults c.write_line.new.out in
    on_err (λ r. Written r before now (lines_text xs) faults risen) c.from_residual.result e c.from_residual.ensures.1 (
      output_later e faults rises risen so_far.lasting wrote.0,
      lines_stop before mid now xs i l (omega arith) c.line-item.is so_far.written wrote.1,
    )
