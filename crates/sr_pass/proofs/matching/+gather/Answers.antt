-- The goals of `gather` that the check leaves.
use Rattle.std.proofs.Common.{◌++◌, map, sym, ap, ◌∙◌, append-nil}
use Rattle.pv_value.specs.Plain.{pairs}
use Rattle.sr_pass.proofs.Beside.{each_end, under_end}
use Rattle.std.proofs.Common.{arith}
use Rattle.sr_caveat.specs.Lemmas.Falls.{pattern_at}
use Rattle.sr_pass.proofs.matching.+gather.Goals as goal

pub gather_all-gather-requires : goal.gather_all-gather-requires
gather_all-gather-requires t c = (
  omega (
    arith,
    pattern_at c.args.patterns.now c.loop-pattern.pattern-index c.pattern-item.result (omega arith) c.pattern-item.is,
  ),
  tt,
)

pub gather_each-gather-requires : goal.gather_each-gather-requires
gather_each-gather-requires t c = (
  omega (
    arith,
    pattern_at c.args.patterns.now c.loop-i.i c.index-patterns-i.result (omega arith) c.index-patterns-i.is,
  ),
  tt,
)

pub gather_under-gather_part-requires : goal.gather_under-gather_part-requires
gather_under-gather_part-requires t c = (
  omega (
    arith,
    pattern_at c.args.patterns.now c.loop-i.i c.index-patterns-i.result (omega arith) c.index-patterns-i.is,
  ),
  tt,
)

pub gather_each-returns : goal.gather_each-returns
gather_each-returns t c =
    sym (append-nil c.loop-i.found.items)
    ∙ ap (λ xs. c.loop-i.found.items ++ xs)
    (sym (each_end c.args.patterns.now c.args.values.now c.loop-i.i (omega arith)))
    ∙ c.loop-i.invariant

pub gather_under-returns : goal.gather_under-returns
gather_under-returns t c =
    sym (append-nil c.loop-i.found.items)
    ∙ ap (λ xs. c.loop-i.found.items ++ xs)
    (sym (under_end c.args.patterns.now c.args.keys.now (pairs c.args.entries.now) c.loop-i.i
    (omega arith)))
    ∙ c.loop-i.invariant
