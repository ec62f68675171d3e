-- The goals of `pattern_value` that the check leaves.
use Rattle.std.proofs.Common.{◌+◌, List, drop, sym, ap, ◌∙◌, arith}
use Rattle.pv_value.specs.Plain.{then_more, no_more}
use Rattle.sr_caveat.specs.Lemmas.Dropping.{drop_is, drop_end}
use Rattle.sr_caveat.specs.Lemmas.Folding.{folded_on, folded_whole, folded_plains}
use Rattle.sr_caveat.specs.Patterns.{Pattern}
use Rattle.sr_caveat.specs.Spelled.{pattern_values}
use Rattle.sr_caveat.specs.View.{listed_patterns}
use Rattle.sr_caveat.specs.Lemmas.Falls.{pattern_at}
use Rattle.sr_caveat.proofs.spelling.+pattern_value.Goals as goal

pub pattern_values-pattern_value-requires : goal.pattern_values-pattern_value-requires
pattern_values-pattern_value-requires t c = (
  omega (
    arith,
    pattern_at c.args.patterns.now c.loop-pattern.pattern-index c.pattern-item.result (omega arith)
        c.pattern-item.is,
  ),
  tt,
)

pub pattern_values-loop-pattern-preserved : goal.pattern_values-loop-pattern-preserved
pattern_values-loop-pattern-preserved t c =
    let rest = λ (ps : List Pattern). pattern_values (listed_patterns ps) in
    let all = c.args.patterns.now in
    let i = c.loop-pattern.pattern-index in
    let later = rest (drop (i + 1) all) in
    let next = ap rest (drop_is all i c.pattern-item.result (omega arith) c.pattern-item.is) in
    folded_on then_more c.loop-pattern.values.items _ _ _ later (rest all) c.in_ok-push.ensures.items
    (ap (λ v. then_more v later) c.in_ok-pattern_value.ensures ∙ sym next) c.loop-pattern.invariant

pub pattern_values-returns : goal.pattern_values-returns
pattern_values-returns t c =
    let rest = λ (ps : List Pattern). pattern_values (listed_patterns ps) in
    let all = c.args.patterns.now in
    folded_whole then_more c.loop-pattern.values.items no_more _ (rest all) _
    (folded_plains c.loop-pattern.values.items)
    (sym (ap rest (drop_end all c.loop-pattern.pattern-index c.loop-pattern-test.false))) c.loop-pattern.invariant
