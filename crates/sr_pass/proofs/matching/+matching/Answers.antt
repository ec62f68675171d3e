-- The goals of `matching` that the check leaves.
use Rattle.std.proofs.Common.{is_some, option_and_then, sym, ap, ◌∙◌}
use Rattle.sr_caveat.specs.View.{listed_patterns, keys_of, view_pattern}
use Rattle.sr_pass.specs.Binding.{bound, each_bound, values_under}
use Rattle.std.proofs.Common.{arith}
use Rattle.sr_caveat.specs.Lemmas.Falls.{pattern_at}
use Rattle.pv_value.specs.Plain.{pairs}
use Rattle.std.proofs.Common.{map}
use Rattle.sr_pass.proofs.Beside.{lengths_differ, keys_differ}
use Rattle.sr_pass.proofs.matching.+matching.Goals as goal

pub all_match-matches-requires : goal.all_match-matches-requires
all_match-matches-requires t c = (
  omega (
    arith,
    pattern_at c.args.patterns.now c.loop-pattern.pattern-index c.pattern-item.result (omega arith) c.pattern-item.is,
  ),
  tt,
)

pub each_matches-matches-requires : goal.each_matches-matches-requires
each_matches-matches-requires t c = (
  omega (
    arith,
    pattern_at c.args.patterns.now c.loop-i.i c.index-patterns-i.result (omega arith) c.index-patterns-i.is,
  ),
  tt,
)

pub each_matches_under-matches-requires : goal.each_matches_under-matches-requires
each_matches_under-matches-requires t c = (
  omega (
    arith,
    pattern_at c.args.patterns.now c.loop-i.i c.index-patterns-i.result (omega arith) c.index-patterns-i.is,
  ),
  tt,
)

pub each_matches-returns-then-patterns-values : goal.each_matches-returns-then-patterns-values
each_matches-returns-then-patterns-values t c =
    lengths_differ c.args.patterns.now c.args.values.now (λ e. omega arith)

pub each_matches_under-returns-then-patterns-keys : goal.each_matches_under-returns-then-patterns-keys
each_matches_under-returns-then-patterns-keys t c =
    keys_differ c.args.patterns.now c.args.keys.now (pairs c.args.entries.now) (λ e. omega arith)

pub matches-returns-in-Dict : goal.matches-returns-in-Dict
matches-returns-in-Dict t c =
    c.is_dictionary.ensures
    ∙ (λ i. is_some (option_and_then (each_bound (listed_patterns (c.deref-in-Dict.ensures.value i)))
    (values_under (keys_of (c.as_slice.ensures.same i)) c.args.value.now)))
    ∙ ap (λ p. is_some (bound p c.args.value.now)) (sym (ap view_pattern c.in-Dict.is) ∙ c.pattern.view_is)
