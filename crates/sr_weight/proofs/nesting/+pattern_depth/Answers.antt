-- The goals of `pattern_depth` that the check leaves.
use Rattle.std.proofs.Common.{◌≡◌, ◌+◌, ◌<◌, min, List, map, take, sym, ap, ◌∙◌, max, arith}
use Rattle.sr_caveat.specs.Lemmas.Falls.{pattern_at}
use Rattle.pv_value.specs.Plain.{Plain}
use Rattle.pv_value.specs.View.{key_and_value}
use Rattle.pv_value.specs.Depth.{depth, deepest, deepest_pair}
use Rattle.sr_caveat.specs.Lemmas.Measures.{measure, measure_all}
use Rattle.sr_caveat.specs.Patterns.{Pattern}
use Rattle.sr_caveat.specs.Spelled.{paired_with, pattern_value, pattern_values}
use Rattle.sr_caveat.specs.View.{keys_of, listed_patterns, view_pattern}
use Rattle.sr_weight.proofs.Fronts.{patterns_front, patterns_depth}
use Rattle.sr_weight.proofs.nesting.+pattern_depth.Goals as goal

pub pattern_depths-pattern_depth-requires : goal.pattern_depths-pattern_depth-requires
pattern_depths-pattern_depth-requires t c = (
  omega (
    arith,
    pattern_at c.args.patterns.now c.loop-pattern.pattern-index c.pattern-item.result (omega arith)
        c.pattern-item.is,
  ),
  tt,
)

pub pattern_depth-pattern_depths-patterns-requires : goal.pattern_depth-pattern_depths-patterns-requires
pattern_depth-pattern_depths-patterns-requires t c =
    let is = sym (ap view_pattern c.in-Dict.is) ∙ c.pattern.view_is in
    let falls : measure_all (listed_patterns (take c.min-count.result c.deref-in-Dict.result.now))
    < t =
    omega (
      arith,
      c.decreases,
      ap measure is,
      ap (λ (l : List Pattern). measure_all (listed_patterns l)) c.deref-in-Dict.ensures.value,
      patterns_front c.min-count.result c.deref-in-Dict.result.now,
    ) in
    (falls, tt)

pub pattern_depth-returns-in-Dict : goal.pattern_depth-returns-in-Dict
pattern_depth-returns-in-Dict t c =
    let is = sym (ap view_pattern c.in-Dict.is) ∙ c.pattern.view_is in
    let n = c.min-count.result in
    let es = c.as_slice-keys.result.now in
    let all = c.in-Dict.patterns.items in
    let front = c.deref-in-Dict.result.now in
    let view = ap (λ (p : Pattern). depth (pattern_value p)) is in
    let same = ap (λ (ks : List (Plain × Plain)). deepest_pair
    (paired_with (keys_of ks) (pattern_values (listed_patterns all))))
    c.as_slice-keys.ensures.same in
    let apart = patterns_depth es all n (omega (arith, c.len.ensures, c.min-count.ensures)) in
    let first = ap (λ (l : List Pattern). deepest (pattern_values (listed_patterns (take n l))))
    c.deref-in-Dict.ensures.value in
    let k : c.depth_of_keys-keys.result ≡ min (deepest (keys_of (map key_and_value (take n es)))) 4294967295 =
    c.depth_of_keys-keys.ensures in
    let v : c.pattern_depths-patterns.result
    ≡ min (deepest (pattern_values (listed_patterns (take n front)))) 4294967295 =
    c.pattern_depths-patterns.ensures in
    omega (arith, view, same, apart, first, k, v, c.max-in-Dict.ensures, c.saturating_add-in-Dict.ensures)
