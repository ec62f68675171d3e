-- The goals of `pattern_weight` that the check leaves.
use Rattle.std.proofs.Common.{◌≡◌, ◌+◌, ◌<◌, min, List, map, take, sym, ap, ◌∙◌, codes, arith}
use Rattle.sr_caveat.specs.Lemmas.Falls.{pattern_at}
use Rattle.pv_value.specs.Plain.{Plain, symbol}
use Rattle.pv_value.specs.View.{key_and_value}
use Rattle.pv_value.specs.Weight.{size_with, sizes_with, pair_sizes_with}
use Rattle.sr_caveat.specs.Lemmas.Measures.{measure, measure_all}
use Rattle.sr_caveat.specs.Patterns.{Pattern}
use Rattle.sr_caveat.specs.Spelled.{paired_with, pattern_value, pattern_values}
use Rattle.sr_caveat.specs.View.{keys_of, listed_patterns, view_pattern}
use Rattle.sr_weight.proofs.Fronts.{patterns_front, patterns_weight}
use Rattle.sr_weight.proofs.weighing.+pattern_weight.Goals as goal

pub pattern_weights-pattern_weight-requires : goal.pattern_weights-pattern_weight-requires
pattern_weights-pattern_weight-requires t c = (
  omega (
    arith,
    pattern_at c.args.patterns.now c.loop-pattern.pattern-index c.pattern-item.result (omega arith)
        c.pattern-item.is,
  ),
  tt,
)

pub pattern_weight-pattern_weights-patterns-requires : goal.pattern_weight-pattern_weights-patterns-requires
pattern_weight-pattern_weights-patterns-requires t c =
    let is = sym (ap view_pattern c.in-Dict.is) ∙ c.pattern.view_is in
    let falls : measure_all (listed_patterns (take c.min-count.result c.deref-in-Dict.result.now))
    < t =
    omega (
      arith,
      c.decreases,
      ap measure is,
      ap (λ (l : List Pattern). measure_all (listed_patterns l)) c.deref-in-Dict.ensures.value,
      patterns_front c.min-count.result c.deref-in-Dict.result.now,
    ) in
    (falls, tt)

pub pattern_weight-returns-in-Dict : goal.pattern_weight-returns-in-Dict
pattern_weight-returns-in-Dict t c =
    let is = sym (ap view_pattern c.in-Dict.is) ∙ c.pattern.view_is in
    let n = c.min-count.result in
    let es = c.as_slice-keys.result.now in
    let all = c.in-Dict.patterns.items in
    let front = c.deref-in-Dict.result.now in
    let view = ap (λ (p : Pattern). size_with 48 (pattern_value p)) is in
    let same = ap (λ (ks : List (Plain × Plain)). pair_sizes_with 48
    (paired_with (keys_of ks) (pattern_values (listed_patterns all))))
    c.as_slice-keys.ensures.same in
    let apart = patterns_weight es all n (omega (arith, c.len.ensures, c.min-count.ensures)) in
    let first = ap (λ (l : List Pattern). sizes_with 48 (pattern_values (listed_patterns (take n l))))
    c.deref-in-Dict.ensures.value in
    let k : c.weight_of_keys-keys.result
    ≡ min (sizes_with 48 (keys_of (map key_and_value (take n es)))) 18446744073709551615 =
    c.weight_of_keys-keys.ensures in
    let v : c.pattern_weights-patterns.result
    ≡ min (sizes_with 48 (pattern_values (listed_patterns (take n front)))) 18446744073709551615 =
    c.pattern_weights-patterns.ensures in
    let l : c.labelled_weight-in-Dict.result
    ≡ min (50 + size_with 48 (symbol (codes "dict")) + c.list_weight-in-Dict.result) 18446744073709551615 =
    c.labelled_weight-in-Dict.ensures in
    omega (arith, view, same, apart, first, k, v, c.saturating_add-in-Dict.ensures, c.list_weight-in-Dict.ensures, l)
