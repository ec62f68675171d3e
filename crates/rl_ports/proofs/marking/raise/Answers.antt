-- What is left may be marked, and so may the first of it.
use Rattle.std.proofs.Common.{◌≡◌, ◌+◌, ◌^◌, ◌∷◌, ◌∙◌, get_or, drop, drop-cons, subst, sym, ap, List, ℕ}
use Rattle.std.specs.List.{AllByRecursion}
use Rattle.rl_ports.proofs.Marks.{MayRise, may_rise, all_rise}
use Rattle.rl_ports.proofs.Keeps.{drop_first}
use Rattle.rl_ports.specs.Kept.{Export, at_numbers, raised}
use Rattle.rl_ports.proofs.marking.raise.Goals as goal

pub raise_one-requires : goal.raise_one-requires
raise_one-requires c =
    let i = c.loop-number.number-index in
    let ns = c.args.numbers.now in
    let kept = c.loop-number.kept.entries in
    may_rise (2 ^ 64) (get_or ns i 0) _ kept
    (subst (λ (ms : List ℕ). AllByRecursion (MayRise (2 ^ 64) ms) kept) (drop-cons ns i 0 c.loop-number-test.true)
    c.loop-number.invariant.may)

pub loop-number-preserved : goal.loop-number-preserved
loop-number-preserved c =
    let ns = c.args.numbers.now in
    let i = c.loop-number.number-index in
    let x = get_or ns i 0 in
    let later = drop (i + 1) ns in
    let kept = c.loop-number.kept.entries in
    let first : drop i ns ≡ x ∷ later = drop_first ns i 0 c.loop-number-test.true in
    let so = c.raise_one.ensures in
    record {
      marked = ap (at_numbers raised later) so
          ∙ ap (λ (ms : List ℕ). at_numbers raised ms kept) (sym first) ∙ c.loop-number.invariant.marked;
      may = subst (λ (k : List (ℕ × Export)). AllByRecursion (MayRise (2 ^ 64) later) k) (sym so)
          (all_rise (2 ^ 64) x later kept
          (subst (λ (ms : List ℕ). AllByRecursion (MayRise (2 ^ 64) ms) kept) first c.loop-number.invariant.may));
    }
