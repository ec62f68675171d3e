-- What is left may be marked, and so may the first of it.
use Rattle.std.proofs.Common.{◌≡◌, ◌+◌, ◌∷◌, ◌∙◌, get_or, drop, drop-cons, subst, sym, ap, List, ℕ}
use Rattle.std.specs.List.{AllByRecursion}
use Rattle.rl_ports.proofs.Marks.{MayFall, may_fall, all_fall}
use Rattle.rl_ports.proofs.Keeps.{drop_first}
use Rattle.rl_ports.specs.Kept.{Export, at_numbers, lowered}
use Rattle.rl_ports.proofs.marking.lower.Goals as goal

pub lower_one-requires : goal.lower_one-requires
lower_one-requires c =
    let i = c.loop-number.number-index in
    let ns = c.args.numbers.now in
    let kept = c.loop-number.kept.entries in
    may_fall (get_or ns i 0) _ kept
    (subst (λ (ms : List ℕ). AllByRecursion (MayFall ms) kept) (drop-cons ns i 0 c.loop-number-test.true)
    c.loop-number.invariant.may)

pub loop-number-preserved : goal.loop-number-preserved
loop-number-preserved c =
    let ns = c.args.numbers.now in
    let i = c.loop-number.number-index in
    let x = get_or ns i 0 in
    let later = drop (i + 1) ns in
    let kept = c.loop-number.kept.entries in
    let first : drop i ns ≡ x ∷ later = drop_first ns i 0 c.loop-number-test.true in
    let so = c.lower_one.ensures in
    record {
      marked = ap (at_numbers lowered later) so
          ∙ ap (λ (ms : List ℕ). at_numbers lowered ms kept) (sym first) ∙ c.loop-number.invariant.marked;
      may = subst (λ (k : List (ℕ × Export)). AllByRecursion (MayFall later) k) (sym so) (all_fall x later kept
          (subst (λ (ms : List ℕ). AllByRecursion (MayFall ms) kept) first c.loop-number.invariant.may));
    }
