-- One number more, and those that are left.
use Rattle.std.proofs.Common.{◌==◌, ◌+◌, ◌∙◌, ap, sym, get_or, drop, ℕ, List}
use Rattle.rl_ports.specs.Ports.{has_number}
use Rattle.rl_ports.specs.Kept.{Listed, released_where}
use Rattle.rl_ports.proofs.Keeps.{released_both, released_none, drop_end, drop_first}
use Rattle.rl_ports.proofs.export_list.ExportList.release_all.Goals as goal

pub loop-number-preserved : goal.loop-number-preserved
loop-number-preserved c =
    let ns = c.args.numbers.now in
    let i = c.loop-number.number-index in
    let x = get_or ns i 0 in
    let kept = c.loop-number.self.kept in
    record {
      kept = ap (λ (l : Listed). released_where (λ n. has_number n (drop (i + 1) ns)) l.kept) c.release.ensures
          ∙ released_both (λ n. x == n) (λ n. has_number n (drop (i + 1) ns)) kept
          ∙ ap (λ (ms : List ℕ). released_where (λ n. has_number n ms) kept)
          (sym (drop_first ns i 0 c.loop-number-test.true))
          ∙ c.loop-number.invariant.kept;
      next = ap (λ (l : Listed). l.next) c.release.ensures ∙ c.loop-number.invariant.next;
    }

pub returns : goal.returns
returns c =
    let ns = c.args.numbers.now in
    let i = c.loop-number.number-index in
    let kept = c.loop-number.self.kept in
    let is = sym (released_none kept)
    ∙ ap (λ (ms : List ℕ). released_where (λ n. has_number n ms) kept) (sym (drop_end i ns c.loop-number-test.false))
    ∙ c.loop-number.invariant.kept in
    λ j. record { kept = is j; next = c.loop-number.invariant.next j }
