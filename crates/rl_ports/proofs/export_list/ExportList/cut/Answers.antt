-- The last number goes.
use Rattle.std.proofs.Common.{◌≡◌, ◌<◌, ◌-◌, ◌+◌, ◌∙◌, ap, sym, subst, arith, filter, ℕ}
use Rattle.std.specs.Prelude.{nat_lt}
use Rattle.std.specs.BTreeMap.{is_at}
use Rattle.std.specs.List.{AllByRecursion}
use Rattle.std.specs.List.Sorted.{IsStrictlySortedBy}
use Rattle.std.specs.Map.{remove_entry}
use Rattle.std.specs.Ordering.{nat_cmp}
use Rattle.rl_ports.specs.Kept.{Listed}
use Rattle.rl_ports.proofs.Entries.{keys_shown}
use Rattle.rl_ports.proofs.Keeps.{all_low, below_one_less}
use Rattle.rl_ports.proofs.export_list.ExportList.cut.Goals as goal

pub loop-self-init : goal.loop-self-init
loop-self-init c =
    let l = c.args.self.now in
    record {
      kept = all_low l.next l.kept (subst (AllByRecursion (λ k. k < l.next)) (keys_shown l.kept)
          c.requires.numbered.given);
      above = c.requires.next;
    }

pub loop-self-preserved : goal.loop-self-preserved
loop-self-preserved c =
    let l = c.args.self.now in
    let v = c.loop-self.invariant in
    let m = c.loop-self.self.next - 1 in
    let next = ap (λ (x : Listed). x.next) c.self.view_is in
    let back : c.loop-self.self.next ≡ m + 1 = omega (arith, next, c.loop-self-test.true) in
    let ascend = subst (λ ks. IsStrictlySortedBy nat_cmp ks) (keys_shown l.kept) c.requires.numbered.ascending in
    record {
      kept = ap (λ (x : Listed). x.kept) c.pop.ensures
          ∙ ap (remove_entry (is_at (nat_cmp m))) (v.kept
          ∙ ap (λ (n : ℕ). filter (λ e. nat_lt e.0 n) l.kept) back)
          ∙ below_one_less m l.kept ascend
          ∙ ap (λ (n : ℕ). filter (λ e. nat_lt e.0 n) l.kept) (ap (λ (x : Listed). x.next) (sym c.pop.ensures));
      above = omega (arith, next, c.loop-self-test.true, ap (λ (x : Listed). x.next) c.pop.ensures);
    }
