-- Without the last number the next one is that.
use Rattle.std.proofs.Common.{◌≡◌, ◌-◌, ◌+◌, ◌<◌, ◌∙◌, sym, ap, subst, arith, ℕ, List}
use Rattle.std.specs.BTreeMap.{is_at}
use Rattle.std.specs.List.{AllByRecursion}
use Rattle.std.specs.List.Sorted.{IsStrictlySortedBy}
use Rattle.std.specs.Map.{keys_of, remove_entry}
use Rattle.std.specs.Ordering.{nat_cmp}
use Rattle.rl_ports.specs.Kept.{Export, Listed, table_of}
use Rattle.rl_ports.proofs.Entries.{keys_shown}
use Rattle.rl_ports.proofs.Keeps.{kept_lower, below_without}
use Rattle.rl_ports.proofs.export_list.ExportList.pop.Goals as goal

pub invariant_of-self : goal.invariant_of-self
invariant_of-self c =
    let i = c.self.inside in
    let j = c.self-2.inside in
    let m = i.next - 1 in
    let before = c.self.invariant.0 in
    let is = c.self-2.view_is ∙ c.take.ensures in
    let old_next = ap (λ (l : Listed). l.next) c.self.view_is in
    let new_next = ap (λ (l : Listed). l.next) is in
    let more : i.next ≡ m + 1 = omega (arith, c.requires, old_next) in
    let kept_is : j.kept.entries ≡ remove_entry (is_at (nat_cmp m)) i.kept.entries =
    ap (λ (l : Listed). l.kept) is
    ∙ ap (λ (l : Listed). remove_entry (is_at (nat_cmp m)) l.kept) (sym c.self.view_is) in
    let low = below_without m i.kept.entries
    (subst (λ ks. IsStrictlySortedBy nat_cmp ks) (keys_shown i.kept.entries) before.order.ascending)
    (subst (λ n. AllByRecursion (λ k. k < n) (keys_of i.kept.entries)) more
    (subst (AllByRecursion (λ k. k < i.next)) (keys_shown i.kept.entries) before.order.given)) in (
      kept_lower (table_of (record { kept = j.kept.entries; next = j.next })) j.numbers.entries j.weight m
          c.self-2.invariant.0 (omega (arith, old_next, new_next))
          (subst (AllByRecursion (λ k. k < m)) (sym (keys_shown j.kept.entries))
          (subst (λ (es : List (ℕ × Export)). AllByRecursion (λ k. k < m) (keys_of es)) (sym kept_is) low)),
      c.self-2.invariant.1,
    )
