-- The sum has the weight of the export that goes, and what is kept stays kept without it.
use Rattle.std.proofs.Common.{◌≡◌, ◌-◌, ◌<◌, ◌∙◌, sym, ap, subst, arith, length, ℕ, List, Some}
use Rattle.std.specs.Prelude.{option_map}
use Rattle.std.specs.BTreeMap.{is_at}
use Rattle.std.specs.List.Sorted.{IsStrictlySortedBy}
use Rattle.std.specs.Map.{lookup, remove_entry, keys_of}
use Rattle.std.specs.Ordering.{nat_cmp}
use Rattle.pv_value.specs.Plain.{Plain}
use Rattle.rl_ports.specs.Kept.{Export, shown, table_of, IsKept, IsFirstPinned}
use Rattle.rl_ports.proofs.Entries.{found_shown, keys_shown, shown_removed, referred, length_shown}
use Rattle.rl_ports.proofs.Keeps.{weight_goes, kept_less, not_alone, first_without}
use Rattle.rl_ports.proofs.export_list.ExportList.take.Goals as goal

pub overflow_sub-self : goal.overflow_sub-self
overflow_sub-self c =
    let i = c.self.inside in
    let x = table_of (record { kept = i.kept.entries; next = i.next }) in
    let test = is_at (nat_cmp c.args.number) in
    let found : lookup test i.kept.entries ≡ Some c.in-Some.export = sym c.in-Some.ensures.value in
    let shows = found_shown test i.kept.entries
    ∙ ap (option_map referred) found in
    let many = not_alone c.args.number c.in-Some.export i.kept.entries c.self.invariant.1 c.requires found in
    let goes = weight_goes x i.numbers.entries i.weight c.in-Some.export.reference test c.self.invariant.0 shows
    (omega (arith, many, length_shown i.kept.entries)) in
    omega (arith, goes, c.take_number.ensures.weight)

pub invariant_of-self : goal.invariant_of-self
invariant_of-self c =
    let i = c.self.inside in
    let x = table_of (record { kept = i.kept.entries; next = i.next }) in
    let test = is_at (nat_cmp c.args.number) in
    let found : lookup test i.kept.entries ≡ Some c.in-Some.export = sym c.in-Some.ensures.value in
    let shows = found_shown test i.kept.entries
    ∙ ap (option_map referred) found in
    let many = not_alone c.args.number c.in-Some.export i.kept.entries c.self.invariant.1 c.requires found in
    let longer : 1 < length x.in_force = omega (arith, many, length_shown i.kept.entries) in
    let goes = weight_goes x i.numbers.entries i.weight c.in-Some.export.reference test c.self.invariant.0 shows longer in
    let ascend : IsStrictlySortedBy nat_cmp (keys_of (remove_entry test (shown i.kept.entries))) =
    subst (λ ks. IsStrictlySortedBy nat_cmp ks)
    (ap keys_of c.remove.ensures.entries ∙ sym (keys_shown (remove_entry test i.kept.entries))
    ∙ ap keys_of (shown_removed test i.kept.entries)) c.remove.ensures.ordered in
    let less = kept_less x i.numbers.entries c.take_number.new.numbers.entries i.weight (i.weight - c.take_number.result)
    c.in-Some.export.reference test c.self.invariant.0 shows longer c.take_number.ensures.numbers
    (omega (arith, goes, c.take_number.ensures.weight)) ascend in
    subst (λ (es : List (ℕ × Export)). IsKept (table_of (record { kept = es; next = i.next }))
    c.take_number.new.numbers.entries (i.weight - c.take_number.result) × IsFirstPinned es)
    (sym c.remove.ensures.entries) (
      subst (λ (es : List (ℕ × Plain)). IsKept (record { in_force = es; next = i.next })
          c.take_number.new.numbers.entries (i.weight - c.take_number.result))
          (sym (shown_removed test i.kept.entries)) less,
      first_without c.args.number i.kept.entries c.self.invariant.1 c.requires,
    )
