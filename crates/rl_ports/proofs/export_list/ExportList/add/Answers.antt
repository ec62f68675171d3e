-- An export more fits where the check says so, and what is kept stays kept with it.
use Rattle.std.proofs.Common.{◌≡◌, ◌+◌, ◌<◌, ◌∷◌, ◌++◌, [], ◌∙◌, sym, arith, ap, subst, false, ℕ, List}
use Rattle.std.proofs.lemmas.Result.{err_from_is_err_and}
use Rattle.std.specs.List.{AllByRecursion}
use Rattle.std.specs.Map.{values_of}
use Rattle.pv_value.specs.Plain.{Plain}
use Rattle.pv_value.specs.Weight.{weight}
use Rattle.rl_ports.specs.Ports.{ExportTable, place_of, export_fault, told, with_export}
use Rattle.rl_ports.specs.Kept.{Export, Listed, shown, table_of, new_export, IsKept, IsFirstPinned}
use Rattle.rl_ports.proofs.Entries.{put_last, keys_shown, shown_append, length_shown}
use Rattle.rl_ports.proofs.Keeps.{kept_push, fault_is, why_is, within, first_stays}
use Rattle.rl_ports.proofs.export_list.ExportList.add.Goals as goal

pub returns-in_err-check-clause-fault : goal.returns-in_err-check-clause-fault
returns-in_err-check-clause-fault c =
    let i = c.self.inside in
    let x = table_of (record { kept = i.kept.entries; next = i.next }) in
    let p = err_from_is_err_and c.from_residual.result c.from_residual.ensures.1 in
    rw (p.1, p.2) (why_is _ _ (sym (fault_is x i.numbers.entries i.weight c.len.result c.saturating_add-sum.result
    c.args.reference.now c.self.invariant.0 (c.len.ensures.len ∙ sym (length_shown i.kept.entries))
    (c.saturating_add-sum.ensures ∙ ap (λ (n : ℕ). told (i.weight + n)) c.weight.ensures)
    ∙ ap (λ (l : Listed). export_fault (values_of (shown l.kept) ++ c.args.reference.now ∷ [])) c.self.view_is)
    ∙ c.in_err-check.ensures.fault))

pub returns-clause-fits : goal.returns-clause-fits
returns-clause-fits c =
    let i = c.self.inside in
    let x = table_of (record { kept = i.kept.entries; next = i.next }) in
    sym (fault_is x i.numbers.entries i.weight c.len.result c.saturating_add-sum.result
    c.args.reference.now c.self.invariant.0 (c.len.ensures.len ∙ sym (length_shown i.kept.entries))
    (c.saturating_add-sum.ensures ∙ ap (λ (n : ℕ). told (i.weight + n)) c.weight.ensures)
    ∙ ap (λ (l : Listed). export_fault (values_of (shown l.kept) ++ c.args.reference.now ∷ [])) c.self.view_is)
    ∙ c.in_ok-check.ensures.fits

pub invariant_of-self-2 : goal.invariant_of-self-2
invariant_of-self-2 c =
    let i = c.self.inside in
    let x = table_of (record { kept = i.kept.entries; next = i.next }) in
    let copied = c.in_ok-reference.reference in
    let same : copied ≡ c.args.reference.now = c.in_ok-reference.ensures ∙ c.in_ok-copy.ensures in
    let kept = c.self.invariant.0 in
    let few = within (c.len.result + 1) c.saturating_add-sum.result c.in_ok-check.ensures.fits in
    let given = subst (AllByRecursion (λ n. n < i.next)) (keys_shown i.kept.entries) kept.order.given in
    let kept_is : c.put.new.kept.entries ≡ i.kept.entries ++ (i.next, new_export false copied) ∷ [] =
    c.in_ok-put.ensures.kept ∙ put_last i.next (new_export false copied) i.kept.entries given in
    let table_is : with_export copied x
    ≡ table_of (record { kept = i.kept.entries ++ (i.next, new_export false copied) ∷ []; next = i.next + 1 }) =
    ap (λ (es : List (ℕ × Plain)). record { in_force = es; next = i.next + 1 })
    (sym (shown_append i.kept.entries ((i.next, new_export false copied) ∷ []))) in
    let all = kept_push x i.numbers.entries c.put.new.numbers.entries i.weight c.saturating_add-sum.result copied kept
    (ap (λ (l : Listed). place_of copied (shown l.kept)) c.self.view_is
    ∙ ap (λ (r : Plain). place_of r (shown c.args.self.now.kept)) same ∙ c.requires)
    (omega (arith, few.0, c.len.ensures.len, length_shown i.kept.entries))
    (omega (arith, c.if-number-ge-NO_NUMBER.false)) c.in_ok-put.ensures.numbers
    (c.saturating_add-sum.ensures
    ∙ ap (λ (n : ℕ). told (i.weight + n)) (c.weight.ensures ∙ ap (λ (r : Plain). told (weight r)) (sym same))) few.1 in
    subst (λ (es : List (ℕ × Export)). IsKept (table_of (record { kept = es; next = i.next + 1 }))
    c.put.new.numbers.entries c.saturating_add-sum.result × IsFirstPinned es) (sym kept_is) (
      subst (λ (t : ExportTable). IsKept t c.put.new.numbers.entries c.saturating_add-sum.result) table_is all,
      first_stays (i.next, new_export false copied) i.kept.entries c.self.invariant.1,
    )

pub returns-clause-done : goal.returns-clause-done
returns-clause-done c =
    let i = c.self.inside in
    let copied = c.in_ok-reference.reference in
    let same : copied ≡ c.args.reference.now = c.in_ok-reference.ensures ∙ c.in_ok-copy.ensures in
    let given = subst (AllByRecursion (λ n. n < i.next)) (keys_shown i.kept.entries) c.self.invariant.0.order.given in
    let kept_is : c.put.new.kept.entries ≡ i.kept.entries ++ (i.next, new_export false copied) ∷ [] =
    c.in_ok-put.ensures.kept ∙ put_last i.next (new_export false copied) i.kept.entries given in
    ap (λ (es : List (ℕ × Export)). record { kept = es; next = i.next + 1 }) kept_is
    ∙ ap (λ (r : Plain). record { kept = i.kept.entries ++ (i.next, new_export false r) ∷ []; next = i.next + 1 }) same
    ∙ ap (λ (l : Listed). record {
      kept = l.kept ++ (l.next, new_export false c.args.reference.now) ∷ [];
      next = l.next + 1;
    }) c.self.view_is
