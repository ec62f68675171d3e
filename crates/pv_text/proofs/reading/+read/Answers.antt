use Rattle.std.proofs.lemmas.Result.{err_from_is_err_and}
use Rattle.std.proofs.lemmas.List.{map-append}
use Rattle.std.proofs.Common.{◌-◌, ◌+◌, ◌∷◌, [], ◌∙◌, subst, sym, ap, length, map, arith, true}
use Rattle.pv_value.specs.View.{key_and_value}
use Rattle.pv_read.specs.Lemmas.Answering.{fails_alike}
use Rattle.pv_text.specs.Ends.{end_fault}
use Rattle.pv_text.specs.Reading.{value_at, entry_at}
use Rattle.pv_text.proofs.Steps.{no_items, gathers_end, gathers_all, gathers_fault, gathers_more}
use Rattle.pv_text.proofs.Steps.{Leads, leads_first, leads_nowhere, leads_to_end, leads_to_fault, leads_on}
use Rattle.pv_text.proofs.Steps.{leads_to_value}
use Rattle.pv_text.proofs.Steps.{leads_past_value, leads_into_annotation}
use Rattle.pv_text.proofs.reading.+read.Goals as goal

-- ---- items

pub read_items-returns-in_default : goal.read_items-returns-in_default
read_items-returns-in_default t c =
    let a = c.args in
    rw c.fault.ensures
    (gathers_end a.commas a.close (end_fault a.at_end) (value_at a.total a.budget a.commas (end_fault a.at_end))
    a.bytes.now
    (length a.bytes.now - c.loop.counter) c.loop.items.items c.loop.rest.now c.skip_blank-next.result.now
    c.loop.invariant
    c.skip_blank-next.ensures.value c.in_default.ensures.cases)

pub read_items-returns-then-first-close : goal.read_items-returns-then-first-close
read_items-returns-then-first-close t c =
    let a = c.args in
    gathers_all a.commas a.close (end_fault a.at_end) (value_at a.total a.budget a.commas (end_fault a.at_end))
    a.bytes.now
    (length a.bytes.now - c.loop.counter) c.loop.items.items c.loop.rest.now c.skip_blank-next.result.now
    c.in-Some.after.now
    c.in-Some.first.now c.loop.invariant (omega (arith, c.loop-test.true)) c.skip_blank-next.ensures.value
    c.in-Some.ensures.cases.0 c.if-first-close.true

pub read_items-returns-in_err-value : goal.read_items-returns-in_err-value
read_items-returns-in_err-value t c =
    let a = c.args in
    let p = err_from_is_err_and c.from_residual.result c.from_residual.ensures.1 in
    rw (p.1, p.2)
    (fails_alike _ _ _ c.in_err-value.ensures (λ f e.
    gathers_fault a.commas a.close (end_fault a.at_end) (value_at a.total a.budget a.commas (end_fault a.at_end))
    a.bytes.now
    (length a.bytes.now - c.loop.counter) c.loop.items.items c.loop.rest.now c.skip_blank-next.result.now
    c.in-Some.after.now
    c.in-Some.first.now f c.loop.invariant (omega (arith, c.loop-test.true)) c.skip_blank-next.ensures.value
    c.in-Some.ensures.cases.0 c.if-first-close.false e))

pub read_items-loop-preserved : goal.read_items-loop-preserved
read_items-loop-preserved t c =
    let a = c.args in
    gathers_more a.commas a.close (end_fault a.at_end) (value_at a.total a.budget a.commas (end_fault a.at_end))
    a.bytes.now
    (length a.bytes.now - c.loop.counter) (length a.bytes.now - (c.loop.counter + 1)) c.loop.items.items
    c.push.new.self.items c.loop.rest.now c.skip_blank-next.result.now c.in-Some.after.now c.in-Some.first.now
    c.in_ok-value.value c.in_ok-value.after.now c.loop.invariant (omega (arith, c.loop-test.true))
    c.skip_blank-next.ensures.value c.in-Some.ensures.cases.0 c.if-first-close.false c.in_ok-value.ensures
    c.in_ok-push.ensures.items

-- ---- entries

pub read_entries-returns-in_default : goal.read_entries-returns-in_default
read_entries-returns-in_default t c =
    let a = c.args in
    rw c.fault.ensures
    (gathers_end true 125 (end_fault a.at_end)
    (entry_at a.total (value_at a.total a.budget true (end_fault a.at_end)) (end_fault a.at_end)) a.bytes.now
    (length a.bytes.now - c.loop.counter) (map key_and_value c.loop.entries.items) c.loop.rest.now
    c.skip_blank-next.result.now c.loop.invariant c.skip_blank-next.ensures.value c.in_default.ensures.cases)

pub read_entries-returns-then-first-eq125 : goal.read_entries-returns-then-first-eq125
read_entries-returns-then-first-eq125 t c =
    let a = c.args in
    gathers_all true 125 (end_fault a.at_end)
    (entry_at a.total (value_at a.total a.budget true (end_fault a.at_end)) (end_fault a.at_end)) a.bytes.now
    (length a.bytes.now - c.loop.counter) (map key_and_value c.loop.entries.items) c.loop.rest.now
    c.skip_blank-next.result.now c.in-Some.after.now c.in-Some.first.now c.loop.invariant
    (omega (arith, c.loop-test.true))
    c.skip_blank-next.ensures.value c.in-Some.ensures.cases.0 c.if-first-eq125.true

pub read_entries-returns-in_err-entry : goal.read_entries-returns-in_err-entry
read_entries-returns-in_err-entry t c =
    let a = c.args in
    let p = err_from_is_err_and c.from_residual.result c.from_residual.ensures.1 in
    rw (p.1, p.2)
    (fails_alike _ _ _ c.in_err-entry.ensures (λ f e.
    gathers_fault true 125 (end_fault a.at_end)
    (entry_at a.total (value_at a.total a.budget true (end_fault a.at_end)) (end_fault a.at_end)) a.bytes.now
    (length a.bytes.now - c.loop.counter) (map key_and_value c.loop.entries.items) c.loop.rest.now
    c.skip_blank-next.result.now c.in-Some.after.now c.in-Some.first.now f c.loop.invariant
    (omega (arith, c.loop-test.true))
    c.skip_blank-next.ensures.value c.in-Some.ensures.cases.0 c.if-first-eq125.false e))

pub read_entries-loop-preserved : goal.read_entries-loop-preserved
read_entries-loop-preserved t c =
    let a = c.args in
    gathers_more true 125 (end_fault a.at_end)
    (entry_at a.total (value_at a.total a.budget true (end_fault a.at_end)) (end_fault a.at_end)) a.bytes.now
    (length a.bytes.now - c.loop.counter) (length a.bytes.now - (c.loop.counter + 1))
    (map key_and_value c.loop.entries.items) (map key_and_value c.push.new.self.items) c.loop.rest.now
    c.skip_blank-next.result.now c.in-Some.after.now c.in-Some.first.now (key_and_value c.in_ok-entry.entry)
    c.in_ok-entry.after.now c.loop.invariant (omega (arith, c.loop-test.true)) c.skip_blank-next.ensures.value
    c.in-Some.ensures.cases.0 c.if-first-eq125.false c.in_ok-entry.ensures
    (ap (map key_and_value) c.in_ok-push.ensures.items
    ∙ map-append key_and_value c.loop.entries.items (c.in_ok-entry.entry ∷ []))

-- ---- a value

pub read_value-loop-init : goal.read_value-loop-init
read_value-loop-init t c =
    let a = c.args in
    rw (c.new-pending.ensures.items)
    (leads_first a.total a.budget a.commas (end_fault a.at_end) a.bytes.now
    (length c.skip_blank-whole.result.now - 0) c.skip_blank-whole.result.now
    (omega arith) c.skip_blank-whole.ensures.value)

pub read_value-returns : goal.read_value-returns
read_value-returns t c =
    let a = c.args in
    rw c.fault-2.ensures
    (leads_nowhere a.total a.budget a.commas (end_fault a.at_end) a.bytes.now (end_fault c.loop.at_end)
    c.loop.pending.items
    c.loop.whole.now (length c.skip_blank-whole.result.now - c.loop.counter) c.loop.invariant
    (omega (arith, c.loop-test.false)))

pub read_value-returns-in_default : goal.read_value-returns-in_default
read_value-returns-in_default t c =
    let a = c.args in
    rw c.fault.ensures
    (leads_to_end a.total a.budget a.commas (end_fault a.at_end) a.bytes.now
    (length c.skip_blank-whole.result.now - c.loop.counter) (end_fault c.loop.at_end) c.loop.pending.items
    c.loop.whole.now
    c.loop.invariant c.in_default.ensures.cases)

pub read_value-returns-in_err-value : goal.read_value-returns-in_err-value
read_value-returns-in_err-value t c =
    let a = c.args in
    let p = err_from_is_err_and c.from_residual-in_err-value.result c.from_residual-in_err-value.ensures.1 in
    rw (p.1, p.2)
    (fails_alike _ _ _ c.in_err-value.ensures (λ f e.
    leads_to_fault a.total a.budget a.commas (end_fault a.at_end) a.bytes.now
    (length c.skip_blank-whole.result.now - c.loop.counter) (end_fault c.loop.at_end) c.loop.pending.items
    c.loop.whole.now
    c.in-Some.after.now c.in-Some.first.now f c.loop.invariant (omega (arith, c.loop-test.true))
    c.in-Some.ensures.cases.0 c.if-first-eq64.false e))

pub read_value-returns-in_default-pop : goal.read_value-returns-in_default-pop
read_value-returns-in_default-pop t c =
    let a = c.args in
    let n = length c.skip_blank-whole.result.now - c.loop.counter in
    let m = length c.skip_blank-whole.result.now - (c.loop.counter + 1) in
    leads_to_value a.total a.budget a.commas (end_fault a.at_end) a.bytes.now m c.loop.pending.items c.in_ok-value.value
    c.in_ok-value.after.now
    (leads_on a.total a.budget a.commas (end_fault a.at_end) a.bytes.now n m (end_fault c.loop.at_end)
    c.loop.pending.items
    c.loop.whole.now c.in-Some.after.now c.in-Some.first.now c.in_ok-value.value c.in_ok-value.after.now
    c.loop.invariant
    (omega (arith, c.loop-test.true)) c.in-Some.ensures.cases.0 c.if-first-eq64.false c.in_ok-value.ensures)
    (no_items c.loop.pending.items (omega (arith, c.loop.pending.ok, c.in_default-pop.ensures.cases.0)))

pub read_value-loop-preserved-then-first-eq64 : goal.read_value-loop-preserved-then-first-eq64
read_value-loop-preserved-then-first-eq64 t c =
    let a = c.args in
    let n = length c.skip_blank-whole.result.now - c.loop.counter in
    let m = length c.skip_blank-whole.result.now - (c.loop.counter + 1) in
    subst (λ f. Leads a.total a.budget a.commas (end_fault a.at_end) a.bytes.now m f c.push.new.self.items
    c.skip_blank-whole-then-first-eq64.result.now)
    (sym c.inside-at_end.ensures)
    (leads_into_annotation a.total a.budget a.commas (end_fault a.at_end) a.bytes.now n m (end_fault c.loop.at_end)
    c.loop.pending.items c.push.new.self.items c.loop.whole.now c.in-Some.after.now
    c.skip_blank-whole-then-first-eq64.result.now c.in-Some.first.now c.saturating_sub-place.result c.loop.invariant
    (omega (arith, c.loop-test.true)) c.in-Some.ensures.cases.0 c.if-first-eq64.true c.saturating_sub-place.ensures
    c.in_ok-push.ensures.items c.skip_blank-whole-then-first-eq64.ensures.value)

pub read_value-loop-preserved : goal.read_value-loop-preserved
read_value-loop-preserved t c =
    let a = c.args in
    let n = length c.skip_blank-whole.result.now - c.loop.counter in
    let m = length c.skip_blank-whole.result.now - (c.loop.counter + 1) in
    subst (λ f. Leads a.total a.budget a.commas (end_fault a.at_end) a.bytes.now m f c.pop.new.self.items
    c.skip_blank-whole-in-loop.result.now)
    (sym c.inside-at_end-in-loop.ensures)
    (leads_past_value a.total a.budget a.commas (end_fault a.at_end) a.bytes.now m c.loop.pending.items
    c.pop.new.self.items c.in-Some-pop.place c.in_ok-value.value c.in_ok-value.after.now
    c.skip_blank-whole-in-loop.result.now
    (leads_on a.total a.budget a.commas (end_fault a.at_end) a.bytes.now n m (end_fault c.loop.at_end)
    c.loop.pending.items
    c.loop.whole.now c.in-Some.after.now c.in-Some.first.now c.in_ok-value.value c.in_ok-value.after.now
    c.loop.invariant
    (omega (arith, c.loop-test.true)) c.in-Some.ensures.cases.0 c.if-first-eq64.false c.in_ok-value.ensures)
    c.in-Some-pop.ensures.items c.skip_blank-whole-in-loop.ensures.value)
