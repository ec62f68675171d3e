use Rattle.std.proofs.Common.{List, ℕ, ◌++◌, [], map, ap, ◌∙◌, append_assoc, arith}
use Rattle.pv_value.specs.Lemmas.Smaller.{measure_at, entry_measure_at}
use Rattle.pv_value.specs.Lemmas.Appending.{starts_trans}
use Rattle.pv_canon.specs.Canonical.{canonical, joined}
use Rattle.pv_canon.proofs.Cutting.{forms_next, forms_over, entries_next, entries_over}
use Rattle.pv_canon.proofs.Cutting.{append_step}
use Rattle.pv_canon.proofs.Rising.{keys, rise_next, rise_behind, rise_more, rise_sorted, rise_entries}
use Rattle.pv_canon.proofs.forms.+canon.Goals as goal

pub push_list-canon_into-requires : goal.push_list-canon_into-requires
push_list-canon_into-requires t c =
    (omega (arith, measure_at c.args.items.now c.loop-x.x-index c.x-item.result (omega arith) c.x-item.is), tt)

-- ---- values

pub push_forms-canon_into-requires : goal.push_forms-canon_into-requires
push_forms-canon_into-requires t c =
    (omega (arith, measure_at c.args.items.now c.loop-x.x-index c.x-item.result (omega arith) c.x-item.is), tt)

pub push_forms-loop-x-preserved : goal.push_forms-loop-x-preserved
push_forms-loop-x-preserved t c =
    let next = forms_next c.args.items.now c.loop-x.x-index c.x-item.result (omega arith) c.x-item.is in
    let is = c.in_ok-canon_into.ensures.canonical in (
      append_step c.loop-x.out.items _ (canonical c.x-item.result) _ _ _ is next c.loop-x.invariant.0,
      starts_trans _ c.loop-x.out.items _ c.loop-x.invariant.1 c.in_ok-canon_into.ensures.front,
      rise_next c.loop-x.out.items (canonical c.x-item.result) c.canon_into.new.out.items _ c.loop-x.from c.loop-x.until
          c.len-next.result c.len-until.result c.loop-x.rising c.rises-rising.result _ _
          (rise_more c.loop-x.out.items c.loop-x.from c.loop-x.until c.loop-x.rising _ _ _ next c.loop-x.invariant.2) is
          (omega arith) (omega arith) c.as_slice.ensures.value c.rises-rising.ensures,
    )

pub push_forms-returns-clause-rising : goal.push_forms-returns-clause-rising
push_forms-returns-clause-rising t c = λ r.
    let over = forms_over c.args.items.now c.loop-x.x-index c.loop-x-test.false in
    let all = rise_more c.loop-x.out.items c.loop-x.from c.loop-x.until c.loop-x.rising _ [] _ over
    c.loop-x.invariant.2 in
    rise_sorted [] _ (all.rise r tt)

-- ---- entries

pub push_entry_forms-canon_into-requires : goal.push_entry_forms-canon_into-requires
push_entry_forms-canon_into-requires t c =
    let h = entry_measure_at c.args.entries.now c.loop-e.e-index c.e-item.result (omega arith) c.e-item.is in
    (omega (arith, h.0), tt)

pub push_entry_forms-canon_into-requires-in-loop-e : goal.push_entry_forms-canon_into-requires-in-loop-e
push_entry_forms-canon_into-requires-in-loop-e t c =
    let h = entry_measure_at c.args.entries.now c.loop-e.e-index c.e-item.result (omega arith) c.e-item.is in
    (omega (arith, h.1), tt)

pub push_entry_forms-loop-e-preserved : goal.push_entry_forms-loop-e-preserved
push_entry_forms-loop-e-preserved t c =
    let next = entries_next c.args.entries.now c.loop-e.e-index c.e-item.result (omega arith) c.e-item.is in
    let is = c.in_ok-canon_into.ensures.canonical in
    let behind = c.in_ok-canon_into-2.ensures.canonical in
    let whole = behind ∙ ap (λ (x : List ℕ). x ++ canonical c.e-item.result.value) is
    ∙ append_assoc c.loop-e.out.items (canonical c.e-item.result.key) (canonical c.e-item.result.value) in
    let key = rise_next c.loop-e.out.items (canonical c.e-item.result.key) c.canon_into.new.out.items _ c.loop-e.from
    c.loop-e.until c.len-next.result c.len-until.result c.loop-e.rising c.rises-rising.result _ _
    (rise_more c.loop-e.out.items c.loop-e.from c.loop-e.until c.loop-e.rising _ _ _
    (ap (λ (x : List (List ℕ × List ℕ)). keys x) next) c.loop-e.invariant.2) is
    (omega arith) (omega arith) c.as_slice.ensures.value c.rises-rising.ensures in (
      append_step c.loop-e.out.items _ (canonical c.e-item.result.key ++ canonical c.e-item.result.value) _ _ _ whole
          (ap (λ (x : List (List ℕ × List ℕ)). map joined x) next) c.loop-e.invariant.0,
      starts_trans _ c.loop-e.out.items _ c.loop-e.invariant.1
          (starts_trans _ c.canon_into.new.out.items _ c.in_ok-canon_into.ensures.front
          c.in_ok-canon_into-2.ensures.front),
      rise_behind c.canon_into.new.out.items (canonical c.e-item.result.value) _ c.len-next.result c.len-until.result
          c.rises-rising.result _ _ key behind,
    )

pub push_entry_forms-returns-clause-rising : goal.push_entry_forms-returns-clause-rising
push_entry_forms-returns-clause-rising t c = λ r.
    let over = entries_over c.args.entries.now c.loop-e.e-index c.loop-e-test.false in
    let keys_over = ap (λ (x : List (List ℕ × List ℕ)). keys x) over in
    let all = rise_more c.loop-e.out.items c.loop-e.from c.loop-e.until c.loop-e.rising _ [] _ keys_over
    c.loop-e.invariant.2 in
    rise_entries [] _ (all.rise r tt)
