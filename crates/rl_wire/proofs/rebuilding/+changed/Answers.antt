-- What stands in a list is smaller than the list, and what is made of what is new is the crossed value.
use Rattle.std.proofs.Common.{IfOk, subst, sym, ap, ◌∙◌, arith}
use Rattle.pv_value.specs.Plain.{dictionary, pairs}
use Rattle.pv_value.specs.View.{view_node}
use Rattle.pv_value.specs.WellFormed.{KeysAscend}
use Rattle.pv_value.specs.Lemmas.Smaller.{measure_at, entry_measure_at}
use Rattle.rl_wire.specs.Crossing.{crossed}
use Rattle.rl_wire.specs.Changes.{IsChange, entry_crossed}
use Rattle.rl_wire.proofs.Crossings.{changed_at, record_told, sequence_told, set_told, dictionary_told, entry_is}
use Rattle.rl_wire.proofs.rebuilding.+changed.Goals as goal

pub all_changed-changed-requires : goal.all_changed-changed-requires
all_changed-changed-requires g t c κs within = (
  omega (arith, measure_at c.args.values.now c.loop-i.i c.index-values-i.result (omega arith) c.index-values-i.is),
  within,
)

pub all_changed-returns-in-Some : goal.all_changed-returns-in-Some
all_changed-returns-in-Some g t c =
    c.in_ok-changed_from.ensures
    ∙ changed_at (crossed (g.W.Way.way c.args.way.now)) c.args.values.now c.loop-i.i c.index-values-i.result
    c.in-Some.first (omega arith) c.index-values-i.is c.loop-i.invariant (rw c.in-Some.is at c.in_ok-first.ensures)

pub changed-returns-in_ok-fields-in-Rec : goal.changed-returns-in_ok-fields-in-Rec
changed-returns-in_ok-fields-in-Rec g t c =
    let f = g.W.Way.way c.args.way.now in
    let fields = c.as_slice.ensures.value ∙ ap (λ r. r.fields.items) c.deref-in-Rec-2.ensures in
    subst (λ v. IfOk c.new_record.result (IsChange v (crossed f v)))
    (sym (ap view_node c.in-Rec.is) ∙ c.value.view_is)
    (record_told f c.in-Rec.rec.value.label c.in-Rec.rec.value.fields.items
    c.in_ok-label-in-Rec.label c.in_ok-fields-in-Rec.fields c.new_record.result
    (rw c.deref-in-Rec.ensures at c.in_ok-label-in-Rec.ensures)
    (rw fields at c.in_ok-fields-in-Rec.ensures)
    (rw c.deref-in-Rec-3.ensures at c.new_record.ensures))

pub changed-returns-in_ok-all_changed-in-Seq : goal.changed-returns-in_ok-all_changed-in-Seq
changed-returns-in_ok-all_changed-in-Seq g t c =
    let f = g.W.Way.way c.args.way.now in
    subst (λ v. IfOk c.new_sequence.result (IsChange v (crossed f v)))
    (sym (ap view_node c.in-Seq.is) ∙ c.value.view_is)
    (sequence_told f c.in-Seq.items c.in_ok-all_changed-in-Seq.field-0 c.new_sequence.result
    (rw c.as_slice-in-Seq.ensures.same at c.in_ok-all_changed-in-Seq.ensures) c.new_sequence.ensures)

pub changed-returns-in_ok-all_changed-in-Set : goal.changed-returns-in_ok-all_changed-in-Set
changed-returns-in_ok-all_changed-in-Set g t c =
    let f = g.W.Way.way c.args.way.now in
    subst (λ v. IfOk c.new_set.result (IsChange v (crossed f v)))
    (sym (ap view_node c.in-Set.is) ∙ c.value.view_is)
    (set_told f c.in-Set.items c.in_ok-all_changed-in-Set.field-0 c.new_set.result
    c.as_slice-in-Set.ensures.ascending
    (rw c.as_slice-in-Set.ensures.same at c.in_ok-all_changed-in-Set.ensures) c.new_set.ensures)

pub changed-returns-in_ok-entries_changed-in-Dict : goal.changed-returns-in_ok-entries_changed-in-Dict
changed-returns-in_ok-entries_changed-in-Dict g t c =
    let f = g.W.Way.way c.args.way.now in
    let same = c.as_slice-in-Dict.ensures.same in
    subst (λ v. IfOk c.new_dictionary.result (IsChange v (crossed f v)))
    (ap (λ ps. dictionary (pairs ps)) same ∙ (sym (ap view_node c.in-Dict.is) ∙ c.value.view_is))
    (dictionary_told f c.as_slice-in-Dict.result.now c.in_ok-entries_changed-in-Dict.field-0 c.new_dictionary.result
    (subst KeysAscend (sym same) c.as_slice-in-Dict.ensures.ascending)
    c.in_ok-entries_changed-in-Dict.ensures c.new_dictionary.ensures)

pub changed_from-changed-requires : goal.changed_from-changed-requires
changed_from-changed-requires g t c κs within = (
  omega (
    arith,
    measure_at c.args.values.now c.loop-later.later c.index-values-later.result
        (omega arith) c.index-values-later.is,
  ),
  within,
)

pub entries_changed-changed-requires : goal.entries_changed-changed-requires
entries_changed-changed-requires g t c κs within =
    let h = entry_measure_at c.args.entries.now c.loop-i.i c.index-entries-i.result (omega arith)
    c.index-entries-i.is in
    (omega (arith, h.0), within)

pub entries_changed-changed-requires-in-loop-i : goal.entries_changed-changed-requires-in-loop-i
entries_changed-changed-requires-in-loop-i g t c κs within =
    let h = entry_measure_at c.args.entries.now c.loop-i.i c.index-entries-i.result (omega arith)
    c.index-entries-i.is in
    (omega (arith, h.1), within)

pub entries_changed-returns-then-is_some : goal.entries_changed-returns-then-is_some
entries_changed-returns-then-is_some g t c =
    let f = g.W.Way.way c.args.way.now in
    c.in_ok-entries_changed_from.ensures
    ∙ changed_at (entry_crossed f) c.args.entries.now c.loop-i.i c.index-entries-i.result
    c.in_ok-first.first (omega arith) c.index-entries-i.is c.loop-i.invariant
    (entry_is f c.index-entries-i.result c.in_ok-first.first c.in_ok-key.key c.in_ok-value.value
    c.in_ok-key.ensures c.in_ok-value.ensures c.in_ok-first.ensures.key c.in_ok-first.ensures.value)

pub entries_changed_from-changed-requires : goal.entries_changed_from-changed-requires
entries_changed_from-changed-requires g t c κs within =
    let h = entry_measure_at c.args.entries.now c.loop-later.later c.index-entries-later.result (omega arith)
    c.index-entries-later.is in
    (omega (arith, h.0), within)

pub entries_changed_from-changed-requires-in-loop-later : goal.entries_changed_from-changed-requires-in-loop-later
entries_changed_from-changed-requires-in-loop-later g t c κs within =
    let h = entry_measure_at c.args.entries.now c.loop-later.later c.index-entries-later.result (omega arith)
    c.index-entries-later.is in
    (omega (arith, h.1), within)
