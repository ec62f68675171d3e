use Rattle.std.proofs.Common.{◌≡◌, ◌∙◌, ◌+◌, arith, sym, ap, refl, List, ℕ, Some, None, true, false, is_some, map}
use Rattle.std.proofs.Common.{subst}
use Rattle.std.specs.Map.{values_of}
use Rattle.ac_table.specs.Kept.{IsKept, value_at, state_of, seen, tree_seen, AreStanding}
use Rattle.ac_table.specs.Faults.{row_fault}
use Rattle.ac_table.specs.Tables.{Row}
use Rattle.ac_table.specs.declared.table.LiveActor.{LiveActor}
use Rattle.ac_table.proofs.Becomes.{retracted_is}
use Rattle.ac_table.proofs.Changes.{seen-set_same, trees-same}
use Rattle.ac_table.proofs.Standing.{standing_retracted}
use Rattle.ac_table.proofs.Counting.{counted_same}
use Rattle.ac_table.proofs.Finding.{row_missing, row_present}
use Rattle.ac_table.proofs.Keeps.{renewed_from, kept_retracted, owner_lives}
use Rattle.ac_table.proofs.Removing.{found_from, values_removed, values_from, ascend_from}
use Rattle.ac_table.proofs.Renewing.{with_rows}
use Rattle.ac_table.proofs.Weighing.{weight_within}
use Rattle.ac_table.proofs.table.Table.retract_row.Goals as goal

pub returns-in_default-clause-fault : goal.returns-in_default-clause-fault
returns-in_default-clause-fault c = let i = c.self.inside in
    let gone = sym (found_from i.rows.entries c.args.handle c.self.invariant.kept.keyed)
    ∙ sym c.in_default.ensures.value in (
      sym (ap (row_fault c.args.handle) c.self.view_is)
          ∙ row_missing c.args.handle i.next i.rows.entries i.actors.entries gone,
      ap (λ (rows : List (ℕ × Row)). state_of i.next rows i.actors.entries) c.in_default.ensures.unchanged
          ∙ c.self.view_is,
    )

-- the owner of a row is live
lives : (h : ℕ) (rows : List (ℕ × Row)) (actors : List (ℕ × LiveActor)) (busy : List ℕ) (next : ℕ) (r : Row)
    → IsKept next rows actors busy → Some r ≡ value_at h rows → None ≡ value_at r.owner actors → ⊥
lives h rows actors busy next r k found none =
    let some : is_some (value_at r.owner actors) ≡ true =
    owner_lives h actors (values_of rows) r k.owners (sym (found_from rows h k.keyed) ∙ sym found) in
    let clash : is_some (value_at r.owner actors) ≡ false = ap is_some (sym none) in
    absurd cc

pub invariant_of-self-in_default-get_mut : goal.invariant_of-self-in_default-get_mut
invariant_of-self-in_default-get_mut c =
    absurd (lives _ _ _ _ _ _ c.self.invariant.kept c.in-Some.ensures.value c.in_default-get_mut.ensures.value)

pub returns-in_default-get_mut-clause-fault : goal.returns-in_default-get_mut-clause-fault
returns-in_default-get_mut-clause-fault c =
    absurd (lives _ _ _ _ _ _ c.self.invariant.kept c.in-Some.ensures.value c.in_default-get_mut.ensures.value)

pub returns-in_default-get_mut-clause-gone : goal.returns-in_default-get_mut-clause-gone
returns-in_default-get_mut-clause-gone c =
    absurd (lives _ _ _ _ _ _ c.self.invariant.kept c.in-Some.ensures.value c.in_default-get_mut.ensures.value)

pub returns-in_default-get_mut-clause-row : goal.returns-in_default-get_mut-clause-row
returns-in_default-get_mut-clause-row c =
    absurd (lives _ _ _ _ _ _ c.self.invariant.kept c.in-Some.ensures.value c.in_default-get_mut.ensures.value)

pub take_off-requires : goal.take_off-requires
take_off-requires c = let i = c.self.inside in
    let k = c.self.invariant.kept in
    let found = sym (found_from i.rows.entries c.args.handle k.keyed) ∙ sym c.in-Some.ensures.value in
    let within = weight_within c.args.handle (values_of i.rows.entries) c.in-Some.row _
    (ascend_from i.rows.entries k.keyed k.rows_ascend) found
    (k.weighed c.in-Some.row.owner c.in-Some-get_mut.it.now (sym c.in-Some-get_mut.ensures.value)) in
    omega (arith, within, c.weight.ensures)

pub invariant_of-self-2 : goal.invariant_of-self-2
invariant_of-self-2 c = let i = c.self.inside in
    let k = c.self.invariant.kept in
    let s = c.in-Some-get_mut.it.now in
    let t = with_rows s c.remove-2.new.self c.take_off.new.self c.remove_row.new.self in
    let new = c.get_mut.follows.lender t in
    let re = renewed_from c.in-Some.row.owner c.in-Some-get_mut.it.now t i.actors new
    (sym c.in-Some-get_mut.ensures.value) (c.get_mut.follows.holds t) in
    let found = sym (found_from i.rows.entries c.args.handle k.keyed) ∙ sym c.in-Some.ensures.value in
    record {
      kept = kept_retracted c.args.handle i.next c.in-Some-get_mut.it.now t c.in-Some.row i.rows.entries
          c.remove.new.self.entries i.actors.entries new.entries i.busy.keys k re c.remove-2.ensures.keys
          (sym (ap (λ (n : ℕ). c.take_off.new.self + n) c.weight.ensures) ∙ c.take_off.ensures) refl found
          (values_removed _ _ _ k.keyed k.rows_ascend c.remove.ensures.entries) c.remove.ensures.ordered;
      counted = counted_same c.in-Some.row.owner i.waiting s t i.actors.entries new.entries c.self.invariant.counted
          re.was (c.get_mut.follows.holds t).0 refl;
      standing = subst (λ (rows : List Row). AreStanding new.entries rows)
          (sym (values_from _ _ (values_removed _ _ _ k.keyed k.rows_ascend c.remove.ensures.entries)))
          (standing_retracted c.args.handle s t c.in-Some.row i.actors.entries new.entries (values_of i.rows.entries)
          c.self.invariant.standing re found c.remove_row.ensures.gone);
    }

pub returns-clause-fault : goal.returns-clause-fault
returns-clause-fault c = let i = c.self.inside in
    let found = sym (found_from i.rows.entries c.args.handle c.self.invariant.kept.keyed)
    ∙ sym c.in-Some.ensures.value in
    sym (ap (row_fault c.args.handle) c.self.view_is)
    ∙ row_present c.args.handle i.next i.rows.entries i.actors.entries c.in-Some.row found

pub returns-clause-gone : goal.returns-clause-gone
returns-clause-gone c = let i = c.self.inside in
    let k = c.self.invariant.kept in
    let s = c.in-Some-get_mut.it.now in
    let t = with_rows s c.remove-2.new.self c.take_off.new.self c.remove_row.new.self in
    let new = c.get_mut.follows.lender t in
    let w = c.get_mut.follows.holds t in
    retracted_is c.args.handle i.next i.rows.entries c.remove.new.self.entries i.actors.entries new.entries _
    c.self.view_is
    (values_from _ _ (values_removed _ _ _ k.keyed k.rows_ascend c.remove.ensures.entries))
    (ap (map seen) w.0 ∙ seen-set_same c.in-Some.row.owner c.in-Some-get_mut.it.now t i.actors.entries
    (sym c.in-Some-get_mut.ensures.value) refl)
    (ap (map tree_seen) w.0 ∙ trees-same c.in-Some.row.owner c.in-Some-get_mut.it.now t i.actors.entries
    (sym c.in-Some-get_mut.ensures.value) c.remove_row.ensures.tree)

pub returns-clause-row : goal.returns-clause-row
returns-clause-row c = let i = c.self.inside in
    let found = sym (found_from i.rows.entries c.args.handle c.self.invariant.kept.keyed)
    ∙ sym c.in-Some.ensures.value in
    rw (← c.self.view_is) found
