use Rattle.std.proofs.Common.{◌≡◌, ◌∙◌, ◌<◌, ◌+◌, sym, ap, refl, subst, arith, List, ℕ, true, false, None}
use Rattle.std.specs.List.{AllByRecursion}
use Rattle.ac_table.specs.Facets.{is_facet}
use Rattle.ac_table.specs.Kept.{IsKept, IsWhole, state_of, AreStanding, stands_at}
use Rattle.ac_table.specs.Tables.{Row, is_live, rows_of, has_facet, find_row}
use Rattle.ac_table.proofs.Becomes.{asserted_is, tree_is}
use Rattle.ac_table.proofs.Changes.{values-push}
use Rattle.ac_table.proofs.Renewing.{with_rows, whole_refaceted}
use Rattle.ac_table.proofs.Standing.{standing_asserted, find_none_from}
use Rattle.ac_table.proofs.Counting.{counted_same}
use Rattle.ac_table.proofs.Finding.{ended_from}
use Rattle.ac_table.proofs.Keeps.{renewed_from, keys_below, own_below, kept_asserted}
use Rattle.std.specs.Map.{values_of}
use Rattle.ac_table.proofs.Weighing.{weight_fits}
use Rattle.ac_table.proofs.table.Table.assert_row.Goals as goal

pub returns-in_default-clause-fault : goal.returns-in_default-clause-fault
returns-in_default-clause-fault c = let i = c.self.inside in
    let gone = ended_from c.args.owner i.next i.rows.entries i.actors.entries (sym c.in_default.ensures.value) in
    let clash : false ≡ true = sym gone ∙ ap (is_live c.args.owner) c.self.view_is ∙ sym c.live.ensures
    ∙ c.if-not-live.false in
    absurd cc

pub put_row-requires-clause-above : goal.put_row-requires-clause-above
put_row-requires-clause-above c =
    subst (λ n. AllByRecursion (λ e. e.0 < n) c.self.inside.rows.entries) (sym c.get-handle.ensures.handle)
    (keys_below _ _ _ _ c.self.invariant.kept)

pub put_row-requires-clause-above_own : goal.put_row-requires-clause-above_own
put_row-requires-clause-above_own c =
    subst (λ n. AllByRecursion (λ h. h < n) c.in-Some.it.now.own.keys) (sym c.get-handle.ensures.handle)
    (own_below c.args.owner _ _ _ _ _ c.self.invariant.kept (sym c.in-Some.ensures.value))

pub put_row-requires-clause-facet : goal.put_row-requires-clause-facet
put_row-requires-clause-facet c = let i = c.self.inside in
    let there : has_facet c.args.owner c.args.facet c.args.self.now ≡ true =
    sym c.has_facet.ensures ∙ c.if-not-has_facet.false in
    subst (λ t. is_facet c.args.facet t ≡ true)
    (tree_is c.args.owner i.next c.in-Some.it.now i.rows.entries i.actors.entries (sym c.in-Some.ensures.value))
    (ap (has_facet c.args.owner c.args.facet) c.self.view_is ∙ there)

pub put_row-requires-clause-absent : goal.put_row-requires-clause-absent
put_row-requires-clause-absent c = let i = c.self.inside in
    let none : find_row c.get-handle.result (values_of i.rows.entries) ≡ None =
    subst (λ (n : ℕ). find_row n (values_of i.rows.entries) ≡ None) (sym c.get-handle.ensures.handle)
    (find_none_from i.next (values_of i.rows.entries) c.self.invariant.kept.below) in
    c.self.invariant.standing c.args.owner c.in-Some.it.now (sym c.in-Some.ensures.value) c.args.facet
    c.get-handle.result ∙ ap (stands_at c.args.owner c.args.facet) none

pub add-requires : goal.add-requires
add-requires c = let i = c.self.inside in
    let k = c.self.invariant.kept in
    let s = c.in-Some.it.now in
    let was = sym c.in-Some.ensures.value in
    weight_fits s.row_weight c.weight-weight.result s.own.keys (rows_of c.args.owner (values_of i.rows.entries))
    (k.weighed c.args.owner s was) (k.owned c.args.owner s was)
    (omega (arith, c.keeps_its_order.ensures.few)) (omega (arith, c.weight-weight.ensures))

pub invariant_of-self-in_err-put_row : goal.invariant_of-self-in_err-put_row
invariant_of-self-in_err-put_row c = let i = c.self.inside in
    let s = c.in-Some.it.now in
    let t = with_rows s c.put_row.new.own s.row_weight c.put_row.new.facets in
    let new = c.get_mut.follows.lender t in
    subst (λ (rows : List (ℕ × Row)). IsWhole i.next rows new.entries i.busy.keys i.waiting)
    (sym c.in_err-put_row.ensures.same_rows)
    (whole_refaceted c.args.owner i.next s c.put_row.new.own c.put_row.new.facets i.rows.entries i.actors new
    i.busy.keys i.waiting c.self.invariant (sym c.in-Some.ensures.value) (c.get_mut.follows.holds t)
    c.in_err-put_row.ensures.same_own c.in_err-put_row.ensures.same_facets)

pub invariant_of-self-2 : goal.invariant_of-self-2
invariant_of-self-2 c = let i = c.self.inside in
    let s = c.in-Some.it.now in
    let t = with_rows s c.put_row.new.own c.add.new.self c.put_row.new.facets in
    let new = c.get_mut.follows.lender t in
    let re = renewed_from c.args.owner c.in-Some.it.now t i.actors new (sym c.in-Some.ensures.value)
    (c.get_mut.follows.holds t) in
    let row : Row = record {
      handle = c.get-handle.result;
      owner = c.args.owner;
      facet = c.args.facet;
      target = c.args.to.0;
      entity = c.args.to.1;
      value = c.args.value;
    } in
    record {
      kept = subst (λ n. IsKept n c.put_row.new.rows.entries new.entries i.busy.keys) (sym c.advance.ensures)
          (kept_asserted i.next c.in-Some.it.now t _ i.rows.entries c.put_row.new.rows.entries i.actors.entries
          new.entries i.busy.keys c.self.invariant.kept re c.in_ok-put_row.ensures.own
          (c.add.ensures ∙ ap (λ (n : ℕ). s.row_weight + n) c.weight-weight.ensures) refl
          c.get-handle.ensures.handle c.in_ok-put_row.ensures.rows c.in_ok-put_row.ensures.ordered);
      counted = counted_same c.args.owner i.waiting s t i.actors.entries new.entries c.self.invariant.counted re.was
          (c.get_mut.follows.holds t).0 refl;
      standing = subst (λ (rows : List Row). AreStanding new.entries rows)
          (sym (ap values_of c.in_ok-put_row.ensures.rows ∙ values-push i.rows.entries row))
          (standing_asserted s t row i.actors.entries new.entries (values_of i.rows.entries) c.self.invariant.standing
          re (subst (λ (n : ℕ). find_row n (values_of i.rows.entries) ≡ None) (sym c.get-handle.ensures.handle)
          (find_none_from i.next (values_of i.rows.entries) c.self.invariant.kept.below))
          c.in_ok-put_row.ensures.placed);
    }

pub returns-clause-made : goal.returns-clause-made
returns-clause-made c = let i = c.self.inside in
    let s = c.in-Some.it.now in
    let t = with_rows s c.put_row.new.own c.add.new.self c.put_row.new.facets in
    let new = c.get_mut.follows.lender t in
    let w = c.get_mut.follows.holds t in
    ap (λ n. state_of n c.put_row.new.rows.entries new.entries) c.advance.ensures
    ∙ asserted_is c.args.owner i.next c.in-Some.it.now t _ i.rows.entries c.put_row.new.rows.entries i.actors.entries
    new.entries _ c.self.view_is c.get-handle.ensures.handle refl c.in_ok-put_row.ensures.rows
    (sym c.in-Some.ensures.value) refl c.put_row.ensures.tree w.0
