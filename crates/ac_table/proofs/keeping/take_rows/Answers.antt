use Rattle.std.proofs.Common.{◌≡◌, ℕ, ◌∷◌, ◌<◌, refl, sym, ◌∙◌, arith, List, [], length, true, false}
use Rattle.ac_table.proofs.Removing.{ascend_from, found_from, values_removed, values_from, keyed_from}
use Rattle.ac_table.proofs.Taking.{taking_more, taking_none, taking_done}
use Rattle.ac_table.proofs.keeping.take_rows.Goals as goal

pub loop-handle-init : goal.loop-handle-init
loop-handle-init c = record {
  keyed = c.requires.keyed;
  ordered = c.requires.ordered;
  room = grind (arith, c.requires.room, c.requires.empty);
  taking = λ p own. record { left_is = own; all = rw c.requires.empty refl; rest = refl };
}

pub loop-handle-preserved-in-Some-remove : goal.loop-handle-preserved-in-Some-remove
loop-handle-preserved-in-Some-remove c =
    let i = c.loop-handle.invariant in
    let m = c.loop-handle.rows.entries in
    let n = c.remove.new.self.entries in
    let h = c.in-Some.handle in
    let is = values_removed m n h i.keyed i.ordered c.remove.ensures.entries in
    record {
      keyed = keyed_from n _ is;
      ordered = c.remove.ensures.ordered;
      room = omega (arith, i.room, c.in-Some.ensures.len, c.append.ensures.len, c.append.ensures.capacity);
      taking = taking_more _ _ _ _ _ _ _ _ h c.in-Some-remove.row i.taking c.in-Some.ensures.removal
          (ascend_from m i.keyed i.ordered)
          (sym (found_from m h i.keyed) ∙ sym c.in-Some-remove.ensures.value)
          (values_from n _ is) c.append.ensures.row;
    }

pub loop-handle-preserved : goal.loop-handle-preserved
loop-handle-preserved c =
    let i = c.loop-handle.invariant in
    let m = c.loop-handle.rows.entries in
    let n = c.remove.new.self.entries in
    let h = c.in-Some.handle in
    let is = values_removed m n h i.keyed i.ordered c.remove.ensures.entries in
    record {
      keyed = keyed_from n _ is;
      ordered = c.remove.ensures.ordered;
      room = omega (arith, i.room, c.in-Some.ensures.len);
      taking = taking_none _ _ _ _ _ _ _ h i.taking c.in-Some.ensures.removal
          (ascend_from m i.keyed i.ordered)
          (sym (found_from m h i.keyed) ∙ sym c.in_default-remove.ensures.value);
    }

pub append-requires : goal.append-requires
append-requires c = omega (arith, c.loop-handle.invariant.room, c.in-Some.ensures.len)

empty_from : (ks : List ℕ) → (0 < length ks → false ≡ true) → ks ≡ []
empty_from [] some = refl
empty_from (k ∷ ks) some = let clash : false ≡ true = some (omega arith) in absurd cc

pub returns-clause-taken : goal.returns-clause-taken
returns-clause-taken c = taking_done _ _ _ _ _ c.loop-handle.invariant.taking (empty_from _
    c.in_default.ensures.variant.1)
