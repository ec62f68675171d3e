-- A row goes, and with it its assertion at the target.
use Rattle.std.proofs.Common.{◌≡◌, ℕ, true, List, [], ◌∷◌, refl, ap, arith, sym, ◌∙◌, Some, Option}
use Rattle.std.proofs.Common.{Result, Ok, Err, OnOk}
use Rattle.ac_table.specs.declared.batches.Row.{Row}
use Rattle.ac_table.specs.declared.batches.Event.TheVariants.{Retract}
use Rattle.ac_table.specs.Tables.{find_row, retracted}
use Rattle.ac_world.specs.Outboxes.{Plan, owns, is_owned, told, drop_row, drop_own, dropped}

pub on_ok : {X E : Type 0} (P Q : Type 0) (r : Result X E) → (P → Q) → OnOk r P → OnOk r Q
on_ok P Q (Ok x) f p = f p
on_ok P Q (Err e) f p = tt

pub found_handle : (h : ℕ) (rows : List Row) (r : Row) → find_row h rows ≡ Some r → r.handle ≡ h
found_handle h [] r is = absurd cc
found_handle h (x ∷ xs) r is = grind (arith, is, found_handle h xs r)

drop_own-is : (owner : ℕ) (r : Row) (p : Plan) → is_owned owner (Some r) ≡ true
    → drop_own owner (Some r) p ≡ drop_row r p
drop_own-is owner r p own = rw own refl

pub dropped_is : (owner h : ℕ) (p new : Plan) (r : Row) → find_row h p.table.rows ≡ Some r
    → owns owner h p.table ≡ true → new.table ≡ retracted h p.table
    → new.out ≡ told r.target (Retract h r.entity) p.out → new ≡ dropped owner h p
dropped_is owner h p new r found own table out =
    let handle : h ≡ r.handle = sym (found_handle h p.table.rows r found) in
    let same : new ≡ record {
      table = retracted h p.table;
      out = told r.target (Retract h r.entity) p.out;
    } = λ i. record { table = table i; out = out i } in
    let gone : new ≡ drop_row r p = same ∙ λ i. record {
      table = retracted (handle i) p.table;
      out = told r.target (Retract (handle i) r.entity) p.out;
    } in
    gone ∙ sym (drop_own-is owner r p (ap (is_owned owner) (sym found) ∙ own))
    ∙ ap (λ (o : Option Row). drop_own owner o p) (sym found)
