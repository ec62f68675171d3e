-- What a turn does, in the making: a valid plan stays so with each act, and what it tells is posted to valid inboxes.
use Rattle.std.proofs.Common.{◌≡◌, ℕ, ◌+◌, ◌==◌, List, [], ◌∷◌, ◌++◌, Bool, true, false, cond, Option}
use Rattle.std.proofs.Common.{Some, None, refl, arith, unwrap_or}
use Rattle.std.specs.List.{AllByRecursion}
use Rattle.pv_value.specs.Plain.{Plain}
use Rattle.ac_table.specs.declared.batches.Row.{Row}
use Rattle.ac_table.specs.declared.batches.Event.{Event}
use Rattle.ac_table.specs.declared.batches.Event.TheVariants.{Assert, Retract, Message, Sync}
use Rattle.ac_table.specs.Facets.{Tree}
use Rattle.ac_table.specs.Tables.{TableState, find_row, asserted, retracted, pushed}
use Rattle.ac_world.specs.declared.acts.Act.{Act}
use Rattle.ac_world.specs.declared.acts.Act.TheVariants as act
use Rattle.ac_world.specs.Outboxes.{Outbox, told_to, told, posted, Plan, plan_over, put, drop_row, drop_own, dropped}
use Rattle.ac_world.specs.Outboxes.{said, committed, with_trees, acted, all_acted, retractions}
use Rattle.ac_world.specs.Worlds.{entry_of}
use Rattle.ac_world.specs.Lemmas.Entries.{each_with, each_found}
use Rattle.hub_valid.specs.Lemmas.Filtered.{all_kept}
use Rattle.hub_valid.specs.Validity.{Lived, IsObjectAt, HoldsObjects, IsValidRow, IsValidEvent, IsValidAct}
use Rattle.hub_valid.specs.Lemmas.Values.{all_weaker, all_append, within_same}
use Rattle.hub_valid.specs.Lemmas.WorldTables.{later_event, rows_later, inboxes_later, IsValidTable, row_found}
use Rattle.hub_valid.specs.Lemmas.WorldTables.{pushed_valid}

-- ---- outboxes

-- each event for each target passes
abbrev pub AreTold : (Event → Type 0) → Outbox → Type 0
AreTold P out = AllByRecursion (λ o. AllByRecursion P o.1) out

told_to_pass : (P : Event → Type 0) (target : ℕ) (out : Outbox) → AreTold P out
    → AllByRecursion P (told_to target out)
told_to_pass P target out all = by (entry_of target out) refl
  where
    by : (o : Option (List Event)) → entry_of target out ≡ o → AllByRecursion P (unwrap_or o [])
    by None found = tt
    by (Some es) found = each_found (λ o. AllByRecursion P o.1) target es out all found

-- one more event, where it passes
pub told_pass : (P : Event → Type 0) (target : ℕ) (e : Event) (out : Outbox) → P e → AreTold P out
    → AreTold P (told target e out)
told_pass P target e out p all =
    each_with (λ o. AllByRecursion P o.1) target (told_to target out ++ e ∷ []) out
    (all_append P (told_to target out) (e ∷ []) (told_to_pass P target out all) (p, tt)) all

pub told_weaker : (P Q : Event → Type 0) (out : Outbox) → ((e : Event) → P e → Q e) → AreTold P out → AreTold Q out
told_weaker P Q out f all =
    all_weaker (λ (o : ℕ × List Event). AllByRecursion P o.1) (λ o. AllByRecursion Q o.1)
    (λ o. all_weaker P Q f o.1) out all

pub posted_valid : (n : Lived) (from : ℕ) (out : Outbox) (t : TableState) → IsValidTable n t
    → AreTold (IsValidEvent n t.next) out → IsValidTable n (posted from out t)
posted_valid n from [] t v all = v
posted_valid n from (o ∷ os) t v all =
    posted_valid n from os (pushed o.0 (record { from = from; events = o.1 }) t)
    (pushed_valid n o.0 (record { from = from; events = o.1 }) t v all.0) all.1

-- the retractions of valid rows
pub retractions_valid : (n : Lived) (next : ℕ) (rows : List Row) (out : Outbox) → AllByRecursion (IsValidRow n next) rows
    → AreTold (IsValidEvent n next) out → AreTold (IsValidEvent n next) (retractions rows out)
retractions_valid n next [] out v all = all
retractions_valid n next (r ∷ rs) out v all =
    retractions_valid n next rs (told r.target (Retract r.handle r.entity) out) v.1
    (told_pass (IsValidEvent n next) r.target (Retract r.handle r.entity) out (v.0.0, v.0.1.1) all)

-- ---- plans

pub record IsValidPlan (n : Lived) (p : Plan) : Type 0 where
  pub table : IsValidTable n p.table
  pub told : AreTold (IsValidEvent n p.table.next) p.out

pub begin_valid : (n : Lived) (t : TableState) → IsValidTable n t → IsValidPlan n (plan_over t)
begin_valid n t v = record { table = v; told = tt }

asserted_valid : (n : Lived) (owner facet target entity : ℕ) (x : Plain) (t : TableState) → IsObjectAt n target entity
    → HoldsObjects n x → IsValidTable n t → IsValidTable n (asserted owner facet target entity x t)
asserted_valid n owner facet target entity x t at holds v = record {
  rows = all_append (IsValidRow n (t.next + 1)) t.rows _
      (rows_later n n t.next (t.next + 1) t.rows (within_same n) (omega arith) v.rows)
      ((omega arith, at, holds), tt);
  inboxes = inboxes_later n n t.next (t.next + 1) t.actors (within_same n) (omega arith) v.inboxes;
}

pub put_valid : (n : Lived) (owner facet target entity : ℕ) (x : Plain) (p : Plan) → IsObjectAt n target entity
    → HoldsObjects n x → IsValidPlan n p → IsValidPlan n (put owner facet target entity x p)
put_valid n owner facet target entity x p at holds v = record {
  table = asserted_valid n owner facet target entity x p.table at holds v.table;
  told = told_pass (IsValidEvent n (p.table.next + 1)) target (Assert p.table.next entity x) p.out
      (omega arith, at.1, holds)
      (told_weaker (IsValidEvent n p.table.next) (IsValidEvent n (p.table.next + 1)) p.out
      (λ e. later_event n n p.table.next (p.table.next + 1) e (within_same n) (omega arith)) v.told);
}

retracted_valid : (n : Lived) (h : ℕ) (t : TableState) → IsValidTable n t → IsValidTable n (retracted h t)
retracted_valid n h t v = record {
  rows = all_kept (IsValidRow n t.next) _ t.rows v.rows;
  inboxes = v.inboxes;
}

drop_row_valid : (n : Lived) (r : Row) (p : Plan) → IsValidRow n p.table.next r → IsValidPlan n p
    → IsValidPlan n (drop_row r p)
drop_row_valid n r p row v = record {
  table = retracted_valid n r.handle p.table v.table;
  told = told_pass (IsValidEvent n p.table.next) r.target (Retract r.handle r.entity) p.out (row.0, row.1.1) v.told;
}

pub dropped_valid : (n : Lived) (owner h : ℕ) (p : Plan) → IsValidPlan n p → IsValidPlan n (dropped owner h p)
dropped_valid n owner h p v = by (find_row h p.table.rows) refl
  where
    owned : (r : Row) → IsValidRow n p.table.next r → (b : Bool) → IsValidPlan n (cond b (drop_row r p) p)
    owned r row true = drop_row_valid n r p row v
    owned r row false = v

    by : (o : Option Row) → find_row h p.table.rows ≡ o → IsValidPlan n (drop_own owner o p)
    by None found = v
    by (Some r) found =
        owned r (row_found (IsValidRow n p.table.next) h p.table.rows r v.table.rows found) (r.owner == owner)

pub said_valid : (n : Lived) (target : ℕ) (e : Event) (p : Plan) → IsValidEvent n p.table.next e → IsValidPlan n p
    → IsValidPlan n (said target e p)
said_valid n target e p fits v =
    record { table = v.table; told = told_pass (IsValidEvent n p.table.next) target e p.out fits v.told }

-- facets tell nothing of handles, objects and events
pub with_trees_valid : (n : Lived) (trees : List (ℕ × Tree)) (p : Plan) → IsValidPlan n p
    → IsValidPlan n (with_trees trees p)
with_trees_valid n trees p v =
    record { table = record { rows = v.table.rows; inboxes = v.table.inboxes }; told = v.told }

pub committed_valid : (n : Lived) (from : ℕ) (p : Plan) → IsValidPlan n p → IsValidTable n (committed from p)
committed_valid n from p v = posted_valid n from p.out p.table v.table v.told

-- ---- acts

acted_valid : (n : Lived) (a : ℕ) (x : Act) (p : Plan) → IsValidAct n x → IsValidPlan n p → IsValidPlan n (acted a x p)
acted_valid n a (act.Assert target entity y) p is v = put_valid n a 0 target entity y p is.0 is.1 v
acted_valid n a (act.Retract h) p is v = dropped_valid n a h p v
acted_valid n a (act.Message target entity y) p is v = said_valid n target (Message entity y) p (is.0.1, is.1) v
acted_valid n a (act.Sync target entity peer) p is v = said_valid n target (Sync entity peer) p (is.0.1, is.1) v

pub all_acted_valid : (n : Lived) (a : ℕ) (xs : List Act) (p : Plan) → AllByRecursion (IsValidAct n) xs → IsValidPlan n p
    → IsValidPlan n (all_acted a xs p)
all_acted_valid n a [] p all v = v
all_acted_valid n a (x ∷ xs) p all v =
    all_acted_valid n a xs (acted a x p) all.1 (acted_valid n a x p all.0 v)
