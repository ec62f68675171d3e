-- Each step of a turn's plan keeps the rows good, and what is told fits.
use Rattle.std.proofs.Common.{◌≡◌, ℕ, ◌<◌, ◌≤◌, ◌==◌, List, [], ◌∷◌, ◌++◌, Bool, true, false, cond, Option, Some, None}
use Rattle.std.proofs.Common.{refl, ◌∙◌, arith, subst, nat_lt}
use Rattle.std.specs.List.{AllByRecursion}
use Rattle.std.proofs.lemmas.Bool.Decides.{nat_tests}
use Rattle.ac_table.specs.declared.batches.Row.{Row}
use Rattle.ac_table.specs.declared.batches.Event.{Event}
use Rattle.ac_table.specs.declared.batches.Event.TheVariants.{Assert, Retract, Message, Sync}
use Rattle.ac_table.specs.Facets.{Tree}
use Rattle.ac_table.specs.Tables.{TableState, find_row, without_row}
use Rattle.ac_table.specs.Lemmas.Lists.{all_filter}
use Rattle.ac_world.specs.Outboxes.{Outbox, Plan, with_trees, drop_row, drop_own, told_to, told}
use Rattle.ac_world.specs.Lemmas.Entries.{all_append}
use Rattle.hub_laws.proofs.Kept.{made_in, Reaches, IsGood, IsOwnedBy, Spares, FitsEvent, Moves, AreGood}
use Rattle.hub_laws.proofs.Promised.{IsSaid, BeginGood, PutGood, DroppedGood, SaidGood}
use Rattle.hub_laws.proofs.Finding.{row_next, found_all, find_row-without, find_row-asserted}
use Rattle.hub_laws.proofs.Moving.{told_to-told}

pub begin_good : BeginGood
begin_good a t good = record { rows = good; told = λ b. tt }

-- where the event for the target fits, each target's events fit
pub told_fit : (a target : ℕ) (e : Event) (rows : List Row) (out : Outbox)
    → ((b : ℕ) → AllByRecursion (FitsEvent rows b a) (told_to b out)) → FitsEvent rows target a e
    → (b : ℕ) → AllByRecursion (FitsEvent rows b a) (told_to b (told target e out))
told_fit a target e rows out old fits b =
    rw (told_to-told b target e out) (all_append _ (told_to b out) _ (old b) (here (target == b) refl))
  where
    here : (c : Bool) → (target == b) ≡ c → AllByRecursion (FitsEvent rows b a) (cond c (e ∷ []) [])
    here true is =
        let same : target ≡ b = grind (arith, is) in
        (subst (λ (m : ℕ). FitsEvent rows m a e) same fits, tt)
    here false is = tt

-- what fits the old rows fits the new, where each row under a handle that is asserted stays its owner's, or goes
pub fits_still : (a b : ℕ) (P : ℕ → Type 0) (old new : List Row)
    → ((h : ℕ) → P h → IsOwnedBy a b (find_row h old) → IsOwnedBy a b (find_row h new)) → (es : List Event)
    → AllByRecursion P (made_in es) → AllByRecursion (FitsEvent old b a) es
    → AllByRecursion (FitsEvent new b a) es
fits_still a b P old new keep [] p fits = tt
fits_still a b P old new keep (Assert h entity v ∷ es) p fits =
    ((keep h p.0 fits.0.0, fits.0.1), fits_still a b P old new keep es p.1 fits.1)
fits_still a b P old new keep (Retract h entity ∷ es) p fits =
    (fits.0, fits_still a b P old new keep es p fits.1)
fits_still a b P old new keep (Message entity v ∷ es) p fits =
    (tt, fits_still a b P old new keep es p fits.1)
fits_still a b P old new keep (Sync entity peer ∷ es) p fits =
    (tt, fits_still a b P old new keep es p fits.1)

-- ---- facets change

pub with_trees_good : (a : ℕ) (p : Plan) (trees : List (ℕ × Tree)) → AreGood a p → AreGood a (with_trees trees p)
with_trees_good a p trees g = record { rows = g.rows; told = g.told }

-- ---- a row comes

pub spares : (a b : ℕ) → Reaches a b → Spares a b
spares a b reaches system = by (nat_lt a 9) refl
  where
    by : (c : Bool) → nat_lt a 9 ≡ c → 1 ≤ b
    by true is = let far = reaches.far (grind (arith, nat_tests, is)) in omega (arith, far)
    by false is = (reaches.near (grind (arith, nat_tests, is)) system).0

pub put_good : PutGood
put_good a t p m g facet target entity v reaches = record {
  rows = all_append _ p.table.rows _ g.rows (reaches, tt);
  told = told_fit a target _ _ p.out
      (λ b. fits_still a b _ p.table.rows _ (keep b) (told_to b p.out) (m.made_new b) (g.told b))
      (rw found (refl, refl), spares a target reaches);
}
  where
    found : find_row p.table.next (p.table.rows ++ row_next a facet target entity v p.table ∷ [])
        ≡ Some (row_next a facet target entity v p.table)
    found = find_row-asserted p.table.next a facet target entity v p.table m.table ∙ grind arith

    keep : (b h : ℕ) → (t.next ≤ h) × (h < p.table.next) → IsOwnedBy a b (find_row h p.table.rows)
        → IsOwnedBy a b (find_row h (p.table.rows ++ row_next a facet target entity v p.table ∷ []))
    keep b h l owned =
        let apart : (p.table.next == h) ≡ false = grind (arith, nat_tests, l.1) in
        rw (find_row-asserted h a facet target entity v p.table m.table, apart) owned

-- ---- a row goes

pub owned_without : (a b h k : ℕ) (rows : List Row) → IsOwnedBy a b (find_row h rows)
    → IsOwnedBy a b (find_row h (without_row k rows))
owned_without a b h k rows owned = rw (find_row-without h k rows) (split (k == h))
  where
    split : (c : Bool) → IsOwnedBy a b (cond c None (find_row h rows))
    split true = tt
    split false = owned

drop_row_good : (a : ℕ) (t : TableState) (p : Plan) (r : Row) → Moves a t p → AreGood a p → Spares a r.target
    → AreGood a (drop_row r p)
drop_row_good a t p r m g spared = record {
  rows = all_filter _ _ _ (λ q passed good. good) p.table.rows g.rows;
  told = told_fit a r.target (Retract r.handle r.entity) _ p.out
      (λ b. fits_still a b _ p.table.rows _ (λ h l. owned_without a b h r.handle p.table.rows) (told_to b p.out)
      (m.made_new b) (g.told b))
      spared;
}

pub dropped_good : DroppedGood
dropped_good a t p m g h = split (find_row h p.table.rows) refl
  where
    owned : (r : Row) → find_row h p.table.rows ≡ Some r → (c : Bool) → (r.owner == a) ≡ c
        → AreGood a (cond c (drop_row r p) p)
    owned r found true own =
        drop_row_good a t p r m g
        (subst (λ (b : ℕ). Spares b r.target) (grind (arith, nat_tests, own))
        (spares r.owner r.target (found_all IsGood h p.table.rows r g.rows found)))
    owned r found false own = g

    split : (o : Option Row) → find_row h p.table.rows ≡ o → AreGood a (drop_own a o p)
    split None found = g
    split (Some r) found = owned r found (r.owner == a) refl

-- ---- what is only said

said_fits : (a b : ℕ) (rows : List Row) (e : Event) → IsSaid e → FitsEvent rows b a e
said_fits a b rows (Assert h entity v) is = absurd is
said_fits a b rows (Retract h entity) is = absurd is
said_fits a b rows (Message entity v) is = tt
said_fits a b rows (Sync entity peer) is = tt

pub said_good : SaidGood
said_good a p g target e is = record {
  rows = g.rows;
  told = told_fit a target e p.table.rows p.out g.told (said_fits a target p.table.rows e is);
}
