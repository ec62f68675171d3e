-- A world that an actor has left is sound.
use Rattle.std.proofs.Common.{◌≡◌, ◌≢◌, ℕ, ◌<◌, ◌≤◌, List, [], ◌∷◌, Bool, true, false, cond, not, Some}
use Rattle.std.proofs.Common.{refl, sym, ap, ◌∙◌, subst, arith, eqb, ◌⊎◌, inl, inr}
use Rattle.std.specs.Prelude.{unwrap_or}
use Rattle.std.specs.List.{AllByRecursion, filter}
use Rattle.std.proofs.lemmas.Bool.Decides.{nat_tests}
use Rattle.pv_value.specs.Plain.{Plain}
use Rattle.ac_table.specs.declared.batches.Row.{Row}
use Rattle.ac_table.specs.declared.batches.Batch.{Batch}
use Rattle.ac_table.specs.Tables.{Actor, IsTable, find_actor, is_live, ended, rows_of}
use Rattle.ac_table.specs.Tables.{rows_of_others}
use Rattle.ac_world.specs.Outboxes.{told_to, retractions}
use Rattle.ac_world.specs.Watchers.{watcher_of}
use Rattle.ac_world.specs.Worlds.{WorldState, Resident, resident_of, held_by, entry_of, without_entry, is_system, gone}
use Rattle.ac_world.specs.Worlds.{no_resident}
use Rattle.ac_world.specs.Lemmas.Entries.{out_other, out_gone, ascend_without}
use Rattle.ac_world.specs.Behaviours.{behaviour_of}
use Rattle.hub_laws.specs.Standing.{value_alone, at_object}
use Rattle.hub_laws.specs.Wanting.{IsMet}
use Rattle.hub_laws.proofs.Asked.{MetKept, OthersFound, OthersKeep}
use Rattle.hub_laws.proofs.EndingActors.{own_spare, retractions_fit}
use Rattle.hub_laws.proofs.Fresh.{TellsOfRows, none_told, quiet_posted, retractions_of_rows}
use Rattle.hub_laws.proofs.Kept.{IsGood, IsServedBy, IsServed, IsSound, IsFresh, IsMetIn}
use Rattle.hub_laws.proofs.Promised.{PostedTo, PostedTable, ServedAfterEnd, RetractionsAscend, EndedTable, IsPostedTo}

-- what the lemmas of other parts give
pub record Endings : Type 1 where
  pub posted_to : PostedTo
  pub posted_table : PostedTable
  pub served_after_end : ServedAfterEnd
  pub retractions_ascend : RetractionsAscend
  pub ended_table : EndedTable
  pub met_kept : MetKept
  pub others_found : OthersFound
  pub others_keep : OthersKeep

-- whether two numbers are one
abbrev pub OneOrNot : ℕ → ℕ → Type 0
OneOrNot b a = (b ≡ a) ⊎ (b ≢ a)

pub one_or_not : (b a : ℕ) → OneOrNot b a
one_or_not b a = by (eqb b a) refl
  where
    by : (c : Bool) → eqb b a ≡ c → OneOrNot b a
    by true is = inl (grind (arith, nat_tests, is))
    by false is = inr (λ same. absurd (grind (arith, nat_tests, is, same)))

-- who is found once a is gone was found before
found_before : (a b : ℕ) (xs : List Actor) (y : Actor) → find_actor b (filter (λ x. not (eqb x.number a)) xs) ≡ Some y
    → (find_actor b xs ≡ Some y) × (b ≢ a)
found_before a b [] y is = absurd cc
found_before a b (x ∷ xs) y is = by (eqb x.number a) (eqb x.number b) refl refl is (found_before a b xs y)
  where
    by : (c d : Bool) → eqb x.number a ≡ c → eqb x.number b ≡ d
        → find_actor b (cond (not c) (x ∷ filter (λ z. not (eqb z.number a)) xs)
        (filter (λ z. not (eqb z.number a)) xs)) ≡ Some y
        → (find_actor b (filter (λ z. not (eqb z.number a)) xs) ≡ Some y → (find_actor b xs ≡ Some y) × (b ≢ a))
        → (cond d (Some x) (find_actor b xs) ≡ Some y) × (b ≢ a)
    by true true p q is later =
        let r = later is in absurd (r.1 (grind (arith, nat_tests, p, q)))
    by true false p q is later = later is
    by false true p q is later = (
      rw q at is,
      λ same. absurd (grind (arith, nat_tests, p, q, same)),
    )
    by false false p q is later = later (rw q at is)

all_others : (a : ℕ) (rows : List Row) → AllByRecursion IsGood rows → AllByRecursion IsGood (rows_of_others a rows)
all_others a [] all = tt
all_others a (r ∷ rs) all = by (eqb r.owner a) (all_others a rs all.1)
  where
    by : (c : Bool) → AllByRecursion IsGood (rows_of_others a rs)
        → AllByRecursion IsGood (cond (not c) (r ∷ rows_of_others a rs) (rows_of_others a rs))
    by true later = later
    by false later = (all.0, later)

-- ---- the world without a

live_gone : (P : Endings) (a b : ℕ) (w : WorldState) → is_live b (gone a w).table ≡ is_live b (ended a w.table)
live_gone P a b w = (P.posted_table a (retractions (rows_of a w.table.rows) []) (ended a w.table)).2 b

pub gone_not_live : (P : Endings) (a : ℕ) (w : WorldState) → IsTable w.table → is_live a (gone a w).table ≡ false
gone_not_live P a w k = live_gone P a a w ∙ (P.ended_table a w.table k).1

pub gone_others_live : (P : Endings) (a b : ℕ) (w : WorldState) → IsTable w.table → b ≢ a
    → is_live b (gone a w).table ≡ is_live b w.table
gone_others_live P a b w k ne = live_gone P a b w ∙ (P.ended_table a w.table k).2 b ne

-- nobody becomes live by an ending
pub gone_live_before : (P : Endings) (a b : ℕ) (w : WorldState) → IsTable w.table → is_live b (gone a w).table ≡ true
    → (is_live b w.table ≡ true) × (b ≢ a)
gone_live_before P a b w k is = elim (one_or_not b a) [
  | inl same ↦
      absurd (let f : is_live b (gone a w).table ≡ false = ap
      (λ c. is_live c (gone a w).table) same ∙ gone_not_live P a w k in cc)
  | inr ne ↦ (sym (gone_others_live P a b w k ne) ∙ is, ne)
]

-- what another actor keeps, and what was delivered to it, stays
other_kept : (a b : ℕ) (w : WorldState) → b ≢ a → resident_of b (gone a w) ≡ resident_of b w
other_kept a b w ne = ap (λ o. unwrap_or o no_resident) (out_other a b w.residents ne)

other_held : (a b : ℕ) (w : WorldState) → b ≢ a → held_by b (gone a w) ≡ held_by b w
other_held a b w ne = ap (λ o. unwrap_or o []) (out_other a b w.held ne)

served_rest : {X : Type 0} (P : Endings) (f : ℕ → Plain → X) (ends : List ℕ) (a b : ℕ) (w : WorldState)
    (before after : List (ℕ × X)) (old new : List Batch) → IsTable w.table → AllByRecursion IsGood w.table.rows
    → after ≡ before → IsPostedTo a (told_to b (retractions (rows_of a w.table.rows) [])) old new
    → IsServedBy f ends w.table.rows w.table.next b before old
    → IsServedBy f ends (gone a w).table.rows (gone a w).table.next b after new
served_rest {X = X} P f ends a b w before after old new k good same is s =
    let q = P.posted_table a (retractions (rows_of a w.table.rows) []) (ended a w.table) in
    subst (λ got. IsServedBy f ends (gone a w).table.rows (gone a w).table.next b got new) (sym same)
    (subst (λ rows. IsServedBy f ends rows (gone a w).table.next b before new) (sym q.0)
    (subst (λ n. IsServedBy f ends (rows_of_others a w.table.rows) n b before new) (sym q.1)
    (P.served_after_end X f ends a b w.table before old new k good s is)))

served_in : (P : Endings) (ends : List ℕ) (a b : ℕ) (w : WorldState) (old new : List Batch) → IsTable w.table
    → AllByRecursion IsGood w.table.rows → b ≢ a
    → IsPostedTo a (told_to b (retractions (rows_of a w.table.rows) [])) old new → (s : Bool) → IsServed ends b old w s
    → IsServed ends b new (gone a w) s
served_in P ends a b w old new k good ne is true s =
    served_rest P value_alone ends a b w (resident_of b w).got (resident_of b (gone a w)).got old new k good
    (ap (λ (r : Resident). r.got) (other_kept a b w ne)) is s
served_in P ends a b w old new k good ne is false s =
    served_rest P at_object ends a b w (held_by b w) (held_by b (gone a w)) old new k good (other_held a b w ne) is s

served_gone : (P : Endings) (ends : List ℕ) (a : ℕ) (w : WorldState) → IsSound ends w → (b : ℕ) (x : Actor)
    → find_actor b (gone a w).table.actors ≡ Some x → IsServed ends b x.inbox (gone a w) (is_system b)
served_gone P ends a w k b x found =
    let out = retractions (rows_of a w.table.rows) [] in
    let y = P.posted_to a b out (ended a w.table) x (P.retractions_ascend a w.table.rows) found in
    let before = found_before a b w.table.actors y.0 y.1 in
    served_in P ends a b w y.0.inbox x.inbox k.table k.rows before.1 y.2 (is_system b) (k.served b y.0 before.0)

-- the wants of others stay met
met_gone : (P : Endings) (a b : ℕ) (w : WorldState) → IsTable w.table → b ≢ a → IsMetIn w w.table.rows b
    → IsMetIn (gone a w) (rows_of_others a w.table.rows) b
met_gone P a b w k ne m =
    subst (λ (r : Resident). IsMet (behaviour_of w.schema w.bindings w.watches b) (watcher_of b w.watches) b r
    (rows_of_others a w.table.rows)) (sym (other_kept a b w ne))
    (P.met_kept (behaviour_of w.schema w.bindings w.watches b) (watcher_of b w.watches) b (resident_of b w)
    w.table.rows (rows_of_others a w.table.rows) m
    (λ h r own found. P.others_keep a h w.table.rows r found (λ same. ne (sym own ∙ same)))
    (λ h r own found. (P.others_found a h w.table.rows r k.rows_ascend found).0))

-- before the first connection comes only a watcher ends
fresh_gone : (P : Endings) (ends : List ℕ) (a : ℕ) (w : WorldState) → 9 ≤ a → is_live a w.table ≡ true
    → IsSound ends w → w.opened ≡ 0 → IsFresh (gone a w)
fresh_gone P ends a w far live k none =
    let f = k.fresh none in
    let rows = rows_of a w.table.rows in
    let out = retractions rows [] in
    let of : TellsOfRows out = retractions_of_rows rows [] (λ b. tt) in
    let low : a < 17 = omega (arith, k.numbers a live, none) in
    let ne : 0 ≢ a = λ same. absurd (omega (arith, far, same)) in
    record {
      got = ap (λ (r : Resident). r.got) (other_kept a 0 w ne) ∙ f.got;
      inboxes = quiet_posted a out (ended a w.table) (P.retractions_ascend a w.table.rows) of
          (none_told a [] (told_to 0 out) low (of 0)
          (retractions_fit a 0 [] rows [] (own_spare a w.table.rows k.rows) tt))
          (record {
            none = λ x found. f.inboxes.none x (found_before a 0 w.table.actors x found).0;
            of_rows = λ b x found. f.inboxes.of_rows b x (found_before a b w.table.actors x found).0;
          });
    }

pub gone_sound : (P : Endings) (ends : List ℕ) (a : ℕ) (w : WorldState) → 9 ≤ a → is_live a w.table ≡ true
    → IsSound ends w → IsSound ends (gone a w)
gone_sound P ends a w far live k =
    let q = P.posted_table a (retractions (rows_of a w.table.rows) []) (ended a w.table) in
    record {
      table = q.3 (P.ended_table a w.table k.table).0;
      always = λ b l. gone_others_live P a b w k.table (λ same. absurd (omega (arith, l, far, same))) ∙ k.always b l;
      watchers = λ b l is. k.watchers b l (gone_live_before P a b w k.table is).0;
      watches = k.watches;
      numbers = λ b is. k.numbers b (gone_live_before P a b w k.table is).0;
      rows = subst (AllByRecursion IsGood) (sym q.0) (all_others a w.table.rows k.rows);
      served = served_gone P ends a w k;
      met = λ b l is.
          let before = gone_live_before P a b w k.table is in
          subst (λ rows. IsMetIn (gone a w) rows b) (sym q.0)
          (met_gone P a b w k.table before.1 (k.met b l before.0));
      fresh = fresh_gone P ends a w far live k;
      residents_ascend = ascend_without a w.residents k.residents_ascend;
      unkept = λ b is. elim (one_or_not b a) [
        | inl same ↦
            ap (λ c. entry_of c (without_entry a w.residents)) same ∙ out_gone a w.residents k.residents_ascend
        | inr ne ↦
            out_other a b w.residents ne ∙ k.unkept b (sym (gone_others_live P a b w k.table ne) ∙ is)
      ];
      held_ascends = ascend_without a w.held k.held_ascends;
      unheld = λ b is. elim (one_or_not b a) [
        | inl same ↦
            ap (λ c. entry_of c (without_entry a w.held)) same ∙ out_gone a w.held k.held_ascends
        | inr ne ↦
            out_other a b w.held ne ∙ k.unheld b (sym (gone_others_live P a b w k.table ne) ∙ is)
      ];
      system_unheld = λ b low. elim (one_or_not b a) [
        | inl same ↦ ap (λ c. entry_of c (without_entry a w.held)) same ∙ out_gone a w.held k.held_ascends
        | inr ne ↦ out_other a b w.held ne ∙ k.system_unheld b low
      ];
    }
