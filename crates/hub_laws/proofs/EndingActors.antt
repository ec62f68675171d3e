-- An actor ends: each of its rows goes, and each target is told of those that were there.
use Rattle.std.proofs.Common.{◌≡◌, ◌≢◌, ℕ, List, [], ◌∷◌, ◌==◌, Bool, true, false, not, Some, None, filter}
use Rattle.std.proofs.Common.{Option, Less}
use Rattle.std.proofs.Common.{map, is_some, cond, refl, ap, sym, ◌∙◌, subst, arith}
use Rattle.std.specs.List.{AllByRecursion}
use Rattle.std.specs.Ordering.{nat_cmp}
use Rattle.std.proofs.lemmas.Bool.Decides.{nat_tests}
use Rattle.std.proofs.lemmas.List.Kept.{IsStrictlySortedBy-filter}
use Rattle.std.proofs.lemmas.Map.Keys.{sorted_head, sorted_tail}
use Rattle.ac_table.specs.declared.batches.Row.{Row}
use Rattle.ac_table.specs.declared.batches.Event.TheVariants.{Retract}
use Rattle.ac_table.specs.Tables.{TableState, Actor, IsTable, find_actor, find_row, is_live, ended, handles, rows_of}
use Rattle.ac_table.specs.Tables.{rows_of_others, without_row}
use Rattle.ac_table.specs.Lemmas.Lists.{all_filter}
use Rattle.ac_world.specs.Outboxes.{Outbox, Plan, plan_over, drop_row, drop_own, told, told_to, retractions}
use Rattle.ac_world.specs.Lemmas.Entries.{KeysAscend, AreAbove, all_append, ascend_none, ascend_with}
use Rattle.hub_laws.proofs.Kept.{IsGood, Spares, FitsEvent, Moves}
use Rattle.hub_laws.proofs.Promised.{RetractionsAscend, EndedTable, ServedAfterEnd}
use Rattle.hub_laws.proofs.Finding.{Ascend, ascend_filter, unless_own, find_row-others}
use Rattle.hub_laws.proofs.Good.{spares}
use Rattle.hub_laws.proofs.Moving.{event_for, told_to-told, begin_moves, dropped_moves}
use Rattle.hub_laws.proofs.Serving.{leads_from, served_on}

-- ---- the retractions

retractions_on : (rs : List Row) (out : Outbox) → KeysAscend out → KeysAscend (retractions rs out)
retractions_on [] out s = s
retractions_on (r ∷ rs) out s =
    retractions_on rs (told r.target (Retract r.handle r.entity) out) (ascend_with _ _ out s)

pub retractions_ascend : RetractionsAscend
retractions_ascend a rows = retractions_on (rows_of a rows) [] ascend_none

-- a retraction fits wherever the row might stand
pub retractions_fit : (a b : ℕ) (rows rs : List Row) (out : Outbox) → AllByRecursion (λ r. Spares a r.target) rs
    → AllByRecursion (FitsEvent rows b a) (told_to b out)
    → AllByRecursion (FitsEvent rows b a) (told_to b (retractions rs out))
retractions_fit a b rows [] out spare fits = fits
retractions_fit a b rows (r ∷ rs) out spare fits =
    retractions_fit a b rows rs (told r.target (Retract r.handle r.entity) out) spare.1
    (rw (told_to-told b r.target (Retract r.handle r.entity) out)
    (all_append _ (told_to b out) (event_for b r.target (Retract r.handle r.entity)) fits (one (r.target == b) refl)))
  where
    one : (c : Bool) → (r.target == b) ≡ c
        → AllByRecursion (FitsEvent rows b a) (cond c (Retract r.handle r.entity ∷ []) [])
    one true is = (subst (λ (m : ℕ). Spares a m) (grind (arith, nat_tests, is)) spare.0, tt)
    one false is = tt

-- the rows of an actor stand where it may make them
pub own_spare : (a : ℕ) (rows : List Row) → AllByRecursion IsGood rows
    → AllByRecursion (λ r. Spares a r.target) (rows_of a rows)
own_spare a rows good =
    all_filter IsGood (λ r. Spares a r.target) (λ r. r.owner == a)
    (λ r own g. subst (λ (b : ℕ). Spares b r.target) (grind (arith, nat_tests, own)) (spares r.owner r.target g)) rows
    good

-- ---- the first of an actor's rows

without_row-above : (h : ℕ) (rows : List Row) → AreAbove h (handles rows) → without_row h rows ≡ rows
without_row-above h [] a = refl
without_row-above h (r ∷ rs) a = grind (arith, a.0, without_row-above h rs a.1)

without_first : (r : Row) (rs : List Row) → AreAbove r.handle (handles rs) → without_row r.handle (r ∷ rs) ≡ rs
without_first r rs a =
    let here : (r.handle == r.handle) ≡ true = grind (arith, nat_tests) in rw here (without_row-above r.handle rs a)

found_first : (r : Row) (rs : List Row) → find_row r.handle (r ∷ rs) ≡ Some r
found_first r rs = grind (arith, nat_tests)

above_found : (k h : ℕ) (rows : List Row) (r : Row) → AreAbove k (handles rows) → find_row h rows ≡ Some r
    → nat_cmp k h ≡ Less
above_found k h [] r a is = absurd cc
above_found k h (x ∷ xs) r a is = grind (arith, nat_tests, a.0, above_found k h xs r a.1)

-- it is found, and without it the others of the actor's are left, and all those of others
pub record IsFirst (a : ℕ) (rows : List Row) (r : Row) (rs : List Row) : Type 0 where
  pub owner : r.owner ≡ a
  pub found : find_row r.handle rows ≡ Some r
  pub rest : rows_of a (without_row r.handle rows) ≡ rs
  pub others : rows_of_others a (without_row r.handle rows) ≡ rows_of_others a rows

first_row : (a : ℕ) (rows : List Row) (r : Row) (rs : List Row) → Ascend rows → rows_of a rows ≡ r ∷ rs
    → IsFirst a rows r rs
first_row a [] r rs s is = absurd cc
first_row a (x ∷ xs) r rs s is = split (x.owner == a) refl (first_row a xs r rs (sorted_tail nat_cmp _ _ s))
  where
    split : (b : Bool) → (x.owner == a) ≡ b → (rows_of a xs ≡ r ∷ rs → IsFirst a xs r rs) → IsFirst a (x ∷ xs) r rs
    split true own later =
        let both : x ∷ rows_of a xs ≡ r ∷ rs = rw own at is in
        let same : x ≡ r = cc in
        let left : rows_of a xs ≡ rs = cc in
        let less : without_row x.handle (x ∷ xs) ≡ xs = without_first x xs (sorted_head nat_cmp _ _ s) in
        subst (λ (y : Row). IsFirst a (x ∷ xs) y rs) same (record {
          owner = grind (arith, nat_tests, own);
          found = found_first x xs;
          rest = ap (rows_of a) less ∙ left;
          others = ap (rows_of_others a) less ∙ sym (rw own refl);
        })
    split false other later =
        let k : IsFirst a xs r rs = later (rw other at is) in
        let above : nat_cmp x.handle r.handle ≡ Less =
        above_found x.handle r.handle xs r (sorted_head nat_cmp _ _ s) k.found in
        let apart : (x.handle == r.handle) ≡ false = grind (arith, nat_tests, above) in
        record {
          owner = k.owner;
          found = rw apart k.found;
          rest = rw (apart, other) k.rest;
          others = rw (apart, other) (ap (λ ys. x ∷ ys) k.others);
        }

none_own : (a : ℕ) (rows : List Row) → rows_of a rows ≡ [] → rows_of_others a rows ≡ rows
none_own a [] is = refl
none_own a (x ∷ xs) is = grind (arith, is, none_own a xs)

-- ---- rows of others

pub others_found : (a h : ℕ) (rows : List Row) (r : Row) → Ascend rows → find_row h (rows_of_others a rows) ≡ Some r
    → (find_row h rows ≡ Some r) × (r.owner ≢ a)
others_found a h rows r s is = split (find_row h rows) (sym (find_row-others h a rows s) ∙ is)
  where
    owned : (q : Row) (c : Bool) → (q.owner == a) ≡ c → cond c None (Some q) ≡ Some r
        → (Some q ≡ Some r) × (r.owner ≢ a)
    owned q true own is = absurd cc
    owned q false other is =
        let same : q ≡ r = grind (arith, is) in
        let no : q.owner ≢ a = λ e. grind (arith, nat_tests, other) in
        (is, λ own. no (ap (λ (x : Row). x.owner) same ∙ own))

    split : (o : Option Row) → unless_own a o ≡ Some r → (o ≡ Some r) × (r.owner ≢ a)
    split None is = absurd cc
    split (Some q) is = owned q (q.owner == a) refl is

pub others_keep : (a h : ℕ) (rows : List Row) (r : Row) → find_row h rows ≡ Some r → r.owner ≢ a
    → find_row h (rows_of_others a rows) ≡ Some r
others_keep a h [] r is other = is
others_keep a h (x ∷ xs) r is other = grind (arith, nat_tests, is, others_keep a h xs r)

-- ---- all of an actor's rows

-- the plan after the rows rs of the actor a went, in order, with none of them left
abbrev pub emptied : ℕ → List Row → Plan → Plan
emptied a rs p = record {
  table = record p.table { rows = rows_of_others a p.table.rows };
  out = retractions rs p.out;
}

emptied_moves : (a : ℕ) (t : TableState) (rs : List Row) (p : Plan) → rows_of a p.table.rows ≡ rs → Moves a t p
    → Moves a t (emptied a rs p)
emptied_moves a t [] p is m =
    subst (λ (rows : List Row). Moves a t (record {
      table = record p.table { rows = rows };
      out = p.out;
    })) (sym (none_own a p.table.rows is)) m
emptied_moves a t (r ∷ rs) p is m =
    let k : IsFirst a p.table.rows r rs = first_row a p.table.rows r rs m.table.rows_ascend is in
    let own : (r.owner == a) ≡ true = grind (arith, nat_tests, k.owner) in
    let less : Moves a t (drop_row r p) =
    rw own at (subst (λ o. Moves a t (drop_own a o p)) k.found (dropped_moves a t p m r.handle)) in
    subst (λ (rows : List Row). Moves a t (record {
      table = record p.table { rows = rows };
      out = retractions (r ∷ rs) p.out;
    })) k.others (emptied_moves a t rs (drop_row r p) k.rest less)

pub ended_moves : (a : ℕ) (t : TableState) → IsTable t → Moves a t (emptied a (rows_of a t.rows) (plan_over t))
ended_moves a t k = emptied_moves a t (rows_of a t.rows) (plan_over t) refl (begin_moves a t k)

pub served_after_end : ServedAfterEnd
served_after_end X f ends a b t got old new k good s posted =
    served_on f ends a b t.next t.next t.rows (rows_of_others a t.rows)
    (told_to b (retractions (rows_of a t.rows) [])) got old new
    (leads_from f a b t (emptied a (rows_of a t.rows) (plan_over t)) k (ended_moves a t k)
    (retractions_fit a b (rows_of_others a t.rows) (rows_of a t.rows) [] (own_spare a t.rows good) tt)) posted s

-- ---- who is live afterwards

found-ended : (a : ℕ) (xs : List Actor) → find_actor a (filter (λ x. not (x.number == a)) xs) ≡ None
found-ended a [] = refl
found-ended a (x ∷ xs) = grind (arith, nat_tests, found-ended a xs)

found-ended_other : (a b : ℕ) (xs : List Actor) → b ≢ a
    → find_actor b (filter (λ x. not (x.number == a)) xs) ≡ find_actor b xs
found-ended_other a b [] apart = refl
found-ended_other a b (x ∷ xs) apart = grind (arith, nat_tests, found-ended_other a b xs apart)

pub ended_none : (a : ℕ) (t : TableState) → find_actor a (ended a t).actors ≡ None
ended_none a t = found-ended a t.actors

pub ended_other : (a b : ℕ) (t : TableState) → b ≢ a → find_actor b (ended a t).actors ≡ find_actor b t.actors
ended_other a b t apart = found-ended_other a b t.actors apart

numbers-ended : (a : ℕ) (xs : List Actor)
    → map (λ x. x.number) (filter (λ x. not (x.number == a)) xs) ≡ filter (λ k. not (k == a)) (map (λ x. x.number) xs)
numbers-ended a [] = refl
numbers-ended a (x ∷ xs) = grind (arith, numbers-ended a xs)

pub ended_table : EndedTable
ended_table a t k = (
  record {
    rows_ascend = ascend_filter _ t.rows k.rows_ascend;
    rows_below_next = all_filter _ _ _ (λ r passed l. l) t.rows k.rows_below_next;
    actors_ascend = rw (numbers-ended a t.actors) (IsStrictlySortedBy-filter nat_cmp _ _ k.actors_ascend);
    owners_live = all_filter _ _ _ (λ r passed live. still r passed live) t.rows k.owners_live;
  },
  ap is_some (ended_none a t),
  λ b apart. ap is_some (ended_other a b t apart),
)
  where
    still : (r : Row) → not (r.owner == a) ≡ true → is_live r.owner t ≡ true → is_live r.owner (ended a t) ≡ true
    still r passed live =
        let apart : r.owner ≢ a = λ same. grind (arith, nat_tests, passed) in
        ap is_some (ended_other a r.owner t apart) ∙ live
