-- What may still come of a table: handles, rows and events to connections. An assertion that waits for dataspace 1 may
-- bring one of each, an event that waits for a connection is one, and a row at a connection may bring a retraction. What
-- is done with a table makes the sum no greater, but for what a connection asserts.
use Rattle.std.proofs.Common.{◌≡◌, ℕ, ◌+◌, ◌<◌, ◌≤◌, ◌⊎◌, inl, inr, List, [], ◌∷◌, ◌++◌, ◌==◌, Bool, true}
use Rattle.std.proofs.Common.{false, cond, not, Some, None, filter, drop, refl, sym, ap, ◌∙◌, subst, arith}
use Rattle.std.proofs.Common.{Ordering, Less, Equal, Greater}
use Rattle.std.specs.Prelude.{unwrap_or, slice_get, nat_lt, if◌then◌else◌}
use Rattle.std.specs.Ordering.{nat_cmp, match_ordering, is_eq}
use Rattle.std.specs.List.{AllByRecursion}
use Rattle.std.specs.Map.{keys_of}
use Rattle.std.proofs.lemmas.Bool.Decides.{nat_tests}
use Rattle.std.proofs.lemmas.Map.Keys.{sorted_head, sorted_tail}
use Rattle.pv_value.specs.Plain.{Plain, sequence, plains}
use Rattle.pv_words.specs.Words.{number}
use Rattle.ac_table.specs.declared.batches.Row.{Row}
use Rattle.ac_table.specs.declared.batches.Event.{Event}
use Rattle.ac_table.specs.declared.batches.Event.TheVariants.{Assert, Retract, Message, Sync}
use Rattle.ac_table.specs.declared.batches.Batch.{Batch}
use Rattle.ac_table.specs.Tables.{TableState, Actor, find_actor, first_in, with_inbox, pushed, popped, placed}
use Rattle.ac_table.specs.Tables.{without_row, find_row, rows_of, ended}
use Rattle.ac_world.specs.Outboxes.{Outbox, Plan, told_to, told, posted, put, drop_row, committed, retractions}
use Rattle.ac_world.specs.Worlds.{entry_of, with_entry}
use Rattle.ac_world.specs.Lemmas.Entries.{KeysAscend, ascend_none, ascend_with, each_with, entry_of_above}
use Rattle.ac_world.specs.Lemmas.Entries.{above_lower}
use Rattle.hub_valid.specs.Lemmas.Lives.{rows_posted, next_posted}
use Rattle.load_laws.proofs.Captures.{IsItem}

-- ---- sums

abbrev pub total : {X : Type 0} → (X → ℕ) → List X → ℕ
total f [] = 0
total f (x ∷ xs) = f x + total f xs

pub total_append : {X : Type 0} (f : X → ℕ) (xs ys : List X) → total f (xs ++ ys) ≡ total f xs + total f ys
total_append f [] ys = omega arith
total_append f (x ∷ xs) ys = omega (arith, total_append f xs ys)

-- those that pass a test and those that don't
total_split : {X : Type 0} (f : X → ℕ) (p : X → Bool) (xs : List X)
    → total f (filter p xs) + total f (filter (λ x. not (p x)) xs) ≡ total f xs
total_split f p [] = refl
total_split {X = X} f p (x ∷ xs) = by (p x) (total_split f p xs)
  where
    by : (b : Bool) → total f (filter p xs) + total f (filter (λ x. not (p x)) xs) ≡ total f xs
        → total f (cond b (x ∷ filter p xs) (filter p xs))
        + total f (cond (not b) (x ∷ filter (λ x. not (p x)) xs) (filter (λ x. not (p x)) xs)) ≡ f x + total f xs
    by true h = omega (arith, h)
    by false h = omega (arith, h)

all_filtered : {X : Type 0} (P : X → Type 0) (p : X → Bool) (xs : List X) → AllByRecursion P xs
    → AllByRecursion P (filter p xs)
all_filtered P p [] all = tt
all_filtered {X = X} P p (x ∷ xs) all = by (p x) (all_filtered P p xs all.1)
  where
    by : (b : Bool) → AllByRecursion P (filter p xs) → AllByRecursion P (cond b (x ∷ filter p xs) (filter p xs))
    by true h = (all.0, h)
    by false h = h

pub all_append : {X : Type 0} (P : X → Type 0) (xs ys : List X) → AllByRecursion P xs → AllByRecursion P ys
    → AllByRecursion P (xs ++ ys)
all_append P [] ys a b = b
all_append P (x ∷ xs) ys a b = (a.0, all_append P xs ys a.1 b)

-- ---- what may come

abbrev pub event_cost : ℕ → Event → ℕ
event_cost a (Assert h entity v) = if a == 1 then 3 else 1
event_cost a (Retract h entity) = if a == 1 then 0 else 1
event_cost a (Message entity v) = 1
event_cost a (Sync entity peer) = 1

abbrev pub events_cost : ℕ → List Event → ℕ
events_cost a es = total (event_cost a) es

abbrev pub inbox_cost : ℕ → List Batch → ℕ
inbox_cost a bs = total (λ b. events_cost a b.events) bs

abbrev pub actors_cost : List Actor → ℕ
actors_cost xs = total (λ x. inbox_cost x.number x.inbox) xs

abbrev pub row_cost : Row → ℕ
row_cost r = if r.target == 1 then 0 else 1

abbrev pub rows_cost : List Row → ℕ
rows_cost rows = total row_cost rows

abbrev pub out_cost : Outbox → ℕ
out_cost out = total (λ o. events_cost o.0 o.1) out

abbrev pub table_cost : TableState → ℕ
table_cost t = t.next + rows_cost t.rows + actors_cost t.actors

abbrev pub plan_cost : Plan → ℕ
plan_cost p = table_cost p.table + out_cost p.out

-- ---- what stands and waits where

module _ (start n : ℕ) where
  -- dataspace 1 is told of items
  abbrev pub IsIn : Event → Type 0
  IsIn (Assert h entity v) = IsItem start n v
  IsIn (Retract h entity) = Unit {0}
  IsIn (Message entity v) = ⊥
  IsIn (Sync entity peer) = ⊥

  -- a connection is told of one number that is captured
  abbrev pub IsOut : Event → Type 0
  IsOut (Assert h entity v) = (d : ℕ) × (v ≡ sequence (plains (number d ∷ [])))
  IsOut (Retract h entity) = Unit {0}
  IsOut (Message entity v) = ⊥
  IsOut (Sync entity peer) = ⊥

  -- nobody else is told anything
  abbrev pub Fits : ℕ → Event → Type 0
  Fits a e = ((a ≡ 1) × IsIn e) ⊎ ((17 ≤ a) × IsOut e)

  abbrev pub IsPlaced : Row → Type 0
  IsPlaced r = (r.target ≡ 1) ⊎ (17 ≤ r.target)

  abbrev pub FitInbox : ℕ → List Batch → Type 0
  FitInbox a bs = AllByRecursion (λ b. AllByRecursion (Fits a) b.events) bs

  abbrev pub FitActors : List Actor → Type 0
  FitActors xs = AllByRecursion (λ x. FitInbox x.number x.inbox) xs

  pub record FitsTable (t : TableState) : Type 0 where
    pub rows : AllByRecursion IsPlaced t.rows
    pub inboxes : FitActors t.actors

  pub record FitsOut (out : Outbox) : Type 0 where
    pub ascends : KeysAscend out
    pub fit : AllByRecursion (λ o. AllByRecursion (Fits o.0) o.1) out

  pub record FitsPlan (p : Plan) : Type 0 where
    pub table : FitsTable p.table
    pub out : FitsOut p.out

  retraction_fits : (r : Row) → IsPlaced r → Fits r.target (Retract r.handle r.entity)
  retraction_fits r (inl space) = inl (space, tt)
  retraction_fits r (inr connection) = inr (connection, tt)

  -- ---- one event more

  -- what is told so far fits
  told_fits : (a : ℕ) (out : Outbox) → AllByRecursion (λ o. AllByRecursion (Fits o.0) o.1) out
      → AllByRecursion (Fits a) (told_to a out)
  told_fits a [] all = tt
  told_fits a (o ∷ os) all = by (nat_cmp a o.0) refl (told_fits a os all.1)
    where
      by : (c : Ordering) → nat_cmp a o.0 ≡ c → AllByRecursion (Fits a) (told_to a os)
          → AllByRecursion (Fits a) (unwrap_or (cond (is_eq c) (Some o.1) (entry_of a os)) [])
      by Less is later = later
      by Equal is later =
          let same : a ≡ o.0 = grind (arith, nat_tests, is) in
          subst (λ b. AllByRecursion (Fits b) o.1) (sym same) all.0
      by Greater is later = later

  -- what costs is added
  told_cost : (a : ℕ) (e : Event) (out : Outbox) → KeysAscend out
      → out_cost (told a e out) ≡ out_cost out + event_cost a e
  told_cost a e [] s = omega arith
  told_cost a e (o ∷ os) s =
      by (nat_cmp a o.0) refl (told_cost a e os (sorted_tail nat_cmp o.0 (keys_of os) s))
    where
      by : (c : Ordering) → nat_cmp a o.0 ≡ c → out_cost (told a e os) ≡ out_cost os + event_cost a e
          → out_cost (match_ordering c
          ((a, unwrap_or (cond (is_eq c) (Some o.1) (entry_of a os)) [] ++ e ∷ []) ∷ o ∷ os)
          ((o.0, unwrap_or (cond (is_eq c) (Some o.1) (entry_of a os)) [] ++ e ∷ []) ∷ os)
          (o ∷ with_entry a (unwrap_or (cond (is_eq c) (Some o.1) (entry_of a os)) [] ++ e ∷ []) os))
          ≡ out_cost (o ∷ os) + event_cost a e
      by Less is later =
          let lower : a < o.0 = grind (arith, nat_tests, is) in
          let none : entry_of a os ≡ None =
          entry_of_above a os (above_lower a o.0 (keys_of os) lower (sorted_head nat_cmp o.0 (keys_of os) s)) in
          let one : events_cost a (unwrap_or (entry_of a os) [] ++ e ∷ []) ≡ event_cost a e =
          ap (λ x. events_cost a (unwrap_or x [] ++ e ∷ [])) none ∙ omega arith in
          omega (arith, one)
      by Equal is later =
          let same : a ≡ o.0 = grind (arith, nat_tests, is) in
          let all = total_append (event_cost o.0) o.1 (e ∷ []) in
          let at : event_cost o.0 e ≡ event_cost a e = ap (λ b. event_cost b e) (sym same) in
          omega (arith, all, at)
      by Greater is later = omega (arith, later)

  pub told_more : (a : ℕ) (e : Event) (out : Outbox) → Fits a e → FitsOut out → FitsOut (told a e out)
  told_more a e out own f = record {
    ascends = ascend_with a (told_to a out ++ e ∷ []) out f.ascends;
    fit = each_with (λ o. AllByRecursion (Fits o.0) o.1) a (told_to a out ++ e ∷ []) out
        (all_append (Fits a) (told_to a out) (e ∷ []) (told_fits a out f.fit) (own, tt)) f.fit;
  }

  -- ---- rows come and go

  pub put_fits : (owner facet a entity : ℕ) (v : Plain) (p : Plan) → Fits a (Assert p.table.next entity v) → FitsPlan p
      → FitsPlan (put owner facet a entity v p)
  put_fits owner facet a entity v p own f = record {
    table = record {
      rows = all_append IsPlaced p.table.rows _ f.table.rows (placed_by own, tt);
      inboxes = f.table.inboxes;
    };
    out = told_more a (Assert p.table.next entity v) p.out own f.out;
  }
    where
      placed_by : Fits a (Assert p.table.next entity v) → (a ≡ 1) ⊎ (17 ≤ a)
      placed_by (inl space) = inl space.0
      placed_by (inr connection) = inr connection.0

  pub put_cost : (owner facet a entity : ℕ) (v : Plain) (p : Plan) → FitsPlan p
      → plan_cost (put owner facet a entity v p) ≡ plan_cost p + (if a == 1 then 4 else 3)
  put_cost owner facet a entity v p f =
      let rows = total_append row_cost p.table.rows (record {
        handle = p.table.next;
        owner = owner;
        facet = facet;
        target = a;
        entity = entity;
        value = v;
      } ∷ []) in
      let out = told_cost a (Assert p.table.next entity v) p.out f.out.ascends in
      by (a == 1) rows out
    where
      by : (b : Bool) → rows_cost (put owner facet a entity v p).table.rows ≡ rows_cost p.table.rows
          + (cond b 0 1 + 0)
          → out_cost (put owner facet a entity v p).out ≡ out_cost p.out + cond b 3 1
          → plan_cost (put owner facet a entity v p) ≡ plan_cost p + cond b 4 3
      by true rows out = omega (arith, rows, out)
      by false rows out = omega (arith, rows, out)

  found_placed : (h : ℕ) (r : Row) (rows : List Row) → find_row h rows ≡ Some r → AllByRecursion IsPlaced rows
      → IsPlaced r
  found_placed h r [] is all = absurd cc
  found_placed h r (q ∷ qs) is all = by (q.handle == h) is (found_placed h r qs)
    where
      by : (b : Bool) → cond b (Some q) (find_row h qs) ≡ Some r
          → (find_row h qs ≡ Some r → AllByRecursion IsPlaced qs → IsPlaced r) → IsPlaced r
      by true found later = let one : q ≡ r = cc in subst IsPlaced one all.0
      by false found later = later found all.1

  -- a row that goes costs no more
  less_rows : (h : ℕ) (rows : List Row) → rows_cost (without_row h rows) ≤ rows_cost rows
  less_rows h rows =
      let all = total_split row_cost (λ r. r.handle == h) rows in omega (arith, all)

  found_cost : (h : ℕ) (r : Row) (rows : List Row) → find_row h rows ≡ Some r
      → rows_cost (without_row h rows) + row_cost r ≤ rows_cost rows
  found_cost h r [] is = absurd cc
  found_cost h r (q ∷ qs) is = by (q.handle == h) is (found_cost h r qs) (less_rows h qs)
    where
      by : (b : Bool) → cond b (Some q) (find_row h qs) ≡ Some r
          → (find_row h qs ≡ Some r → rows_cost (without_row h qs) + row_cost r ≤ rows_cost qs)
          → rows_cost (without_row h qs) ≤ rows_cost qs
          → rows_cost (cond (not b) (q ∷ without_row h qs) (without_row h qs)) + row_cost r ≤ rows_cost (q ∷ qs)
      by true found later less =
          let one : q ≡ r = cc in
          let same : row_cost r ≡ row_cost q = ap row_cost (sym one) in
          omega (arith, same, less)
      by false found later less = let l = later found in omega (arith, l)

  -- the row of a handle goes, and its retraction comes
  pub dropped_fits : (r : Row) (p : Plan) → find_row r.handle p.table.rows ≡ Some r → FitsPlan p
      → FitsPlan (drop_row r p)
  dropped_fits r p is f = record {
    table = record {
      rows = all_filtered IsPlaced (λ (q : Row). not (q.handle == r.handle)) p.table.rows f.table.rows;
      inboxes = f.table.inboxes;
    };
    out = told_more r.target (Retract r.handle r.entity) p.out
        (retraction_fits r (found_placed r.handle r p.table.rows is f.table.rows)) f.out;
  }

  pub dropped_cost : (r : Row) (p : Plan) → find_row r.handle p.table.rows ≡ Some r → FitsPlan p
      → plan_cost (drop_row r p) ≤ plan_cost p
  dropped_cost r p is f =
      let rows = found_cost r.handle r p.table.rows is in
      let out = told_cost r.target (Retract r.handle r.entity) p.out f.out.ascends in
      omega (arith, rows, out)

  -- ---- inboxes

  pushed_cost : (a : ℕ) (b : Batch) (xs : List Actor)
      → actors_cost (with_inbox a (λ bs. bs ++ b ∷ []) xs) ≤ actors_cost xs + events_cost a b.events
  pushed_cost a b [] = omega arith
  pushed_cost a b (x ∷ xs) = by (x.number == a) refl (pushed_cost a b xs)
    where
      by : (c : Bool) → (x.number == a) ≡ c
          → actors_cost (with_inbox a (λ bs. bs ++ b ∷ []) xs) ≤ actors_cost xs + events_cost a b.events
          → actors_cost (cond c (record { number = x.number; inbox = x.inbox ++ b ∷ [] } ∷ xs)
          (x ∷ with_inbox a (λ bs. bs ++ b ∷ []) xs)) ≤ actors_cost (x ∷ xs) + events_cost a b.events
      by true is later =
          let same : x.number ≡ a = grind (arith, nat_tests, is) in
          let all = total_append (λ (d : Batch). events_cost x.number d.events) x.inbox (b ∷ []) in
          let at : events_cost x.number b.events ≡ events_cost a b.events = ap (λ c. events_cost c b.events) same in
          omega (arith, all, at)
      by false is later = omega (arith, later)

  pushed_fits : (a : ℕ) (b : Batch) (xs : List Actor) → AllByRecursion (Fits a) b.events → FitActors xs
      → FitActors (with_inbox a (λ bs. bs ++ b ∷ []) xs)
  pushed_fits a b [] own all = tt
  pushed_fits a b (x ∷ xs) own all = by (x.number == a) refl (pushed_fits a b xs own all.1)
    where
      by : (c : Bool) → (x.number == a) ≡ c → FitActors (with_inbox a (λ bs. bs ++ b ∷ []) xs)
          → FitActors (cond c (record { number = x.number; inbox = x.inbox ++ b ∷ [] } ∷ xs)
          (x ∷ with_inbox a (λ bs. bs ++ b ∷ []) xs))
      by true is later =
          let same : x.number ≡ a = grind (arith, nat_tests, is) in (
            all_append (λ d. AllByRecursion (Fits x.number) d.events) x.inbox (b ∷ []) all.0
                (subst (λ c. AllByRecursion (Fits c) b.events) (sym same) own, tt),
            all.1,
          )
      by false is later = (all.0, later)

  posted_actors_cost : (from : ℕ) (out : Outbox) (t : TableState)
      → actors_cost (posted from out t).actors ≤ actors_cost t.actors + out_cost out
  posted_actors_cost from [] t = omega arith
  posted_actors_cost from (o ∷ os) t =
      let b : Batch = record { from = from; events = o.1 } in
      let later = posted_actors_cost from os (pushed o.0 b t) in
      let first = pushed_cost o.0 b t.actors in
      omega (arith, later, first)

  pub posted_cost : (from : ℕ) (out : Outbox) (t : TableState)
      → table_cost (posted from out t) ≤ table_cost t + out_cost out
  posted_cost from out t =
      let actors = posted_actors_cost from out t in
      let next = next_posted from out t in
      let rows = ap rows_cost (rows_posted from out t) in
      omega (arith, actors, next, rows)

  pub posted_fits : (from : ℕ) (out : Outbox) (t : TableState)
      → AllByRecursion (λ o. AllByRecursion (Fits o.0) o.1) out → FitsTable t → FitsTable (posted from out t)
  posted_fits from [] t all f = f
  posted_fits from (o ∷ os) t all f =
      let b : Batch = record { from = from; events = o.1 } in
      posted_fits from os (pushed o.0 b t) all.1
      (record { rows = f.rows; inboxes = pushed_fits o.0 b t.actors all.0 f.inboxes })

  -- so is what is committed
  pub committed_fits : (from : ℕ) (p : Plan) → FitsPlan p → FitsTable (committed from p)
  committed_fits from p f = posted_fits from p.out p.table f.out.fit f.table

  pub committed_cost : (from : ℕ) (p : Plan) → table_cost (committed from p) ≤ plan_cost p
  committed_cost from p = posted_cost from p.out p.table

  -- the first batch is taken
  taken_cost : (a : ℕ) (b : Batch) (xs : List Actor) → first_in (find_actor a xs) ≡ Some b
      → actors_cost (with_inbox a (drop 1) xs) + events_cost a b.events ≤ actors_cost xs
  taken_cost a b [] is = absurd cc
  taken_cost a b (x ∷ xs) is = by (x.number == a) refl is (taken_cost a b xs)
    where
      first : (bs : List Batch) → x.number ≡ a → slice_get bs 0 ≡ Some b
          → inbox_cost x.number (drop 1 bs) + events_cost a b.events ≤ inbox_cost x.number bs
      first [] same found = absurd cc
      first (d ∷ ds) same found =
          let one : d ≡ b = cc in
          let at : events_cost x.number d.events ≡ events_cost a b.events =
          (λ i. events_cost (same i) (one i).events) in
          omega (arith, at)

      by : (c : Bool) → (x.number == a) ≡ c → first_in (cond c (Some x) (find_actor a xs)) ≡ Some b
          → (first_in (find_actor a xs) ≡ Some b
          → actors_cost (with_inbox a (drop 1) xs) + events_cost a b.events ≤ actors_cost xs)
          → actors_cost (cond c (record { number = x.number; inbox = drop 1 x.inbox } ∷ xs)
          (x ∷ with_inbox a (drop 1) xs)) + events_cost a b.events ≤ actors_cost (x ∷ xs)
      by true same found later =
          let one : x.number ≡ a = grind (arith, nat_tests, same) in
          let here = first x.inbox one found in omega (arith, here)
      by false other found later = let l = later found in omega (arith, l)

  pub popped_cost : (a : ℕ) (b : Batch) (t : TableState) → first_in (find_actor a t.actors) ≡ Some b
      → table_cost (popped a t) + events_cost a b.events ≤ table_cost t
  popped_cost a b t is = let actors = taken_cost a b t.actors is in omega (arith, actors)

  taken_fits : (a : ℕ) (b : Batch) (xs : List Actor) → first_in (find_actor a xs) ≡ Some b → FitActors xs
      → AllByRecursion (Fits a) b.events
  taken_fits a b [] is all = absurd cc
  taken_fits a b (x ∷ xs) is all = by (x.number == a) refl is (λ found. taken_fits a b xs found all.1)
    where
      first : (bs : List Batch) → x.number ≡ a → FitInbox x.number bs → slice_get bs 0 ≡ Some b
          → AllByRecursion (Fits a) b.events
      first [] same fit found = absurd cc
      first (d ∷ ds) same fit found =
          let one : d ≡ b = cc in
          subst (λ c. AllByRecursion (Fits c) b.events) same
          (subst (λ (e : Batch). AllByRecursion (Fits x.number) e.events) one fit.0)

      by : (c : Bool) → (x.number == a) ≡ c → first_in (cond c (Some x) (find_actor a xs)) ≡ Some b
          → (first_in (find_actor a xs) ≡ Some b → AllByRecursion (Fits a) b.events)
          → AllByRecursion (Fits a) b.events
      by true same found later =
          let one : x.number ≡ a = grind (arith, nat_tests, same) in first x.inbox one all.0 found
      by false other found later = later found

  pub first_fits : (a : ℕ) (b : Batch) (t : TableState) → first_in (find_actor a t.actors) ≡ Some b → FitsTable t
      → AllByRecursion (Fits a) b.events
  first_fits a b t is f = taken_fits a b t.actors is f.inboxes

  less_fits : (a : ℕ) (xs : List Actor) → FitActors xs → FitActors (with_inbox a (drop 1) xs)
  less_fits a [] all = tt
  less_fits a (x ∷ xs) all = by (x.number == a) (less_fits a xs all.1)
    where
      dropped : (bs : List Batch) → FitInbox x.number bs → FitInbox x.number (drop 1 bs)
      dropped [] fit = tt
      dropped (d ∷ ds) fit = fit.1

      by : (c : Bool) → FitActors (with_inbox a (drop 1) xs)
          → FitActors (cond c (record { number = x.number; inbox = drop 1 x.inbox } ∷ xs)
          (x ∷ with_inbox a (drop 1) xs))
      by true later = (dropped x.inbox all.0, all.1)
      by false later = (all.0, later)

  pub popped_fits : (a : ℕ) (t : TableState) → FitsTable t → FitsTable (popped a t)
  popped_fits a t f = record { rows = f.rows; inboxes = less_fits a t.actors f.inboxes }

  -- ---- actors come and go

  pub placed_cost : (new : Actor) (xs : List Actor) → new.inbox ≡ []
      → actors_cost (placed new xs) ≡ actors_cost xs
  placed_cost new [] none =
      let own : inbox_cost new.number new.inbox ≡ 0 = ap (inbox_cost new.number) none in omega (arith, own)
  placed_cost new (x ∷ xs) none = by (nat_lt new.number x.number) (placed_cost new xs none)
    where
      by : (b : Bool) → actors_cost (placed new xs) ≡ actors_cost xs
          → actors_cost (cond b (new ∷ x ∷ xs) (x ∷ placed new xs)) ≡ actors_cost (x ∷ xs)
      by true later =
          let own : inbox_cost new.number new.inbox ≡ 0 = ap (inbox_cost new.number) none in omega (arith, own)
      by false later = omega (arith, later)

  pub placed_fits : (new : Actor) (xs : List Actor) → FitInbox new.number new.inbox → FitActors xs
      → FitActors (placed new xs)
  placed_fits new [] own all = (own, tt)
  placed_fits new (x ∷ xs) own all = by (nat_lt new.number x.number) (placed_fits new xs own all.1)
    where
      by : (b : Bool) → FitActors (placed new xs) → FitActors (cond b (new ∷ x ∷ xs) (x ∷ placed new xs))
      by true later = (own, all)
      by false later = (all.0, later)

  retracted_fits : (rs : List Row) (out : Outbox) → AllByRecursion IsPlaced rs → FitsOut out
      → FitsOut (retractions rs out)
  retracted_fits [] out all f = f
  retracted_fits (r ∷ rs) out all f =
      retracted_fits rs (told r.target (Retract r.handle r.entity) out) all.1
      (told_more r.target (Retract r.handle r.entity) out (retraction_fits r all.0) f)

  retracted_cost : (rs : List Row) (out : Outbox) → AllByRecursion IsPlaced rs → FitsOut out
      → out_cost (retractions rs out) ≡ out_cost out + rows_cost rs
  retracted_cost [] out all f = omega arith
  retracted_cost (r ∷ rs) out all f =
      let more = told_more r.target (Retract r.handle r.entity) out (retraction_fits r all.0) f in
      let later = retracted_cost rs (told r.target (Retract r.handle r.entity) out) all.1 more in
      let first = told_cost r.target (Retract r.handle r.entity) out f.ascends in
      omega (arith, later, first)

  nothing_out : FitsOut []
  nothing_out = record { ascends = ascend_none; fit = tt }

  -- an actor goes, and its rows are retracted
  pub gone_fits : (a : ℕ) (t : TableState) → FitsTable t
      → FitsTable (posted a (retractions (rows_of a t.rows) []) (ended a t))
  gone_fits a t f =
      let own = all_filtered IsPlaced (λ r. r.owner == a) t.rows f.rows in
      let out = retracted_fits (rows_of a t.rows) [] own nothing_out in
      posted_fits a (retractions (rows_of a t.rows) []) (ended a t) out.fit (record {
        rows = all_filtered IsPlaced (λ (r : Row). not (r.owner == a)) t.rows f.rows;
        inboxes = all_filtered (λ (x : Actor). FitInbox x.number x.inbox) (λ (x : Actor). not (x.number == a)) t.actors
            f.inboxes;
      })

  pub gone_cost : (a : ℕ) (t : TableState) → FitsTable t
      → table_cost (posted a (retractions (rows_of a t.rows) []) (ended a t)) ≤ table_cost t
  gone_cost a t f =
      let own = all_filtered IsPlaced (λ r. r.owner == a) t.rows f.rows in
      let out = retracted_cost (rows_of a t.rows) [] own nothing_out in
      let all = posted_cost a (retractions (rows_of a t.rows) []) (ended a t) in
      let rows = total_split row_cost (λ r. r.owner == a) t.rows in
      let actors = total_split (λ (x : Actor). inbox_cost x.number x.inbox) (λ x. x.number == a) t.actors in
      omega (arith, out, all, rows, actors)
