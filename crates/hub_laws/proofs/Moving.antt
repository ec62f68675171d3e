-- Each step of a turn's plan tells each target what becomes of the rows at it.
use Rattle.std.proofs.Common.{◌≡◌, ◌≢◌, ℕ, ◌+◌, ◌<◌, ◌≤◌, ◌==◌, List, [], ◌∷◌, ◌++◌, Bool, true, false, cond, Option}
use Rattle.std.proofs.Common.{Some, None, is_some, unwrap_or, ◌⊎◌, inl, inr, refl, ap, sym, ◌∙◌, arith, append_assoc}
use Rattle.std.proofs.Common.{append-nil}
use Rattle.std.specs.List.{AllByRecursion}
use Rattle.std.specs.List.Sorted.{IsStrictlySortedBy}
use Rattle.std.specs.Map.{keys_of}
use Rattle.std.specs.Ordering.{nat_cmp}
use Rattle.std.proofs.lemmas.Bool.Decides.{nat_tests}
use Rattle.pv_value.specs.Plain.{Plain}
use Rattle.ac_table.specs.declared.batches.Row.{Row}
use Rattle.ac_table.specs.declared.batches.Event.{Event}
use Rattle.ac_table.specs.declared.batches.Event.TheVariants.{Assert, Retract, Message, Sync}
use Rattle.ac_table.specs.Facets.{Tree}
use Rattle.ac_table.specs.Tables.{TableState, Actor, find_row, find_actor, without_row}
use Rattle.ac_table.specs.Lemmas.Lists.{all_weaker}
use Rattle.ac_world.specs.Outboxes.{Outbox, Plan, with_trees, drop_row, drop_own, told_to, told}
use Rattle.ac_world.specs.Worlds.{entry_of, with_entry}
use Rattle.ac_world.specs.Lemmas.Entries.{entry_of_with, entry_of_without, all_append, ascend_none, ascend_push}
use Rattle.ac_world.specs.Lemmas.Entries.{ascend_with, ascend_without}
use Rattle.hub_laws.specs.Standing.{stands, took_all}
use Rattle.hub_laws.proofs.Kept.{made_by, made_in, Moves}
use Rattle.hub_laws.proofs.Promised.{IsSaid, BeginMoves, PutMoves, DroppedMoves, SaidMoves}
use Rattle.hub_laws.proofs.Lists.{took_all_append, all_stand}
use Rattle.hub_laws.proofs.Lists.{same_entries, stands_ascend}
use Rattle.hub_laws.proofs.Lists.{kept_of, entry_of-stands}
use Rattle.hub_laws.proofs.Finding.{Ascend, row_next, found_handle, find_row-push_old, find_row-asserted, all_handles}
use Rattle.hub_laws.proofs.Finding.{find_row-without, ascend_filter, asserted_table, retracted_table}

-- ---- what one more event for a target tells each

abbrev pub event_for : ℕ → ℕ → Event → List Event
event_for b target e = cond (target == b) (e ∷ []) []

pub told_to-told : (b target : ℕ) (e : Event) (out : Outbox)
    → told_to b (told target e out) ≡ told_to b out ++ event_for b target e
told_to-told b target e out =
    rw (entry_of_with b target (told_to target out ++ e ∷ []) out) (split (target == b) refl)
  where
    split : (c : Bool) → (target == b) ≡ c
        → unwrap_or (cond c (Some (told_to target out ++ e ∷ [])) (entry_of b out)) []
        ≡ told_to b out ++ cond c (e ∷ []) []
    split true here =
        let same : target ≡ b = grind (arith, here) in ap (λ (n : ℕ). told_to n out ++ e ∷ []) same
    split false other = sym (append-nil (told_to b out))

pub made_in-append : (es ds : List Event) → made_in (es ++ ds) ≡ made_in es ++ made_in ds
made_in-append [] ds = refl
made_in-append (e ∷ es) ds =
    ap (λ (hs : List ℕ). made_by e ++ hs) (made_in-append es ds)
    ∙ sym (append_assoc (made_by e) (made_in es) (made_in ds))

made_in-for : (b target : ℕ) (e : Event) (c : Bool) → made_in (cond c (e ∷ []) []) ≡ cond c (made_by e) []
made_in-for b target e true = append-nil (made_by e)
made_in-for b target e false = refl

pub made_in-told : (b target : ℕ) (e : Event) (out : Outbox)
    → made_in (told_to b (told target e out)) ≡ made_in (told_to b out) ++ cond (target == b) (made_by e) []
made_in-told b target e out =
    ap made_in (told_to-told b target e out) ∙ made_in-append (told_to b out) (event_for b target e)
    ∙ ap (λ (hs : List ℕ). made_in (told_to b out) ++ hs) (made_in-for b target e (target == b))

-- an event that makes no assertion
made_in-none : (b target : ℕ) (e : Event) (out : Outbox) → made_by e ≡ []
    → made_in (told_to b (told target e out)) ≡ made_in (told_to b out)
made_in-none b target e out none =
    made_in-told b target e out
    ∙ ap (λ (hs : List ℕ). made_in (told_to b out) ++ cond (target == b) hs []) none ∙ split (target == b)
  where
    split : (c : Bool) → made_in (told_to b out) ++ cond c [] [] ≡ made_in (told_to b out)
    split true = append-nil _
    split false = append-nil _

-- one more change
moved_on : {X : Type 0} (f : ℕ → Plain → X) (b target : ℕ) (e : Event) (out : Outbox) (old now new : List (ℕ × X))
    → took_all f (told_to b out) old ≡ now → took_all f (event_for b target e) now ≡ new
    → took_all f (told_to b (told target e out)) old ≡ new
moved_on f b target e out old now new before after =
    ap (λ (es : List Event). took_all f es old) (told_to-told b target e out)
    ∙ took_all_append _ f (told_to b out) (event_for b target e) old
    ∙ ap (took_all f (event_for b target e)) before ∙ after

-- ---- the plan begins

pub begin_moves : BeginMoves
begin_moves a t k = record {
  table = k;
  actors = refl;
  later = omega arith;
  stay = λ h r is other. is;
  old = λ h r is. inl is;
  out_ascends = ascend_none;
  moved = λ f b. refl;
  made_ascend = λ b. ascend_none;
  made_new = λ b. tt;
}

-- ---- facets change

-- they tell nothing of rows, actors and events
pub with_trees_moves : (a : ℕ) (t : TableState) (p : Plan) (trees : List (ℕ × Tree)) → Moves a t p
    → Moves a t (with_trees trees p)
with_trees_moves a t p trees m = record {
  table = record {
    rows_ascend = m.table.rows_ascend;
    rows_below_next = m.table.rows_below_next;
    actors_ascend = m.table.actors_ascend;
    owners_live = m.table.owners_live;
  };
  actors = m.actors;
  later = m.later;
  stay = m.stay;
  old = m.old;
  out_ascends = m.out_ascends;
  moved = m.moved;
  made_ascend = m.made_ascend;
  made_new = m.made_new;
}

-- ---- a row comes

pub with_entry-above : {X : Type 0} (k : ℕ) (x : X) (es : List (ℕ × X)) → AllByRecursion (λ h. h < k) (keys_of es)
    → with_entry k x es ≡ es ++ (k, x) ∷ []
with_entry-above k x [] a = refl
with_entry-above k x (e ∷ es) a = grind (arith, nat_tests, a.0, with_entry-above k x es a.1)

stands-push : {X : Type 0} (f : ℕ → Plain → X) (b : ℕ) (rows : List Row) (new : Row)
    → stands f b (rows ++ new ∷ [])
    ≡ stands f b rows ++ cond (new.target == b) ((new.handle, f new.entity new.value) ∷ []) []
stands-push f b [] new = refl
stands-push f b (r ∷ rs) new = grind (arith, nat_tests, stands-push f b rs new)

put_stands : {X : Type 0} (f : ℕ → Plain → X) (b : ℕ) (rows : List Row) (new : Row)
    → AllByRecursion (λ r. r.handle < new.handle) rows
    → took_all f (event_for b new.target (Assert new.handle new.entity new.value)) (stands f b rows)
    ≡ stands f b (rows ++ new ∷ [])
put_stands {X = X} f b rows new below = split (new.target == b) ∙ sym (stands-push f b rows new)
  where
    split : (c : Bool)
        → took_all f (cond c (Assert new.handle new.entity new.value ∷ []) []) (stands f b rows)
        ≡ stands f b rows ++ cond c ((new.handle, f new.entity new.value) ∷ []) []
    split true = with_entry-above new.handle (f new.entity new.value) (stands f b rows)
        (all_stand _ f b rows (all_handles (λ h. h < new.handle) rows below))
    split false = sym (append-nil _)

pub put_moves : PutMoves
put_moves a t p m lives facet target entity v = record {
  table = asserted_table a facet target entity v p.table m.table
      (ap (λ (xs : List Actor). is_some (find_actor a xs)) m.actors ∙ lives);
  actors = m.actors;
  later = omega (arith, m.later);
  stay = λ h r is other. find_row-push_old h p.table.rows _ r (m.stay h r is other);
  old = λ h r is.
      old h r (p.table.next == h) refl (sym (find_row-asserted h a facet target entity v p.table m.table) ∙ is);
  out_ascends = ascend_with target _ p.out m.out_ascends;
  moved = λ f b. moved_on f b target _ p.out _ _ _ (m.moved f b)
      (put_stands f b p.table.rows (row_next a facet target entity v p.table) m.table.rows_below_next);
  made_ascend = λ b. rw (made_in-told b target (Assert p.table.next entity v) p.out) (ascends b (target == b));
  made_new = λ b. rw (made_in-told b target (Assert p.table.next entity v) p.out)
      (all_append _ (made_in (told_to b p.out)) _ (all_weaker _ _ (λ h l. (l.0, omega (arith, l.1))) _ (m.made_new b))
      (new (target == b)));
}
  where
    old : (h : ℕ) (r : Row) (c : Bool) → (p.table.next == h) ≡ c
        → cond c (Some (row_next a facet target entity v p.table)) (find_row h p.table.rows) ≡ Some r
        → (find_row h t.rows ≡ Some r) ⊎ ((t.next ≤ h) × (r.owner ≡ a))
    old h r true here is =
        let owner : a ≡ r.owner = grind (arith, is) in
        let later = m.later in
        let next : p.table.next ≡ h = grind (arith, here) in
        inr (omega arith, sym owner)
    old h r false other is = m.old h r is

    ascends : (b : ℕ) (c : Bool)
        → IsStrictlySortedBy nat_cmp (made_in (told_to b p.out) ++ cond c (p.table.next ∷ []) [])
    ascends b true =
        ascend_push _ p.table.next (all_weaker _ _ (λ h l. l.1) _ (m.made_new b)) (m.made_ascend b)
    ascends b false = rw (append-nil (made_in (told_to b p.out))) (m.made_ascend b)

    new : (c : Bool) → AllByRecursion (λ h. (t.next ≤ h) × (h < p.table.next + 1)) (cond c (p.table.next ∷ []) [])
    new true = ((m.later, omega arith), tt)
    new false = tt

-- ---- a row goes

-- what stands at an actor without the row that goes
drop_stands : {X : Type 0} (f : ℕ → Plain → X) (b : ℕ) (rows : List Row) (r : Row) → Ascend rows
    → find_row r.handle rows ≡ Some r
    → took_all f (event_for b r.target (Retract r.handle r.entity)) (stands f b rows)
    ≡ stands f b (without_row r.handle rows)
drop_stands {X = X} f b rows r s is = split (r.target == b) refl
  where
    found : (h : ℕ) → entry_of h (stands f b (without_row r.handle rows))
        ≡ kept_of f b (cond (r.handle == h) None (find_row h rows))
    found h = entry_of-stands f b h (without_row r.handle rows) (ascend_filter _ rows s)
        ∙ ap (kept_of f b) (find_row-without h r.handle rows)

    here : (h : ℕ) (c : Bool) → cond c None (kept_of f b (find_row h rows))
        ≡ kept_of f b (cond c None (find_row h rows))
    here h true = refl
    here h false = refl

    elsewhere : (h : ℕ) (c : Bool) → (r.handle == h) ≡ c → (r.target == b) ≡ false → kept_of f b (find_row h rows)
        ≡ kept_of f b (cond c None (find_row h rows))
    elsewhere h true same other =
        let handle : r.handle ≡ h = grind (arith, same) in
        let row : find_row h rows ≡ Some r = ap (λ (n : ℕ). find_row n rows) (sym handle) ∙ is in
        rw (row, other) refl
    elsewhere h false apart other = refl

    split : (c : Bool) → (r.target == b) ≡ c
        → took_all f (cond c (Retract r.handle r.entity ∷ []) []) (stands f b rows)
        ≡ stands f b (without_row r.handle rows)
    split true at =
        same_entries _ _ (ascend_without r.handle _ (stands_ascend f b rows s))
        (stands_ascend f b (without_row r.handle rows) (ascend_filter _ rows s))
        (λ h. entry_of_without h r.handle (stands f b rows) (stands_ascend f b rows s)
        ∙ ap (cond (r.handle == h) None) (entry_of-stands f b h rows s) ∙ here h (r.handle == h) ∙ sym (found h))
    split false other =
        same_entries _ _ (stands_ascend f b rows s)
        (stands_ascend f b (without_row r.handle rows) (ascend_filter _ rows s))
        (λ h. entry_of-stands f b h rows s ∙ elsewhere h (r.handle == h) refl other ∙ sym (found h))

drop_row_moves : (a : ℕ) (t : TableState) (p : Plan) (r : Row) → Moves a t p → find_row r.handle p.table.rows ≡ Some r
    → r.owner ≡ a → Moves a t (drop_row r p)
drop_row_moves a t p r m found own = record {
  table = retracted_table r.handle p.table m.table;
  actors = m.actors;
  later = m.later;
  stay = λ h q is other. find_row-without h r.handle p.table.rows
      ∙ stay h q (r.handle == h) refl (m.stay h q is other) other;
  old = λ h q is. m.old h q (old h q (r.handle == h) (sym (find_row-without h r.handle p.table.rows) ∙ is));
  out_ascends = ascend_with r.target _ p.out m.out_ascends;
  moved = λ f b. moved_on f b r.target _ p.out _ _ _ (m.moved f b)
      (drop_stands f b p.table.rows r m.table.rows_ascend found);
  made_ascend = λ b. rw (made_in-none b r.target (Retract r.handle r.entity) p.out refl) (m.made_ascend b);
  made_new = λ b. rw (made_in-none b r.target (Retract r.handle r.entity) p.out refl) (m.made_new b);
}
  where
    stay : (h : ℕ) (q : Row) (c : Bool) → (r.handle == h) ≡ c → find_row h p.table.rows ≡ Some q → q.owner ≢ a
        → cond c None (find_row h p.table.rows) ≡ Some q
    stay h q true same is other =
        let handle : r.handle ≡ h = grind (arith, same) in
        let row : find_row h p.table.rows ≡ Some r =
        ap (λ (n : ℕ). find_row n p.table.rows) (sym handle) ∙ found in
        let rows : Some q ≡ Some r = sym is ∙ row in
        let owner : q.owner ≡ a = grind (arith, rows, own) in
        absurd (other owner)
    stay h q false apart is other = is

    old : (h : ℕ) (q : Row) (c : Bool) → cond c None (find_row h p.table.rows) ≡ Some q
        → find_row h p.table.rows ≡ Some q
    old h q true is = absurd cc
    old h q false is = is

pub dropped_moves : DroppedMoves
dropped_moves a t p m h = split (find_row h p.table.rows) refl
  where
    owned : (r : Row) (c : Bool) → (r.owner == a) ≡ c → find_row h p.table.rows ≡ Some r
        → Moves a t (cond c (drop_row r p) p)
    owned r true own is =
        let handle : r.handle ≡ h = found_handle h p.table.rows r is in
        let found : find_row r.handle p.table.rows ≡ Some r = ap (λ (n : ℕ). find_row n p.table.rows) handle ∙ is in
        drop_row_moves a t p r m found (grind (arith, own))
    owned r false other is = m

    split : (o : Option Row) → find_row h p.table.rows ≡ o → Moves a t (drop_own a o p)
    split None is = m
    split (Some r) is = owned r (r.owner == a) refl is

-- ---- what is only said

said_keeps : {X : Type 0} (f : ℕ → Plain → X) (e : Event) (c : Bool) (got : List (ℕ × X)) → IsSaid e
    → took_all f (cond c (e ∷ []) []) got ≡ got
said_keeps f (Assert h entity v) c got is = absurd is
said_keeps f (Retract h entity) c got is = absurd is
said_keeps f (Message entity v) true got is = refl
said_keeps f (Message entity v) false got is = refl
said_keeps f (Sync entity peer) true got is = refl
said_keeps f (Sync entity peer) false got is = refl

said_makes : (e : Event) → IsSaid e → made_by e ≡ []
said_makes (Assert h entity v) is = absurd is
said_makes (Retract h entity) is = absurd is
said_makes (Message entity v) is = refl
said_makes (Sync entity peer) is = refl

pub said_moves : SaidMoves
said_moves a t p m target e is = record {
  table = m.table;
  actors = m.actors;
  later = m.later;
  stay = m.stay;
  old = m.old;
  out_ascends = ascend_with target _ p.out m.out_ascends;
  moved = λ f b. moved_on f b target e p.out _ _ _ (m.moved f b) (said_keeps f e (target == b) _ is);
  made_ascend = λ b. rw (made_in-none b target e p.out (said_makes e is)) (m.made_ascend b);
  made_new = λ b. rw (made_in-none b target e p.out (said_makes e is)) (m.made_new b);
}
