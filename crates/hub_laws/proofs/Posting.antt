-- Batches come to the inboxes of live actors, and go from them; who is live stays so.
use Rattle.std.proofs.Common.{◌≡◌, ◌≢◌, ℕ, List, [], ◌∷◌, ◌++◌, ◌==◌, Bool, true, false, Option, Some, None, map}
use Rattle.std.proofs.Common.{inl, inr, refl, ap, sym, ◌∙◌, subst, arith, slice_get, drop, is_some}
use Rattle.std.specs.BTreeMap.{is_at}
use Rattle.std.specs.List.{list_any}
use Rattle.std.specs.Map.{keys_of}
use Rattle.std.specs.Ordering.{nat_cmp}
use Rattle.std.proofs.lemmas.Bool.Decides.{nat_tests}
use Rattle.std.proofs.lemmas.Map.Keys.{sorted_head, sorted_tail}
use Rattle.ac_table.specs.declared.batches.Batch.{Batch}
use Rattle.ac_table.specs.Tables.{TableState, Actor, IsTable, find_actor, is_live, with_inbox, pushed, popped}
use Rattle.ac_table.specs.Tables.{first_batch}
use Rattle.ac_table.specs.Lemmas.Lists.{all_weaker}
use Rattle.ac_world.specs.Outboxes.{Outbox, told_to, posted}
use Rattle.ac_world.specs.Worlds.{entry_of}
use Rattle.ac_world.specs.Lemmas.Entries.{AreAbove, entry_of_above}
use Rattle.hub_laws.proofs.Promised.{IsPostedTo, PostedTo, PostedTable}

-- ---- one inbox changes

abbrev pub inbox_changed : (List Batch → List Batch) → Option Actor → Option Actor
inbox_changed f None = None
inbox_changed f (Some x) = Some (record { number = x.number; inbox = f x.inbox })

pub found-with_inbox : (a : ℕ) (f : List Batch → List Batch) (xs : List Actor)
    → find_actor a (with_inbox a f xs) ≡ inbox_changed f (find_actor a xs)
found-with_inbox a f [] = refl
found-with_inbox a f (x ∷ xs) = grind (arith, found-with_inbox a f xs)

pub found-with_inbox_other : (a b : ℕ) (f : List Batch → List Batch) (xs : List Actor) → b ≢ a
    → find_actor b (with_inbox a f xs) ≡ find_actor b xs
found-with_inbox_other a b f [] apart = refl
found-with_inbox_other a b f (x ∷ xs) apart = grind (arith, nat_tests, found-with_inbox_other a b f xs apart)

-- an actor that is found afterwards was found before
pub record IsFrom (f : List Batch → List Batch) (was : Option Actor) (x : Actor) : Type 0 where
  pub before : Actor
  pub found : was ≡ Some before
  pub inbox : x.inbox ≡ f before.inbox

pub from_changed : (f : List Batch → List Batch) (was : Option Actor) (x : Actor) → inbox_changed f was ≡ Some x
    → IsFrom f was x
from_changed f None x is = absurd cc
from_changed f (Some y) x is =
    let same : record { number = y.number; inbox = f y.inbox } ≡ x = grind (arith, is) in
    record { before = y; found = refl; inbox = sym (ap (λ (z : Actor). z.inbox) same) }

pub numbers-with_inbox : (a : ℕ) (f : List Batch → List Batch) (xs : List Actor)
    → map (λ x. x.number) (with_inbox a f xs) ≡ map (λ x. x.number) xs
numbers-with_inbox a f [] = refl
numbers-with_inbox a f (x ∷ xs) = grind (arith, numbers-with_inbox a f xs)

-- ---- a batch is pushed, or the first is taken

pub live_from_numbers : (a : ℕ) (xs ys : List Actor) → map (λ x. x.number) xs ≡ map (λ x. x.number) ys
    → is_some (find_actor a xs) ≡ is_some (find_actor a ys)
live_from_numbers a xs ys same = in_numbers a xs ∙ ap (list_any (λ k. k == a)) same ∙ sym (in_numbers a ys)
  where
    in_numbers : (a : ℕ) (xs : List Actor)
        → is_some (find_actor a xs) ≡ list_any (λ k. k == a) (map (λ x. x.number) xs)
    in_numbers a [] = refl
    in_numbers a (x ∷ xs) = grind (arith, in_numbers a xs)

-- a table stays one where the actors' numbers stay
pub table_from_numbers : (t : TableState) (xs : List Actor) → map (λ x. x.number) xs ≡ map (λ x. x.number) t.actors
    → IsTable t → IsTable (record t { actors = xs })
table_from_numbers t xs same k = record {
  rows_ascend = k.rows_ascend;
  rows_below_next = k.rows_below_next;
  actors_ascend = rw same k.actors_ascend;
  owners_live = all_weaker _ _ (λ r o. live_from_numbers r.owner xs t.actors same ∙ o) t.rows k.owners_live;
}

pub live-pushed : (a b : ℕ) (batch : Batch) (t : TableState) → is_live b (pushed a batch t) ≡ is_live b t
live-pushed a b batch t = live_from_numbers b _ t.actors (numbers-with_inbox a _ t.actors)

pub table-pushed : (a : ℕ) (batch : Batch) (t : TableState) → IsTable t → IsTable (pushed a batch t)
table-pushed a batch t k = table_from_numbers t _ (numbers-with_inbox a _ t.actors) k

pub live-popped : (a b : ℕ) (t : TableState) → is_live b (popped a t) ≡ is_live b t
live-popped a b t = live_from_numbers b _ t.actors (numbers-with_inbox a _ t.actors)

pub table-popped : (a : ℕ) (t : TableState) → IsTable t → IsTable (popped a t)
table-popped a t k = table_from_numbers t _ (numbers-with_inbox a _ t.actors) k

-- another actor's inbox stays
pub found-popped_other : (a b : ℕ) (t : TableState) → b ≢ a
    → find_actor b (popped a t).actors ≡ find_actor b t.actors
found-popped_other a b t apart = found-with_inbox_other a b (drop 1) t.actors apart

-- the actor's own had the batch in front
pub found-popped : (a : ℕ) (t : TableState) (batch : Batch) (x : Actor) → first_batch a t ≡ Some batch
    → find_actor a (popped a t).actors ≡ Some x
    → (y : Actor) × (find_actor a t.actors ≡ Some y) × (y.inbox ≡ batch ∷ x.inbox)
found-popped a t batch x first is =
    let from : IsFrom (drop 1) (find_actor a t.actors) x =
    from_changed (drop 1) _ x (sym (found-with_inbox a (drop 1) t.actors) ∙ is) in
    (from.before, from.found, in_front from.before.inbox x.inbox batch from.inbox (rw from.found at first))
  where
    in_front : (old new : List Batch) (b : Batch) → new ≡ drop 1 old → slice_get old 0 ≡ Some b → old ≡ b ∷ new
    in_front [] new b is first = absurd cc
    in_front (c ∷ cs) new b is first = grind (arith, is, first)

-- ---- a plan's events are posted

-- who has no entry gets nothing
pub posted_none : (from b : ℕ) (out : Outbox) (t : TableState) → entry_of b out ≡ None
    → find_actor b (posted from out t).actors ≡ find_actor b t.actors
posted_none from b [] t none = refl
posted_none from b (o ∷ os) t none = split (is_at (nat_cmp b) o.0) refl
    (posted_none from b os (pushed o.0 (record { from = from; events = o.1 }) t))
  where
    split : (c : Bool) → is_at (nat_cmp b) o.0 ≡ c
        → (entry_of b os ≡ None → find_actor b (posted from (o ∷ os) t).actors
        ≡ find_actor b (pushed o.0 (record { from = from; events = o.1 }) t).actors)
        → find_actor b (posted from (o ∷ os) t).actors ≡ find_actor b t.actors
    split true is later = absurd (let some : Some o.1 ≡ None = rw is at none in cc)
    split false is later =
        later (rw is at none) ∙ found-with_inbox_other o.0 b _ t.actors (λ same. grind (arith, nat_tests, is))

pub posted_to : PostedTo
posted_to from b [] t x ascend is = (x, is, inl (refl, refl))
posted_to from b (o ∷ os) t x ascend is = split (is_at (nat_cmp b) o.0) refl
    (posted_to from b os (pushed o.0 batch t) x (sorted_tail nat_cmp _ _ ascend) is)
  where
    batch : Batch
    batch = record { from = from; events = o.1 }

    split : (c : Bool) → is_at (nat_cmp b) o.0 ≡ c
        → (y : Actor) × (find_actor b (pushed o.0 batch t).actors ≡ Some y)
        × IsPostedTo from (told_to b os) y.inbox x.inbox
        → (y : Actor) × (find_actor b t.actors ≡ Some y) × IsPostedTo from (told_to b (o ∷ os)) y.inbox x.inbox
    split true here later =
        let same : o.0 ≡ b = grind (arith, nat_tests, here) in
        let above : AreAbove b (keys_of os) =
        subst (λ (k : ℕ). AreAbove k (keys_of os)) same (sorted_head nat_cmp _ _ ascend) in
        let pushed_is : find_actor b (with_inbox o.0 (λ bs. bs ++ batch ∷ []) t.actors) ≡ Some x =
        sym (posted_none from b os (pushed o.0 batch t) (entry_of_above b os above)) ∙ is in
        let r : IsFrom (λ bs. bs ++ batch ∷ []) (find_actor b t.actors) x =
        from_changed _ _ x (sym (found-with_inbox b (λ bs. bs ++ batch ∷ []) t.actors) ∙ rw same at pushed_is) in
        (r.before, r.found, rw here (inr r.inbox))
    split false past later =
        let apart : b ≢ o.0 = λ same. grind (arith, nat_tests, past) in
        (later.0, sym (found-with_inbox_other o.0 b _ t.actors apart) ∙ later.1, rw past later.2)

pub posted_table : PostedTable
posted_table from [] t = (refl, refl, λ b. refl, λ k. k)
posted_table from (o ∷ os) t =
    let batch : Batch = record { from = from; events = o.1 } in
    let rest = posted_table from os (pushed o.0 batch t) in
    (rest.0, rest.1, λ b. rest.2 b ∙ live-pushed o.0 b batch t, λ k. rest.3 (table-pushed o.0 batch t k))
