-- Each live actor that is told something gets it as one batch.
use Rattle.std.proofs.Common.{◌≡◌, ◌≢◌, ℕ, List, [], ◌∷◌, ◌++◌, Bool, true, false, cond, Option, Some, None, refl, sym}
use Rattle.std.proofs.Common.{ap, ◌∙◌, subst, arith, unwrap_or}
use Rattle.std.specs.BTreeMap.{is_at}
use Rattle.std.specs.List.{AllByRecursion}
use Rattle.std.specs.Map.{keys_of}
use Rattle.std.specs.Ordering.{nat_cmp}
use Rattle.std.proofs.lemmas.Bool.Decides.{nat_tests}
use Rattle.std.proofs.lemmas.Map.Keys.{sorted_head, sorted_tail}
use Rattle.ac_table.specs.declared.batches.Event.{Event}
use Rattle.ac_table.specs.declared.batches.Batch.{Batch}
use Rattle.ac_table.specs.Tables.{TableState, Actor, find_actor, pushed}
use Rattle.ac_world.specs.Outboxes.{Outbox, told, told_to, posted}
use Rattle.ac_world.specs.Worlds.{entry_of}
use Rattle.ac_world.specs.Lemmas.Entries.{KeysAscend, AreAbove, entry_of_above, ascend_none, ascend_with, each_with}
use Rattle.hub_valid.specs.Lemmas.Lives.{rows_posted, next_posted}
use Rattle.hub_laws.specs.Posting.{IsOutbox, grown, PostedOnce, AreOutboxes}
use Rattle.hub_laws.proofs.Posting.{inbox_changed, found-with_inbox, found-with_inbox_other, posted_none}

-- a batch of some events
pushed_grown : (from : ℕ) (es : List Event) (o : Option Actor) → es ≢ []
    → inbox_changed (λ bs. bs ++ record { from = from; events = es } ∷ []) o ≡ grown from es o
pushed_grown from [] o some = absurd (some refl)
pushed_grown from (e ∷ es) None some = refl
pushed_grown from (e ∷ es) (Some x) some = refl

pub posted_grown : (from b : ℕ) (out : Outbox) (t : TableState) → KeysAscend out → AllByRecursion (λ o. o.1 ≢ []) out
    → find_actor b (posted from out t).actors ≡ grown from (told_to b out) (find_actor b t.actors)
posted_grown from b [] t ascend some = refl
posted_grown from b (o ∷ os) t ascend some = split (is_at (nat_cmp b) o.0) refl
    (posted_grown from b os (pushed o.0 batch t) (sorted_tail nat_cmp _ _ ascend) some.1)
  where
    batch : Batch
    batch = record { from = from; events = o.1 }

    push : List Batch → List Batch
    push bs = bs ++ batch ∷ []

    split : (c : Bool) → is_at (nat_cmp b) o.0 ≡ c
        → find_actor b (posted from (o ∷ os) t).actors
        ≡ grown from (told_to b os) (find_actor b (pushed o.0 batch t).actors)
        → find_actor b (posted from (o ∷ os) t).actors
        ≡ grown from (unwrap_or (cond c (Some o.1) (entry_of b os)) []) (find_actor b t.actors)
    split true here later =
        let same : b ≡ o.0 = grind (arith, nat_tests, here) in
        let above : AreAbove b (keys_of os) =
        subst (λ (k : ℕ). AreAbove k (keys_of os)) (sym same) (sorted_head nat_cmp _ _ ascend) in
        posted_none from b os (pushed o.0 batch t) (entry_of_above b os above)
        ∙ ap (λ k. find_actor b (pushed k batch t).actors) (sym same)
        ∙ found-with_inbox b push t.actors
        ∙ pushed_grown from o.1 (find_actor b t.actors) some.0
    split false past later =
        let apart : b ≢ o.0 = λ same. grind (arith, nat_tests, past) in
        later ∙ ap (grown from (told_to b os)) (found-with_inbox_other o.0 b push t.actors apart)

pub posted_once : PostedOnce
posted_once from out t is = record {
  rows = rows_posted from out t;
  next = next_posted from out t;
  inboxes = λ b. posted_grown from b out t is.0 is.1;
}

some_more : (es : List Event) (e : Event) → (es ++ e ∷ []) ≢ []
some_more [] e none = cc
some_more (d ∷ ds) e none = cc

pub told_outbox : (target : ℕ) (e : Event) (out : Outbox) → IsOutbox out → IsOutbox (told target e out)
told_outbox target e out is = (
  ascend_with target (told_to target out ++ e ∷ []) out is.0,
  each_with (λ o. o.1 ≢ []) target (told_to target out ++ e ∷ []) out (some_more (told_to target out) e) is.1,
)

pub are_outboxes : AreOutboxes
are_outboxes = ((ascend_none, tt), told_outbox)
