-- Acts at others, and retractions of any kind, add nothing to what waits for an actor.
use Rattle.std.proofs.Common.{◌≡◌, ◌≢◌, ℕ, ◌==◌, List, [], ◌∷◌, ◌++◌, Bool, true, false, cond, Option, Some, None}
use Rattle.std.proofs.Common.{◌⊎◌, inl, inr, refl, ap, sym, ◌∙◌, unwrap_or}
use Rattle.std.specs.List.{AllByRecursion}
use Rattle.ac_table.specs.declared.batches.Batch.{Batch}
use Rattle.ac_table.specs.declared.batches.Event.{Event}
use Rattle.ac_table.specs.declared.batches.Event.TheVariants.{Assert, Retract, Message, Sync}
use Rattle.ac_table.specs.declared.batches.Row.{Row}
use Rattle.ac_table.specs.Sums.{load_waiting, inbox_of}
use Rattle.ac_table.specs.Tables.{TableState, find_actor, find_row, pushed}
use Rattle.ac_world.specs.declared.acts.Act.{Act}
use Rattle.ac_world.specs.declared.acts.Act.TheVariants as act
use Rattle.ac_world.specs.Lemmas.Entries.{all_append, each_with, each_found}
use Rattle.ac_world.specs.Outboxes.{Outbox, Plan, plan_over, posted, told, told_to, drop_row, drop_own, acted, all_acted}
use Rattle.ac_world.specs.Worlds.{WorldState, entry_of, sent}
use Rattle.hub_valid.specs.Lemmas.Plans.{GoesOn, goes_on_all_acted}
use Rattle.hub_laws.proofs.Leaving.{one_or_not}
use Rattle.hub_laws.proofs.Posting.{found-with_inbox_other}
use Rattle.hub_cascade.specs.Sparing.{IsRetraction}
use Rattle.hub_cascade.proofs.Uncounted.{uncounted, pushed_waits}

-- what actor c is told is retractions
abbrev IsUnheard : ℕ → Outbox → Type 0
IsUnheard c out = AllByRecursion (λ o. o.0 ≡ c → AllByRecursion IsRetraction o.1) out

-- an act isn't at actor c, or takes a row back
abbrev pub IsApart : ℕ → Act → Type 0
IsApart c (act.Assert target entity v) = target ≢ c
IsApart c (act.Retract handle) = Unit {0}
IsApart c (act.Message target entity v) = target ≢ c
IsApart c (act.Sync target entity peer) = target ≢ c

-- ---- what is posted

posted_unheard : (c from : ℕ) (out : Outbox) (t : TableState) → IsUnheard c out
    → load_waiting (inbox_of (find_actor c (posted from out t).actors))
    ≡ load_waiting (inbox_of (find_actor c t.actors))
posted_unheard c from [] t all = refl
posted_unheard c from (o ∷ os) t all = posted_unheard c from os (pushed o.0 batch t) all.1 ∙ by (one_or_not c o.0)
  where
    batch : Batch
    batch = record { from = from; events = o.1 }

    by : (c ≡ o.0) ⊎ (c ≢ o.0)
        → load_waiting (inbox_of (find_actor c (pushed o.0 batch t).actors))
        ≡ load_waiting (inbox_of (find_actor c t.actors))
    by (inl same) = pushed_waits c o.0 batch t.actors (uncounted o.1 (all.0 (sym same)))
    by (inr apart) =
        ap (λ x. load_waiting (inbox_of x)) (found-with_inbox_other o.0 c (λ bs. bs ++ batch ∷ []) t.actors apart)

-- ---- what is told

told_unheard : (c target : ℕ) (e : Event) (out : Outbox) → (target ≡ c → IsRetraction e) → IsUnheard c out
    → IsUnheard c (told target e out)
told_unheard c target e out back all =
    each_with (λ o. o.0 ≡ c → AllByRecursion IsRetraction o.1) target (told_to target out ++ e ∷ []) out
    (λ same. all_append IsRetraction (told_to target out) (e ∷ []) (so_far same (entry_of target out) refl)
    (back same, tt)) all
  where
    so_far : target ≡ c → (o : Option (List Event)) → entry_of target out ≡ o
        → AllByRecursion IsRetraction (unwrap_or o [])
    so_far same None found = tt
    so_far same (Some es) found =
        each_found (λ o. o.0 ≡ c → AllByRecursion IsRetraction o.1) target es out all found same

own_unheard : (c a : ℕ) (o : Option Row) (p : Plan) → IsUnheard c p.out → IsUnheard c (drop_own a o p).out
own_unheard c a None p all = all
own_unheard c a (Some r) p all = by (r.owner == a)
  where
    by : (b : Bool) → IsUnheard c (cond b (drop_row r p) p).out
    by true = told_unheard c r.target (Retract r.handle r.entity) p.out (λ same. tt) all
    by false = all

acted_unheard : (c a : ℕ) (x : Act) (p : Plan) → IsApart c x → IsUnheard c p.out → IsUnheard c (acted a x p).out
acted_unheard c a (act.Assert target entity v) p apart all =
    told_unheard c target (Assert p.table.next entity v) p.out (λ same. absurd (apart same)) all
acted_unheard c a (act.Retract handle) p apart all = own_unheard c a (find_row handle p.table.rows) p all
acted_unheard c a (act.Message target entity v) p apart all =
    told_unheard c target (Message entity v) p.out (λ same. absurd (apart same)) all
acted_unheard c a (act.Sync target entity peer) p apart all =
    told_unheard c target (Sync entity peer) p.out (λ same. absurd (apart same)) all

all_acted_unheard : (c a : ℕ) (xs : List Act) (p : Plan) → AllByRecursion (IsApart c) xs → IsUnheard c p.out
    → IsUnheard c (all_acted a xs p).out
all_acted_unheard c a [] p apart all = all
all_acted_unheard c a (x ∷ xs) p apart all =
    all_acted_unheard c a xs (acted a x p) apart.1 (acted_unheard c a x p apart.0 all)

-- ---- acts

pub sent_waits : (c a : ℕ) (acts : List Act) (w : WorldState) → AllByRecursion (IsApart c) acts
    → load_waiting (inbox_of (find_actor c (sent a acts w).table.actors))
    ≡ load_waiting (inbox_of (find_actor c w.table.actors))
sent_waits c a acts w apart =
    let p : Plan = all_acted a acts (plan_over w.table) in
    let on : GoesOn w.table p.table = goes_on_all_acted a acts (plan_over w.table) in
    posted_unheard c a p.out p.table (all_acted_unheard c a acts (plan_over w.table) apart tt)
    ∙ ap (λ xs. load_waiting (inbox_of (find_actor c xs))) on.actors
