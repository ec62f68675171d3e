-- The turn of a system actor in a sound world: what is told in it is what its events tell, one after the other.
use Rattle.std.proofs.Common.{◌≡◌, ℕ, List, [], ◌∷◌, ◌++◌, true, cond, Option, Some, refl, ap, sym, ◌∙◌, subst}
use Rattle.std.proofs.Common.{append-nil, append_assoc, is_some, inl}
use Rattle.std.specs.List.{AllByRecursion}
use Rattle.std.specs.List.Sorted.{IsStrictlySortedBy}
use Rattle.std.specs.Map.{keys_of, values_of}
use Rattle.std.specs.Ordering.{nat_cmp}
use Rattle.pv_value.specs.Plain.{Plain}
use Rattle.ds_space.specs.Spaces.{Rows}
use Rattle.ac_table.specs.declared.batches.Batch.{Batch}
use Rattle.ac_table.specs.declared.batches.Event.{Event}
use Rattle.ac_table.specs.declared.batches.Event.TheVariants.{Assert, Retract, Message, Sync}
use Rattle.ac_table.specs.Tables.{TableState, IsTable, first_batch, is_live, popped}
use Rattle.ac_watch.specs.Lemmas.Alone.{without_ascends}
use Rattle.ac_world.specs.declared.watched.Watched.{Watched}
use Rattle.ac_world.specs.Behaviours.{Behaviour}
use Rattle.ac_world.specs.Outboxes.{told_to}
use Rattle.ac_world.specs.Turns.{Turning, begin_turn, turned_by, all_turned}
use Rattle.ac_world.specs.Watchers.{watcher_of}
use Rattle.ac_world.specs.Worlds.{WorldState, resident_of, is_system}
use Rattle.hub_machine.specs.Replays.{replay}
use Rattle.hub_laws.specs.Standing.{took, events_of, value_alone}
use Rattle.hub_laws.proofs.Good.{begin_good}
use Rattle.hub_laws.proofs.Kept.{made_in, IsGood, IsLawful, FitsEvent, FitsBatch, IsLog, IsServed, IsServedBy}
use Rattle.hub_laws.proofs.Kept.{IsSound, Runs}
use Rattle.hub_laws.proofs.Logs.{log_turned_by}
use Rattle.hub_laws.proofs.Moving.{begin_moves, made_in-append}
use Rattle.hub_laws.proofs.Opening.{replay_hub}
use Rattle.hub_laws.proofs.Posting.{live-popped, table-popped}
use Rattle.hub_laws.proofs.Turning.{turn_runs}
use Rattle.hub_laws.proofs.Turns.{HasFirst, has_first, ascend_before, live_lawful, is_below}
use Rattle.hub_batches.specs.Laws.{EventsTellInOrder, EachSideAscends}
use Rattle.hub_batches.specs.Taking.{less, behaving, turning_over}
use Rattle.hub_batches.specs.Telling.{told_of, said_to, all_told_of}
use Rattle.hub_batches.proofs.Events.{turned_tells}
use Rattle.hub_batches.proofs.Inboxes.{first_waits}
use Rattle.hub_batches.proofs.Said.{Says, says_by_kind}

-- ---- event by event

-- the handles got, and those of the first event
one_before : (hs : List ℕ) (e : Event) (es : List Event) → IsStrictlySortedBy nat_cmp (hs ++ made_in (e ∷ es))
    → IsStrictlySortedBy nat_cmp (hs ++ made_in (e ∷ []))
one_before hs e es s =
    ascend_before (hs ++ made_in (e ∷ [])) (made_in es)
    (subst (IsStrictlySortedBy nat_cmp)
    (ap (λ ks. hs ++ ks) (sym (alone e)) ∙ sym (append_assoc hs (made_in (e ∷ [])) (made_in es))) s)
  where
    alone : (e : Event) → made_in (e ∷ []) ++ made_in es ≡ made_in (e ∷ es)
    alone (Assert h entity v) = refl
    alone (Retract h entity) = refl
    alone (Message entity v) = refl
    alone (Sync entity peer) = refl

-- what is known throughout the turn
record IsTurning (y : Behaviour) (a : ℕ) (t : TableState) : Type 0 where
  pub lawful : IsLawful y a
  pub table : IsTable t
  pub lives : is_live a t ≡ true
  pub good : AllByRecursion IsGood t.rows

all_turned_tell : (y : Behaviour) (o : Option Watched) (a from b : ℕ) (said : List Plain → Plain → List Event)
    (t : TableState) (full : Rows) (u : Turning) (es : List Event) → IsTurning y a t → Says y said b
    → AllByRecursion (FitsEvent t.rows a from) es
    → IsStrictlySortedBy nat_cmp (keys_of u.resident.got ++ made_in es) → Runs y o a t full u
    → told_to b (all_turned y a from es u).plan.out ≡ told_to b u.plan.out ++ all_told_of y said b a from es u
all_turned_tell y o a from b said t full u [] is says fits s r = sym (append-nil (told_to b u.plan.out))
all_turned_tell y o a from b said t full u (e ∷ es) is says fits s r =
    let next : Runs y o a t (took value_alone e full) (turned_by y a from e u) =
    turn_runs y o a is.lawful from t full u (e ∷ []) is.table is.lives is.good (fits.0, tt)
    (one_before (keys_of u.resident.got) e es s) r in
    all_turned_tell y o a from b said t (took value_alone e full) (turned_by y a from e u) es is says fits.1
    (log_turned_by y a from e u (made_in es) s) next
    ∙ ap (λ ds. ds ++ all_told_of y said b a from es (turned_by y a from e u))
    (turned_tells y o a from b u is.lawful.ascend r.met said e says)
    ∙ append_assoc (told_to b u.plan.out) (told_of y said b e u)
    (all_told_of y said b a from es (turned_by y a from e u))

-- ---- the turn

in_system : (a : ℕ) (w : WorldState) (inbox : List Batch) → is_system a ≡ true → IsServed [] a inbox w (is_system a)
    → IsServedBy value_alone [] w.table.rows w.table.next a (resident_of a w).got inbox
in_system a w inbox is s = subst (IsServed [] a inbox w) is s

pub turning_tells : (a b : ℕ) (d : Batch) (w : WorldState) → IsSound [] w → is_system a ≡ true
    → first_batch a w.table ≡ Some d
    → told_to b (turning_over a d w).plan.out
    ≡ all_told_of (behaving a w) (said_to w.schema a b) b a d.from d.events (begin_turn a (less a w))
turning_tells a b d w k system is =
    let x : HasFirst a w.table d = has_first a w.table d is in
    let live : is_live a w.table ≡ true = ap is_some x.found in
    let served = in_system a w x.actor.inbox system (k.served a x.actor x.found) in
    let log = subst (λ bs. IsLog w.table.next (keys_of (resident_of a w).got) bs) x.inbox served.log in
    let front : IsStrictlySortedBy nat_cmp (keys_of (resident_of a w).got ++ made_in d.events) =
    ascend_before (keys_of (resident_of a w).got ++ made_in d.events) (made_in (events_of x.rest))
    (subst (IsStrictlySortedBy nat_cmp)
    (ap (λ hs. keys_of (resident_of a w).got ++ hs) (made_in-append d.events (events_of x.rest))
    ∙ sym (append_assoc (keys_of (resident_of a w).got) (made_in d.events) (made_in (events_of x.rest)))) log.0) in
    all_turned_tell (behaving a w) (watcher_of a w.watches) a d.from b (said_to w.schema a b) (popped a w.table)
    (resident_of a w).got (begin_turn a (less a w)) d.events
    (record {
      lawful = live_lawful [] a w k (is_below a system) live;
      table = table-popped a w.table k.table;
      lives = live-popped a a w.table ∙ live;
      good = k.rows;
    })
    (says_by_kind a b w k (is_below a system) live)
    (subst (AllByRecursion (FitsBatch w.table.rows a)) x.inbox served.fits).0
    front
    (record {
      moves = begin_moves a (popped a w.table) (table-popped a w.table k.table);
      good = begin_good a (popped a w.table) k.rows;
      met = k.met a (is_below a system) live;
      near = λ stays. record {
        should_ascends = ascend_before (keys_of (resident_of a w).got) (made_in d.events) front;
        kept_ascends = ascend_before (keys_of (resident_of a w).got) (made_in d.events) front;
        near = λ h. inl refl;
      };
      ends = tt;
    })

pub events_tell_in_order : EventsTellInOrder
events_tell_in_order ds steps may a d rest system is b =
    let w : WorldState = (replay ds steps).world in
    ap (λ c. cond c (told_to b (turning_over a d w).plan.out) []) system
    ∙ turning_tells a b d w (replay_hub ds steps may).sound system (first_waits a d rest w.table is)

pub each_side_ascends : EachSideAscends
each_side_ascends ds steps may a system live =
    let w : WorldState = (replay ds steps).world in
    let law : IsLawful (behaving a w) a = live_lawful [] a w (replay_hub ds steps may).sound (is_below a system) live in (
      law.ascend,
      λ rows others.
          without_ascends ((behaving a w).keys (values_of rows)) ((behaving a w).keys (values_of others))
          (law.ascend (values_of rows)) (law.ascend (values_of others)),
    )
