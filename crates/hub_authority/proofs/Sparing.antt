-- The messages that wait for those who are still live at a step's end: no other came.
use Rattle.std.proofs.Common.{◌≡◌, ℕ, List, [], ◌++◌, ◌==◌, Bool, true, false, cond, not, Option, Some, None, refl, ap}
use Rattle.std.proofs.Common.{sym}
use Rattle.std.proofs.Common.{◌∙◌, arith, filter, is_some, ◌∷◌}
use Rattle.std.proofs.lemmas.Bool.Decides.{nat_tests}
use Rattle.std.proofs.lemmas.List.{append-nil}
use Rattle.ac_table.specs.declared.batches.Batch.{Batch}
use Rattle.ac_table.specs.Tables.{Actor, TableState, find_actor, is_live, ended, rows_of}
use Rattle.ac_world.specs.declared.spreads.Spread.{Spread as SpreadOf}
use Rattle.ac_world.specs.Outboxes.{told_to, retractions}
use Rattle.ac_world.specs.Worlds.{WorldState, actor_of, gone, ended_of}
use Rattle.ac_world.specs.Lemmas.Entries.{ascend_none}
use Rattle.hub_machine.specs.State.{State}
use Rattle.hub_machine.specs.Endings.{finished}
use Rattle.hub_valid.specs.Lemmas.Lists.{flat_map_append}
use Rattle.hub_valid.specs.Lemmas.Lives.{live_posted}
use Rattle.hub_valid.specs.Lemmas.StepEnds.{finished_keeps}
use Rattle.hub_laws.specs.Standing.{events_of}
use Rattle.hub_authority.specs.Asked.{messages_in}
use Rattle.hub_authority.proofs.Saying.{said_retractions, ascend_retractions, posted_events}

-- an actor for which the same messages wait
pub record HadMessages (b : ℕ) (actors : List Actor) (inbox : List Batch) : Type 0 where
  pub actor : Actor
  pub found : find_actor b actors ≡ Some actor
  pub same : messages_in (events_of inbox) ≡ messages_in (events_of actor.inbox)

-- from t to u some have gone, and to those who are left no message came
abbrev pub KeepsMessages : TableState → TableState → Type 0
KeepsMessages t u = (b : ℕ) (y : Actor) → find_actor b u.actors ≡ Some y → HadMessages b t.actors y.inbox

keeps_all : (t : TableState) → KeepsMessages t t
keeps_all t b y is = record { actor = y; found = is; same = refl }

keeps_then : (t u v : TableState) → KeepsMessages t u → KeepsMessages u v → KeepsMessages t v
keeps_then t u v first later b y is =
    let l = later b y is in
    let f = first b l.actor l.found in
    record { actor = f.actor; found = f.found; same = l.same ∙ f.same }

-- ---- one actor goes

found_others : (b a : ℕ) (xs : List Actor)
    → find_actor b (filter (λ x. not (x.number == a)) xs) ≡ cond (b == a) None (find_actor b xs)
found_others b a [] = grind arith
found_others b a (x ∷ xs) = grind (arith, nat_tests, found_others b a xs)

was_found : (b : Bool) (o : Option Actor) (x : Actor) → cond b None o ≡ Some x → o ≡ Some x
was_found true o x is = absurd cc
was_found false o x is = is

gone_messages : (a b : ℕ) (w : WorldState) (y : Actor) → find_actor b (gone a w).table.actors ≡ Some y
    → HadMessages b w.table.actors y.inbox
gone_messages a b w y is = by (find_actor b (ended a w.table).actors) refl
  where
    by : (o : Option Actor) → find_actor b (ended a w.table).actors ≡ o → HadMessages b w.table.actors y.inbox
    by None none =
        let dead : true ≡ false =
        sym (ap is_some is)
        ∙ live_posted b a (retractions (rows_of a w.table.rows) []) (ended a w.table)
        ∙ ap is_some none in
        absurd cc
    by (Some x) some =
        let got = posted_events a b (retractions (rows_of a w.table.rows) []) (ended a w.table) x
        (ascend_retractions (rows_of a w.table.rows) [] ascend_none) some in
        let found : Some got.actor ≡ Some y = sym got.found ∙ is in
        let one : got.actor ≡ y = cc in
        record {
          actor = x;
          found = was_found (b == a) (find_actor b w.table.actors) x (sym (found_others b a w.table.actors) ∙ some);
          same =
              ap (λ (z : Actor). messages_in (events_of z.inbox)) (sym one)
              ∙ ap messages_in got.events
              ∙ flat_map_append _ (events_of x.inbox) (told_to b (retractions (rows_of a w.table.rows) []))
              ∙ ap (λ es. messages_in (events_of x.inbox) ++ es) (said_retractions b (rows_of a w.table.rows) [])
              ∙ append-nil (messages_in (events_of x.inbox));
        }

messages_ended : (a : ℕ) (w : WorldState) → KeepsMessages w.table (ended_of a w).table
messages_ended a w = by (is_live a w.table)
  where
    by : (c : Bool) → KeepsMessages w.table (cond c (gone a w) w).table
    by true = λ b y is. gone_messages a b w y is
    by false = keeps_all w.table

-- ---- a step's end

pub messages_finished : (xs : List SpreadOf) (s : State) → KeepsMessages s.world.table (finished xs s).world.table
messages_finished xs s =
    finished_keeps (λ t. KeepsMessages s.world.table t.world.table) (λ k f t there kept. ends (actor_of k) t kept)
    (λ a t high low kept. ends a t kept) xs s (keeps_all s.world.table)
  where
    ends : (a : ℕ) (t : State) → KeepsMessages s.world.table t.world.table
        → KeepsMessages s.world.table (ended_of a t.world).table
    ends a t kept =
        keeps_then s.world.table t.world.table (ended_of a t.world).table kept (messages_ended a t.world)
