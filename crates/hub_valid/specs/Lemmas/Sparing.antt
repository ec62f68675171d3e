-- What endings spare: the rows of those who are still live. No handle is drawn.
use Rattle.std.proofs.Common.{◌≡◌, ℕ, List, [], ◌==◌, ◌&&◌, Bool, true, false, cond, not, refl, ap, sym, ◌∙◌, filter}
use Rattle.ac_table.specs.Tables.{TableState, IsTable, is_live, ended, rows_of}
use Rattle.ac_world.specs.declared.spreads.Spread.{Spread as SpreadOf}
use Rattle.ac_world.specs.Outboxes.{retractions}
use Rattle.ac_world.specs.Worlds.{WorldState, actor_of, gone, ended_of}
use Rattle.hub_machine.specs.State.{State}
use Rattle.hub_machine.specs.Endings.{finished}
use Rattle.hub_valid.specs.Lemmas.Lists.{filter_same, filter_filter, filter_all, all_from}
use Rattle.hub_valid.specs.Lemmas.Lives.{live_gone, rows_posted, next_posted}
use Rattle.hub_valid.specs.Lemmas.StepEnds.{finished_keeps}

-- each row's owner is live
abbrev pub AreLive : TableState → Type 0
AreLive t = filter (λ r. is_live r.owner t) t.rows ≡ t.rows

pub owners_are_live : (t : TableState) → IsTable t → AreLive t
owners_are_live t k = filter_all (λ r. is_live r.owner t) t.rows k.owners_live

-- from t to u some have gone, with their rows
pub record Spares (t u : TableState) : Type 0 where
  pub live : (a : ℕ) → is_live a u ≡ true → is_live a t ≡ true
  pub rows : u.rows ≡ filter (λ r. is_live r.owner u) t.rows
  pub next : u.next ≡ t.next

pub spares_all : (t : TableState) → AreLive t → Spares t t
spares_all t are_live = record { live = λ a is. is; rows = sym are_live; next = refl }

both_live : (b c : Bool) → (c ≡ true → b ≡ true) → (b && c) ≡ c
both_live true c up = refl
both_live false true up = up refl
both_live false false up = refl

pub spares_then : (t u v : TableState) → Spares t u → Spares u v → Spares t v
spares_then t u v first later = record {
  live = λ a is. first.live a (later.live a is);
  rows =
      later.rows
      ∙ ap (filter (λ r. is_live r.owner v)) first.rows
      ∙ filter_filter _ _ t.rows
      ∙ filter_same _ _ t.rows
      (all_from _ (λ r. both_live (is_live r.owner u) (is_live r.owner v) (later.live r.owner)) t.rows);
  next = later.next ∙ first.next;
}

-- who is spared is live
pub still_live : (t u : TableState) → Spares t u → AreLive u
still_live t u spares =
    ap (filter (λ r. is_live r.owner u)) spares.rows
    ∙ filter_filter _ _ t.rows
    ∙ filter_same _ _ t.rows (all_from _ (λ r. twice (is_live r.owner u)) t.rows)
    ∙ sym spares.rows
  where
    twice : (b : Bool) → (b && b) ≡ b
    twice true = refl
    twice false = refl

-- ---- one actor goes

was_live : (b old : Bool) → cond b false old ≡ true → old ≡ true
was_live true old is = absurd cc
was_live false old is = is

spares_gone : (a : ℕ) (w : WorldState) → AreLive w.table → Spares w.table (gone a w).table
spares_gone a w are_live = record {
  live = λ b is. was_live (b == a) (is_live b w.table) (sym (live_gone b a w) ∙ is);
  rows =
      rows_posted a (retractions (rows_of a w.table.rows) []) (ended a w.table)
      ∙ ap (filter (λ r. not (r.owner == a))) (sym are_live)
      ∙ filter_filter _ _ w.table.rows
      ∙ filter_same _ _ w.table.rows
      (all_from _ (λ r. others (r.owner == a) (is_live r.owner w.table) ∙ sym (live_gone r.owner a w)) w.table.rows);
  next = next_posted a (retractions (rows_of a w.table.rows) []) (ended a w.table);
}
  where
    others : (b live : Bool) → (live && not b) ≡ cond b false live
    others true true = refl
    others true false = refl
    others false true = refl
    others false false = refl

pub spares_ended : (a : ℕ) (w : WorldState) → AreLive w.table → Spares w.table (ended_of a w).table
spares_ended a w are_live = by (is_live a w.table)
  where
    by : (b : Bool) → Spares w.table (cond b (gone a w) w).table
    by true = spares_gone a w are_live
    by false = spares_all w.table are_live

-- ---- a step's end

pub spares_finished : (xs : List SpreadOf) (s : State) → AreLive s.world.table
    → Spares s.world.table (finished xs s).world.table
spares_finished xs s are_live =
    finished_keeps (λ t. Spares s.world.table t.world.table)
    (λ k f t there spares. ends (actor_of k) t spares) (λ a t high low spares. ends a t spares) xs s
    (spares_all s.world.table are_live)
  where
    ends : (a : ℕ) (t : State) → Spares s.world.table t.world.table → Spares s.world.table (ended_of a t.world).table
    ends a t spares =
        spares_then s.world.table t.world.table (ended_of a t.world).table spares
        (spares_ended a t.world (still_live s.world.table t.world.table spares))
