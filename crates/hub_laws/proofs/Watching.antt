-- The watchers that were made: who has which number, and what the next one changes.
use Rattle.std.proofs.Common.{◌≡◌, ℕ, zero, suc, ◌+◌, ◌-◌, ◌<◌, ◌≤◌, List, [], ◌∷◌, ◌++◌, Bool, true, false, length}
use Rattle.std.proofs.Common.{length-append, Option, Some, None, option_map, nat_lt, slice_get, refl, ap, ◌∙◌, arith}
use Rattle.std.proofs.Common.{cond}
use Rattle.std.specs.List.{AllByRecursion}
use Rattle.std.proofs.lemmas.Bool.Decides.{nat_tests}
use Rattle.std.proofs.lemmas.Option.{slice_get_past}
use Rattle.ac_world.specs.declared.watched.Watched.{Watched}
use Rattle.ac_world.specs.Watchers.{task_of, task_at, watcher_of, next_watcher}

-- ---- who isn't one

pub low_is_none : (a : ℕ) (ws : List Watched) → a < 9 → watcher_of a ws ≡ None
low_is_none a ws low =
    let is : nat_lt a 9 ≡ true = grind (arith, nat_tests, low) in
    ap (λ b. cond {A = Option Watched} b None (slice_get ws (a - 9))) is

high_is : (a : ℕ) (ws : List Watched) → 9 ≤ a → watcher_of a ws ≡ slice_get ws (a - 9)
high_is a ws high =
    let is : nat_lt a 9 ≡ false = grind (arith, nat_tests, high) in
    ap (λ b. cond {A = Option Watched} b None (slice_get ws (a - 9))) is

pub low_has_no_task : (a : ℕ) (ws : List Watched) → a < 9 → task_at a ws ≡ None
low_has_no_task a ws low = ap (option_map task_of) (low_is_none a ws low)

-- nor a number that comes later
pub later_is_none : (a : ℕ) (ws : List Watched) → next_watcher ws ≤ a → watcher_of a ws ≡ None
later_is_none a ws l = high_is a ws (omega (arith, l)) ∙ slice_get_past ws (a - 9) (omega (arith, l))

-- ---- who is one

-- one that was made, of which this is so
pub record IsMade (P : Watched → Type 0) (a : ℕ) (ws : List Watched) : Type 0 where
  pub watched : Watched
  pub is : watcher_of a ws ≡ Some watched
  pub passes : P watched

got_one : (P : Watched → Type 0) (ws : List Watched) (i : ℕ) → AllByRecursion P ws → i < length ws
    → (x : Watched) × (slice_get ws i ≡ Some x) × P x
got_one P [] i all l = absurd (omega (arith, l))
got_one P (w ∷ ws) zero all l = (w, refl, all.0)
got_one P (w ∷ ws) (suc i) all l = got_one P ws i all.1 (omega (arith, l))

pub made_one : (P : Watched → Type 0) (a : ℕ) (ws : List Watched) → AllByRecursion P ws → 9 ≤ a → a < next_watcher ws
    → IsMade P a ws
made_one P a ws all high l =
    let one = got_one P ws (a - 9) all (omega (arith, high, l)) in
    record { watched = one.0; is = high_is a ws high ∙ one.1; passes = one.2 }

-- ---- one more

push_old : (ws : List Watched) (x : Watched) (i : ℕ) → i < length ws → slice_get (ws ++ x ∷ []) i ≡ slice_get ws i
push_old [] x i l = absurd (omega (arith, l))
push_old (w ∷ ws) x zero l = refl
push_old (w ∷ ws) x (suc i) l = push_old ws x i (omega (arith, l))

push_new : (ws : List Watched) (x : Watched) → slice_get (ws ++ x ∷ []) (length ws) ≡ Some x
push_new [] x = refl
push_new (w ∷ ws) x = push_new ws x

pub next_push : (ws : List Watched) (x : Watched) → next_watcher (ws ++ x ∷ []) ≡ next_watcher ws + 1
next_push ws x = omega (arith, length-append ws (x ∷ []))

pub watcher_old : (a : ℕ) (ws : List Watched) (x : Watched) → a < next_watcher ws
    → watcher_of a (ws ++ x ∷ []) ≡ watcher_of a ws
watcher_old a ws x l = by (nat_lt a 9) refl
  where
    by : (b : Bool) → nat_lt a 9 ≡ b → cond {A = Option Watched} b None (slice_get (ws ++ x ∷ []) (a - 9))
        ≡ cond b None (slice_get ws (a - 9))
    by true is = refl
    by false is = push_old ws x (a - 9) (let high : 9 ≤ a = grind (arith, nat_tests, is) in omega (arith, high, l))

pub watcher_new : (ws : List Watched) (x : Watched) → watcher_of (next_watcher ws) (ws ++ x ∷ []) ≡ Some x
watcher_new ws x =
    high_is (next_watcher ws) (ws ++ x ∷ []) (omega arith)
    ∙ ap (slice_get (ws ++ x ∷ [])) (omega arith) ∙ push_new ws x

pub task_old : (a : ℕ) (ws : List Watched) (x : Watched) → a < next_watcher ws
    → task_at a (ws ++ x ∷ []) ≡ task_at a ws
task_old a ws x l = ap (option_map task_of) (watcher_old a ws x l)
