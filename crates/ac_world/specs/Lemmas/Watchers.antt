-- Watchers by their numbers, and as one more is made.
use Rattle.std.proofs.Common.{◌≡◌, ℕ, zero, suc, ◌+◌, ◌-◌, ◌<◌, ◌≤◌, nat_lt, List, [], ◌∷◌, ◌++◌, length, slice_get}
use Rattle.std.proofs.Common.{length-append, Bool, true, false, Option, Some, None, option_map, if◌then◌else◌, refl}
use Rattle.std.proofs.Common.{ap, ◌∙◌, arith}
use Rattle.std.proofs.lemmas.Bool.Decides.{nat_tests}
use Rattle.std.proofs.lemmas.Option.{slice_get_past, slice_get_within}
use Rattle.ps_schema.specs.declared.Definition.{Definition}
use Rattle.ac_world.specs.Aims.{observation_of}
use Rattle.ac_world.specs.Behaviours.{other}
use Rattle.ac_world.specs.Watchers.{Watched, Task, next_watcher, watcher_of, task_of, task_at}

-- ---- what dataspaces and watchers have in common

pub other_schema : (ds : List Definition) (task : Option Task) → (other ds task).schema ≡ ds
other_schema ds None = refl
other_schema ds (Some task) = refl

pub other_group : (ds : List Definition) (task : Option Task) → (other ds task).group ≡ observation_of
other_group ds None = refl
other_group ds (Some task) = refl

-- ---- whose numbers they are

pub watcher_numbered : (a : ℕ) (ws : List Watched) (w : Watched) → watcher_of a ws ≡ Some w
    → (9 ≤ a) × (a < next_watcher ws)
watcher_numbered a ws w is = by (nat_lt a 9) refl is
  where
    by : (b : Bool) → nat_lt a 9 ≡ b → (if b then None else slice_get ws (a - 9)) ≡ Some w
        → (9 ≤ a) × (a < next_watcher ws)
    by true low some = absurd cc
    by false high some =
        let above : 9 ≤ a = grind (arith, nat_tests, high) in
        let within : a - 9 < length ws = slice_get_within ws (a - 9) w some in
        (above, omega (arith, above, within))

-- the numbers below and above are nobody's
pub no_watcher_below : (a : ℕ) (ws : List Watched) → a < 9 → watcher_of a ws ≡ None
no_watcher_below a ws low =
    let is : nat_lt a 9 ≡ true = grind (arith, nat_tests, low) in
    ap (λ b. if b then None else slice_get ws (a - 9)) is

pub no_watcher_above : (a : ℕ) (ws : List Watched) → next_watcher ws ≤ a → watcher_of a ws ≡ None
no_watcher_above a ws high =
    let is : nat_lt a 9 ≡ false = grind (arith, nat_tests, high) in
    ap (λ b. if b then None else slice_get ws (a - 9)) is ∙ slice_get_past ws (a - 9) (omega (arith, high))

pub no_task_below : (a : ℕ) (ws : List Watched) → a < 9 → task_at a ws ≡ None
no_task_below a ws low = ap (option_map task_of) (no_watcher_below a ws low)

-- ---- one more

pub next_watcher-more : (ws : List Watched) (w : Watched) → next_watcher (ws ++ w ∷ []) ≡ next_watcher ws + 1
next_watcher-more ws w =
    let longer : length (ws ++ w ∷ []) ≡ length ws + 1 = length-append ws (w ∷ []) in omega (arith, longer)

place_kept : (ws : List Watched) (w : Watched) (i : ℕ) → i < length ws
    → slice_get (ws ++ w ∷ []) i ≡ slice_get ws i
place_kept [] w i l = absurd (omega (arith, l))
place_kept (x ∷ ws) w zero l = refl
place_kept (x ∷ ws) w (suc i) l = place_kept ws w i (omega (arith, l))

last_place : (ws : List Watched) (w : Watched) → slice_get (ws ++ w ∷ []) (length ws) ≡ Some w
last_place [] w = refl
last_place (x ∷ ws) w = last_place ws w

-- those that were made keep their numbers
pub watcher_of-more : (a : ℕ) (ws : List Watched) (w : Watched) → a < next_watcher ws
    → watcher_of a (ws ++ w ∷ []) ≡ watcher_of a ws
watcher_of-more a ws w low = by (nat_lt a 9) refl
  where
    by : (b : Bool) → nat_lt a 9 ≡ b
        → (if b then None else slice_get (ws ++ w ∷ []) (a - 9)) ≡ (if b then None else slice_get ws (a - 9))
    by true is = refl
    by false is =
        let above : 9 ≤ a = grind (arith, nat_tests, is) in
        place_kept ws w (a - 9) (omega (arith, above, low))

pub task_at-more : (a : ℕ) (ws : List Watched) (w : Watched) → a < next_watcher ws
    → task_at a (ws ++ w ∷ []) ≡ task_at a ws
task_at-more a ws w low = ap (option_map task_of) (watcher_of-more a ws w low)

-- and the next number is the new one's
pub watcher_of-next : (ws : List Watched) (w : Watched) → watcher_of (next_watcher ws) (ws ++ w ∷ []) ≡ Some w
watcher_of-next ws w =
    let high : nat_lt (next_watcher ws) 9 ≡ false = grind (arith, nat_tests) in
    let place : next_watcher ws - 9 ≡ length ws = omega arith in
    ap (λ b. if b then None else slice_get (ws ++ w ∷ []) (next_watcher ws - 9)) high
    ∙ ap (slice_get (ws ++ w ∷ [])) place ∙ last_place ws w

pub task_at-next : (ws : List Watched) (w : Watched) → task_at (next_watcher ws) (ws ++ w ∷ []) ≡ Some (task_of w)
task_at-next ws w = ap (option_map task_of) (watcher_of-next ws w)
