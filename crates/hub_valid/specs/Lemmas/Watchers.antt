-- Watchers: what one observes, and what it asserts of what it has got, holds objects and is aimed at objects.
use Rattle.std.proofs.Common.{◌≡◌, ℕ, zero, suc, ◌+◌, ◌-◌, ◌<◌, ◌||◌, not, List, [], ◌∷◌, Bool}
use Rattle.std.proofs.Common.{true, false, cond, Option, Some, None, option_map, slice_get, nat_lt, nat_le}
use Rattle.std.proofs.Common.{length, take, is_none, refl, arith}
use Rattle.std.proofs.lemmas.Bool.Decides.{nat_tests}
use Rattle.std.specs.Prelude.{codes}
use Rattle.std.specs.List.{AllByRecursion, flat_map, list_any}
use Rattle.pv_value.specs.Plain.{Plain, sequence, listed}
use Rattle.pv_value.specs.Order.{order}
use Rattle.pv_words.specs.Words.{is_word, labelled, number}
use Rattle.pv_words.specs.Lemmas.Found.{If}
use Rattle.dp_pattern.specs.Written.{pattern_of}
use Rattle.sr_caveat.specs.Embedded.{has_embedded}
use Rattle.lc_watch.specs.Behaviours.{behave, is_behaviour}
use Rattle.ac_watch.specs.Watching.{made, key_at, keys_from, keys_over, watcher_keys}
use Rattle.ds_space.specs.References.{reference_value}
use Rattle.ac_world.specs.declared.acts.Act.TheVariants as act
use Rattle.ac_world.specs.Behaviours.{aim_in}
use Rattle.ac_world.specs.Limits.{most_watchers}
use Rattle.ac_world.specs.declared.watched.Watched.{Watched}
use Rattle.ac_world.specs.Watchers.{Task, task_of, task_at, observation_by}
use Rattle.ac_world.specs.Worlds.{is_space}
use Rattle.rl_wire.specs.Crossing.{held_in}
use Rattle.hub_machine.specs.State.{State}
use Rattle.hub_machine.specs.Machine.{meets, is_unwatchable}
use Rattle.hub_valid.specs.Validity.{Lived, IsObjectAt, IsObjectValue, HoldsObjects, IsValidAct, IsValidWatch}
use Rattle.hub_valid.specs.Lemmas.Aims.{IsAimed}
use Rattle.hub_valid.specs.Lemmas.Crossed.{held_listed}
use Rattle.hub_valid.specs.Lemmas.Passed.{quiet_holds}
use Rattle.hub_valid.specs.Lemmas.Values.{all_append, all_got, all_flat, all_ascending, cap_is_object, sequence_holds}

-- ---- dataspaces

-- the object of a dataspace
pub space_object : (n : Lived) (a : ℕ) → is_space a ≡ true → IsObjectAt n a 0
space_object n a is =
    let low : a < 9 = grind (arith, nat_tests, is) in
    (omega (arith, low), omega arith, λ near. (omega (arith, low), refl))

-- ---- what a watcher observes

-- the observation that watcher a makes is of an object, and holds its own
pub observed_valid : (n : Lived) (a : ℕ) (x : Watched) → a < 17 → a < 9 + n.watchers → IsValidWatch x
    → IsValidAct n (act.Assert x.from 0 (observation_by a x.pattern))
observed_valid n a x near made valid = (
  space_object n x.from valid.0,
  all_append (IsObjectValue n) (held_in x.pattern) _ (quiet_holds (IsObjectValue n) x.pattern valid.2) (own, tt),
)
  where
    own : IsObjectValue n (reference_value (record { actor = a; entity = 0 }))
    own =
        cap_is_object n (record { actor = a; entity = 0; caveats = [] }) (omega (arith, near), omega arith, tt)
        (omega (arith, near), omega arith, λ system. (made, refl))

-- ---- what its behaviour makes

first_hold : (n : Lived) (k : ℕ) (cs : List Plain) → AllByRecursion (HoldsObjects n) cs
    → AllByRecursion (HoldsObjects n) (take k cs)
first_hold n zero cs all = tt
first_hold n (suc k) [] all = tt
first_hold n (suc k) (c ∷ cs) all = (all.0, first_hold n k cs all.1)

behave_holds : (n : Lived) (name : List ℕ) (cs : List Plain) → AllByRecursion (HoldsObjects n) cs
    → AllByRecursion (HoldsObjects n) (behave name cs)
behave_holds n name cs all =
    by (is_word name (codes "each")) (is_word name (codes "tuple")) (is_word name (codes "size"))
  where
    by : (b c d : Bool) → AllByRecursion (HoldsObjects n)
        (cond b (take 8 cs) (cond c (labelled (codes "tuple") cs ∷ [])
        (cond d (labelled (codes "size") (number (length cs) ∷ []) ∷ []) [])))
    by true c d = first_hold n 8 cs all
    by false true d = (sequence_holds n cs all, tt)
    by false false true = (tt, tt)
    by false false false = tt

made_holds : (n : Lived) (name : List ℕ) (c : Plain) → HoldsObjects n c
    → AllByRecursion (HoldsObjects n) (made name c)
made_holds n name (sequence cs) h = behave_holds n name (listed cs) (held_listed (IsObjectValue n) cs h)
made_holds n name c h = tt

-- ---- what it wants

-- what is wanted under a key is aimed at an object, and holds objects
abbrev IsAimedBy : Lived → Task → Plain → Type 0
IsAimedBy n task k = If (aim_in task k) (IsAimed n)

key_aimed : (n : Lived) (task : Task) (c : Plain) (i : ℕ) → is_space task.to ≡ true → HoldsObjects n c
    → IsAimedBy n task (key_at c i)
key_aimed n task c i to h =
    by (slice_get (made task.name c) i) (all_got (HoldsObjects n) (made task.name c) i (made_holds n task.name c h))
  where
    by : (o : Option Plain) → If o (HoldsObjects n)
        → If (option_map (λ v. record { at = record { actor = task.to; entity = 0 }; value = v }) o) (IsAimed n)
    by None holds = tt
    by (Some v) holds = record { at = space_object n task.to to; value = holds }

keys_aimed : (n : Lived) (task : Task) (c : Plain) (i : ℕ) (vs : List Plain) → is_space task.to ≡ true
    → HoldsObjects n c → AllByRecursion (IsAimedBy n task) (keys_from c i vs)
keys_aimed n task c i [] to h = tt
keys_aimed n task c i (v ∷ vs) to h = (key_aimed n task c i to h, keys_aimed n task c (i + 1) vs to h)

pub watcher_aims : (n : Lived) (task : Task) (vs : List Plain) → is_space task.to ≡ true
    → AllByRecursion (HoldsObjects n) vs
    → AllByRecursion (λ k. If (aim_in task k) (IsAimed n)) (watcher_keys task.name vs)
watcher_aims n task vs to all =
    all_ascending (IsAimedBy n task) order (flat_map (keys_over task.name) vs)
    (all_flat (HoldsObjects n) (IsAimedBy n task) (keys_over task.name)
    (λ c h. keys_aimed n task c 0 (made task.name c) to h) vs all)

-- ---- who is a watcher

-- what the actor of a number does is asserted at a dataspace, where it is a watcher
pub task_valid : (a : ℕ) (ws : List Watched) → AllByRecursion IsValidWatch ws
    → If (task_at a ws) (λ task. is_space task.to ≡ true)
task_valid a ws all = by (nat_lt a 9)
  where
    at : (o : Option Watched) → If o IsValidWatch → If (option_map task_of o) (λ task. is_space task.to ≡ true)
    at None valid = tt
    at (Some x) valid = valid.1

    by : (b : Bool) → If (option_map task_of (cond b None (slice_get ws (a - 9)))) (λ task. is_space task.to ≡ true)
    by true = tt
    by false = at (slice_get ws (a - 9)) (all_got IsValidWatch ws (a - 9) all)

-- ---- who may be one

-- why a watcher may begin
pub record MayWatch (x : Watched) (s : State) : Type 0 where
  pub none_come : s.world.opened ≡ 0
  pub few : length s.world.watches < 8
  pub valid : IsValidWatch x

pub may_watch : (x : Watched) (s : State) → is_unwatchable x s ≡ false → MayWatch x s
may_watch x s free =
    by (nat_lt 0 s.world.opened) (nat_le most_watchers (length s.world.watches)) (is_space x.from) (is_space x.to)
    (is_behaviour x.name) (has_embedded x.pattern) (is_none (pattern_of x.pattern))
    (list_any (meets x) (x ∷ s.world.watches)) refl refl refl refl refl free
  where
    by : (come many from to known holds none meeting : Bool) → nat_lt 0 s.world.opened ≡ come
        → nat_le most_watchers (length s.world.watches) ≡ many → is_space x.from ≡ from → is_space x.to ≡ to
        → has_embedded x.pattern ≡ holds
        → (come || many || not from || not to || not known || (holds || none) || meeting) ≡ false → MayWatch x s
    by false false true true true false none meeting come many from to holds is = record {
      none_come = grind (arith, nat_tests, come);
      few = grind (arith, nat_tests, many);
      valid = (from, to, holds);
    }
    by true m f t k h n e come many from to holds is = absurd cc
    by false true f t k h n e come many from to holds is = absurd cc
    by false false false t k h n e come many from to holds is = absurd cc
    by false false true false k h n e come many from to holds is = absurd cc
    by false false true true false h n e come many from to holds is = absurd cc
    by false false true true true true n e come many from to holds is = absurd cc
