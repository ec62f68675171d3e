-- The keys that are wanted: each that passes aims at an actor that its actor may reach, and those that leave or come are
-- what the one list has and the other hasn't.
use Rattle.std.proofs.Common.{◌≡◌, ℕ, ◌<◌, ◌≤◌, ◌^◌, nat_lt, nat_le, List, Bool, true, false, cond, ◌&&◌, not, Option}
use Rattle.std.proofs.Common.{suc, zero}
use Rattle.std.proofs.Common.{Some, None, option_map, option_and_then}
use Rattle.std.proofs.Common.{refl, ap, sym, ◌∙◌, subst, arith}
use Rattle.std.specs.Cmp.{eq_by_cmp_equiv}
use Rattle.std.specs.Prelude.{codes}
use Rattle.std.specs.List.{AllByRecursion, filter}
use Rattle.std.proofs.lemmas.Bool.Decides.{nat_tests}
use Rattle.std.proofs.lemmas.List.Elements.{recursion_from_All}
use Rattle.std.proofs.lemmas.Map.Views.{All-from_any, Contains-from_any}
use Rattle.pv_value.specs.Plain.{Plain, symbol, record_of, sequence, embedded, no_more, then_more, plains}
use Rattle.pv_value.specs.Lemmas.OrderLaws.{order_total}
use Rattle.pv_value.specs.Sets.{ascending_by}
use Rattle.pv_value.specs.Order.{order}
use Rattle.dp_pattern.specs.Patterns.{Pattern}
use Rattle.pv_words.specs.Lemmas.Same.{same_is}
use Rattle.pv_words.specs.Words.{is_word}
use Rattle.ds_space.specs.declared.references.Reference.{Reference}
use Rattle.ds_space.specs.References.{reference_of, is_observers}
use Rattle.sr_caveat.specs.declared.caps.Cap.{Cap}
use Rattle.sr_caveat.specs.Caps.{cap_of}
use Rattle.sr_pass.specs.Passing.{passed}
use Rattle.sr_caveat.specs.Lemmas.Capped.{cap_is, cap_sound}
use Rattle.ds_space.specs.Wants.{is_observer, observer_of, key_of, wants}
use Rattle.ds_space.specs.Changes.{among, without}
use Rattle.ds_space.specs.Lemmas.Lists.{of_the_rule, in_order, wants_ascend}
use Rattle.gk_sturdy.specs.declared.bound.Binding.{Binding}
use Rattle.gk_sturdy.specs.Answers.{reply_to}
use Rattle.ps_schema.specs.declared.Definition.{Definition}
use Rattle.ac_world.specs.declared.aims.Aim.{Aim}
use Rattle.ac_watch.specs.Watching.{value_at}
use Rattle.ac_watch.specs.Lemmas.Keys.{keys_ascend}
use Rattle.ac_world.specs.Behaviours.{Behaviour, asks, behaviour_of, other, dataspace, gatekeeper, watcher}
use Rattle.ac_world.specs.declared.watched.Watched.{Watched}
use Rattle.ac_world.specs.Watchers.{Task, task_of, task_at, next_watcher}
use Rattle.ac_world.specs.Aims.{aim_at, aim_by, aim_for, aim_of, observer_in}
use Rattle.ac_watch.specs.Lemmas.Alone.{among_without}
use Rattle.ac_world.specs.Lemmas.Asking.{among_asked}
use Rattle.hub_laws.proofs.Kept.{Reaches, IsAimed, IsLawful, IsWatch}
use Rattle.hub_laws.proofs.Watching.{low_has_no_task, made_one}

-- ---- the aim of each key

-- a reference names the object of its value
reference_is : (x : Plain) (c : Cap) → cap_of x ≡ Some c
    → reference_of x ≡ Some (record { actor = c.actor; entity = c.entity })
reference_is x c is =
    let sound = cap_sound x c is in
    ap reference_of (cap_is x c is) ∙ ap (λ b. cond {A = Option Reference} b
    (Some (record { actor = c.actor; entity = c.entity })) None) (within c.actor c.entity sound.0 sound.1)
  where
    within : (a e : ℕ) → a < 2 ^ 32 → e < 2 ^ 63 → (nat_lt a (2 ^ 32) && nat_lt e (2 ^ 63)) ≡ true
    within a e low small = grind (arith, nat_tests, low, small)

-- what gets through a reference goes to its actor
aim_from : (ds : List Definition) (v r : Plain) (aim : Aim) → aim_at ds v r ≡ Some aim
    → (c : Cap) × (cap_of r ≡ Some c) × (aim.at.actor ≡ c.actor)
aim_from ds v r aim is = by (cap_of r) refl is
  where
    at : (c : Cap) (o : Option Plain) → cap_of r ≡ Some c
        → option_map (λ w. record { at = record { actor = c.actor; entity = c.entity }; value = w }) o ≡ Some aim
        → (c : Cap) × (cap_of r ≡ Some c) × (aim.at.actor ≡ c.actor)
    at c None there is = absurd cc
    at c (Some w) there is =
        let one : record { at = record { actor = c.actor; entity = c.entity }; value = w } ≡ aim = cc in
        (c, there, ap (λ (a : Aim). a.at.actor) (sym one))

    by : (o : Option Cap) → cap_of r ≡ o → option_and_then (aim_by ds v) o ≡ Some aim
        → (c : Cap) × (cap_of r ≡ Some c) × (aim.at.actor ≡ c.actor)
    by None there is = absurd cc
    by (Some c) there is = at c (passed ds c.caveats v) there is

-- the observer of an observation, numbered 9 or more
record Observes (o : Plain) : Type 0 where
  pub observer : Plain
  pub names : observer_in o ≡ Some observer
  pub far : (c : Cap) → cap_of observer ≡ Some c → 9 ≤ c.actor

second : {X : Type 0} (a b : Bool) (o : Option X) (x : X) → cond (a && b) o None ≡ Some x → b ≡ true
second true true o x e = refl
second true false o x e = absurd cc
second false b o x e = absurd cc

named : (l p r : Plain) → is_observer r ≡ true → Observes (record_of l (then_more p (then_more r no_more)))
named l p (embedded x) e = record {
  observer = x;
  names = refl;
  far = λ c is. at c (sym (ap is_observers
      (reference_is x c is)) ∙ e);
}
  where
    at : (c : Cap) → nat_le 9 c.actor ≡ true → 9 ≤ c.actor
    at c is = grind (arith, nat_tests, is)
named l p r e = absurd cc

observes : (o : Plain) (p : Pattern) → observer_of o ≡ Some p → Observes o
observes (record_of (symbol s) (then_more q (then_more r no_more))) p e =
    named (symbol s) q r (second _ (is_observer r) _ p e)
observes o p e = absurd cc

-- an observation has an observer
pub observer_there : (o : Plain) (p : Pattern) → observer_in o ≡ None → observer_of o ≡ Some p → ⊥
observer_there o p none is = let by = observes o p is in let clash : None ≡ Some by.observer = sym none ∙ by.names in cc

-- what is sent to the observer of a value goes to an actor numbered 9 or more
sent_far : (ds : List Definition) (v o : Plain) (aim : Aim) → Observes o → aim_for ds v o ≡ Some aim → 9 ≤ aim.at.actor
sent_far ds v o aim by aims =
    let here : aim_at ds v by.observer ≡ Some aim = ap (option_and_then (aim_at ds v)) (sym by.names) ∙ aims in
    let c = aim_from ds v by.observer aim here in
    subst (λ m. 9 ≤ m) (sym c.2) (by.far c.0 c.1)

-- so the gatekeeper or a dataspace may send it
reached : (a b : ℕ) → a < 9 → 9 ≤ b → Reaches a b
reached a b low far = record { far = λ l. far; near = λ high l. absurd (omega (arith, low, high)) }

-- ---- a dataspace

aimed_key : (ds : List Definition) (a : ℕ) (k o : Plain) (cs : List Plain) → a < 9 → Observes o → k ≡ key_of o cs
    → IsAimed (dataspace ds) a k
aimed_key ds a k o cs low by is aim aims =
    reached a aim.at.actor low (sent_far ds (sequence (plains cs)) o aim by (sym (ap (aim_of ds) is) ∙ aims))

wanted_aimed : (ds : List Definition) (a : ℕ) → a < 9 → (vs : List Plain) (k : Plain) → among k (wants vs) ≡ true
    → IsAimed (dataspace ds) a k
wanted_aimed ds a low vs k is =
    let rule = of_the_rule vs k (Contains-from_any same_is k (wants vs) is) in
    aimed_key ds a k rule.observation rule.captures low (observes rule.observation rule.pattern rule.is_pattern)
    rule.key

dataspace_lawful : (ds : List Definition) (a : ℕ) → a < 9 → IsLawful (dataspace ds) a
dataspace_lawful ds a low = record { ascend = wants_ascend; nothing = refl; aimed = wanted_aimed ds a low }

-- ---- the gatekeeper

both_true : (a b : Bool) → (a && b) ≡ true → b ≡ true
both_true true b e = e
both_true false b e = absurd cc

-- a value that asks has an observer
asks_observer : (v : Plain) → asks v ≡ true → Observes v
asks_observer (record_of (symbol l) (then_more s (then_more r no_more))) e =
    named (symbol l) s r (both_true (is_word l (codes "resolve")) (is_observer r) e)
asks_observer v e = absurd cc

asked_aimed : (ds : List Definition) (bs : List Binding) (vs : List Plain) (k : Plain)
    → among k (ascending_by order (filter asks vs)) ≡ true → IsAimed (gatekeeper ds bs) 0 k
asked_aimed ds bs vs k is = aimed (asks k) refl (among k vs) (sym (among_asked k vs) ∙ is)
  where
    at : (v : Plain) → asks v ≡ true → IsAimed (gatekeeper ds bs) 0 v
    at (record_of l (then_more s rest)) e aim aims =
        reached 0 aim.at.actor (omega arith)
        (sent_far ds (reply_to bs s) (record_of l (then_more s rest)) aim (asks_observer _ e) aims)
    at v e aim aims = absurd cc

    aimed : (a : Bool) → asks k ≡ a → (b : Bool) → (a && b) ≡ true → IsAimed (gatekeeper ds bs) 0 k
    aimed true e b is = at k e
    aimed false e b is = absurd cc

gatekeeper_lawful : (ds : List Definition) (bs : List Binding) → IsLawful (gatekeeper ds bs) 0
gatekeeper_lawful ds bs =
    record { ascend = λ vs. in_order (filter asks vs); nothing = refl; aimed = asked_aimed ds bs }

-- ---- a watcher

aim_there : (task : Task) (o : Option Plain) (aim : Aim)
    → option_map (λ v. record { at = record { actor = task.to; entity = 0 }; value = v }) o ≡ Some aim
    → aim.at.actor ≡ task.to
aim_there task None aim is = absurd cc
aim_there task (Some v) aim is =
    let one : record { at = record { actor = task.to; entity = 0 }; value = v } ≡ aim = cc in
    ap (λ (a : Aim). a.at.actor) (sym one)

watcher_lawful : (ds : List Definition) (task : Task) (a : ℕ) → 9 ≤ a → (1 ≤ task.to) × (task.to < 9)
    → IsLawful (watcher ds task) a
watcher_lawful ds task a high to = record {
  ascend = keys_ascend task.name;
  nothing = refl;
  aimed = λ vs k is aim aims.
      let there : aim.at.actor ≡ task.to = aim_there task (value_at task.name k) aim aims in
      record {
        far = λ low. absurd (omega (arith, low, high));
        near = λ h l. (omega (arith, to.0, there), omega (arith, to.1, there));
      };
}

-- ---- whoever it is, where these watchers were made

pub lawful : (ds : List Definition) (bs : List Binding) (ws : List Watched) (a : ℕ) → AllByRecursion IsWatch ws
    → a < next_watcher ws → IsLawful (behaviour_of ds bs ws a) a
lawful ds bs ws zero all l = gatekeeper_lawful ds bs
lawful ds bs ws (suc a) all l = by (nat_lt (suc a) 9) refl
  where
    by : (b : Bool) → nat_lt (suc a) 9 ≡ b → IsLawful (other ds (task_at (suc a) ws)) (suc a)
    by true is =
        let low : suc a < 9 = grind (arith, nat_tests, is) in
        subst (λ (o : Option Task). IsLawful (other ds o) (suc a)) (sym (low_has_no_task (suc a) ws low))
        (dataspace_lawful ds (suc a) low)
    by false is =
        let high : 9 ≤ suc a = grind (arith, nat_tests, is) in
        let one = made_one IsWatch (suc a) ws all high l in
        subst (λ (o : Option Task). IsLawful (other ds o) (suc a)) (sym (ap (option_map task_of) one.is))
        (watcher_lawful ds (task_of one.watched) (suc a) high one.passes.to)

-- ---- the keys of one list that aren't in another

-- of the keys that come each has an aim
pub came_aimed : (y : Behaviour) (a : ℕ) → IsLawful y a → (vs ls : List Plain)
    → AllByRecursion (IsAimed y a) (without (y.keys vs) ls)
came_aimed y a law vs ls =
    recursion_from_All (IsAimed y a) (without (y.keys vs) ls)
    (All-from_any (eq_by_cmp_equiv order_total) (IsAimed y a) (without (y.keys vs) ls)
    (λ q e. law.aimed vs q
    (both_true (not (among q ls)) (among q (y.keys vs)) (sym (among_without q (y.keys vs) ls) ∙ e))))
