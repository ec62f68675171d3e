-- What a message tells others, by the kind of the actor to which it comes.
use Rattle.std.proofs.Common.{◌≡◌, ℕ, zero, suc, ◌<◌, ◌≤◌, ◌&&◌, not, List, [], ◌++◌, Bool, true, false, cond, Option}
use Rattle.std.proofs.Common.{refl, ap, sym, ◌∙◌, subst, arith, append-nil, option_map}
use Rattle.std.specs.Prelude.{nat_lt}
use Rattle.std.specs.Map.{values_of}
use Rattle.std.proofs.lemmas.Bool.Decides.{nat_tests}
use Rattle.pv_value.specs.Plain.{Plain}
use Rattle.ps_schema.specs.declared.Definition.{Definition}
use Rattle.ds_space.specs.Fans.{fan_of, fan_weight}
use Rattle.ds_space.specs.Limits.{most_wanted_weight}
use Rattle.ac_table.specs.declared.batches.Event.{Event}
use Rattle.ac_table.specs.Tables.{is_live}
use Rattle.ac_world.specs.Behaviours.{Behaviour, other, dataspace, gatekeeper, watcher}
use Rattle.ac_world.specs.Outboxes.{told_to}
use Rattle.ac_world.specs.Turns.{Turning, spreading, by_message, say_all, passes_on}
use Rattle.ac_world.specs.Watchers.{Task, task_of, task_at}
use Rattle.ac_world.specs.Worlds.{WorldState, is_space}
use Rattle.hub_laws.specs.Saying.{messages_over}
use Rattle.hub_laws.proofs.Kept.{IsWatch, IsSound}
use Rattle.hub_laws.proofs.Said.{says_messages}
use Rattle.hub_laws.proofs.Watching.{IsMade, made_one, low_has_no_task}
use Rattle.hub_batches.specs.Taking.{behaving}
use Rattle.hub_batches.specs.Telling.{said_to}

-- where an actor behaves by y, a message tells b so
abbrev pub Says : Behaviour → (List Plain → Plain → List Event) → ℕ → Type 0
Says y said b =
    (from : ℕ) (m : Plain) (t : Turning)
    → told_to b (passes_on y from m t).plan.out ≡ told_to b t.plan.out ++ said (values_of t.resident.got) m

at_most : (n m : ℕ) → nat_lt n m ≡ false → m ≤ n
at_most n m is = grind (arith, nat_tests, is)

a_space : (d : ℕ) → 1 ≤ d → d < 9 → is_space d ≡ true
a_space d some low = grind (arith, nat_tests, some, low)

no_space : (d : ℕ) → 9 ≤ d → is_space d ≡ false
no_space d high = grind (arith, nat_tests, high)

-- a dataspace passes it on
space_says : (ds : List Definition) (a b : ℕ) → is_space a ≡ true → Says (dataspace ds) (said_to ds a b) b
space_says ds a b space from m t =
    by (nat_lt most_wanted_weight (fan_weight vs m)) refl
    ∙ ap (λ c. told_to b t.plan.out
    ++ cond (c && not (nat_lt most_wanted_weight (fan_weight vs m))) (messages_over ds b vs m) []) (sym space)
  where
    vs : List Plain
    vs = values_of t.resident.got

    by : (c : Bool) → nat_lt most_wanted_weight (fan_weight vs m) ≡ c
        → told_to b (passes_on (dataspace ds) from m t).plan.out
        ≡ told_to b t.plan.out
        ++ cond (true && not (nat_lt most_wanted_weight (fan_weight vs m))) (messages_over ds b vs m) []
    by true heavy =
        ap (λ c. told_to b (cond c (spreading (by_message t.plan.table from (fan_weight vs m)) t)
        (record t { plan = say_all ds (fan_of vs m) t.plan })).plan.out) heavy
        ∙ sym (append-nil (told_to b t.plan.out))
        ∙ ap (λ c. told_to b t.plan.out ++ cond (true && not c) (messages_over ds b vs m) []) (sym heavy)
    by false light =
        (says_messages.0 ds a from 0 m t (at_most most_wanted_weight (fan_weight vs m) light)).told b
        ∙ ap (λ c. told_to b t.plan.out ++ cond (true && not c) (messages_over ds b vs m) []) (sym light)

-- one that isn't a dataspace drops it
drop_says : (ds : List Definition) (y : Behaviour) (a b : ℕ) → is_space a ≡ false
    → ((from : ℕ) (m : Plain) (t : Turning) → passes_on y from m t ≡ t) → Says y (said_to ds a b) b
drop_says ds y a b none drops from m t =
    ap (λ (u : Turning). told_to b u.plan.out) (drops from m t)
    ∙ sym (append-nil (told_to b t.plan.out))
    ∙ ap (λ c. told_to b t.plan.out
    ++ cond (c && not (nat_lt most_wanted_weight (fan_weight vs m))) (messages_over ds b vs m) []) (sym none)
  where
    vs : List Plain
    vs = values_of t.resident.got

-- each live system actor
pub says_by_kind : (a b : ℕ) (w : WorldState) → IsSound [] w → a < 17 → is_live a w.table ≡ true
    → Says (behaving a w) (said_to w.schema a b) b
says_by_kind zero b w k low live =
    drop_says w.schema (gatekeeper w.schema w.bindings) 0 b refl
    (λ from m t. says_messages.1 w.schema w.bindings 0 from 0 m t)
says_by_kind (suc a) b w k low live = by (nat_lt (suc a) 9) refl
  where
    KindSays : Option Task → Type 0
    KindSays o = Says (other w.schema o) (said_to w.schema (suc a) b) b

    by : (c : Bool) → nat_lt (suc a) 9 ≡ c → KindSays (task_at (suc a) w.watches)
    by true is =
        let below : suc a < 9 = grind (arith, nat_tests, is) in
        let space : is_space (suc a) ≡ true = a_space (suc a) (omega arith) below in
        subst KindSays (sym (low_has_no_task (suc a) w.watches below)) (space_says w.schema (suc a) b space)
    by false is =
        let high : 9 ≤ suc a = grind (arith, nat_tests, is) in
        let none : is_space (suc a) ≡ false = no_space (suc a) high in
        let made : IsMade IsWatch (suc a) w.watches =
        made_one IsWatch (suc a) w.watches k.watches high (k.watchers (suc a) low live) in
        subst KindSays (sym (ap (option_map task_of) made.is))
        (drop_says w.schema (watcher w.schema (task_of made.watched)) (suc a) b none
        (λ from m t. says_messages.2 w.schema (task_of made.watched) (suc a) from 0 m t))
