-- Whoever has something to do behind a step, and had nothing to do before it, is called.
use Rattle.std.proofs.Common.{◌≡◌, ◌⊎◌, inl, inr, ℕ, ◌+◌, ◌%◌, ◌≤◌, ◌==◌, ◌||◌, ◌&&◌, Bool, true, false, cond}
use Rattle.std.proofs.Common.{List, [], ◌∷◌, ◌++◌, Option, None, Some, is_some, refl, ap, sym, ◌∙◌, subst, arith}
use Rattle.std.proofs.Common.{if◌then◌else◌}
use Rattle.std.specs.Prelude.{nat_le}
use Rattle.std.proofs.lemmas.Bool.Decides.{nat_tests}
use Rattle.std.specs.List.{list_any}
use Rattle.std.specs.Map.{lookup, keys_of}
use Rattle.std.specs.BTreeMap.{is_at}
use Rattle.std.specs.Ordering.{nat_cmp}
use Rattle.ps_schema.specs.declared.Definition.{Definition}
use Rattle.ac_table.specs.declared.batches.Batch.{Batch}
use Rattle.ac_table.specs.Tables.{Actor, find_actor, first_in, first_batch, is_live, lowest}
use Rattle.ac_world.specs.Worlds.{actor_of, entry_of}
use Rattle.hub_machine.specs.Limits.{worn_handle}
use Rattle.hub_machine.specs.State.{State, opening, ports_of, is_there}
use Rattle.hub_machine.specs.Machine.{step}
use Rattle.hub_machine.specs.Replays.{replay, run_from}
use Rattle.hub_machine.specs.declared.steps.Step.{Step}
use Rattle.hub_machine.specs.declared.steps.Step.TheVariants.{Bind, Watch, Arrive, Packet, Bad, Close, Turn, Work, Stop}
use Rattle.hub_laws.specs.Laws.{AreAllowed, Presence}
use Rattle.hub_laws.specs.Presence.{ArePresent}
use Rattle.hub_core.specs.Work.{class_of, is_in_connections, is_in_faults, has_work}
use Rattle.hub_core.specs.Work as work
use Rattle.srv_session.specs.News.{HasWork, is_used_up, is_waited_for, closes}
use Rattle.srv_session.specs.News as news
use Rattle.srv_session.specs.News.{ConnectionsAreSeen, WorkIsSeen}
use Rattle.srv_session.specs.Called.{called_by, IsCalled, CallsThoseWithNews, NewsAreCalled}
use Rattle.srv_session.proofs.Running.{run_from-behind}

-- ---- what is kept of a number is found among the keys

same_key : (k n : ℕ) → is_at (nat_cmp k) n ≡ true → n ≡ k
same_key k n h = grind arith

some_key : {X : Type 0} (test : ℕ → Bool) (k : ℕ) (es : List (ℕ × X)) → test k ≡ true → is_some (entry_of k es) ≡ true
    → list_any test (keys_of es) ≡ true
some_key test k [] is found = absurd cc
some_key {X = X} test k (e ∷ es) is found = by (is_at (nat_cmp k) e.0) refl (some_key test k es is) found
  where
    or_true : (b : Bool) → (b || true) ≡ true
    or_true true = refl
    or_true false = refl

    by : (b : Bool) → is_at (nat_cmp k) e.0 ≡ b
        → (is_some (entry_of k es) ≡ true → list_any test (keys_of es) ≡ true)
        → is_some (cond b (Some e.1) (entry_of k es)) ≡ true → (test e.0 || list_any test (keys_of es)) ≡ true
    by true same later h = ap (λ b. b || list_any test (keys_of es)) (ap test (same_key k e.0 same) ∙ is)
    by false same later h = ap (λ b. test e.0 || b) (later h) ∙ or_true (test e.0)

-- ---- a batch waits for a connection that is there

first_lives : (o : Option Actor) → is_some (first_in o) ≡ true → is_some o ≡ true
first_lives None is = is
first_lives (Some x) is = refl

has_entry : (k : ℕ) (s : State) → is_there k s ≡ true → is_some (entry_of k s.connections) ≡ true
has_entry k s there = by (is_live (actor_of k) s.world.table) there
  where
    by : (b : Bool) → is_some (if b then entry_of k s.connections else None) ≡ true
        → is_some (entry_of k s.connections) ≡ true
    by true is = is
    by false is = absurd cc

equal_self : (n : ℕ) → (n == n) ≡ true
equal_self n = grind (arith, nat_tests)

batch_called : (k : ℕ) (s : State) → 1 ≤ k → ArePresent s → is_some (first_batch (actor_of k) s.world.table) ≡ true
    → is_in_connections (class_of k) s ≡ true
batch_called k s since present waits =
    let live : is_live (actor_of k) s.world.table ≡ true =
    first_lives (find_actor (actor_of k) s.world.table.actors) waits in
    some_key (λ j. work.is_waited_for j s && class_of j == class_of k) k s.connections
    (ap (λ b. b && class_of k == class_of k) waits ∙ equal_self (class_of k))
    (has_entry k s (present.names k since live).1)

fault_called : (k : ℕ) (s : State) → is_some (entry_of k s.faults) ≡ true → is_in_faults (class_of k) s ≡ true
fault_called k s told = some_key (λ j. class_of j == class_of k) k s.faults (equal_self (class_of k)) told

-- ---- one of four is enough

last_of_four : (a b c : Bool) → (a || b || c || true) ≡ true
last_of_four true b c = refl
last_of_four false true c = refl
last_of_four false false true = refl
last_of_four false false false = refl

third_of_four : (a b d : Bool) → (a || b || true || d) ≡ true
third_of_four true b d = refl
third_of_four false true d = refl
third_of_four false false d = refl

second_of_four : (a c d : Bool) → (a || true || c || d) ≡ true
second_of_four true c d = refl
second_of_four false c d = refl

waited_called : (k : ℕ) (s : State) → 1 ≤ k → ArePresent s → is_waited_for k s ≡ true → has_work (class_of k) s ≡ true
waited_called k s since present is =
    by (is_some (first_batch (actor_of k) s.world.table)) (is_some (entry_of k s.faults)) (is_used_up s) refl refl refl is
  where
    p : ℕ
    p = class_of k

    by : (b f u : Bool) → is_some (first_batch (actor_of k) s.world.table) ≡ b → is_some (entry_of k s.faults) ≡ f
        → is_used_up s ≡ u → (b || f || u) ≡ true → has_work p s ≡ true
    by true f u batch fault used is =
        ap (λ x. is_used_up s || (p == 0 && work.is_work_left s) || is_in_faults p s || x)
        (batch_called k s since present batch)
        ∙ last_of_four (is_used_up s) (p == 0 && work.is_work_left s) (is_in_faults p s)
    by false true u batch fault used is =
        ap (λ x. is_used_up s || (p == 0 && work.is_work_left s) || x || is_in_connections p s) (fault_called k s fault)
        ∙ third_of_four (is_used_up s) (p == 0 && work.is_work_left s) (is_in_connections p s)
    by false false true batch fault used is =
        ap (λ x. x || (p == 0 && work.is_work_left s) || is_in_faults p s || is_in_connections p s) used
    by false false false batch fault used is = absurd cc

closes_called : (k : ℕ) (e : Step) → closes k e ≡ true → called_by e ≡ Some (class_of k)
closes_called k (Bind b) is = absurd cc
closes_called k (Watch x) is = absurd cc
closes_called k (Arrive space) is = absurd cc
closes_called k (Packet j t) is = absurd cc
closes_called k (Bad j f) is = absurd cc
closes_called k (Close j) is =
    let same : j ≡ k = grind (arith, nat_tests, is) in
    ap (λ n. Some (class_of n)) same
closes_called k (Turn a) is = absurd cc
closes_called k Work is = absurd cc
closes_called k Stop is = absurd cc

work_called : (s : State) → news.is_work_left s ≡ true → has_work 0 s ≡ true
work_called s is = by (news.is_some_system (lowest s.world.table)) s.stopped (is_used_up s) refl refl refl is
  where
    rest : Bool
    rest = is_in_faults 0 s || is_in_connections 0 s

    by : (a b u : Bool) → news.is_some_system (lowest s.world.table) ≡ a → s.stopped ≡ b → is_used_up s ≡ u
        → (a || b || u) ≡ true → has_work 0 s ≡ true
    by a true u system stop used is =
        ap (λ x. is_used_up s || (x || work.is_system_due (lowest s.world.table)) || is_in_faults 0 s
        || is_in_connections 0 s) stop
        ∙ second_of_four (is_used_up s) (is_in_faults 0 s) (is_in_connections 0 s)
    by true false u system stop used is =
        ap (λ x. is_used_up s || (s.stopped || x) || is_in_faults 0 s || is_in_connections 0 s)
        (due (lowest s.world.table) ∙ system)
        ∙ ap (λ x. is_used_up s || (x || true) || is_in_faults 0 s || is_in_connections 0 s) stop
        ∙ second_of_four (is_used_up s) (is_in_faults 0 s) (is_in_connections 0 s)
      where
        due : (o : Option ℕ) → work.is_system_due o ≡ news.is_some_system o
        due None = refl
        due (Some a) = refl
    by false false true system stop used is =
        ap (λ x. x || (s.stopped || work.is_system_due (lowest s.world.table)) || is_in_faults 0 s
        || is_in_connections 0 s) used
    by false false false system stop used is = absurd cc

pub news_are_called : Presence → ConnectionsAreSeen → WorkIsSeen → NewsAreCalled
news_are_called present seen working ds es e allowed =
    let there : ArePresent (step (replay ds es) e).state =
    subst ArePresent (run_from-behind (opening ds) es (e ∷ [])) (present ds (es ++ e ∷ []) allowed) in
    record {
      connections = λ k since idle more. by k since there (seen (replay ds es) e k since idle more);
      workers = λ more. work_called (step (replay ds es) e).state (working (step (replay ds es) e).state more);
    }
  where
    by : (k : ℕ) → 1 ≤ k → ArePresent (step (replay ds es) e).state
        → (closes k e ≡ true) ⊎ (is_waited_for k (step (replay ds es) e).state ≡ true)
        → IsCalled (class_of k) e (step (replay ds es) e).state
    by k since there (inl is) = inl (closes_called k e is)
    by k since there (inr is) = inr (waited_called k (step (replay ds es) e).state since there is)
