-- What endings keep of a hub, and that at a step's end nothing is missing any more.
use Rattle.std.proofs.Common.{◌≡◌, ◌≢◌, ℕ, ◌-◌, ◌<◌, ◌≤◌, List, [], ◌∷◌, Bool, true, false, cond, nat_lt, ◌||◌}
use Rattle.std.proofs.Common.{Option, Some, None}
use Rattle.std.proofs.Common.{refl, sym, ap, ◌∙◌, subst, arith, eqb, inl, inr, IsTrue}
use Rattle.std.specs.Prelude.{is_some}
use Rattle.std.specs.List.{AllByRecursion}
use Rattle.std.specs.Map.{keys_of}
use Rattle.std.proofs.lemmas.Bool.Decides.{nat_tests}
use Rattle.ac_table.specs.declared.batches.Row.{Row}
use Rattle.ac_table.specs.Tables.{TableState, Actor, IsTable, find_actor, find_row, is_live}
use Rattle.ac_world.specs.declared.spreads.Spread.{Spread as SpreadOf}
use Rattle.ac_world.specs.Worlds.{WorldState, entry_of, with_entry, without_entry, is_system, actor_of, gone}
use Rattle.ac_world.specs.Worlds.{ended_of}
use Rattle.ac_world.specs.Lemmas.Entries.{KeysAscend, put_found, put_other, out_other, out_gone, ascend_without}
use Rattle.ac_world.specs.Lemmas.Entries.{ascend_with}
use Rattle.rl_ports.specs.Ports.{PortsState}
use Rattle.hub_machine.specs.declared.faults.Fault.{Fault}
use Rattle.hub_machine.specs.declared.faults.Fault.TheVariants.{Spread}
use Rattle.hub_machine.specs.State.{State, is_there}
use Rattle.hub_machine.specs.Endings.{closed, failed, failed_where, dismissed, spread_out, all_spread_out, overrun_of}
use Rattle.hub_machine.specs.Endings.{all_overrun, finished}
use Rattle.hub_laws.proofs.Kept.{is_in, IsExcused, IsNear, IsServed, IsHub, actors_in}
use Rattle.hub_laws.proofs.Leaving.{Endings, OneOrNot, one_or_not, gone_not_live, gone_others_live, gone_live_before}
use Rattle.hub_laws.proofs.Leaving.{gone_sound}

-- ---- a connection ends

other_actor : (j k : ℕ) → actor_of j ≢ actor_of k → j ≢ k
other_actor j k ne same = ne (ap actor_of same)

other_number : (j k : ℕ) → j ≢ k → actor_of j ≢ actor_of k
other_number j k ne same = ne (omega (arith, same))

abbrev pub without : ℕ → WorldState → State → State
without k w s = record s { world = w; connections = without_entry k s.connections }

-- no connection has the number 0
first_left : (k : ℕ) (es : List (ℕ × PortsState)) → KeysAscend es → entry_of 0 es ≡ None
    → entry_of 0 (without_entry k es) ≡ None
first_left k es ascend none = elim (one_or_not 0 k) [
  | inl same ↦ ap (λ i. entry_of i (without_entry k es)) same ∙ out_gone k es ascend
  | inr ne ↦ out_other k 0 es ne ∙ none
]

left_live : (P : Endings) (ends : List ℕ) (k : ℕ) (s : State) → is_live (actor_of k) s.world.table ≡ true
    → IsHub ends s → IsHub ends (without k (gone (actor_of k) s.world) s)
left_live P ends k s live h = record {
  sound = gone_sound P ends (actor_of k) s.world (omega arith) live h.sound;
  named = λ j since is.
      let b = gone_live_before P (actor_of k) (actor_of j) s.world h.sound.table is in
      let n = h.named j since b.0 in
      (n.0, out_other k j s.connections (other_actor j k b.1) ∙ n.1);
  nameless = λ j is. elim (one_or_not j k) [
    | inl same ↦ ap (λ i. entry_of i (without_entry k s.connections)) same ∙ out_gone k s.connections h.names_ascend
    | inr ne ↦ out_other k j s.connections ne
        ∙ h.nameless j
        (sym (gone_others_live P (actor_of k) (actor_of j) s.world h.sound.table (other_number j k ne)) ∙ is)
  ];
  first = first_left k s.connections h.names_ascend h.first;
  names_ascend = ascend_without k s.connections h.names_ascend;
}

left_dead : (ends : List ℕ) (k : ℕ) (s : State) → is_live (actor_of k) s.world.table ≡ false
    → IsHub ends s → IsHub ends (without k s.world s)
left_dead ends k s dead h = record {
  sound = h.sound;
  named = λ j since is.
      let n = h.named j since is in
      let ne : j ≢ k = λ same. absurd (let f : is_live (actor_of j) s.world.table ≡ false =
      ap (λ i. is_live (actor_of i) s.world.table) same ∙ dead in cc) in
      (n.0, out_other k j s.connections ne ∙ n.1);
  nameless = λ j is. elim (one_or_not j k) [
    | inl same ↦ ap (λ i. entry_of i (without_entry k s.connections)) same ∙ out_gone k s.connections h.names_ascend
    | inr ne ↦ out_other k j s.connections ne ∙ h.nameless j is
  ];
  first = first_left k s.connections h.names_ascend h.first;
  names_ascend = ascend_without k s.connections h.names_ascend;
}

pub closed_hub : (P : Endings) (ends : List ℕ) (k : ℕ) (s : State) → IsHub ends s → IsHub ends (closed k s)
closed_hub P ends k s h = by (is_live (actor_of k) s.world.table) refl
  where
    by : (b : Bool) → is_live (actor_of k) s.world.table ≡ b → IsHub ends (closed k s)
    by true live = subst (λ c. IsHub ends (without k (cond c (gone (actor_of k) s.world) s.world) s)) (sym live)
        (left_live P ends k s live h)
    by false dead = subst (λ c. IsHub ends (without k (cond c (gone (actor_of k) s.world) s.world) s)) (sym dead)
        (left_dead ends k s dead h)

-- a live connection names other things
pub with_names : (ends : List ℕ) (k : ℕ) (p : PortsState) (s : State) → 1 ≤ k → is_live (actor_of k) s.world.table ≡ true
    → IsHub ends s → IsHub ends (record s { connections = with_entry k p s.connections })
with_names ends k p s come live h = record {
  sound = h.sound;
  named = λ j since is. elim (one_or_not j k) [
    | inl same ↦ (p, ap (λ i. entry_of i (with_entry k p s.connections)) same ∙ put_found k p s.connections)
    | inr ne ↦ (let n = h.named j since is in (n.0, put_other k j p s.connections ne ∙ n.1))
  ];
  nameless = λ j dead.
      let ne : j ≢ k = λ same. absurd (let f : is_live (actor_of j) s.world.table ≡ true =
      ap (λ i. is_live (actor_of i) s.world.table) same ∙ live in cc) in
      put_other k j p s.connections ne ∙ h.nameless j dead;
  first = put_other k 0 p s.connections (λ same. absurd (omega (arith, come, same))) ∙ h.first;
  names_ascend = ascend_with k p s.connections h.names_ascend;
}

-- what is to be told, and whether the server is to stop, change nothing
pub with_faults : (ends : List ℕ) (s : State) (fs : List (ℕ × Fault)) → IsHub ends s → IsHub ends
    (record s { faults = fs })
with_faults ends s fs h =
    record {
      sound = h.sound;
      named = h.named;
      nameless = h.nameless;
      first = h.first;
      names_ascend = h.names_ascend;
    }

pub with_stop : (ends : List ℕ) (s : State) → IsHub ends s → IsHub ends (record s { stopped = true })
with_stop ends s h =
    record {
      sound = h.sound;
      named = h.named;
      nameless = h.nameless;
      first = h.first;
      names_ascend = h.names_ascend;
    }

pub failed_hub : (P : Endings) (ends : List ℕ) (k : ℕ) (f : Fault) (s : State) → IsHub ends s → IsHub ends
    (failed k f s)
failed_hub P ends k f s h = with_faults ends (closed k s) _ (closed_hub P ends k s h)

-- ---- those that spread end

-- nobody becomes live by an ending
ended_live : (P : Endings) (a b : ℕ) (w : WorldState) → IsTable w.table → is_live b w.table ≡ false
    → is_live b (ended_of a w).table ≡ false
ended_live P a b w k dead = by (is_live a w.table) refl
  where
    by : (c : Bool) → is_live a w.table ≡ c → is_live b (ended_of a w).table ≡ false
    by false is = ap (λ c. is_live b (cond c (gone a w) w).table) is ∙ dead
    by true is = ap (λ c. is_live b (cond c (gone a w) w).table) is ∙ elim (one_or_not b a) [
      | inl same ↦ ap (λ i. is_live i (gone a w).table) same ∙ gone_not_live P a w k
      | inr ne ↦ gone_others_live P a b w k ne ∙ dead
    ]

ended_dead : (P : Endings) (a : ℕ) (w : WorldState) → IsTable w.table → is_live a (ended_of a w).table ≡ false
ended_dead P a w k = by (is_live a w.table) refl
  where
    by : (c : Bool) → is_live a w.table ≡ c → is_live a (ended_of a w).table ≡ false
    by false is = ap (λ c. is_live a (cond c (gone a w) w).table) is ∙ is
    by true is = ap (λ c. is_live a (cond c (gone a w) w).table) is ∙ gone_not_live P a w k

-- a connection that isn't there isn't live
not_there : (ends : List ℕ) (k : ℕ) (s : State) → 1 ≤ k → IsHub ends s → is_there k s ≡ false
    → is_live (actor_of k) s.world.table ≡ false
not_there ends k s since h away = by (is_live (actor_of k) s.world.table) refl
  where
    by : (b : Bool) → is_live (actor_of k) s.world.table ≡ b → is_live (actor_of k) s.world.table ≡ false
    by false is = is
    by true is =
        let n = h.named k since is in
        let there : is_there k s ≡ true =
        ap (λ b. is_some (cond b (entry_of k s.connections) None)) is ∙ ap is_some n.1 in
        absurd cc

-- a watcher ends
dismissed_hub : (P : Endings) (ends : List ℕ) (a : ℕ) (s : State) → 9 ≤ a → a < 17 → IsHub ends s
    → IsHub ends (dismissed a s)
dismissed_hub P ends a s far low h = by (is_live a s.world.table) refl
  where
    target : Bool → State
    target b = record s { world = cond b (gone a s.world) s.world }

    other : (j : ℕ) → 1 ≤ j → actor_of j ≢ a
    other j since same = absurd (omega (arith, since, low, same))

    nobody : (j : ℕ) → is_live (actor_of j) (gone a s.world).table ≡ false → OneOrNot (actor_of j) a
        → entry_of j s.connections ≡ None
    nobody j dead (inl same) = ap (λ i. entry_of i s.connections) (zero_is j same) ∙ h.first
      where
        zero_is : (j : ℕ) → actor_of j ≡ a → j ≡ 0
        zero_is j same = omega (arith, same, low)
    nobody j dead (inr ne) = h.nameless j (sym (gone_others_live P a (actor_of j) s.world h.sound.table ne) ∙ dead)

    by : (b : Bool) → is_live a s.world.table ≡ b → IsHub ends (dismissed a s)
    by false dead = subst (λ c. IsHub ends (target c)) (sym dead) h
    by true live = subst (λ c. IsHub ends (target c)) (sym live) (record {
      sound = gone_sound P ends a s.world far live h.sound;
      named = λ j since is. h.named j since
          (sym (gone_others_live P a (actor_of j) s.world h.sound.table (other j since)) ∙ is);
      nameless = λ j dead. nobody j dead (one_or_not (actor_of j) a);
      first = h.first;
      names_ascend = h.names_ascend;
    })

-- after it the actor isn't live, and who wasn't before isn't either
pub record IsOut (ends : List ℕ) (a : ℕ) (s t : State) : Type 0 where
  pub hub : IsHub ends t
  pub out : is_live a t.world.table ≡ false
  pub others : (b : ℕ) → is_live b s.world.table ≡ false → is_live b t.world.table ≡ false

number_back : (a : ℕ) → 17 ≤ a → actor_of (a - 16) ≡ a
number_back a far = omega (arith, far)

spread_hub : (P : Endings) (ends : List ℕ) (x : SpreadOf) (s : State) → 9 ≤ x.actor → IsHub ends s
    → IsOut ends x.actor s (spread_out x s)
spread_hub P ends x s far h =
    subst (λ c. IsOut ends x.actor s (cond c s (ending (nat_lt x.actor 17) (is_there (x.actor - 16) s)))) (sym here)
    (kind (nat_lt x.actor 17) refl)
  where
    here : nat_lt x.actor 9 ≡ false
    here = grind (arith, nat_tests, far)

    ending : Bool → Bool → State
    ending c b = cond c (dismissed x.actor s) (cond b (failed (x.actor - 16) (Spread x.weight) s) s)

    by : (b : Bool) → 17 ≤ x.actor → is_there (x.actor - 16) s ≡ b → IsOut ends x.actor s (ending false b)
    by true high is = record {
      hub = failed_hub P ends (x.actor - 16) _ s h;
      out = subst (λ a. is_live a (ended_of (actor_of (x.actor - 16)) s.world).table ≡ false) (number_back x.actor high)
          (ended_dead P (actor_of (x.actor - 16)) s.world h.sound.table);
      others = λ b dead. ended_live P (actor_of (x.actor - 16)) b s.world h.sound.table dead;
    }
    by false high is = record {
      hub = h;
      out = subst (λ a. is_live a s.world.table ≡ false) (number_back x.actor high)
          (not_there ends (x.actor - 16) s (omega (arith, high)) h is);
      others = λ b dead. dead;
    }

    kind : (c : Bool) → nat_lt x.actor 17 ≡ c → IsOut ends x.actor s (ending c (is_there (x.actor - 16) s))
    kind true is = record {
      hub = dismissed_hub P ends x.actor s far (grind (arith, nat_tests, is)) h;
      out = ended_dead P x.actor s.world h.sound.table;
      others = λ b dead. ended_live P x.actor b s.world h.sound.table dead;
    }
    kind false is = by (is_there (x.actor - 16) s) (grind (arith, nat_tests, is)) refl

abbrev AreOut : List ℕ → State → Type 0
AreOut ends s = AllByRecursion (λ a. is_live a s.world.table ≡ false) ends

still_out : (s t : State) (ends : List ℕ) →
    ((b : ℕ) → is_live b s.world.table ≡ false → is_live b t.world.table ≡ false)
    → AreOut ends s → AreOut ends t
still_out s t [] others all = tt
still_out s t (e ∷ es) others all = (others e all.0, still_out s t es others all.1)

pub record AllOut (ends : List ℕ) (xs : List SpreadOf) (s t : State) : Type 0 where
  pub hub : IsHub ends t
  pub out : AreOut (actors_in xs) t
  pub others : (b : ℕ) → is_live b s.world.table ≡ false → is_live b t.world.table ≡ false

all_spread_hub : (P : Endings) (ends : List ℕ) (xs : List SpreadOf) (s : State)
    → AllByRecursion (λ c. 9 ≤ c) (actors_in xs) → IsHub ends s → AllOut ends xs s (all_spread_out xs s)
all_spread_hub P ends [] s far h = record { hub = h; out = tt; others = λ b dead. dead }
all_spread_hub P ends (x ∷ xs) s far h =
    let one = spread_hub P ends x s far.0 h in
    let rest = all_spread_hub P ends xs (spread_out x s) far.1 one.hub in
    record {
      hub = rest.hub;
      out = (rest.others x.actor one.out, rest.out);
      others = λ b dead. rest.others b (one.others b dead);
    }

-- ---- nothing is excused any more

is_out : (ends : List ℕ) (s : State) (a : ℕ) → AreOut ends s → is_in ends a ≡ true → is_live a s.world.table ≡ false
is_out [] s a all is = absurd cc
is_out (e ∷ es) s a all is = by (eqb e a) refl is (is_out es s a all.1)
  where
    by : (b : Bool) → eqb e a ≡ b → (b || is_in es a) ≡ true
        → (is_in es a ≡ true → is_live a s.world.table ≡ false) → is_live a s.world.table ≡ false
    by true same is later = subst (λ c. is_live c s.world.table ≡ false) (grind (arith, nat_tests, same)) all.0
    by false other is later = later is

owner_live : (t : TableState) (rows : List Row) (h : ℕ) (r : Row) → AllByRecursion
    (λ q. IsTrue (is_live q.owner t)) rows
    → find_row h rows ≡ Some r → is_live r.owner t ≡ true
owner_live t [] h r all is = absurd cc
owner_live t (q ∷ qs) h r all is = by (eqb q.handle h) is (owner_live t qs h r all.1)
  where
    by : (b : Bool) → cond b (Some q) (find_row h qs) ≡ Some r → (find_row h qs ≡ Some r → is_live r.owner t ≡ true)
        → is_live r.owner t ≡ true
    by true is later = let same : q ≡ r = cc in subst (λ (x : Row). is_live x.owner t ≡ true) same all.0
    by false is later = later is

excuse_none : (ends : List ℕ) (s : State) (o : Option Row) → AreOut ends s
    → ((r : Row) → o ≡ Some r → is_live r.owner s.world.table ≡ true) → IsExcused ends o → IsExcused [] o
excuse_none ends s None out live e = tt
excuse_none ends s (Some r) out live e =
    let dead : is_live r.owner s.world.table ≡ false = is_out ends s r.owner out e in
    let alive : is_live r.owner s.world.table ≡ true = live r refl in
    absurd cc

near_none : {X : Type 0} (ends : List ℕ) (s : State) (should kept : List (ℕ × X)) → IsTable s.world.table
    → AreOut ends s → IsNear ends s.world.table.rows should kept → IsNear [] s.world.table.rows should kept
near_none ends s should kept k out n = record {
  should_ascends = n.should_ascends;
  kept_ascends = n.kept_ascends;
  near = λ h. elim (n.near h) [
    | inl same ↦ inl same
    | inr lost ↦ inr (
      lost.0,
      excuse_none ends s (find_row h s.world.table.rows) out
          (λ r is. owner_live s.world.table s.world.table.rows h r k.owners_live is) lost.1,
    )
  ];
}

live_not_in : (ends : List ℕ) (s : State) (a : ℕ) (x : Actor) → AreOut ends s
    → find_actor a s.world.table.actors ≡ Some x → is_in ends a ≡ false
live_not_in ends s a x out found = by (is_in ends a) refl
  where
    by : (b : Bool) → is_in ends a ≡ b → is_in ends a ≡ false
    by false is = is
    by true is =
        let dead : is_live a s.world.table ≡ false = is_out ends s a out is in
        let alive : is_live a s.world.table ≡ true = ap is_some found in
        absurd cc

served_none : (ends : List ℕ) (s : State) (a : ℕ) (x : Actor) → IsTable s.world.table → AreOut ends s
    → find_actor a s.world.table.actors ≡ Some x → (b : Bool) → IsServed ends a x.inbox s.world b
    → IsServed [] a x.inbox s.world b
served_none ends s a x k out found true v = record {
  near = λ here. near_none ends s _ _ k out (v.near (live_not_in ends s a x out found));
  log = v.log;
  fits = v.fits;
}
served_none ends s a x k out found false v = record {
  near = λ here. near_none ends s _ _ k out (v.near (live_not_in ends s a x out found));
  log = v.log;
  fits = v.fits;
}

settled : (ends : List ℕ) (s : State) → AreOut ends s → IsHub ends s → IsHub [] s
settled ends s out h = record {
  sound = record {
    table = h.sound.table;
    always = h.sound.always;
    watchers = h.sound.watchers;
    watches = h.sound.watches;
    numbers = h.sound.numbers;
    rows = h.sound.rows;
    served = λ a x found. served_none ends s a x h.sound.table out found (is_system a) (h.sound.served a x found);
    met = h.sound.met;
    fresh = h.sound.fresh;
    residents_ascend = h.sound.residents_ascend;
    unkept = h.sound.unkept;
    held_ascends = h.sound.held_ascends;
    unheld = h.sound.unheld;
    system_unheld = h.sound.system_unheld;
  };
  named = h.named;
  nameless = h.nameless;
  first = h.first;
  names_ascend = h.names_ascend;
}

-- ---- overruns

where_hub : (P : Endings) (ends : List ℕ) (k : ℕ) (o : Option Fault) (s : State) → IsHub ends s
    → IsHub ends (failed_where k o s)
where_hub P ends k None s h = h
where_hub P ends k (Some f) s h = failed_hub P ends k f s h

all_overrun_hub : (P : Endings) (ends ks : List ℕ) (s : State) → IsHub ends s → IsHub ends (all_overrun ks s)
all_overrun_hub P ends [] s h = h
all_overrun_hub P ends (k ∷ ks) s h =
    all_overrun_hub P ends ks (failed_where k (overrun_of k s) s) (where_hub P ends k (overrun_of k s) s h)

-- after a step's end nothing is missing
pub finished_hub : (P : Endings) (xs : List SpreadOf) (s : State) → AllByRecursion (λ c. 9 ≤ c) (actors_in xs)
    → IsHub (actors_in xs) s → IsHub [] (finished xs s)
finished_hub P xs s far h =
    let out = all_spread_hub P (actors_in xs) xs s far h in
    all_overrun_hub P [] (keys_of (all_spread_out xs s).connections) (all_spread_out xs s)
    (settled (actors_in xs) (all_spread_out xs s) out.out out.hub)
