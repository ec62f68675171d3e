-- A packet that is taken keeps the hub.
use Rattle.std.proofs.Common.{◌≡◌, ◌≢◌, ℕ, ◌≤◌, List, [], ◌∷◌, true, false, Option, sym, ap}
use Rattle.std.proofs.Common.{◌∙◌, arith, inl, inr}
use Rattle.ac_table.specs.declared.batches.Event.TheVariants as told
use Rattle.ac_table.specs.Tables.{TableState, is_live}
use Rattle.ac_world.specs.declared.acts.Act.{Act}
use Rattle.ac_world.specs.declared.acts.Act.TheVariants as act
use Rattle.ac_world.specs.Outboxes.{Plan, plan_over, acted, all_acted}
use Rattle.ac_world.specs.Worlds.{WorldState, Resident, resident_of, entry_of, with_entry, without_entry, actor_of}
use Rattle.ac_world.specs.Behaviours.{Behaviour, behaviour_of}
use Rattle.ac_world.specs.declared.watched.Watched.{Watched}
use Rattle.ac_world.specs.Watchers.{watcher_of}
use Rattle.ac_world.specs.Lemmas.Entries.{put_found, put_other, out_other, ascend_without, ascend_with}
use Rattle.hub_machine.specs.State.{State}
use Rattle.hub_machine.specs.Admission.{Admitting}
use Rattle.hub_machine.specs.Endings.{nameless}
use Rattle.hub_machine.specs.Machine.{accepted}
use Rattle.hub_laws.specs.Wanting.{IsMet}
use Rattle.hub_laws.proofs.Asked.{MetKept}
use Rattle.hub_laws.proofs.Committing.{IsPlanned, done_in, commit_sound, live_done}
use Rattle.hub_laws.proofs.Good.{begin_good, put_good, dropped_good, said_good}
use Rattle.hub_laws.proofs.Kept.{Reaches, Moves, AreGood, IsSound, IsHub}
use Rattle.hub_laws.proofs.Leaving.{one_or_not}
use Rattle.hub_laws.proofs.Moving.{begin_moves, put_moves, dropped_moves, said_moves}
use Rattle.hub_laws.proofs.Posting.{posted_to, posted_table}
use Rattle.hub_laws.proofs.Serving.{served_after}

-- ---- the plan of a connection's acts

pub record IsPlanOf (a : ℕ) (t : TableState) (p : Plan) : Type 1 where
  pub moves : Moves a t p
  pub good : AreGood a p

-- a connection may make its rows anywhere
reaches_all : (a b : ℕ) → 17 ≤ a → Reaches a b
reaches_all a b far = record {
  far = λ low. absurd (omega (arith, low, far));
  near = λ high low. absurd (omega (arith, low, far));
}

acted_plan : (a : ℕ) (t : TableState) (p : Plan) (x : Act) → 17 ≤ a → is_live a t ≡ true → IsPlanOf a t p
    → IsPlanOf a t (acted a x p)
acted_plan a t p (act.Assert target entity v) far live k = record {
  moves = put_moves a t p k.moves live 0 target entity v;
  good = put_good a t p k.moves k.good 0 target entity v (reaches_all a target far);
}
acted_plan a t p (act.Retract h) far live k =
    record { moves = dropped_moves a t p k.moves h; good = dropped_good a t p k.moves k.good h }
acted_plan a t p (act.Message target entity v) far live k = record {
  moves = said_moves a t p k.moves target (told.Message entity v) tt;
  good = said_good a p k.good target (told.Message entity v) tt;
}
acted_plan a t p (act.Sync target entity peer) far live k = record {
  moves = said_moves a t p k.moves target (told.Sync entity peer) tt;
  good = said_good a p k.good target (told.Sync entity peer) tt;
}

pub all_acted_plan : (a : ℕ) (t : TableState) (p : Plan) (xs : List Act) → 17 ≤ a → is_live a t ≡ true
    → IsPlanOf a t p → IsPlanOf a t (all_acted a xs p)
all_acted_plan a t p [] far live k = k
all_acted_plan a t p (x ∷ xs) far live k =
    all_acted_plan a t (acted a x p) xs far live (acted_plan a t p x far live k)

-- ---- the world and the hub after it

-- the wants of others than the plan's actor stay met
pub met_others : (met_kept : MetKept) (y : Behaviour) (o : Option Watched) (a d : ℕ) (resident : Resident)
    (t : TableState) (p : Plan) → d ≢ a → Moves a t p
    → IsMet y o d resident t.rows → IsMet y o d resident p.table.rows
met_others met_kept y o a d resident t p ne m k =
    met_kept y o d resident t.rows p.table.rows k (λ h r own found. m.stay h r found (λ same. ne (sym own ∙ same)))
    (λ h r own found. elim (m.old h r found) [
      | inl before ↦ before
      | inr new ↦ absurd (ne (sym own ∙ new.1))
    ])

-- where a connection's actor is live, a connection has come
pub come_some : (ends : List ℕ) (a : ℕ) (w : WorldState) → 17 ≤ a → is_live a w.table ≡ true → IsSound ends w
    → w.opened ≢ 0
come_some ends a w far live k none = let high = k.numbers a live in omega (arith, far, high, none)

planned : (met_kept : MetKept) (a : ℕ) (w : WorldState) (p : Plan) → 17 ≤ a → is_live a w.table ≡ true → IsSound [] w
    → IsPlanOf a w.table p → IsPlanned [] w a p
planned met_kept a w p far live k plan = record {
  table = k.table;
  always = k.always;
  watchers = k.watchers;
  watches = k.watches;
  numbers = k.numbers;
  served = k.served;
  residents_ascend = k.residents_ascend;
  unkept = k.unkept;
  held_ascends = k.held_ascends;
  unheld = k.unheld;
  system_unheld = k.system_unheld;
  moves = plan.moves;
  good = plan.good;
  met = λ d low is.
      met_others met_kept (behaviour_of w.schema w.bindings w.watches d) (watcher_of d w.watches) a d (resident_of d w)
      w.table p (λ same. absurd (omega (arith, low, far, same))) plan.moves (k.met d low is);
  quiet = λ none. absurd (come_some [] a w far live k none);
}

pub accepted_hub : (met_kept : MetKept) (k : ℕ) (x : Admitting) (s : State) → 1 ≤ k
    → is_live (actor_of k) s.world.table ≡ true → IsHub [] s → IsHub [] (accepted k x (nameless k s))
accepted_hub met_kept k x s come live h =
    let a = actor_of k in
    let w = s.world in
    let far : 17 ≤ actor_of k = omega (arith, come) in
    let p : Plan = all_acted a x.acts (plan_over w.table) in
    let plan : IsPlanOf a w.table p =
    all_acted_plan a w.table (plan_over w.table) x.acts far live
    (record { moves = begin_moves a w.table h.sound.table; good = begin_good a w.table h.sound.rows }) in
    let sound : IsSound [] (done_in w a p) =
    commit_sound posted_to posted_table served_after [] w a p (planned met_kept a w p far live h.sound plan) in
    record {
      sound = sound;
      named = λ j since live_j. elim (one_or_not j k) [
        | inl same ↦ (
          x.ports,
          ap (λ i. entry_of i (with_entry k x.ports (without_entry k s.connections))) same
              ∙ put_found k x.ports (without_entry k s.connections),
        )
        | inr ne ↦
            (let b = h.named j since (sym (live_done posted_table w a (actor_of j) p plan.moves) ∙ live_j) in (
              b.0,
              put_other k j x.ports (without_entry k s.connections) ne ∙ (out_other k j s.connections ne ∙ b.1),
            ))
      ];
      nameless = λ j dead.
          let before : is_live (actor_of j) w.table ≡ false =
          sym (live_done posted_table w a (actor_of j) p plan.moves) ∙ dead in
          let ne : j ≢ k = λ same. absurd (let f : is_live (actor_of j) w.table ≡ true =
          ap (λ i. is_live (actor_of i) w.table) same ∙ live in cc) in
          put_other k j x.ports (without_entry k s.connections) ne ∙
          (out_other k j s.connections ne ∙ h.nameless j before);
      first =
          let ne : 0 ≢ k = λ same. absurd (omega (arith, come, same)) in
          put_other k 0 x.ports (without_entry k s.connections) ne ∙ (out_other k 0 s.connections ne ∙ h.first);
      names_ascend =
          ascend_with k x.ports (without_entry k s.connections) (ascend_without k s.connections h.names_ascend);
    }
