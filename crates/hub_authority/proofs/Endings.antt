-- What is left of a connection's names, where others or it itself end: the same, or nothing.
use Rattle.std.proofs.Common.{◌≡◌, ℕ, List, ◌==◌, Bool, true, false, cond, Option, Some, None}
use Rattle.std.proofs.Common.{refl, ap, sym, ◌∙◌, arith}
use Rattle.std.proofs.lemmas.Bool.Decides.{nat_tests}
use Rattle.ac_table.specs.Tables.{is_live}
use Rattle.ac_world.specs.declared.spreads.Spread.{Spread as SpreadOf}
use Rattle.ac_world.specs.Worlds.{actor_of, entry_of, without_entry, ended_of}
use Rattle.ac_world.specs.Lemmas.Entries.{out_other}
use Rattle.rl_ports.specs.Ports.{PortsState}
use Rattle.hub_machine.specs.declared.faults.Fault.{Fault}
use Rattle.hub_machine.specs.declared.faults.Fault.TheVariants.{Spread}
use Rattle.hub_machine.specs.State.{State, ports_of}
use Rattle.hub_machine.specs.Endings.{closed, failed, dismissed, finished}
use Rattle.hub_valid.specs.Lemmas.Admitted.{names_of}
use Rattle.hub_valid.specs.Lemmas.Lives.{live_ended, opened_ended}
use Rattle.hub_valid.specs.Lemmas.StepEnds.{finished_keeps}
use Rattle.hub_authority.proofs.Dialects.{StaysFixed}

-- what connection k had before, with the same names of others, and the dialect that was fixed
pub record HadThem (k : ℕ) (s : State) (p : PortsState) : Type 0 where
  pub before : PortsState
  pub there : ports_of k s ≡ Some before
  pub same : names_of p ≡ names_of before
  pub fixed : StaysFixed before.dialect p.dialect

-- the same
pub had_same : (k : ℕ) (s : State) (p : PortsState) → ports_of k s ≡ Some p → HadThem k s p
had_same k s p is = record { before = p; there = is; same = refl; fixed = λ d was. was }

-- from s to t: no connection comes, and k names what it did and its dialect stays, or it names nothing
pub record Keeps (k : ℕ) (s t : State) : Type 0 where
  pub opened : t.world.opened ≡ s.world.opened
  pub live : is_live (actor_of k) s.world.table ≡ false → is_live (actor_of k) t.world.table ≡ false
  pub named : (p : PortsState) → ports_of k t ≡ Some p → HadThem k s p

pub keeps_all : (k : ℕ) (s : State) → Keeps k s s
keeps_all k s = record { opened = refl; live = λ is. is; named = had_same k s }

pub keeps_then : (k : ℕ) (s t u : State) → Keeps k s t → Keeps k t u → Keeps k s u
keeps_then k s t u first later = record {
  opened = later.opened ∙ first.opened;
  live = λ is. later.live (first.live is);
  named = λ p is.
      let l = later.named p is in
      let f = first.named l.before l.there in
      record {
        before = f.before;
        there = f.there;
        same = l.same ∙ f.same;
        fixed = λ d was. l.fixed d (f.fixed d was);
      };
}

-- ---- one connection ends

still_dead : (b : Bool) (old new : Bool) → new ≡ cond b false old → old ≡ false → new ≡ false
still_dead true old new is dead = is
still_dead false old new is dead = is ∙ dead

-- a name among those of a state with fewer live actors and fewer names
fewer : (b c : Bool) (o q : Option PortsState) (p : PortsState) → (b ≡ true → c ≡ true) → (o ≡ Some p → q ≡ Some p)
    → cond b o None ≡ Some p → cond c q None ≡ Some p
fewer true c o q p live names is = rw (live refl) (names is)
fewer false c o q p live names is = absurd cc

was_live : (b old new : Bool) → new ≡ cond b false old → new ≡ true → old ≡ true
was_live true old new is live = absurd cc
was_live false old new is live = sym is ∙ live

same_actors : (k j : ℕ) → (k == j) ≡ true → (actor_of k == actor_of j) ≡ true
same_actors k j e = grind (arith, nat_tests, e)

none_there : (o : Option PortsState) (b : Bool) (p : PortsState) → b ≡ false → cond b o None ≡ Some p → ⊥
none_there o true p dead is = cc
none_there o false p dead is = cc

pub keeps_failed : (k j : ℕ) (f : Fault) (s : State) → Keeps k s (failed j f s)
keeps_failed k j f s = record {
  opened = opened_ended (actor_of j) s.world;
  live = λ is. still_dead _ _ _ (live_ended (actor_of k) (actor_of j) s.world) is;
  named = λ p is. had_same k s p (by (k == j) refl p is);
}
  where
    by : (b : Bool) → (k == j) ≡ b → (p : PortsState) → ports_of k (failed j f s) ≡ Some p → ports_of k s ≡ Some p
    by true same p is =
        let dead : is_live (actor_of k) (ended_of (actor_of j) s.world).table ≡ false =
        live_ended (actor_of k) (actor_of j) s.world
        ∙ ap (λ b. cond b false (is_live (actor_of k) s.world.table)) (same_actors k j same) in
        absurd (none_there (entry_of k (without_entry j s.connections)) _ p dead is)
    by false other p is =
        fewer _ _ _ _ p
        (was_live (actor_of k == actor_of j) _ _ (live_ended (actor_of k) (actor_of j) s.world))
        (λ e. sym (out_other j k s.connections (λ same. grind (arith, nat_tests, other, same))) ∙ e) is

pub keeps_closed : (k j : ℕ) (s : State) → Keeps k s (closed j s)
keeps_closed k j s =
    let failing = keeps_failed k j (Spread 0) s in
    record { opened = failing.opened; live = failing.live; named = failing.named }

-- ---- a watcher ends

pub keeps_dismissed : (k a : ℕ) (s : State) → Keeps k s (dismissed a s)
keeps_dismissed k a s = record {
  opened = opened_ended a s.world;
  live = λ is. still_dead _ _ _ (live_ended (actor_of k) a s.world) is;
  named = λ p is. had_same k s p
      (fewer _ _ _ _ p (was_live (actor_of k == a) _ _ (live_ended (actor_of k) a s.world)) (λ e. e) is);
}

-- ---- the end of a step

pub keeps_finished : (k : ℕ) (xs : List SpreadOf) (s : State) → Keeps k s (finished xs s)
keeps_finished k xs s =
    finished_keeps (Keeps k s) (λ j f t there kept. keeps_then k s t (failed j f t) kept (keeps_failed k j f t))
    (λ a t high low kept. keeps_then k s t (dismissed a t) kept (keeps_dismissed k a t)) xs s (keeps_all k s)
