-- What a connection names is what the batches that it was told make of its first object.
use Rattle.std.proofs.Common.{◌≡◌, ℕ, ◌+◌, ◌<◌, ◌≤◌, List, [], ◌∷◌, ◌++◌, false}
use Rattle.std.proofs.Common.{Option, Some, None, ◌⊎◌, inl, inr, refl, ap, sym, ◌∙◌, subst, arith}
use Rattle.std.proofs.lemmas.List.{append-nil, append_assoc}
use Rattle.std.specs.Option.{option_or}
use Rattle.pv_value.specs.Plain.{Plain}
use Rattle.ps_schema.specs.declared.Definition.{Definition}
use Rattle.ac_table.specs.declared.batches.Batch.{Batch}
use Rattle.ac_table.specs.Tables.{is_live}
use Rattle.ac_world.specs.Worlds.{actor_of}
use Rattle.rl_ports.specs.Ports.{PortsState, ports_to}
use Rattle.hub_machine.specs.State.{State, opening, ports_of}
use Rattle.hub_machine.specs.Machine.{step, names_after}
use Rattle.hub_machine.specs.Replays.{run_from, replay}
use Rattle.hub_machine.specs.declared.steps.Step.{Step}
use Rattle.hub_authority.specs.Named.{told_by, told_from, first_by, first_from, told_names}
use Rattle.hub_authority.proofs.Dialects.{StaysFixed}
use Rattle.hub_authority.proofs.Endings.{Keeps}
use Rattle.hub_valid.specs.Lemmas.Admitted.{names_of}

-- ---- one step

-- connection k has come with its first object
pub record CameWith (k : ℕ) (s : State) (told : List Batch) (first : Option Plain) (p : PortsState) : Type 0 where
  pub object : Plain
  pub next : k ≡ s.world.opened + 1
  pub is_first : first ≡ Some object
  pub untold : told ≡ []
  pub names : names_of p ≡ ports_to object

-- connection k was there, and names what it was told of; its dialect is what was fixed
pub record WasTold (k : ℕ) (s : State) (told : List Batch) (p : PortsState) : Type 0 where
  pub before : PortsState
  pub there : ports_of k s ≡ Some before
  pub names : names_of p ≡ told_names k told (names_of before)
  pub fixed : StaysFixed before.dialect p.dialect

-- from s to t, where connection k is told these batches and gets this first object
pub record Tells (k : ℕ) (s t : State) (told : List Batch) (first : Option Plain) : Type 0 where
  pub opened : s.world.opened ≤ t.world.opened
  pub live : t.world.opened < k → is_live (actor_of k) s.world.table ≡ false
      → is_live (actor_of k) t.world.table ≡ false
  pub silent : t.world.opened < k → is_live (actor_of k) s.world.table ≡ false → (told ≡ []) × (first ≡ None)
  pub named : (p : PortsState) → ports_of k t ≡ Some p → WasTold k s told p ⊎ CameWith k s told first p

pub tells_nothing : (k : ℕ) (s t : State) → Keeps k s t → Tells k s t [] None
tells_nothing k s t keeps = record {
  opened = omega (arith, keeps.opened);
  live = λ l is. keeps.live is;
  silent = λ l is. (refl, refl);
  named = λ p is.
      let h = keeps.named p is in
      inl (record { before = h.before; there = h.there; names = h.same; fixed = h.fixed });
}

pub tells_then : (k : ℕ) (s t u : State) (told : List Batch) (first : Option Plain) → Tells k s t told first
    → Keeps k t u → Tells k s u told first
tells_then k s t u told first tells keeps = record {
  opened = subst (λ n. s.world.opened ≤ n) (sym keeps.opened) tells.opened;
  live = λ l is. keeps.live (tells.live (subst (λ n. n < k) keeps.opened l) is);
  silent = λ l is. tells.silent (subst (λ n. n < k) keeps.opened l) is;
  named = λ p is. let h = keeps.named p is in by p h.same h.fixed (tells.named h.before h.there);
}
  where
    by : (p : PortsState) {q : PortsState} → names_of p ≡ names_of q → StaysFixed q.dialect p.dialect
        → WasTold k s told q ⊎ CameWith k s told first q → WasTold k s told p ⊎ CameWith k s told first p
    by p same fixed (inl w) =
        inl (record {
          before = w.before;
          there = w.there;
          names = same ∙ w.names;
          fixed = λ d was. fixed d (w.fixed d was);
        })
    by p same fixed (inr c) = inr (record {
      object = c.object;
      next = c.next;
      is_first = c.is_first;
      untold = c.untold;
      names = same ∙ c.names;
    })

-- ---- all steps

told_names_more : (k : ℕ) (bs cs : List Batch) (p : PortsState)
    → told_names k (bs ++ cs) p ≡ told_names k cs (told_names k bs p)
told_names_more k [] cs p = refl
told_names_more k (b ∷ bs) cs p = told_names_more k bs cs (names_after k b p)

-- connection k names what it was told of its first object
abbrev pub IsItsOwn : List Definition → ℕ → List Step → PortsState → Type 0
IsItsOwn ds k es p =
    (first : Plain) × (first_from k (opening ds) es ≡ Some first)
    × (names_of p ≡ told_names k (told_from k (opening ds) es) (ports_to first))

-- what is true of connection k after these steps, which led to s
pub record IsTold (ds : List Definition) (k : ℕ) (es : List Step) (s : State) : Type 0 where
  pub unborn : s.world.opened < k → is_live (actor_of k) s.world.table ≡ false
  pub first : s.world.opened < k → first_from k (opening ds) es ≡ None
  pub told : s.world.opened < k → told_from k (opening ds) es ≡ []
  pub own : (p : PortsState) → ports_of k s ≡ Some p → IsItsOwn ds k es p

option_or_assoc : {A : Type 0} (x y z : Option A) → option_or x (option_or y z) ≡ option_or (option_or x y) z
option_or_assoc (Some x) y z = refl
option_or_assoc None y z = refl

first_more : (k : ℕ) (s : State) (es : List Step) (e : Step) → first_from k s (es ++ e ∷ [])
    ≡ option_or (first_from k s es) (first_by k (run_from s es) e)
first_more k s [] e = by (first_by k s e)
  where
    by : (o : Option Plain) → option_or o None ≡ o
    by None = refl
    by (Some r) = refl
first_more k s (f ∷ es) e =
    ap (option_or (first_by k s f)) (first_more k (step s f).state es e)
    ∙ option_or_assoc (first_by k s f) (first_from k (step s f).state es) _

pub told_more : (k : ℕ) (s : State) (es : List Step) (e : Step) → told_from k s (es ++ e ∷ [])
    ≡ told_from k s es ++ told_by k (run_from s es) e
told_more k s [] e = append-nil (told_by k s e)
told_more k s (f ∷ es) e =
    ap (λ bs. told_by k s f ++ bs) (told_more k (step s f).state es e)
    ∙ sym (append_assoc (told_by k s f) (told_from k (step s f).state es) _)

pub one_more : (ds : List Definition) (k : ℕ) (es : List Step) (e : Step) → IsTold ds k es (replay ds es)
    → Tells k (replay ds es) (step (replay ds es) e).state (told_by k (replay ds es) e) (first_by k (replay ds es) e)
    → IsTold ds k (es ++ e ∷ []) (step (replay ds es) e).state
one_more ds k es e is tells = record {
  unborn = λ l. tells.live l (is.unborn (before l));
  first = λ l.
      first_more k (opening ds) es e
      ∙ (λ i. option_or (is.first (before l) i) ((tells.silent l (is.unborn (before l))).1 i));
  told = λ l.
      told_more k (opening ds) es e
      ∙ (λ i. is.told (before l) i ++ (tells.silent l (is.unborn (before l))).0 i);
  own = λ p there. by p (tells.named p there);
}
  where
    s : State
    s = replay ds es

    before : (step s e).state.world.opened < k → s.world.opened < k
    before l = omega (arith, l, tells.opened)

    by : (p : PortsState) → WasTold k s (told_by k s e) p ⊎ CameWith k s (told_by k s e) (first_by k s e) p
        → IsItsOwn ds k (es ++ e ∷ []) p
    by p (inl w) =
        let old = is.own w.before w.there in (
          old.0,
          first_more k (opening ds) es e ∙ ap (λ o. option_or o (first_by k s e)) old.1,
          w.names
              ∙ ap (told_names k (told_by k s e)) old.2
              ∙ sym (told_names_more k (told_from k (opening ds) es) (told_by k s e) (ports_to old.0))
              ∙ ap (λ bs. told_names k bs (ports_to old.0)) (sym (told_more k (opening ds) es e)),
        )
    by p (inr c) =
        let later : s.world.opened < k = omega (arith, c.next) in (
          c.object,
          first_more k (opening ds) es e ∙ (λ i. option_or (is.first later i) (c.is_first i)),
          c.names
              ∙ ap (λ bs. told_names k bs (ports_to c.object))
              (sym (told_more k (opening ds) es e ∙ (λ i. is.told later i ++ c.untold i))),
        )
