-- What a packet of a load does, where it is admitted: it asserts items at dataspace 1.
use Rattle.std.proofs.Common.{◌≡◌, ℕ, ◌+◌, ◌*◌, ◌^◌, ◌<◌, ◌≤◌, ◌⊎◌, inl, inr, List, [], ◌∷◌, length, ◌||◌, Bool}
use Rattle.std.proofs.Common.{true, false}
use Rattle.std.proofs.Common.{cond, Option, Some, None, refl, sym, ap, ◌∙◌, subst, arith, codes, nat_lt}
use Rattle.std.proofs.Common.{length-append}
use Rattle.std.specs.Prelude.{option_and_then}
use Rattle.std.specs.List.{AllByRecursion}
use Rattle.std.proofs.lemmas.Bool.Decides.{nat_tests}
use Rattle.pv_value.specs.Plain.{Plain, embedded, sequence, plains}
use Rattle.pv_words.specs.Words.{labelled, number}
use Rattle.sr_caveat.specs.declared.caps.Cap.{Cap}
use Rattle.sr_caveat.specs.Lemmas.Capped.{cap_back}
use Rattle.ac_world.specs.declared.acts.Act.TheVariants as act
use Rattle.ac_world.specs.Worlds.{WorldState}
use Rattle.rl_packet.specs.declared.packets.Event.TheVariants.{Assert}
use Rattle.rl_packet.specs.declared.packets.TurnEvent.{TurnEvent}
use Rattle.rl_packet.specs.declared.packets.Turn.{Turn as TurnRecord}
use Rattle.rl_ports.specs.Ports.{PortsState, ExportTable, speaking, with_exports}
use Rattle.rl_wire.specs.Crossing.{crossed_in, whole_in, names_released, reference_in, wire_where}
use Rattle.rl_wire.specs.declared.wires.Wire.TheVariants.{Own}
use Rattle.hub_machine.specs.declared.faults.Fault.{Fault}
use Rattle.hub_machine.specs.Limits.{most_events}
use Rattle.hub_machine.specs.Faults.{over}
use Rattle.hub_machine.specs.Admission.{Admitting, Admitted, refused, admitted, before_all, unless, all_admitted}
use Rattle.hub_machine.specs.Admission.{admission, turn_admission, cause_of, let_through, Aim, object, aim_of, aim_at}
use Rattle.hub_machine.specs.Admission.{after, after_at, after_assertion}
use Rattle.hub_machine.specs.Lemmas.Dialects.{by_dialect}
use Rattle.sc_load.specs.Loads.{pattern_of, observation, loading, connection_of, observes, loads}
use Rattle.load_laws.proofs.Alone.{first_export, IsFirstAlone}
use Rattle.load_laws.proofs.Captures.{IsItem, observed}
use Rattle.load_laws.proofs.Costs.{all_append}
use Rattle.load_laws.proofs.Worlds.{IsAct}

module _ (start n : ℕ) (few : n ≤ 20000) (j : ℕ) where
  -- one of the two events of an item of connection j
  abbrev pub IsEvent : TurnEvent → Type 0
  IsEvent e = (i : ℕ) × (i < n) × (connection_of i ≡ j) × ((e ≡ observes i) ⊎ (e ≡ loads start i))

  -- ---- values as they are kept

  kept_observed : (exports : ExportTable) (i : ℕ) → i < n → connection_of i ≡ j
      → crossed_in exports j (observation i) ≡ observed i
  kept_observed exports i low own =
      let small : nat_lt (i + 1) (2 ^ 63) ≡ true = grind (arith, nat_tests, low, few) in
      let wire : Plain = sequence (plains (number 0 ∷ number (i + 1) ∷ [])) in
      ap (λ b. labelled (codes "Observe") (pattern_of i
      ∷ embedded (reference_in exports (16 + j) wire (wire_where Own (cond b (Some (i + 1)) None))) ∷ [])) small
      ∙ ap (λ c. labelled (codes "Observe") (pattern_of i
      ∷ embedded (sequence (plains (number (16 + c) ∷ number (i + 1) ∷ []))) ∷ [])) (sym own)

  -- it names an object of the connection's own, and none that is released
  observed_whole : (exports : ExportTable) (i : ℕ)
      → whole_in exports j (observation i) ≡ Some (crossed_in exports j (observation i))
  observed_whole exports i =
      ap (λ b. cond {A = Option Plain} b None (Some (crossed_in exports j (observation i))))
      (fresh (nat_lt (i + 1) (2 ^ 63)))
    where
      fresh : (b : Bool) → (names_released exports (wire_where Own (cond b (Some (i + 1)) None)) || false) ≡ false
      fresh true = refl
      fresh false = refl

  -- ---- events one after another

  pub record Admits (m : ℕ) (x : Admitting) : Type 0 where
    pub names : IsFirstAlone x.ports
    pub acts : AllByRecursion (IsAct start n few) x.acts
    pub count : length x.acts ≤ m

  abbrev space : Cap
  space = record { actor = 1; entity = 0; caveats = [] }

  -- an assertion at dataspace 1
  abbrev asserted_at : WorldState → Aim → Plain → ℕ → Admitting → Admitting
  asserted_at w o v h x = after_at j w o (Assert v h) x

  assertion_admits : (m : ℕ) (w : WorldState) (o : Aim) (v u : Plain) (h : ℕ) (x : Admitting) → o ≡ object space
      → whole_in x.ports.exports j v ≡ Some u → IsItem start n u → Admits m x
      → Admits (m + 1) (asserted_at w o v h x)
  assertion_admits m w o v u h x is whole own a =
      subst (λ c. Admits (m + 1) (asserted_at w c v h x)) (sym is)
      (subst (λ q. Admits (m + 1) (after_assertion w space (option_and_then (let_through w space) q) h x)) (sym whole)
      (record {
        names = a.names;
        acts = all_append (IsAct start n few) x.acts (act.Assert 1 0 u ∷ []) a.acts ((refl, own), tt);
        count = let c = a.count in omega (arith, c, length-append x.acts (act.Assert 1 0 u ∷ []));
      }))

  at_space : (x : Admitting) → x.ports.exports ≡ first_export → aim_at 0 x.ports ≡ object space
  at_space x is =
      ap (λ es. aim_at 0 (with_exports es x.ports)) is
      ∙ ap aim_of (cap_back space (omega arith, omega arith, tt))

  event_admits : (m : ℕ) (w : WorldState) (e : TurnEvent) (x : Admitting) → IsEvent e → Admits m x
      → Admits (m + 1) (after j w e x)
  event_admits m w e x (i, low, own, inl is) a =
      let item : IsItem start n (crossed_in x.ports.exports j (observation i)) =
      (i, low, inl (kept_observed x.ports.exports i low own)) in
      subst (λ f. Admits (m + 1) (after j w f x)) (sym is)
      (assertion_admits m w (aim_at 0 x.ports) (observation i) (crossed_in x.ports.exports j (observation i)) (2 * i) x
      (at_space x a.names.0) (observed_whole x.ports.exports i) item a)
  event_admits m w e x (i, low, own, inr is) a =
      let item : IsItem start n (crossed_in x.ports.exports j (loading start i)) = (i, low, inr refl) in
      subst (λ f. Admits (m + 1) (after j w f x)) (sym is)
      (assertion_admits m w (aim_at 0 x.ports) (loading start i) (crossed_in x.ports.exports j (loading start i))
      (2 * i + 1) x (at_space x a.names.0) refl item a)

  -- refused, or so admitted
  abbrev pub IsGood : ℕ → Admitted → Type 0
  IsGood m (refused f) = Unit {0}
  IsGood m (admitted x) = Admits m x

  events_admit : (m : ℕ) (w : WorldState) (es : List TurnEvent) (x : Admitting) → AllByRecursion IsEvent es → Admits m x
      → IsGood (m + length es) (all_admitted j w es x)
  events_admit m w [] x all a = subst (λ k. Admits k x) (omega arith) a
  events_admit m w (e ∷ es) x all a =
      by (cause_of j w e x) (events_admit (m + 1) w es (after j w e x) all.1 (event_admits m w e x all.0 a))
    where
      by : (o : Option Fault) → IsGood (m + 1 + length es) (all_admitted j w es (after j w e x))
          → IsGood (m + length (e ∷ es)) (unless o (all_admitted j w es (after j w e x)))
      by None later = subst (λ k. IsGood k (all_admitted j w es (after j w e x))) (omega arith) later
      by (Some f) later = tt

  admission_good : (ports : PortsState) (w : WorldState) (es : List TurnEvent) → IsFirstAlone ports
      → AllByRecursion IsEvent es → IsGood (length es) (admission j ports w es)
  admission_good ports w es own all =
      by (over most_events 3 (length es))
      (events_admit 0 w es (before_all j ports w) all (record { names = own; acts = tt; count = omega arith }))
    where
      by : (o : Option Fault) → IsGood (0 + length es) (all_admitted j w es (before_all j ports w))
          → IsGood (length es) (unless o (all_admitted j w es (before_all j ports w)))
      by None good = subst (λ k. IsGood k (all_admitted j w es (before_all j ports w))) (omega arith) good
      by (Some f) good = tt

  -- so it is in whichever dialect the packet is
  pub packet_admits : (ports : PortsState) (w : WorldState) (t : TurnRecord) → IsFirstAlone ports
      → AllByRecursion IsEvent t.events → IsGood (length t.events) (turn_admission j ports w t)
  packet_admits ports w t own all =
      by_dialect (IsGood (length t.events)) j ports w t tt (admission_good (speaking t.dialect ports) w t.events own all)
