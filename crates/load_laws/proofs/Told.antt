-- What a connection is told in the run of a load, in either dialect: no reference, and few bytes.
use Rattle.std.proofs.Common.{◌≡◌, ℕ, ◌+◌, ◌*◌, ◌≤◌, inl, inr, List, [], ◌∷◌, ◌++◌, ◌==◌, length, map}
use Rattle.std.proofs.Common.{false, cond, Some, None, refl, sym, ap, ◌∙◌, subst, arith}
use Rattle.std.specs.Prelude.{option_and_then}
use Rattle.std.specs.List.{AllByRecursion}
use Rattle.std.proofs.lemmas.Bool.Decides.{nat_tests}
use Rattle.pv_binary.specs.Written.{written}
use Rattle.ac_table.specs.declared.batches.Event.{Event}
use Rattle.ac_table.specs.declared.batches.Event.TheVariants.{Assert, Retract, Message, Sync}
use Rattle.ac_table.specs.declared.batches.Batch.{Batch}
use Rattle.rl_packet.specs.declared.packets.Packet.TheVariants.{Turn}
use Rattle.rl_packet.specs.declared.packets.Dialect.{Dialect}
use Rattle.rl_packet.specs.declared.packets.TurnEvent.{TurnEvent}
use Rattle.rl_packet.specs.Packets.{packet_value, aimed_value, spoken}
use Rattle.rl_ports.specs.Ports.{PortsState, ExportTable}
use Rattle.hub_machine.specs.declared.faults.Fault.{Fault}
use Rattle.hub_machine.specs.Faults.{error_of}
use Rattle.rl_wire.specs.Crossing.{fault_out, all_exported}
use Rattle.hub_machine.specs.Machine.{foreign_told, told_value, foreign_to, sent_event, telling_fault, overrun_by}
use Rattle.hub_machine.specs.Machine.{naming, all_named, names_after}
use Rattle.load_laws.proofs.Alone.{IsFirstAlone, alone_swept}
use Rattle.load_laws.proofs.Costs.{event_cost, events_cost, IsOut, Fits}
use Rattle.load_laws.proofs.Sizes.{told_short, retracting_short, turn_short, error_short}

module _ (start n a : ℕ) (far : 17 ≤ a) where
  is_out : (e : Event) → Fits start n a e → IsOut start n e
  is_out e (inl here) = absurd (let one = here.0 in omega (arith, one, far))
  is_out e (inr there) = there.1

  -- ---- no reference

  none_told : (k : ℕ) (e : Event) → IsOut start n e → foreign_told k (told_value e) ≡ []
  none_told k (Assert h entity v) own = ap (λ x. foreign_told k (Some x)) own.1
  none_told k (Retract h entity) own = refl
  none_told k (Message entity v) own = absurd own
  none_told k (Sync entity peer) own = absurd own

  nothing_foreign : (k from : ℕ) (es : List Event) → AllByRecursion (Fits start n a) es
      → foreign_to k (record { from = from; events = es }) ≡ []
  nothing_foreign k from [] all = refl
  nothing_foreign k from (e ∷ es) all =
      (λ i. none_told k e (is_out e all.0) i ++ nothing_foreign k from es all.1 i)

  pub no_fault : (k : ℕ) (b : Batch) (ports : PortsState) → AllByRecursion (Fits start n a) b.events
      → telling_fault k b ports ≡ None
  no_fault k b ports all =
      ap (λ rs. option_and_then overrun_by (fault_out ports.exports rs)) (nothing_foreign k b.from b.events all)

  alone_after : (k : ℕ) (e : Event) (p : PortsState) → IsOut start n e → IsFirstAlone p → IsFirstAlone (naming k e p)
  alone_after k (Assert h entity v) p own alone =
      (ap (λ rs. all_exported p.exports rs) (none_told k (Assert h entity v) own) ∙ alone.0, alone.1)
  alone_after k (Retract h entity) p own alone = alone
  alone_after k (Message entity v) p own alone = absurd own
  alone_after k (Sync entity peer) p own alone = absurd own

  all_alone : (k : ℕ) (es : List Event) (p : PortsState) → AllByRecursion (Fits start n a) es → IsFirstAlone p
      → IsFirstAlone (all_named k es p)
  all_alone k [] p all alone = alone
  all_alone k (e ∷ es) p all alone =
      all_alone k es (naming k e p) all.1 (alone_after k e p (is_out e all.0) alone)

  -- it names what it did
  pub still_alone : (k : ℕ) (b : Batch) (ports : PortsState) → AllByRecursion (Fits start n a) b.events
      → IsFirstAlone ports → IsFirstAlone (names_after k b ports)
  still_alone k b ports all alone =
      alone_swept (all_named k b.events ports) (all_alone k b.events ports all alone)

  -- ---- few bytes

  abbrev IsShort : Dialect → TurnEvent → Type 0
  IsShort d e = length (written (aimed_value d e)) ≤ 100

  event_short : (exports : ExportTable) (d : Dialect) (k : ℕ) (e : Event) → IsOut start n e
      → IsShort d (sent_event exports k e)
  event_short exports d k (Assert h entity v) own =
      subst (λ x. IsShort d (sent_event exports k (Assert h entity x))) (sym own.1) (told_short d entity own.0 h)
  event_short exports d k (Retract h entity) own = retracting_short d entity h
  event_short exports d k (Message entity v) own = absurd own
  event_short exports d k (Sync entity peer) own = absurd own

  events_short : (exports : ExportTable) (d : Dialect) (k : ℕ) (es : List Event) → AllByRecursion (Fits start n a) es
      → AllByRecursion (IsShort d) (map (sent_event exports k) es)
  events_short exports d k [] all = tt
  events_short exports d k (e ∷ es) all =
      (event_short exports d k e (is_out e all.0), events_short exports d k es all.1)

  -- each costs one
  not_space : (a == 1) ≡ false
  not_space = grind (arith, nat_tests, far)

  event_costs : (e : Event) → 1 ≤ event_cost a e
  event_costs (Assert h entity v) = subst (λ b. 1 ≤ cond b 3 1) (sym not_space) (omega arith)
  event_costs (Retract h entity) = subst (λ b. 1 ≤ cond b 0 1) (sym not_space) (omega arith)
  event_costs (Message entity v) = omega arith
  event_costs (Sync entity peer) = omega arith

  events_count : (exports : ExportTable) (k : ℕ) (es : List Event)
      → length (map (sent_event exports k) es) ≤ events_cost a es
  events_count exports k [] = omega arith
  events_count exports k (e ∷ es) =
      let one = event_costs e in let later = events_count exports k es in omega (arith, one, later)

  pub packet_short : (exports : ExportTable) (d : Dialect) (k : ℕ) (b : Batch) → AllByRecursion (Fits start n a) b.events
      → length (written (packet_value (Turn (spoken d (map (sent_event exports k) b.events)))))
      ≤ 2 + 100 * events_cost a b.events
  packet_short exports d k b all =
      let short = turn_short d 100 (map (sent_event exports k) b.events) (events_short exports d k b.events all) in
      let count = events_count exports k b.events in
      omega (arith, short, count)

pub fault_short : (f : Fault) → length (written (packet_value (error_of f))) ≤ 200
fault_short f = error_short f
