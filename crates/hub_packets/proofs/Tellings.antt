-- Events that are told one after another: what was sent is the same by the later exports.
use Rattle.std.proofs.Common.{◌≡◌, ℕ, List, [], ◌∷◌, ◌++◌, map, Option, Some, None, refl, sym, ap, ◌∙◌}
use Rattle.std.proofs.Common.{append_assoc, subst}
use Rattle.std.proofs.lemmas.List.{append-nil}
use Rattle.std.specs.Prelude.{option_and_then}
use Rattle.std.specs.Option.{option_or}
use Rattle.pv_value.specs.Plain.{Plain, embedded}
use Rattle.ac_table.specs.declared.batches.Event.{Event as Told}
use Rattle.ac_table.specs.declared.batches.Event.TheVariants.{Assert, Retract, Message, Sync}
use Rattle.rl_packet.specs.declared.packets.TurnEvent.{TurnEvent}
use Rattle.rl_packet.specs.declared.packets.Event.TheVariants as event
use Rattle.rl_ports.specs.declared.ports.PortsFault.{PortsFault}
use Rattle.rl_ports.specs.Ports.{ExportTable, PortsState}
use Rattle.rl_wire.specs.Crossing.{all_exported, fault_out, crossed_out, foreign_in}
use Rattle.rl_wire.specs.Lemmas.Exporting.{all_exported-more, fault_out-more, are_exported}
use Rattle.rl_wire.specs.Lemmas.Later.{crossed_out_later}
use Rattle.hub_machine.specs.Machine.{sent_event, told_value, foreign_told, naming, all_named, overrun_by}
use Rattle.hub_machine.specs.Lemmas.Naming.{foreign_among, naming_exports}
use Rattle.hub_packets.specs.Refusals.{IsWhyRefused}
use Rattle.hub_packets.specs.declared.refusals.Refusal.{Refusal}
use Rattle.hub_packets.specs.declared.refusals.Refusal.TheVariants.{Cause, NoMemory}
use Rattle.hub_packets.specs.Telling.{export_cause}

-- ---- one event

value_later : (k : ℕ) (v : Plain) (exports : ExportTable) (more : List Plain)
    → crossed_out (all_exported exports (foreign_in k v)) k v
    ≡ crossed_out (all_exported (all_exported exports (foreign_in k v)) more) k v
value_later k v exports more =
    sym (crossed_out_later (all_exported exports (foreign_in k v)) more k v (are_exported exports (foreign_in k v)))

-- once more is exported, it is told the same
pub told_later : (k : ℕ) (e : Told) (exports : ExportTable) (more : List Plain)
    → sent_event (all_exported exports (foreign_told k (told_value e))) k e
    ≡ sent_event (all_exported (all_exported exports (foreign_told k (told_value e))) more) k e
told_later k (Assert h entity v) exports more =
    ap (λ (w : Plain). record { oid = entity; event = event.Assert w h }) (value_later k v exports more)
told_later k (Retract h entity) exports more = refl
told_later k (Message entity v) exports more =
    ap (λ (w : Plain). record { oid = entity; event = event.Message w }) (value_later k v exports more)
told_later k (Sync entity peer) exports more =
    ap (λ (w : Plain). record { oid = entity; event = event.Sync w }) (value_later k (embedded peer) exports more)

-- ---- one event, and those that are left

-- the events so far are sent, their objects are exported, and the rest leads to what all leads to
pub record AreTold (k : ℕ) (old : PortsState) (all : List Told) (ports : PortsState) (sent : List TurnEvent)
    (rest : List Told) : Type 0 where
  pub exports : all_exported ports.exports (foreign_among k rest) ≡ all_exported old.exports (foreign_among k all)
  pub faults : fault_out ports.exports (foreign_among k rest) ≡ fault_out old.exports (foreign_among k all)
  pub names : all_named k rest ports ≡ all_named k all old
  pub events : sent ++ map (sent_event (all_exported old.exports (foreign_among k all)) k) rest
      ≡ map (sent_event (all_exported old.exports (foreign_among k all)) k) all

pub none_told : (k : ℕ) (old : PortsState) (all : List Told) → AreTold k old all old [] all
none_told k old all = record { exports = refl; faults = refl; names = refl; events = refl }

pub one_told : (k : ℕ) (old : PortsState) (all : List Told) (ports ports1 : PortsState) (sent : List TurnEvent)
    (e : Told) (rest : List Told) (t : TurnEvent) → AreTold k old all ports sent (e ∷ rest)
    → ports1 ≡ naming k e ports
    → fault_out ports.exports (foreign_told k (told_value e)) ≡ None → t ≡ sent_event ports1.exports k e
    → AreTold k old all ports1 (sent ++ t ∷ []) rest
one_told k old all ports ports1 sent e rest t told now free is =
    let here = foreign_told k (told_value e) in
    let later = foreign_among k rest in
    let now_exports : ports1.exports ≡ all_exported ports.exports here =
    ap (λ (p : PortsState). p.exports) now ∙ naming_exports k e ports in
    let exports : all_exported ports1.exports later ≡ all_exported old.exports (foreign_among k all) =
    ap (λ (xs : ExportTable). all_exported xs later) now_exports
    ∙ sym (all_exported-more ports.exports here later) ∙ told.exports in
    let same : t ≡ sent_event (all_exported old.exports (foreign_among k all)) k e =
    is ∙ ap (λ (xs : ExportTable). sent_event xs k e) now_exports ∙ told_later k e ports.exports later
    ∙ ap (λ (xs : ExportTable). sent_event xs k e)
    (ap (λ (xs : ExportTable). all_exported xs later) (sym now_exports) ∙ exports) in
    record {
      exports = exports;
      faults = ap (λ (xs : ExportTable). fault_out xs later) now_exports
          ∙ sym (fault_out-more ports.exports here later
          ∙ ap (λ (o : Option PortsFault). option_or o (fault_out (all_exported ports.exports here) later)) free)
          ∙ told.faults;
      names = ap (all_named k rest) now ∙ told.names;
      events = append_assoc sent (t ∷ []) _
          ∙ ap (λ (x : TurnEvent). sent ++ x
          ∷ map (sent_event (all_exported old.exports (foreign_among k all)) k) rest) same
          ∙ told.events;
    }

-- a cause against one of them is the cause
front_cause : (o p : Option PortsFault) (r : Refusal) → IsWhyRefused (option_and_then overrun_by o) r
    → IsWhyRefused (option_and_then overrun_by (option_or o p)) r
front_cause None p (Cause f) is = absurd cc
front_cause (Some x) p r is = is
front_cause None p NoMemory is = tt

pub one_refused : (k : ℕ) (old : PortsState) (all : List Told) (ports : PortsState) (sent : List TurnEvent) (e : Told)
    (rest : List Told) (r : Refusal) → AreTold k old all ports sent (e ∷ rest)
    → IsWhyRefused (export_cause (foreign_told k (told_value e)) ports) r
    → IsWhyRefused (export_cause (foreign_among k all) old) r
one_refused k old all ports sent e rest r told why =
    subst (λ (o : Option PortsFault). IsWhyRefused (option_and_then overrun_by o) r)
    (sym (fault_out-more ports.exports (foreign_told k (told_value e)) (foreign_among k rest)) ∙ told.faults)
    (front_cause (fault_out ports.exports (foreign_told k (told_value e))) _ r why)

-- ---- all events

pub all_told : (k : ℕ) (old : PortsState) (all : List Told) (ports : PortsState) (sent : List TurnEvent)
    → AreTold k old all ports sent []
    → (sent ≡ map (sent_event (all_exported old.exports (foreign_among k all)) k) all)
    × (ports ≡ all_named k all old) × (fault_out old.exports (foreign_among k all) ≡ None)
    × (ports.exports ≡ all_exported old.exports (foreign_among k all))
all_told k old all ports sent told =
    (sym (append-nil sent) ∙ told.events, told.names, sym told.faults, told.exports)
