-- What a connection names once it is told of events: its exports are those that all references lead to, and its handles
-- and its dialect are as they were.
use Rattle.std.proofs.Common.{◌≡◌, ℕ, List, [], ◌∷◌, refl, sym, ap, ◌∙◌}
use Rattle.std.specs.List.{flat_map}
use Rattle.pv_value.specs.Plain.{Plain}
use Rattle.ac_table.specs.declared.batches.Event.{Event as Told}
use Rattle.ac_table.specs.declared.batches.Event.TheVariants.{Assert, Retract, Message, Sync}
use Rattle.ac_table.specs.declared.batches.Batch.{Batch}
use Rattle.rl_ports.specs.Ports.{ExportTable, PortsState}
use Rattle.rl_wire.specs.Crossing.{all_exported}
use Rattle.rl_wire.specs.Lemmas.Exporting.{all_exported-more}
use Rattle.hub_machine.specs.Machine.{told_value, foreign_told, naming, all_named, exports_after, names_after}

abbrev pub foreign_among : ℕ → List Told → List Plain
foreign_among k es = flat_map (λ e. foreign_told k (told_value e)) es

-- ---- one event

pub naming_exports : (k : ℕ) (e : Told) (p : PortsState)
    → (naming k e p).exports ≡ all_exported p.exports (foreign_told k (told_value e))
naming_exports k (Assert h entity v) p = refl
naming_exports k (Retract h entity) p = refl
naming_exports k (Message entity v) p = refl
naming_exports k (Sync entity peer) p = refl

pub naming_handles : (k : ℕ) (e : Told) (p : PortsState) → (naming k e p).handles ≡ p.handles
naming_handles k (Assert h entity v) p = refl
naming_handles k (Retract h entity) p = refl
naming_handles k (Message entity v) p = refl
naming_handles k (Sync entity peer) p = refl

pub naming_dialect : (k : ℕ) (e : Told) (p : PortsState) → (naming k e p).dialect ≡ p.dialect
naming_dialect k (Assert h entity v) p = refl
naming_dialect k (Retract h entity) p = refl
naming_dialect k (Message entity v) p = refl
naming_dialect k (Sync entity peer) p = refl

-- ---- all events

pub named_exports : (k : ℕ) (es : List Told) (p : PortsState)
    → (all_named k es p).exports ≡ all_exported p.exports (foreign_among k es)
named_exports k [] p = refl
named_exports k (e ∷ es) p = named_exports k es (naming k e p)
    ∙ ap (λ (x : ExportTable). all_exported x (foreign_among k es)) (naming_exports k e p)
    ∙ sym (all_exported-more p.exports (foreign_told k (told_value e)) (foreign_among k es))

pub named_handles : (k : ℕ) (es : List Told) (p : PortsState) → (all_named k es p).handles ≡ p.handles
named_handles k [] p = refl
named_handles k (e ∷ es) p = named_handles k es (naming k e p) ∙ naming_handles k e p

pub named_dialect : (k : ℕ) (es : List Told) (p : PortsState) → (all_named k es p).dialect ≡ p.dialect
named_dialect k [] p = refl
named_dialect k (e ∷ es) p = named_dialect k es (naming k e p) ∙ naming_dialect k e p

-- ---- a turn

pub handles_after : (k : ℕ) (b : Batch) (p : PortsState) → (names_after k b p).handles ≡ p.handles
handles_after k b p = named_handles k b.events p

pub dialect_after : (k : ℕ) (b : Batch) (p : PortsState) → (names_after k b p).dialect ≡ p.dialect
dialect_after k b p = named_dialect k b.events p

-- before the sweep the exports are those by which the batch is told
pub told_exports : (k : ℕ) (b : Batch) (p : PortsState) → (all_named k b.events p).exports ≡ exports_after k b p
told_exports k b p = named_exports k b.events p
