-- The objects of others in what a connection got have numbers, and its notes say which.
use Rattle.std.proofs.Common.{◌≡◌, ℕ, List, [], ◌∷◌, Bool, true, false, cond, map, refl, ap, sym, ◌∙◌}
use Rattle.std.specs.List.{AllByRecursion}
use Rattle.std.specs.Map.{remove_entry}
use Rattle.std.specs.BTreeMap.{insert_entry, is_at}
use Rattle.std.specs.Ordering.{nat_cmp, match_ordering}
use Rattle.std.specs.declared.cmp.Ordering.{Ordering}
use Rattle.std.specs.declared.cmp.Ordering.TheVariants.{Less, Equal, Greater}
use Rattle.pv_value.specs.Plain.{Plain, embedded}
use Rattle.ac_table.specs.declared.batches.Event.{Event}
use Rattle.ac_table.specs.declared.batches.Event.TheVariants.{Assert, Retract, Message, Sync}
use Rattle.ac_world.specs.declared.held.Held.{Held}
use Rattle.rl_ports.specs.Ports.{PortsState, ExportTable, with_exports}
use Rattle.rl_wire.specs.Crossing.{all_exported, foreign_in, numbers_out}
use Rattle.rl_wire.specs.Lemmas.Exporting.{IsExported, are_exported}
use Rattle.hub_machine.specs.Machine.{exporting_in, naming, all_named}
use Rattle.hub_laws.specs.Noting.{note_of}
use Rattle.hub_laws.specs.Settled.{HasNumbers}
use Rattle.hub_laws.specs.Standing.{took, took_all, at_object}
use Rattle.hub_laws.proofs.Agreeing.{AllAgree, agrees_later, numbers_stay, notes_same}

-- what a connection with these ports has got has numbers, and that is what is noted
pub record AreNoted (k : ℕ) (p : PortsState) (got : List (ℕ × Held)) : Type 0 where
  pub numbers : AllByRecursion (HasNumbers p.exports k) got
  pub notes : p.notes ≡ map (note_of p.exports k) got

-- ---- what holds of the entries of a map

entries_with : {X : Type 0} (P : X → Type 0) (h : ℕ) (x : X) (es : List (ℕ × X)) → P x
    → AllByRecursion (λ e. P e.1) es → AllByRecursion (λ e. P e.1) (insert_entry nat_cmp es h x)
entries_with P h x [] p all = (p, tt)
entries_with {X = X} P h x (e ∷ es) p all = by (nat_cmp h e.0) (entries_with P h x es p all.1)
  where
    by : (o : Ordering) → AllByRecursion (λ e. P e.1) (insert_entry nat_cmp es h x)
        → AllByRecursion (λ (e : ℕ × X). P e.1)
        (match_ordering o ((h, x) ∷ e ∷ es) ((e.0, x) ∷ es) (e ∷ insert_entry nat_cmp es h x))
    by Less later = (p, all)
    by Equal later = (p, all.1)
    by Greater later = (all.0, later)

entries_without : {X : Type 0} (P : X → Type 0) (test : ℕ → Bool) (es : List (ℕ × X))
    → AllByRecursion (λ e. P e.1) es → AllByRecursion (λ e. P e.1) (remove_entry test es)
entries_without P test [] all = tt
entries_without {X = X} P test (e ∷ es) all = by (test e.0) (entries_without P test es all.1)
  where
    by : (b : Bool) → AllByRecursion (λ e. P e.1) (remove_entry test es)
        → AllByRecursion (λ (e : ℕ × X). P e.1) (cond b es (e ∷ remove_entry test es))
    by true later = all.1
    by false later = (all.0, later)

note_with : (x : ExportTable) (k h : ℕ) (d : Held) (got : List (ℕ × Held))
    → insert_entry nat_cmp (map (note_of x k) got) h (numbers_out x k d.value)
    ≡ map (note_of x k) (insert_entry nat_cmp got h d)
note_with x k h d [] = refl
note_with x k h d (e ∷ es) = by (nat_cmp h e.0) (note_with x k h d es)
  where
    notes : List (ℕ × List ℕ)
    notes = insert_entry nat_cmp (map (note_of x k) es) h (numbers_out x k d.value)

    by : (o : Ordering) → notes ≡ map (note_of x k) (insert_entry nat_cmp es h d)
        → match_ordering o ((h, numbers_out x k d.value) ∷ note_of x k e ∷ map (note_of x k) es)
        ((e.0, numbers_out x k d.value) ∷ map (note_of x k) es) (note_of x k e ∷ notes)
        ≡ map (note_of x k) (match_ordering o ((h, d) ∷ e ∷ es) ((e.0, d) ∷ es) (e ∷ insert_entry nat_cmp es h d))
    by Less later = refl
    by Equal later = refl
    by Greater later = ap (λ (ns : List (ℕ × List ℕ)). note_of x k e ∷ ns) later

note_without : (x : ExportTable) (k : ℕ) (test : ℕ → Bool) (got : List (ℕ × Held))
    → remove_entry test (map (note_of x k) got) ≡ map (note_of x k) (remove_entry test got)
note_without x k test [] = refl
note_without x k test (e ∷ es) = by (test e.0) (note_without x k test es)
  where
    by : (b : Bool) → remove_entry test (map (note_of x k) es) ≡ map (note_of x k) (remove_entry test es)
        → cond b (map (note_of x k) es) (note_of x k e ∷ remove_entry test (map (note_of x k) es))
        ≡ map (note_of x k) (cond b es (e ∷ remove_entry test es))
    by true later = refl
    by false later = ap (λ (ns : List (ℕ × List ℕ)). note_of x k e ∷ ns) later

-- ---- what was got

abbrev AreKnown : ExportTable → ℕ → Held → Type 0
AreKnown exports k d = AllByRecursion (IsExported exports) (foreign_in k d.value)

-- once more is exported
grown : (k : ℕ) (p : PortsState) (more : List Plain) (got : List (ℕ × Held)) → AreNoted k p got
    → AreNoted k (with_exports (all_exported p.exports more) p) got
grown k p more got noted =
    let x : ExportTable = p.exports in
    let y : ExportTable = all_exported x more in
    let agrees : AllAgree x y k got = agrees_later x more k got noted.numbers in
    record {
      numbers = numbers_stay x y k got agrees;
      notes = noted.notes ∙ sym (notes_same x y k got agrees);
    }

noted_after : (k : ℕ) (e : Event) (p : PortsState) (got : List (ℕ × Held)) → AreNoted k p got
    → AreNoted k (naming k e p) (took at_object e got)
noted_after k (Assert h entity v) p got noted =
    let q : PortsState = exporting_in k v p in
    let now = grown k p (foreign_in k v) got noted in
    record {
      numbers = entries_with (AreKnown q.exports k) h (at_object entity v) got
          (are_exported p.exports (foreign_in k v)) now.numbers;
      notes = ap (λ (ns : List (ℕ × List ℕ)). insert_entry nat_cmp ns h (numbers_out q.exports k v)) now.notes
          ∙ note_with q.exports k h (at_object entity v) got;
    }
noted_after k (Retract h entity) p got noted = record {
  numbers = entries_without (AreKnown p.exports k) (is_at (nat_cmp h)) got noted.numbers;
  notes = ap (λ (ns : List (ℕ × List ℕ)). remove_entry (is_at (nat_cmp h)) ns) noted.notes
      ∙ note_without p.exports k (is_at (nat_cmp h)) got;
}
noted_after k (Message entity v) p got noted =
    let now = grown k p (foreign_in k v) got noted in record { numbers = now.numbers; notes = now.notes }
noted_after k (Sync entity peer) p got noted =
    let now = grown k p (foreign_in k (embedded peer)) got noted in record { numbers = now.numbers; notes = now.notes }

-- after the events of a batch, before what nothing mentions is released
pub all_noted : (k : ℕ) (es : List Event) (p : PortsState) (got : List (ℕ × Held)) → AreNoted k p got
    → AreNoted k (all_named k es p) (took_all at_object es got)
all_noted k [] p got noted = noted
all_noted k (e ∷ es) p got noted =
    all_noted k es (naming k e p) (took at_object e got) (noted_after k e p got noted)
