-- Values, level by level.
use Rattle.std.proofs.Common.{◌≡◌, ℕ, zero, suc, Bool, List, ◌++◌, Result, Ok, Err, refl, sym, ap, ◌∙◌, subst, inl, inr}
use Rattle.pv_value.specs.Plain.{Plain}
use Rattle.pv_read.specs.Results.{Fault}
use Rattle.pv_read.specs.Lemmas.Binds.{err}
use Rattle.pv_lex.specs.declared.faults.TextKind.{TextKind}
use Rattle.pv_lex.specs.declared.faults.TextKind.TheVariants.{TooDeep}
use Rattle.pv_lex.specs.declared.kinds.Mark.{Mark}
use Rattle.pv_lex.specs.Marks.{mark_text}
use Rattle.pv_text.specs.Spells.{Spelling, BehindGap, IsCompound, IsCoreIn, SpellsIn}
use Rattle.pv_text.specs.Stops.{Stopping, IsTooDeep, CompoundStops, CoreStopsIn, StopsIn}
use Rattle.pv_text.specs.Reading.{Reader, fault_at, core_at, too_deep, compound_at, deeper_at, value_at}
use Rattle.pv_text.specs.Lemmas.Begins.{BeginsUnannotated, unannotated, opening_begins, core_begins}
use Rattle.pv_text.proofs.Readers.{IsTrueOf, IsReader, SkipsGaps}
use Rattle.pv_text.proofs.Dues.{ReadsCores, due_reads, due_skips}
use Rattle.pv_text.proofs.Steps.{value_is}
use Rattle.pv_text.proofs.Cores.{core_opens, core_atom, cores_read}
use Rattle.pv_text.proofs.Compounds.{compound_tells, compound_read, compound_told}

-- ---- too deep

too_deep_told : (total : ℕ) (commas : Bool) (bytes : List ℕ) (f : Fault TextKind) → IsTooDeep total bytes f
    → (core_at total (too_deep total) bytes ≡ Err f) × BeginsUnannotated commas bytes
too_deep_told total commas bytes f (m, r, is, o, e) =
    subst (λ (y : List ℕ). (core_at total (too_deep total) y ≡ Err f) × BeginsUnannotated commas y) (sym is) (
      core_opens total (too_deep total) m r o ∙ ap (λ (y : List ℕ). err {A = Plain × List ℕ} (fault_at total TooDeep y))
          (sym is) ∙ ap (λ (q : Fault TextKind). err {A = Plain × List ℕ} q) e,
      unannotated commas (mark_text m ++ r) (opening_begins commas m r o),
    )

-- ---- level by level

abbrev pub Cores : ℕ → ℕ → Type 0
Cores total d = (c : Bool) → ReadsCores c (core_at total (deeper_at total d c)) (IsCoreIn d c) (CoreStopsIn total d c)

abbrev pub Value : ℕ → Bool → Spelling Plain
Value d c t v r = BehindGap c (SpellsIn d c) t v r

reads : (total d : ℕ) → Cores total d → (c : Bool) (at_end : Fault TextKind)
    → IsReader (value_at total d c at_end) (Value d c) (StopsIn total d c at_end)
reads total d cores c at_end =
    subst (λ (r : Reader Plain). IsReader r (Value d c) (StopsIn total d c at_end)) (value_is total d c at_end)
    (due_reads total c (core_at total (deeper_at total d c)) (IsCoreIn d c) (CoreStopsIn total d c) (cores c) at_end)

skips : (total d : ℕ) → Cores total d → (c : Bool) (at_end : Fault TextKind)
    → SkipsGaps c at_end (value_at total d c at_end) (Value d c)
skips total d cores c at_end =
    subst (λ (r : Reader Plain). SkipsGaps c at_end r (Value d c)) (value_is total d c at_end)
    (due_skips total c (core_at total (deeper_at total d c)) (IsCoreIn d c) (CoreStopsIn total d c) (cores c) at_end)

module _ (total d : ℕ) (reads : (c : Bool) (at_end : Fault TextKind) → IsReader (value_at total d c at_end) (Value d c)
    (StopsIn total d c at_end))
    (skips : (c : Bool) (at_end : Fault TextKind) → SkipsGaps c at_end (value_at total d c at_end) (Value d c))
    (c : Bool) where
  abbrev deep : List ℕ → Mark → Reader Plain
  deep = compound_at total (value_at total d) c

  abbrev Deeper : Stopping
  Deeper bytes f = CompoundStops total (Value d) (StopsIn total d) c bytes f

  deep_read : (t : List ℕ) (v : Plain) (r : List ℕ) → IsCoreIn (suc d) c t v r → core_at total deep (t ++ r) ≡ Ok (v, r)
  deep_read t v r (inl a) = core_atom total deep t v r a
  deep_read t v r (inr h) = compound_read total (value_at total d) (Value d) (StopsIn total d) reads skips c t v r h

  as_core : (bytes : List ℕ) (o : Result (Plain × List ℕ) (Fault TextKind))
      → IsTrueOf (IsCompound (Value d) c) Deeper bytes o
      → IsTrueOf (IsCoreIn (suc d) c) Deeper bytes o
  as_core bytes (Ok x) h = (h.0, h.1, inr h.2)
  as_core bytes (Err f) h = h

  deep_cores : ReadsCores c (core_at total deep) (IsCoreIn (suc d) c) (CoreStopsIn total (suc d) c)
  deep_cores =
      cores_read total c deep (IsCoreIn (suc d) c) Deeper (core_begins (suc d) c) (λ t v r a. inl a) deep_read
      (λ m bs o. as_core (mark_text m ++ bs) (deep (mark_text m ++ bs) m bs)
      (compound_tells total (value_at total d) (Value d) (StopsIn total d) reads skips c m bs o))
      (compound_told total (value_at total d) (Value d) (StopsIn total d) reads skips c)

cores : (total d : ℕ) → Cores total d
cores total zero c =
    cores_read total c (too_deep total) (IsCoreIn zero c) (IsTooDeep total) (core_begins zero c) (λ t v r a. a)
    (core_atom total (too_deep total))
    (λ m bs o. (m, bs, refl, o, refl)) (too_deep_told total c)
cores total (suc d) c = deep_cores total d (reads total d (cores total d)) (skips total d (cores total d)) c

pub values_read : (total d : ℕ) (c : Bool) (at_end : Fault TextKind)
    → IsReader (value_at total d c at_end) (BehindGap c (SpellsIn d c)) (StopsIn total d c at_end)
values_read total d = reads total d (cores total d)
