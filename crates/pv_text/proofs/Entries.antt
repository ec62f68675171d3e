-- An entry: a key, a colon and a value.
use Rattle.std.proofs.Common.{◌≡◌, ◌≢◌, ℕ, true, List, [], ◌∷◌, ◌++◌, length, Result, Ok, Err, refl, sym, ap, ◌∙◌}
use Rattle.std.proofs.Common.{subst, append_assoc, length-append, inl, inr, arith}
use Rattle.std.proofs.lemmas.Bool.{ne_eqb, eq-eqb}
use Rattle.std.proofs.lemmas.Bool.Decides.{eqb_tells}
use Rattle.pv_value.specs.Plain.{Plain}
use Rattle.pv_read.specs.Results.{Fault, ◌>>=◌}
use Rattle.pv_read.specs.Lemmas.Binds.{Told, err}
use Rattle.pv_lex.specs.Gaps.{IsGap, after_blank}
use Rattle.pv_lex.specs.Lemmas.GapLaws.{gap_passed, gap_found}
use Rattle.pv_lex.specs.declared.faults.TextKind.{TextKind}
use Rattle.pv_lex.specs.declared.faults.TextKind.TheVariants.{Unexpected}
use Rattle.pv_text.specs.Spells.{Spelling, IsEntry}
use Rattle.pv_text.specs.Stops.{Stopping, ColonStops, EntryStops}
use Rattle.pv_text.specs.Reading.{Reader, fault_at, colon_at, entry_at}
use Rattle.pv_text.specs.Lemmas.Begins.{Begins}
use Rattle.pv_text.proofs.Readers.{list_is, Front, IsReader, SkipsGaps, and_then}

-- ---- the colon

module _ (total : ℕ) (at_end : Fault TextKind) where
  colon_none : (bytes : List ℕ) → after_blank true bytes ≡ [] → colon_at total at_end bytes ≡ Err at_end
  colon_none bytes e = rw (e, colon_at)

  colon_here : (bytes : List ℕ) (b : ℕ) (bs : List ℕ) → after_blank true bytes ≡ b ∷ bs → b ≡ 58
      → colon_at total at_end bytes ≡ Ok bs
  colon_here bytes b bs e c = rw (e, colon_at, eq-eqb b 58 c)

  colon_missing : (bytes : List ℕ) (b : ℕ) (bs : List ℕ) → after_blank true bytes ≡ b ∷ bs → b ≢ 58
      → colon_at total at_end bytes ≡ Err (fault_at total Unexpected (b ∷ bs))
  colon_missing bytes b bs e n = rw (e, colon_at, ne_eqb b 58 n)

  abbrev Colon : List ℕ → List ℕ → Type 0
  Colon bytes rest = (g : List ℕ) × (bytes ≡ g ++ 58 ∷ rest) × IsGap true g

  abbrev IsTrueOf : List ℕ → Result (List ℕ) (Fault TextKind) → Type 0
  IsTrueOf bytes o = Told (λ s. Colon bytes s) (λ f. ColonStops total at_end bytes f) o

  pub colon_tells : (bytes : List ℕ) → IsTrueOf bytes (colon_at total at_end bytes)
  colon_tells bytes = elim (list_is (after_blank true bytes)) [
    | inl e ↦ so (Err at_end) (colon_none bytes e) (inl (e, refl))
    | inr (b, bs, e) ↦ elim (eqb_tells b 58) [
      | inl (t, c) ↦ so (Ok bs) (colon_here bytes b bs e c) (let g = gap_found true bytes b bs e in
          (g.0, g.1 ∙ ap (λ (x : ℕ). g.0 ++ x ∷ bs) c, g.2))
      | inr (t, n) ↦ so (Err (fault_at total Unexpected (b ∷ bs))) (colon_missing bytes b bs e n)
          (inr (b, bs, e, n, refl))
    ]
  ]
    where
      so : (o : Result (List ℕ) (Fault TextKind)) → colon_at total at_end bytes ≡ o → IsTrueOf bytes o
          → IsTrueOf bytes (colon_at total at_end bytes)
      so o e h = subst (λ (x : Result (List ℕ) (Fault TextKind)). IsTrueOf bytes x) (sym e) h

  pub colon_read : (g r : List ℕ) → IsGap true g → colon_at total at_end (g ++ 58 ∷ r) ≡ Ok r
  colon_read g r gap = colon_here (g ++ 58 ∷ r) 58 r (gap_passed true g (58 ∷ r) gap) refl

  pub colon_told : (bytes : List ℕ) (f : Fault TextKind) → ColonStops total at_end bytes f
      → colon_at total at_end bytes ≡ Err f
  colon_told bytes f (inl (last, e)) = colon_none bytes last ∙ ap (λ (x : Fault TextKind). err {A = List ℕ} x) e
  colon_told bytes f (inr (b, r, is, n, e)) =
      colon_missing bytes b r is n ∙ ap (λ (x : Fault TextKind). err {A = List ℕ} x) e

-- ---- the entry

module _ (total : ℕ) (inner : Reader Plain) (at_end : Fault TextKind) (Inner : Spelling Plain)
    (InnerStops : Fault TextKind → Stopping)
    (reads : IsReader inner Inner (InnerStops at_end)) (gaps : SkipsGaps true at_end inner Inner) where
  abbrev entry : Reader (Plain × Plain)
  entry = entry_at total inner at_end

  abbrev Entry : Spelling (Plain × Plain)
  Entry t p r = IsEntry Inner t p r

  abbrev Stopped : Stopping
  Stopped bytes f = EntryStops total Inner InnerStops at_end bytes f

  -- what each link of the chain gives
  whole : (bytes : List ℕ) (k : Plain) (r s : List ℕ) (v : Plain) (q : List ℕ) → inner bytes ≡ Ok (k, r)
      → colon_at total at_end r ≡ Ok s
      → inner s ≡ Ok (v, q) → entry bytes ≡ Ok ((k, v), q)
  unfolding entry_at
  whole bytes k r s v q e c h = rw (e, c, h)

  key_fails : (bytes : List ℕ) (f : Fault TextKind) → inner bytes ≡ Err f → entry bytes ≡ Err f
  unfolding entry_at
  key_fails bytes f e = rw e

  colon_fails : (bytes : List ℕ) (k : Plain) (r : List ℕ) (f : Fault TextKind) → inner bytes ≡ Ok (k, r)
      → colon_at total at_end r ≡ Err f
      → entry bytes ≡ Err f
  unfolding entry_at
  colon_fails bytes k r f e c = rw (e, c)

  value_fails : (bytes : List ℕ) (k : Plain) (r s : List ℕ) (f : Fault TextKind) → inner bytes ≡ Ok (k, r)
      → colon_at total at_end r ≡ Ok s
      → inner s ≡ Err f → entry bytes ≡ Err f
  unfolding entry_at
  value_fails bytes k r s f e c h = rw (e, c, h)

  joined : (bytes : List ℕ) (k : Plain) (r s : List ℕ) (v : Plain) (q : List ℕ) → Front Inner bytes k r
      → Colon total at_end r s → Front Inner s v q
      → Front Entry bytes (k, v) q
  joined bytes k r s v q (a, is, key) (g, is', gap) (c, is'', value) =
      let behind : r ≡ g ++ 58 ∷ (c ++ q) = is' ∙ ap (λ (y : List ℕ). g ++ 58 ∷ y) is'' in (
        a ++ (g ++ 58 ∷ c),
        is ∙ ap (λ (y : List ℕ). a ++ y) behind ∙ sym (simp append_assoc),
        (a, g, c, refl, subst (λ (y : List ℕ). Inner a k y) behind key, gap, value),
      )

  abbrev IsSpelled : List ℕ → (Plain × Plain) × List ℕ → Type 0
  IsSpelled bytes x = Front Entry bytes x.0 x.1

  abbrev value_behind : Plain → List ℕ → Result ((Plain × Plain) × List ℕ) (Fault TextKind)
  value_behind k s = inner s >>= λ y. Ok ((k, y.0), y.1)

  tells : (bytes : List ℕ) → Told (IsSpelled bytes) (Stopped bytes) (entry bytes)
  unfolding entry_at
  tells bytes =
      and_then inner Inner (InnerStops at_end) reads (IsSpelled bytes) (Stopped bytes) bytes
      (λ x. colon_at total at_end x.1 >>= value_behind x.0)
      (λ k r key. behind_key k r key (colon_at total at_end r) (colon_tells total at_end r))
      (λ f s. inl s)
    where
      behind_key : (k : Plain) (r : List ℕ) → Front Inner bytes k r → (o : Result (List ℕ) (Fault TextKind))
          → Told (λ s. Colon total at_end r s) (λ f. ColonStops total at_end r f) o
          → Told (IsSpelled bytes) (Stopped bytes) (o >>= value_behind k)
      behind_key k r (a, is, key) (Err f) s = inr (inl (a, r, k, is, key, s))
      behind_key k r (a, is, key) (Ok s) (g, is', gap) =
          and_then inner Inner (InnerStops at_end) reads (IsSpelled bytes) (Stopped bytes) s (λ y. Ok ((k, y.0), y.1))
          (λ v q value. joined bytes k r s v q (a, is, key) (g, is', gap) value)
          (λ f w. inr (inr (
            a,
            g,
            s,
            k,
            is ∙ ap (λ (y : List ℕ). a ++ y) is',
            subst (λ (y : List ℕ). Inner a k y) is'
                key,
            gap,
            w,
          )))

  read : (t : List ℕ) (p : Plain × Plain) (r : List ℕ) → Entry t p r → entry (t ++ r) ≡ Ok (p, r)
  read t p r (a, g, c, is, key, gap, value) =
      let behind : List ℕ = g ++ 58 ∷ (c ++ r) in
      ap entry (ap (λ (y : List ℕ). y ++ r) is ∙ simp append_assoc)
      ∙ whole (a ++ behind) p.0 behind (c ++ r) p.1 r (reads.read a p.0 behind key)
      (colon_read total at_end g (c ++ r) gap) (reads.read c p.1 r value)

  told : (bytes : List ℕ) (f : Fault TextKind) → Stopped bytes f → entry bytes ≡ Err f
  told bytes f (inl s) = key_fails bytes f (reads.told bytes f s)
  told bytes f (inr (inl (a, r, k, is, key, s))) =
      colon_fails bytes k r f (ap inner is ∙ reads.read a k r key) (colon_told total at_end r f s)
  told bytes f (inr (inr (a, g, r, k, is, key, gap, s))) =
      value_fails bytes k (g ++ 58 ∷ r) r f (ap inner is ∙ reads.read a k (g ++ 58 ∷ r) key)
      (colon_read total at_end g r gap) (reads.told r f s)

  pub entry_reads : IsReader (entry_at total inner at_end) (IsEntry Inner) (EntryStops total Inner InnerStops at_end)
  entry_reads = record { tells = tells; read = read; told = told }

  begins : (t : List ℕ) (p : Plain × Plain) (r : List ℕ) → Entry t p r → Begins true (t ++ r) r
  begins t p r (a, g, c, is, key, gap, value) =
      let b = gaps.begins a p.0 (g ++ 58 ∷ (c ++ r)) key in
      let shape : t ++ r ≡ a ++ (g ++ 58 ∷ (c ++ r)) = ap (λ (y : List ℕ). y ++ r) is ∙ simp append_assoc in
      record {
        first = b.first;
        more = b.more;
        is = ap (after_blank true) shape ∙ b.is;
        open_record = b.open_record;
        open_sequence = b.open_sequence;
        open_set = b.open_set;
        shorter = omega (arith, b.shorter, ap length shape, length-append g (58 ∷ (c ++ r)), length-append c r);
      }

  skips : (bytes : List ℕ) → entry (after_blank true bytes) ≡ entry bytes
  unfolding entry_at
  skips bytes = rw (gaps.skips bytes)

  pub entry_skips : SkipsGaps true at_end (entry_at total inner at_end) (IsEntry Inner)
  entry_skips = record { skips = skips; ends = key_fails [] at_end gaps.ends; begins = begins }
