-- References that were minted read back, and are signed.
use Rattle.std.proofs.Common.{◌≡◌, ℕ, Bool, true, false, ◌||◌, cond, List, [], ◌∷◌, ◌++◌, Some, None, Ok}
use Rattle.std.proofs.Common.{refl, sym, ap, ◌∙◌, subst}
use Rattle.std.proofs.lemmas.List.{append-nil}
use Rattle.pv_value.specs.Plain.{Plain, plains, listed}
use Rattle.pv_value.specs.Lemmas.Listed.{listed-plains}
use Rattle.pv_text.specs.Reads.{AreValuesOf}
use Rattle.pv_print.specs.Lines.{line, lines, AreReadable}
use Rattle.sr_caveat.specs.Embedded.{has_embedded, any_embedded}
use Rattle.gk_sturdy.specs.Refs.{ref_of, ref_with, ref_value, IsReadable}
use Rattle.gk_sturdy.specs.declared.refs.SturdyRef.{SturdyRef}
use Rattle.gk_sturdy.specs.Chain.{IsValidRef, minted, narrowed}
use Rattle.gk_sturdy.specs.Laws.{MintedIsValid, NarrowedIsValid}
use Rattle.dsd_top.specs.Laws.{MintedReadBack}
use Rattle.dsd_top.specs.Minting.{IsKey, IsNarrowedBy}

-- ---- what is written is read

-- a value in which nothing is embedded
clear_is : {A : Type 0} (b : Bool) (a : A) → b ≡ false → cond b None (Some a) ≡ Some a
clear_is b a e = rw e refl

back : (oid : Plain) (sig : List ℕ) (cs : List Plain) → has_embedded oid ≡ false → any_embedded (plains cs) ≡ false
    → ref_of (ref_value (record { oid = oid; sig = sig; caveats = cs }))
    ≡ Some (record { oid = oid; sig = sig; caveats = cs })
back oid sig [] e f = ap (λ o. ref_with o (Some sig) (Some [])) (clear_is (has_embedded oid) oid e)
back oid sig (c ∷ cs) e f =
    (λ i. ref_with (clear_is (has_embedded oid) oid e i) (Some sig)
    (clear_is (any_embedded (plains (c ∷ cs))) (listed (plains (c ∷ cs))) f i))
    ∙ ap (λ l. ref_with (Some oid) (Some sig) (Some l)) (listed-plains (c ∷ cs))

-- ---- caveats, one behind another

either_false : (a b : Bool) → (a || b) ≡ false → (a ≡ false) × (b ≡ false)
either_false true b h = absurd cc
either_false false b h = (refl, h)

both_false : (a b : Bool) → a ≡ false → b ≡ false → (a || b) ≡ false
both_false a b p q = rw p q

-- nothing is embedded with one more behind
one_more : (cs : List Plain) (c : Plain) → any_embedded (plains cs) ≡ false → has_embedded c ≡ false
    → any_embedded (plains (cs ++ c ∷ [])) ≡ false
one_more [] c none one = both_false (has_embedded c) false one refl
one_more (x ∷ xs) c none one =
    let parts = either_false (has_embedded x) (any_embedded (plains xs)) none in
    both_false (has_embedded x) (any_embedded (plains (xs ++ c ∷ []))) parts.0 (one_more xs c parts.1 one)

narrowed_readable : (ts : List (List ℕ)) (r s : SturdyRef) → IsNarrowedBy ts r s → IsReadable r → IsReadable s
narrowed_readable [] r s h is = subst IsReadable (sym h) is
narrowed_readable (t ∷ ts) r s h is =
    narrowed_readable ts (narrowed h.0 r) s h.2 (is.0, one_more r.caveats h.0 is.1 h.1.1)

module _ (signed : MintedIsValid) (more_signed : NarrowedIsValid) (key : List ℕ) where
  narrowed_signed : (ts : List (List ℕ)) (r s : SturdyRef) → IsNarrowedBy ts r s → IsValidRef key r
      → IsValidRef key s
  narrowed_signed [] r s h is = subst (λ x. IsValidRef key x) (sym h) is
  narrowed_signed (t ∷ ts) r s h is =
      narrowed_signed ts (narrowed h.0 r) s h.2 (more_signed key h.0 r is)

-- a text is one key
one_key : (text key other : List ℕ) → IsKey text key → IsKey text other → other ≡ key
one_key text key other p q = let both : Ok key ≡ Ok other = sym p.0 ∙ q.0 in cc both

-- ---- references

-- a value alone on its line is the text of that value
alone : (v : Plain) → AreValuesOf (lines (v ∷ [])) (v ∷ []) → AreValuesOf (line v) (v ∷ [])
alone v h = subst (λ text. AreValuesOf text (v ∷ [])) (append-nil (line v)) h

pub verified : MintedIsValid → NarrowedIsValid → ((vs : List Plain) → AreReadable vs → AreValuesOf (lines vs) vs)
    → MintedReadBack
verified signed more_signed reads m key r is_key is formed shallow =
    let oid = is.0 in
    let ready = narrowed_readable m.caveats (minted is.1 oid) r is.4 (is.2.1, refl) in
    let signed_so = narrowed_signed signed more_signed is.1 m.caveats (minted is.1 oid) r is.4 (signed is.1 oid) in
    let v = ref_value r in (
      alone v (reads (v ∷ []) ((formed, shallow), tt)),
      back r.oid r.sig r.caveats ready.0 ready.1,
      subst (λ k. IsValidRef k r) (one_key m.key key is.1 is_key is.3) signed_so,
    )
