-- What reading gives of whole texts, against what they spell and where they stop.
use Rattle.std.proofs.Common.{◌≡◌, ℕ, ◌-◌, ◌<◌, ◌≤◌, false, List, [], ◌∷◌, ◌++◌, length, Option, Some, None, Result, Ok}
use Rattle.std.proofs.Common.{Err}
use Rattle.std.proofs.Common.{refl, sym, ap, ◌∙◌, subst, append_assoc, inl, inr, arith}
use Rattle.std.specs.Str.{IsUtf8, is_utf8}
use Rattle.std.proofs.lemmas.Bool.{false_from_ne_true}
use Rattle.std.proofs.lemmas.Str.{IsUtf8-from_is_utf8, is_utf8-from_IsUtf8}
use Rattle.pv_value.specs.Plain.{Plain}
use Rattle.pv_read.specs.Results.{Fault, ◌>>=◌}
use Rattle.pv_read.specs.Lemmas.Binds.{Told, told_cond, told_ok, told_err, parts, err}
use Rattle.pv_lex.specs.Gaps.{IsLastGap, after_blank}
use Rattle.pv_lex.specs.declared.faults.TextKind.{TextKind}
use Rattle.pv_lex.specs.declared.faults.TextKind.TheVariants.{BadUtf8}
use Rattle.pv_text.specs.Spells.{BehindGap, SpellsIn}
use Rattle.pv_text.specs.Reading.{first_at, no_value, next_at, checked, text_value}
use Rattle.pv_text.specs.Stops.{StopsIn, TextStands}
use Rattle.pv_text.specs.Reads.{LeadsTo, NextStops, BeginsWith, IsNext}
use Rattle.pv_text.specs.Lemmas.Begins.{leads_shorter, leads_on}
use Rattle.pv_text.proofs.Readers.{told_as, list_is, Front, IsReader}
use Rattle.pv_text.proofs.Levels.{values_read}

-- ---- the first value

first_reads : (total : ℕ) → IsReader (first_at total) (BehindGap false (SpellsIn 64 false))
    (StopsIn total 64 false (no_value total))
first_reads total = values_read total 64 false (no_value total)

leads : (bytes : List ℕ) (v : Plain) (rest : List ℕ) → Front (BehindGap false (SpellsIn 64 false)) bytes v rest
    → LeadsTo bytes v rest
leads bytes v rest (t, is, (g, a, is', gap, spells)) =
    (g, a, is ∙ ap (λ (y : List ℕ). y ++ rest) is' ∙ append_assoc g a rest, gap, spells)

abbrev Leads : List ℕ → Plain × List ℕ → Type 0
Leads bytes x = LeadsTo bytes x.0 x.1

abbrev Stopped : ℕ → List ℕ → Fault TextKind → Type 0
Stopped total bytes f = StopsIn total 64 false (no_value total) bytes f

first_tells : (total : ℕ) (bytes : List ℕ) → Told (Leads bytes) (Stopped total bytes) (first_at total bytes)
first_tells total bytes =
    told_as (λ (x : Plain × List ℕ). Front (BehindGap false (SpellsIn 64 false)) bytes x.0 x.1) (Leads bytes)
    (Stopped total bytes) (Stopped total bytes) (first_at total bytes)
    ((first_reads total).tells bytes) (λ x h. leads bytes x.0 x.1 h) (λ f s. s)

pub first_read : (total : ℕ) (bytes : List ℕ) (v : Plain) (rest : List ℕ) → LeadsTo bytes v rest
    → first_at total bytes ≡ Ok (v, rest)
first_read total bytes v rest (g, t, is, gap, spells) =
    ap (first_at total) (is ∙ sym (append_assoc g t rest)) ∙ (first_reads total).read (g ++ t) v rest
    (g, t, refl, gap, spells)

pub first_fails : (total : ℕ) (bytes : List ℕ) (f : Fault TextKind) → StopsIn total 64 false (no_value total) bytes f
    → first_at total bytes ≡ Err f
first_fails total = (first_reads total).told

-- ---- whole texts, by whether they are UTF-8

abbrev bad : Fault TextKind
bad = record { kind = BadUtf8; place = 0 }

pub checked_tells : {A : Type 0} (P : A → Type 0) (Q : Fault TextKind → Type 0) (text : List ℕ)
    (r : Result A (Fault TextKind))
    → (IsUtf8 text → Told P Q r) → ((IsUtf8 text → ⊥) → Q bad) → Told P Q (checked text r)
checked_tells P Q text r good none =
    told_cond P Q (is_utf8 text) r (Err bad) (λ e. good (IsUtf8-from_is_utf8 text e))
    (λ e. none (λ u. cc (sym e ∙ is_utf8-from_IsUtf8 text u)))

pub checked_good : {A : Type 0} (text : List ℕ) (r : Result A (Fault TextKind)) → IsUtf8 text → checked text r ≡ r
checked_good text r u = rw (is_utf8-from_IsUtf8 text u)

pub checked_bad : {A : Type 0} (text : List ℕ) (r : Result A (Fault TextKind)) → (IsUtf8 text → ⊥)
    → checked text r ≡ Err (record { kind = BadUtf8; place = 0 })
checked_bad text r n = rw (false_from_ne_true (is_utf8 text) (λ e. n (IsUtf8-from_is_utf8 text e)))

-- ---- read_text

abbrev TextLeads : List ℕ → Plain × List ℕ → Type 0
TextLeads text x = IsUtf8 text × LeadsTo text x.0 x.1

text_tells : (text : List ℕ) → Told (TextLeads text) (TextStands text) (text_value text)
unfolding text_value
text_tells text =
    checked_tells (TextLeads text) (TextStands text) text (first_at (length text) text)
    (λ u. told_as (Leads text) (TextLeads text) (Stopped (length text) text) (TextStands text)
    (first_at (length text) text) (first_tells (length text) text) (λ x l. (u, l)) (λ f s. inr (u, s)))
    (λ n. inl (n, refl))

pub text_found : (text : List ℕ) (v : Plain) (rest : List ℕ) → text_value text ≡ Ok (v, rest) → IsUtf8 text
    × LeadsTo text v rest
text_found text v rest e = told_ok (TextLeads text) (TextStands text) (text_value text) (v, rest) (text_tells text) e

pub text_stands : (text : List ℕ) (f : Fault TextKind) → text_value text ≡ Err f → TextStands text f
text_stands text f e = told_err (TextLeads text) (TextStands text) (text_value text) f (text_tells text) e

pub text_good : (text : List ℕ) → IsUtf8 text → text_value text ≡ first_at (length text) text
unfolding text_value
text_good text u = checked_good text (first_at (length text) text) u

pub text_bad : (text : List ℕ) → (IsUtf8 text → ⊥) → text_value text ≡ Err (record { kind = BadUtf8; place = 0 })
unfolding text_value
text_bad text n = checked_bad text (first_at (length text) text) n

pub text_read : (text : List ℕ) (v : Plain) (rest : List ℕ) → IsUtf8 text → LeadsTo text v rest
    → text_value text ≡ Ok (v, rest)
text_read text v rest u l = text_good text u ∙ first_read (length text) text v rest l

pub text_fails : (text : List ℕ) (f : Fault TextKind) → TextStands text f → text_value text ≡ Err f
text_fails text f (inl p) = text_bad text p.0 ∙ ap (λ (x : Fault TextKind). err {A = Plain × List ℕ} x) (sym p.1)
text_fails text f (inr p) = text_good text p.0 ∙ first_fails (length text) text f p.1

pub text_within : (text : List ℕ) (v : Plain) (rest : List ℕ) → text_value text ≡ Ok (v, rest)
    → length rest ≤ length text
text_within text v rest e = omega (arith, leads_shorter text v rest (text_found text v rest e).1)

-- what the text begins with is what was read
pub text_same : (text : List ℕ) (n : ℕ) (v w : Plain) (rest : List ℕ) → text_value text ≡ Ok (w, rest)
    → BeginsWith text n v
    → ◌≡◌ {A = Plain × ℕ} (w, length text - length rest) (v, n)
text_same text n v w rest e (u, more, leads, size) =
    let same = parts {E = Fault TextKind} w v rest more (sym e ∙ text_read text v more u leads) in
    let k : length text - length rest ≡ n = omega (arith, size, ap (λ (b : List ℕ). length b) same.1) in
    λ i. (same.0 i, k i)

-- ---- next_value

-- by what follows the gap
abbrev next_after : ℕ → List ℕ → List ℕ → Result (Option (Plain × List ℕ)) (Fault TextKind)
next_after total bytes after = elim after [
  | [] ↦ Ok None
  | b ∷ bs ↦ (first_at total bytes >>= λ x. Ok (Some x))
]

next_is : (total : ℕ) (bytes : List ℕ) → next_at total bytes ≡ next_after total bytes (after_blank false bytes)
unfolding next_at
next_is total bytes = refl

pub next_end : (total : ℕ) (bytes : List ℕ) → IsLastGap false bytes → next_at total bytes ≡ Ok None
next_end total bytes e = next_is total bytes ∙ ap (next_after total bytes) e

-- where more is left
next_more : (total : ℕ) (bytes : List ℕ) → (IsLastGap false bytes → ⊥)
    → next_at total bytes ≡ (first_at total bytes >>= λ x. Ok (Some x))
next_more total bytes n = elim (list_is (after_blank false bytes)) [
  | inl e ↦ absurd (n e)
  | inr (b, bs, e) ↦ next_is total bytes ∙ ap (next_after total bytes) e
]

next_tells : (total : ℕ) (bytes : List ℕ) → Told (IsNext bytes) (NextStops total bytes) (next_at total bytes)
next_tells total bytes =
    subst (Told (IsNext bytes) (NextStops total bytes)) (sym (next_is total bytes)) (by (after_blank false bytes) refl)
  where
    some : (o : Result (Plain × List ℕ) (Fault TextKind)) → Told (Leads bytes) (Stopped total bytes) o
        → (IsLastGap false bytes → ⊥)
        → Told (IsNext bytes) (NextStops total bytes) (o >>= λ x. Ok (Some x))
    some (Ok x) h n = h
    some (Err f) h n = (n, h)

    by : (a : List ℕ) → after_blank false bytes ≡ a → Told (IsNext bytes) (NextStops total bytes)
        (next_after total bytes a)
    by [] e = e
    by (b ∷ bs) e = some (first_at total bytes) (first_tells total bytes) (λ l. cc (sym e ∙ l))

pub next_found : (total : ℕ) (bytes : List ℕ) (o : Option (Plain × List ℕ)) → next_at total bytes ≡ Ok o
    → IsNext bytes o
next_found total bytes o e =
    told_ok (IsNext bytes) (NextStops total bytes) (next_at total bytes) o (next_tells total bytes) e

pub next_stands : (total : ℕ) (bytes : List ℕ) (f : Fault TextKind) → next_at total bytes ≡ Err f
    → NextStops total bytes f
next_stands total bytes f e =
    told_err (IsNext bytes) (NextStops total bytes) (next_at total bytes) f (next_tells total bytes) e

pub next_read : (total : ℕ) (bytes : List ℕ) (v : Plain) (rest : List ℕ) → LeadsTo bytes v rest
    → next_at total bytes ≡ Ok (Some (v, rest))
next_read total bytes v rest l =
    next_more total bytes (leads_on bytes v rest l)
    ∙ ap (λ (o : Result (Plain × List ℕ) (Fault TextKind)). o >>= λ x. Ok (Some x)) (first_read total bytes v rest l)

pub next_fails : (total : ℕ) (bytes : List ℕ) (f : Fault TextKind) → NextStops total bytes f
    → next_at total bytes ≡ Err f
next_fails total bytes f (n, s) =
    next_more total bytes n ∙ ap (λ (o : Result (Plain × List ℕ) (Fault TextKind)). o >>= λ x. Ok (Some x))
    (first_fails total bytes f s)

pub next_shorter : (total : ℕ) (bytes : List ℕ) (v : Plain) (rest : List ℕ) → next_at total bytes ≡ Ok (Some (v, rest))
    → length rest < length bytes
next_shorter total bytes v rest e = leads_shorter bytes v rest (next_found total bytes (Some (v, rest)) e)
