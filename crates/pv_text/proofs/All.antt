-- All values of a text, against what they spell and where they stop.
use Rattle.std.proofs.Common.{◌≡◌, ℕ, zero, suc, ◌+◌, ◌<◌, ◌≤◌, false, List, [], ◌∷◌, ◌++◌, length, Option, Some, None}
use Rattle.std.proofs.Common.{Result, Ok, Err}
use Rattle.std.proofs.Common.{refl, sym, ap, ◌∙◌, append-nil, inl, inr, arith}
use Rattle.std.specs.Str.{IsUtf8}
use Rattle.pv_value.specs.Plain.{Plain}
use Rattle.pv_read.specs.Results.{Fault, ◌>>=◌}
use Rattle.pv_read.specs.Leading.{LeadsOver}
use Rattle.pv_read.specs.Lemmas.Binds.{Told, told_bind, told_ok, told_err, err}
use Rattle.pv_read.specs.Lemmas.Fronts.{with_front, with_front_more}
use Rattle.pv_lex.specs.Gaps.{IsLastGap}
use Rattle.pv_lex.specs.declared.faults.TextKind.{TextKind}
use Rattle.pv_lex.specs.declared.faults.TextKind.TheVariants.{BadUtf8}
use Rattle.pv_text.specs.Reading.{next_at, values_in, text_values}
use Rattle.pv_text.specs.Reads.{LeadsTo, AreValues, AreValuesOf, NextStops, IsNext, ValuesStand}
use Rattle.pv_text.specs.Lemmas.Begins.{leads_shorter}
use Rattle.pv_text.proofs.Readers.{told_as}
use Rattle.pv_text.proofs.Whole.{checked_tells, checked_good, checked_bad, next_end, next_read, next_found, next_stands}
use Rattle.pv_text.proofs.Whole.{next_fails}

-- ---- one step

-- by the next value, where there is one
abbrev values_after : ℕ → ℕ → Option (Plain × List ℕ) → Result (List Plain) (Fault TextKind)
values_after total k n = elim n [
  | None ↦ Ok []
  | Some x ↦ (values_in total k x.1 >>= λ vs. Ok (x.0 ∷ vs))
]

values_is : (total k : ℕ) (bytes : List ℕ)
    → values_in total (suc k) bytes ≡ (next_at total bytes >>= values_after total k)
values_is total k bytes = refl

values_end : (total k : ℕ) (bytes : List ℕ) → IsLastGap false bytes → values_in total k bytes ≡ Ok []
values_end total zero bytes e = refl
values_end total (suc k) bytes e =
    values_is total k bytes ∙ ap (λ (o : Result (Option (Plain × List ℕ)) (Fault TextKind)). o >>= values_after total k)
    (next_end total bytes e)

values_more : (total k : ℕ) (bytes : List ℕ) (v : Plain) (rest : List ℕ) → next_at total bytes ≡ Ok (Some (v, rest))
    → values_in total (suc k) bytes ≡ with_front (v ∷ []) (values_in total k rest)
values_more total k bytes v rest e =
    values_is total k bytes ∙ ap (λ (o : Result (Option (Plain × List ℕ)) (Fault TextKind)). o >>= values_after total k)
    e

values_fail : (total k : ℕ) (bytes : List ℕ) (f : Fault TextKind) → next_at total bytes ≡ Err f
    → values_in total (suc k) bytes ≡ Err f
values_fail total k bytes f e =
    values_is total k bytes ∙ ap (λ (o : Result (Option (Plain × List ℕ)) (Fault TextKind)). o >>= values_after total k)
    e

-- ---- what is told is true

-- behind some values comes what begins none
abbrev StopsBehind : ℕ → List ℕ → Fault TextKind → Type 0
StopsBehind total bytes f =
    (vs : List Plain) × (rest : List ℕ) × LeadsOver LeadsTo bytes vs rest × NextStops total rest f

values_tell : (total k : ℕ) (bytes : List ℕ) → length bytes ≤ k → Told (AreValues bytes) (StopsBehind total bytes)
    (values_in total k bytes)
values_tell total zero [] l = ([], refl, refl)
values_tell total zero (b ∷ bs) l = absurd (omega (arith, l))
values_tell total (suc k) bytes l =
    told_bind (AreValues bytes) (StopsBehind total bytes) (next_at total bytes) (values_after total k)
    (λ o e. by o (next_found total bytes o e) (λ rest less. values_tell total k rest (omega (arith, l, less))))
    (λ f e. ([], bytes, refl, next_stands total bytes f e))
  where
    more : (v : Plain) (rest : List ℕ) → LeadsTo bytes v rest → (o : Result (List Plain) (Fault TextKind))
        → Told (AreValues rest) (StopsBehind total rest) o
        → Told (AreValues bytes) (StopsBehind total bytes) (o >>= λ vs. Ok (v ∷ vs))
    more v rest to (Ok vs) (last, leads, gap) = (last, (rest, to, leads), gap)
    more v rest to (Err f) (vs, last, leads, stops) = (v ∷ vs, last, (rest, to, leads), stops)

    by : (o : Option (Plain × List ℕ)) → IsNext bytes o
        → ((rest : List ℕ) → length rest < length bytes → Told (AreValues rest) (StopsBehind total rest)
        (values_in total k rest))
        → Told (AreValues bytes) (StopsBehind total bytes) (values_after total k o)
    by None last again = (bytes, refl, last)
    by (Some x) to again = more x.0 x.1 to (values_in total k x.1) (again x.1 (leads_shorter bytes x.0 x.1 to))

-- ---- what is true is told

no_front : (o : Result (List Plain) (Fault TextKind)) → o ≡ with_front [] o
no_front (Ok vs) = refl
no_front (Err f) = refl

values_past : (total k : ℕ) (bytes : List ℕ) (vs : List Plain) (rest : List ℕ) → length bytes ≤ k
    → LeadsOver LeadsTo bytes vs rest
    → (j : ℕ) × (length rest ≤ j) × (values_in total k bytes ≡ with_front vs (values_in total j rest))
values_past total k bytes [] rest l e =
    (k, omega (arith, l, ap (λ (b : List ℕ). length b) e), ap (values_in total k) e ∙ no_front (values_in total k rest))
values_past total zero bytes (v ∷ vs) rest l (more, to, leads) =
    absurd (omega (arith, l, leads_shorter bytes v more to))
values_past total (suc k) bytes (v ∷ vs) rest l (more, to, leads) =
    let (j, m, is) = values_past total k more vs rest (omega (arith, l, leads_shorter bytes v more to)) leads in (
      j,
      m,
      values_more total k bytes v more (next_read total bytes v more to)
          ∙ ap (λ (o : Result (List Plain) (Fault TextKind)). with_front (v ∷ []) o) is
          ∙ sym (with_front_more (v ∷ []) vs (values_in total j rest)),
    )

values_read : (total k : ℕ) (bytes : List ℕ) (vs : List Plain) → length bytes ≤ k → AreValues bytes vs
    → values_in total k bytes ≡ Ok vs
values_read total k bytes vs l (rest, leads, last) =
    let past = values_past total k bytes vs rest l leads in
    past.2 ∙ ap (λ (o : Result (List Plain) (Fault TextKind)). with_front vs o) (values_end total past.0 rest last)
    ∙ ap (λ (ws : List Plain). Ok ws) (append-nil vs)

values_stop : (total k : ℕ) (bytes : List ℕ) (f : Fault TextKind) → length bytes ≤ k → StopsBehind total bytes f
    → values_in total k bytes ≡ Err f
values_stop total k bytes f l (vs, rest, leads, stops) =
    let past = values_past total k bytes vs rest l leads in
    past.2 ∙ ap (λ (o : Result (List Plain) (Fault TextKind)). with_front vs o) (here past.0 past.1)
  where
    no_bytes : (bytes : List ℕ) → length bytes ≤ 0 → IsLastGap false bytes
    no_bytes [] m = refl
    no_bytes (b ∷ bs) m = absurd (omega (arith, m))

    here : (j : ℕ) → length rest ≤ j → values_in total j rest ≡ Err f
    here zero m = absurd (stops.0 (no_bytes rest m))
    here (suc j) m = values_fail total j rest f (next_fails total rest f stops)

-- ---- whole texts

all_tell : (text : List ℕ) → Told (AreValuesOf text) (ValuesStand text) (text_values text)
unfolding text_values
all_tell text =
    checked_tells (AreValuesOf text) (ValuesStand text) text (values_in (length text) (length text) text)
    (λ u. told_as (AreValues text) (AreValuesOf text) (StopsBehind (length text) text) (ValuesStand text)
    (values_in (length text) (length text) text)
    (values_tell (length text) (length text) text (omega arith)) (λ vs a. (u, a)) (λ f s. inr (u, s.0, s.1, s.2, s.3)))
    (λ n. inl (n, refl))

pub all_found : (text : List ℕ) (vs : List Plain) → text_values text ≡ Ok vs → AreValuesOf text vs
all_found text vs e = told_ok (AreValuesOf text) (ValuesStand text) (text_values text) vs (all_tell text) e

pub all_stand : (text : List ℕ) (f : Fault TextKind) → text_values text ≡ Err f → ValuesStand text f
all_stand text f e = told_err (AreValuesOf text) (ValuesStand text) (text_values text) f (all_tell text) e

pub all_good : (text : List ℕ) → IsUtf8 text → text_values text ≡ values_in (length text) (length text) text
unfolding text_values
all_good text u = checked_good text (values_in (length text) (length text) text) u

pub all_bad : (text : List ℕ) → (IsUtf8 text → ⊥) → text_values text ≡ Err (record { kind = BadUtf8; place = 0 })
unfolding text_values
all_bad text n = checked_bad text (values_in (length text) (length text) text) n

pub all_read : (text : List ℕ) (vs : List Plain) → AreValuesOf text vs → text_values text ≡ Ok vs
all_read text vs (u, are) = all_good text u ∙ values_read (length text) (length text) text vs (omega arith) are

pub all_fail : (text : List ℕ) (f : Fault TextKind) → ValuesStand text f → text_values text ≡ Err f
all_fail text f (inl p) = all_bad text p.0 ∙ ap (λ (x : Fault TextKind). err {A = List Plain} x) (sym p.1)
all_fail text f (inr (u, vs, rest, leads, stops)) =
    all_good text u ∙ values_stop (length text) (length text) text f (omega arith) (vs, rest, leads, stops)

-- ---- the loop

module _ (total : ℕ) (front : List Plain) (bytes : List ℕ) (all : Result (List Plain) (Fault TextKind)) where
  pub all_at_end : (n : ℕ) → with_front front (values_in total n bytes) ≡ all → 0 < n → next_at total bytes ≡ Ok None
      → all ≡ Ok front
  all_at_end zero i h e = absurd (omega (arith, h))
  all_at_end (suc n) i h e =
      sym i ∙ ap (λ (o : Result (List Plain) (Fault TextKind)). with_front front o)
      (values_is total n bytes ∙ ap (λ (o : Result (Option (Plain × List ℕ)) (Fault TextKind)). o >>= values_after total
      n) e)
      ∙ ap (λ (vs : List Plain). Ok vs) (append-nil front)

  pub all_at_fault : (n : ℕ) (f : Fault TextKind) → with_front front (values_in total n bytes) ≡ all → 0 < n
      → next_at total bytes ≡ Err f → all ≡ Err f
  all_at_fault zero f i h e = absurd (omega (arith, h))
  all_at_fault (suc n) f i h e =
      sym i ∙ ap (λ (o : Result (List Plain) (Fault TextKind)). with_front front o) (values_fail total n bytes f e)

pub values_step : (total n m : ℕ) (front new : List Plain) (bytes : List ℕ) (x : Plain) (more : List ℕ)
    (all : Result (List Plain) (Fault TextKind))
    → with_front front (values_in total n bytes) ≡ all → m + 1 ≡ n → next_at total bytes ≡ Ok (Some (x, more))
    → new ≡ front ++ x ∷ []
    → with_front new (values_in total m more) ≡ all
values_step total zero m front new bytes x more all i e r is = absurd (omega (arith, e))
values_step total (suc n) m front new bytes x more all i e r is =
    let k : m ≡ n = omega (arith, e) in
    rw (is, with_front_more front (x ∷ []) (values_in total m more), k, ← values_more total n bytes x more r) i
