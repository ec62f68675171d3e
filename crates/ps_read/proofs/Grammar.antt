-- What a grammar of clauses says of the value, or the clause, that was read last.
use Rattle.std.proofs.Common.{◌≡◌, ◌+◌, ℕ, List, [], ◌∷◌, ◌++◌, length, Bool, true, false, Option, Some, None}
use Rattle.std.proofs.Common.{Result, Ok, Err}
use Rattle.std.proofs.Common.{refl, sym, ap, ◌∙◌, subst, arith, if◌then◌else◌, codes}
use Rattle.std.specs.Prelude.{option_to_list}
use Rattle.std.specs.Result.{IsErrAnd}
use Rattle.pv_value.specs.Plain.{Plain}
use Rattle.ps_schema.specs.Patterns.{PlainPattern}
use Rattle.ps_schema.specs.declared.Definition.{Definition}
use Rattle.ps_read.specs.Answers.{Gives}
use Rattle.ps_read.specs.Pieces.{pieces, begun_with}
use Rattle.ps_read.specs.Written.{is_sign}
use Rattle.ps_read.specs.Clauses.{first_and, pattern_at, with_signs, one_among, all_among, meaning, clause_of}
use Rattle.ps_read.specs.Clauses.{Definitions, defined, unended, before_others, clauses, header, behind_header, headed}
use Rattle.ps_read.specs.Clauses.{definitions_of}
use Rattle.ps_read.specs.declared.faults.Misfit.{Misfit}
use Rattle.ps_read.specs.declared.faults.Misfit.TheVariants.{BadSchema}
use Rattle.ps_read.specs.declared.faults.Stop.{Stop}
use Rattle.ps_read.specs.declared.faults.Stop.TheVariants as s
use Rattle.ps_read.proofs.Firsts.{patterns_first, patterns_push, patterns_all, patterns_misfit}
use Rattle.ps_read.proofs.Firsts.{definitions_first, definitions_push, definitions_misfit}

-- ---- answers that are handed on

-- what stops one reading stops another
pub stops_so : {T U V W : Type 0} (view : T → U) (other : V
    → W) (e : Stop) (r : Result U Misfit) (given : Result W Misfit)
    → ((m : Misfit) → r ≡ Err m → given ≡ Err m) → Gives view (Err e) r → Gives other (Err e) given
stops_so view other s.NoMemory r given f h = tt
stops_so view other (s.At m) r given f h = f m h

pub gives_same : {T U : Type 0} (view : T → U) (answer : Result T Stop) (r given : Result U Misfit) → r ≡ given
    → Gives view answer r → Gives view answer given
gives_same view answer r given e h = subst (λ (x : Result _ Misfit). Gives view answer x) e h

-- an error that `?` hands on
pub handed_on : {T U V W : Type 0} (view : T → U) (other : V → W) (e : Stop) (answer : Result V Stop)
    (r : Result U Misfit) (given : Result W Misfit) → IsErrAnd answer (λ d. d ≡ e)
    → ((m : Misfit) → r ≡ Err m → given ≡ Err m) → Gives view (Err e) r → Gives other answer given
handed_on view other e (Ok x) r given is f h = absurd is
handed_on view other e (Err d) r given is f h =
    subst (λ (a : Stop). Gives other (Err a) given) (sym is) (stops_so view other e r given f h)

pub none_left : (xs : List Plain) → length xs ≡ 0 → xs ≡ []
none_left [] e = refl
none_left (x ∷ xs) e = absurd (omega (arith, e))

-- ---- patterns with signs

signs_begin : (w : List ℕ) (n : ℕ) (v : Plain) (vs : List Plain) (m : Misfit) → pattern_at n v ≡ Err m
    → with_signs w n (v ∷ vs) ≡ Err m
signs_begin w n v [] m e = ap (λ (r : Result PlainPattern Misfit). first_and r (Ok [])) e
signs_begin w n v (s ∷ vs) m e =
    ap (λ (r : Result PlainPattern Misfit). first_and r
    (if is_sign w s then with_signs w (n + 2) vs else Err (BadSchema (n + 1)))) e

pub misfit_stops : (w : List ℕ) (place at : ℕ) (all rest : List Plain) (ps : List PlainPattern) (v : Plain)
    (vs : List Plain)
    (m : Misfit) → patterns_first ps (with_signs w at rest) ≡ with_signs w place all → rest ≡ v ∷ vs
    → pattern_at at v ≡ Err m → with_signs w place all ≡ Err m
misfit_stops w place at all rest ps v vs m inv is e =
    sym inv ∙ ap (λ (xs : List Plain). patterns_first ps (with_signs w at xs)) is
    ∙ ap (patterns_first ps) (signs_begin w at v vs m e) ∙ patterns_misfit ps m

pub last_pattern : (w : List ℕ) (place at : ℕ) (all rest : List Plain) (ps new : List PlainPattern) (v : Plain)
    (vs : List Plain) (p : PlainPattern) → patterns_first ps (with_signs w at rest) ≡ with_signs w place all
    → rest ≡ v ∷ vs
    → vs ≡ [] → pattern_at at v ≡ Ok p → new ≡ ps ++ p ∷ [] → with_signs w place all ≡ Ok new
last_pattern w place at all rest ps new v vs p inv is none e put =
    sym inv ∙ ap (λ (xs : List Plain). patterns_first ps (with_signs w at xs)) (is ∙ ap (λ
    (xs : List Plain). v ∷ xs) none)
    ∙ ap (λ (r : Result PlainPattern Misfit). patterns_first ps (first_and r (Ok []))) e
    ∙ sym (patterns_push ps p (Ok [])) ∙ patterns_all (ps ++ p ∷ [])
    ∙ ap (λ (qs : List PlainPattern). Ok qs) (sym put)

two_signs : (w : List ℕ) (place at : ℕ) (all rest : List Plain) (ps : List PlainPattern) (v s : Plain)
    (us vs : List Plain)
    (p : PlainPattern) (b : Bool) → patterns_first ps (with_signs w at rest) ≡ with_signs w place all → rest ≡ v ∷ us
    → us ≡ s ∷ vs → pattern_at at v ≡ Ok p → is_sign w s ≡ b → with_signs w place all
    ≡ patterns_first ps (first_and (Ok p) (if b then with_signs w (at + 2) vs else Err (BadSchema (at + 1))))
two_signs w place at all rest ps v s us vs p b inv is two e t =
    sym inv ∙ ap (λ (xs : List Plain). patterns_first ps (with_signs w at xs)) (is ∙ ap (λ
    (xs : List Plain). v ∷ xs) two)
    ∙ (λ i. patterns_first ps (first_and (e i) (if t i then with_signs w (at + 2) vs else Err (BadSchema (at + 1)))))

pub wrong_sign : (w : List ℕ) (place at : ℕ) (all rest : List Plain) (ps : List PlainPattern) (v s : Plain)
    (us vs : List Plain)
    (p : PlainPattern) → patterns_first ps (with_signs w at rest) ≡ with_signs w place all → rest ≡ v ∷ us
    → us ≡ s ∷ vs → pattern_at at v ≡ Ok p → is_sign w s ≡ false → with_signs w place all ≡ Err (BadSchema (at + 1))
wrong_sign w place at all rest ps v s us vs p inv is two e t =
    two_signs w place at all rest ps v s us vs p false inv is two e t ∙ patterns_misfit ps (BadSchema (at + 1))

pub right_sign : (w : List ℕ) (place at : ℕ) (all rest : List Plain) (ps new : List PlainPattern) (v s : Plain)
    (us vs : List Plain) (p : PlainPattern) → patterns_first ps (with_signs w at rest) ≡ with_signs w place all
    → rest ≡ v ∷ us
    → us ≡ s ∷ vs → pattern_at at v ≡ Ok p → is_sign w s ≡ true → new ≡ ps ++ p ∷ []
    → patterns_first new (with_signs w (at + 2) vs) ≡ with_signs w place all
right_sign w place at all rest ps new v s us vs p inv is two e t put =
    ap (λ (qs : List PlainPattern). patterns_first qs (with_signs w (at + 2) vs)) put
    ∙ patterns_push ps p (with_signs w (at + 2) vs)
    ∙ sym (two_signs w place at all rest ps v s us vs p true inv is two e t)

pub no_pattern : (w : List ℕ) (place at : ℕ) (all rest : List Plain) (ps : List PlainPattern)
    → patterns_first ps (with_signs w at rest) ≡ with_signs w place all → rest ≡ []
    → with_signs w place all ≡ Err (BadSchema at)
no_pattern w place at all rest ps inv is =
    sym inv ∙ ap (λ (xs : List Plain). patterns_first ps (with_signs w at xs)) is ∙ patterns_misfit ps (BadSchema at)

-- ---- what stands behind `=`

signed : (n : ℕ) (vs us ws : List Plain) (v s : Plain) (b : Bool) → vs ≡ v ∷ us → us ≡ s ∷ ws
    → is_sign (codes "/") s ≡ b → meaning n vs
    ≡ (if b then one_among (with_signs (codes "/") n vs) else all_among (with_signs (codes "&") n vs))
signed n vs us ws v s b is two t =
    ap (meaning n) whole
    ∙ ap (λ (c : Bool). if c then one_among (with_signs (codes "/") n (v ∷ s ∷ ws))
    else all_among (with_signs (codes "&") n (v ∷ s ∷ ws))) t
    ∙ ap (λ (xs : List Plain). if b then one_among (with_signs (codes "/") n xs)
    else all_among (with_signs (codes "&") n xs)) (sym whole)
  where
    whole : vs ≡ v ∷ s ∷ ws
    whole = is ∙ ap (λ (xs : List Plain). v ∷ xs) two

pub either_of : (n : ℕ) (vs us ws : List Plain) (v s : Plain) (r : Result (List PlainPattern) Misfit) → vs ≡ v ∷ us
    → us ≡ s ∷ ws → is_sign (codes "/") s ≡ true → with_signs (codes "/") n vs ≡ r → meaning n vs ≡ one_among r
either_of n vs us ws v s r is two t e = signed n vs us ws v s true is two t ∙ ap one_among e

pub each_of : (n : ℕ) (vs us ws : List Plain) (v s : Plain) (r : Result (List PlainPattern) Misfit) → vs ≡ v ∷ us
    → us ≡ s ∷ ws → is_sign (codes "/") s ≡ false → with_signs (codes "&") n vs ≡ r → meaning n vs ≡ all_among r
each_of n vs us ws v s r is two t e = signed n vs us ws v s false is two t ∙ ap all_among e

-- ---- clauses

-- a clause with others behind it
with_others : (n : ℕ) (c : List Plain) (xs : List Plain) (r : Definitions)
    → before_others n c (pieces (is_sign (codes ".")) xs) r ≡ defined (clause_of n c) r
with_others n c [] r = refl
with_others n c (x ∷ xs) r = by (is_sign (codes ".") x) (pieces (is_sign (codes ".")) xs)
  where
    by : (b : Bool) (ds : List (List Plain))
        → before_others n c (if b then [] ∷ ds else begun_with x ds) r ≡ defined (clause_of n c) r
    by true ds = refl
    by false [] = refl
    by false (d ∷ ds) = refl

abbrev Read : ℕ → ℕ → List Plain → List Plain → List Definition → Type 0
Read place at all rest ds =
    definitions_first ds (clauses at (pieces (is_sign (codes ".")) rest)) ≡ clauses place (pieces (is_sign
    (codes ".")) all)

pub last_clause : (place at : ℕ) (all rest c : List Plain) (ds : List Definition) (r : Definitions)
    → Read place at all rest ds → pieces (is_sign (codes ".")) rest ≡ c ∷ [] → unended at c ≡ r
    → clauses place (pieces (is_sign (codes ".")) all) ≡ definitions_first ds r
last_clause place at all rest c ds r inv is e =
    sym inv ∙ ap (λ (cs : List (List Plain)). definitions_first ds (clauses at cs)) is ∙ ap (definitions_first ds) e

next_clause : (place at : ℕ) (all rest c after : List Plain) (ds : List Definition) (r : Result
    (Option Definition) Misfit)
    → Read place at all rest ds → pieces (is_sign (codes ".")) rest ≡ c ∷ pieces (is_sign (codes ".")) after
    → clause_of at c ≡ r → clauses place (pieces (is_sign (codes ".")) all)
    ≡ definitions_first ds (defined r (clauses (at + length c + 1) (pieces (is_sign (codes ".")) after)))
next_clause place at all rest c after ds r inv is e =
    sym inv ∙ ap (λ (cs : List (List Plain)). definitions_first ds (clauses at cs)) is
    ∙ ap (definitions_first ds)
    (with_others at c after (clauses (at + length c + 1) (pieces (is_sign (codes ".")) after))
    ∙ ap (λ (o : Result (Option Definition) Misfit). defined o
    (clauses (at + length c + 1) (pieces (is_sign (codes ".")) after))) e)

pub bad_clause : (place at : ℕ) (all rest c after : List Plain) (ds : List Definition) (m : Misfit)
    → Read place at all rest ds → pieces (is_sign (codes ".")) rest ≡ c ∷ pieces (is_sign (codes ".")) after
    → clause_of at c ≡ Err m → clauses place (pieces (is_sign (codes ".")) all) ≡ Err m
bad_clause place at all rest c after ds m inv is e =
    next_clause place at all rest c after ds (Err m) inv is e ∙ definitions_misfit ds m

append_none : (ds : List Definition) → ds ++ [] ≡ ds
append_none [] = refl
append_none (d ∷ ds) = ap (λ (es : List Definition). d ∷ es) (append_none ds)

one_more : (ds : List Definition) (o : Option Definition) (r : Definitions)
    → definitions_first (ds ++ option_to_list o) r ≡ definitions_first ds (defined (Ok o) r)
one_more ds None r = ap (λ (es : List Definition). definitions_first es r) (append_none ds)
one_more ds (Some d) r = definitions_push ds d r

pub good_clause : (place at next : ℕ) (all rest c after : List Plain) (ds new : List Definition) (o : Option Definition)
    → Read place at all rest ds → pieces (is_sign (codes ".")) rest ≡ c ∷ pieces (is_sign (codes ".")) after
    → clause_of at c ≡ Ok o → new ≡ ds ++ option_to_list o → next ≡ at + length c + 1 → Read place next all after new
good_clause place at next all rest c after ds new o inv is e put to =
    (λ i. definitions_first (put i) (clauses (to i) (pieces (is_sign (codes ".")) after)))
    ∙ one_more ds o (clauses (at + length c + 1) (pieces (is_sign (codes ".")) after))
    ∙ sym (next_clause place at all rest c after ds (Ok o) inv is e)

-- ---- all values

pub behind_version : (vs head rest : List Plain)
    → pieces (is_sign (codes ".")) vs ≡ head ∷ pieces (is_sign (codes ".")) rest → header head ≡ None
    → clauses (length head + 1) (pieces (is_sign (codes ".")) rest) ≡ definitions_of vs
behind_version vs head rest is e =
    sym (ap headed is ∙ ap (λ (o : Option Misfit). behind_header o head (pieces (is_sign (codes ".")) rest)) e
    ∙ some rest)
  where
    some : (xs : List Plain) → behind_header None head (pieces (is_sign (codes ".")) xs)
        ≡ clauses (length head + 1) (pieces (is_sign (codes ".")) xs)
    some [] = refl
    some (x ∷ xs) = by (is_sign (codes ".") x) (pieces (is_sign (codes ".")) xs)
      where
        by : (b : Bool) (ds : List (List Plain)) → behind_header None head (if b then [] ∷ ds else begun_with x ds)
            ≡ clauses (length head + 1) (if b then [] ∷ ds else begun_with x ds)
        by true ds = refl
        by false [] = refl
        by false (d ∷ ds) = refl
