-- Rows of steps, each of which follows on a reply: which steps they are, and which replies stand before the last.
use Rattle.std.proofs.Common.{◌≡◌, ◌⊎◌, inl, inr, ℕ, zero, suc, ◌<◌, ◌≤◌, List, [], ◌∷◌, ◌++◌, map, replicate}
use Rattle.std.proofs.Common.{true, false, Option, None, Some, IsSome, Result, slice_index_or, length, refl}
use Rattle.std.proofs.Common.{sym, ap, ◌∙◌, subst, arith}
use Rattle.std.specs.Prelude.{MatchResult}
use Rattle.std.specs.List.{AllByRecursion}
use Rattle.hub_machine.specs.declared.steps.Step.{Step}
use Rattle.hub_machine.specs.declared.steps.Step.TheVariants as steps
use Rattle.hub_machine.specs.declared.steps.Reply.{Reply}
use Rattle.hub_machine.specs.declared.steps.Reply.TheVariants as reply
use Rattle.turn_gate.specs.declared.gate.GateFault.{GateFault}
use Rattle.turn_gate.specs.Rows.{IsRow, GoesOn, IsCutRow, StopsIn}
use Rattle.srv_turns.specs.Replies.{CanBeReplied}
use Rattle.srv_turns.specs.Rounds.{Pair, is_taken, is_ran, worked, IsWorkBehind, IsCutRound}
use Rattle.srv_turns.specs.Rows.{further_behind, replies_of, CanAllBeReplied, AreAdded, is_of_peer}
use Rattle.srv_turns.specs.Keeping.{IsDone, IsCut}
use Rattle.srv_turns.specs.declared.committing.Behind.TheVariants.{Work, Turns}
use Rattle.srv_turns.proofs.Replying.{peer_never_ran, work_never_taken}

no_last : {X : Type 0} (front : List X) (x : X) → [] ≡ front ++ x ∷ [] → ⊥
no_last [] x is = cc
no_last (y ∷ front) x is = cc

-- ---- any row

module _ {S R : Type 0} (f : R → Option S) where
  -- what stands behind a step: nothing, or a row where a further step is asked for and there is room
  abbrev pub Rest : ℕ → Option S → List (S × R) → Type 0
  Rest n o ps = (((o ≡ None) ⊎ (n ≡ 0)) × (ps ≡ [])) ⊎ ((t : S) × (o ≡ Some t) × IsRow f n t ps)

  behind : (n : ℕ) (o : Option S) (ps : List (S × R)) → GoesOn f n o ps → Rest n o ps
  behind n None ps none = inl (inl refl, none)
  behind zero (Some s) ps none = inl (inr refl, none)
  behind (suc n) (Some s) ps row = inr (s, refl, row)

  pub rest_of : (n : ℕ) (s : S) (p : S × R) (ps : List (S × R)) → IsRow f (suc n) s (p ∷ ps)
      → (p.0 ≡ s) × Rest n (f p.1) ps
  rest_of n s p ps row = (row.0, behind n (f p.1) ps row.1)

  abbrev pub CutRest : ℕ → Option S → List (S × R) → Type 0
  CutRest n o ps = (t : S) × (o ≡ Some t) × (1 ≤ n) × IsCutRow f n t ps

  cut_behind : (n : ℕ) (o : Option S) (ps : List (S × R)) → StopsIn f n o ps → CutRest n o ps
  cut_behind n None ps cut = absurd cut
  cut_behind zero (Some s) ps cut = absurd cut
  cut_behind (suc n) (Some s) ps cut = (s, refl, omega arith, cut)

  pub cut_rest_of : (n : ℕ) (s : S) (p : S × R) (ps : List (S × R)) → IsCutRow f (suc n) s (p ∷ ps)
      → (p.0 ≡ s) × CutRest n (f p.1) ps
  cut_rest_of n s p ps cut = (cut.0, cut_behind n (f p.1) ps cut.1)

  -- each reply before the last asks for a further step
  abbrev Asks : R → Type 0
  Asks r = IsSome (f r)

  pub asked_before : (n : ℕ) (s : S) (ps : List (S × R)) → IsRow f n s ps → (front : List R) (r : R)
      → map (λ p. p.1) ps ≡ front ++ r ∷ [] → AllByRecursion Asks front
  asked_before zero s ps row front r is =
      absurd (no_last front r (sym (ap (λ (qs : List (S × R)). map (λ q. q.1) qs) row) ∙ is))
  asked_before (suc n) s [] row front r is = absurd row
  asked_before (suc n) s (p ∷ ps) row [] r is = tt
  asked_before (suc n) s (p ∷ ps) row (x ∷ front) r is =
      let same : p.1 ≡ x = cc in
      let more : map (λ (q : S × R). q.1) ps ≡ front ++ r ∷ [] = cc in
      elim (rest_of n s p ps row).1 [
        | inl e ↦ absurd (no_last front r (sym (ap (λ (qs : List (S × R)). map (λ q. q.1) qs) e.1) ∙ more))
        | inr (t, e, others) ↦ (
          subst Asks same (subst IsSome (sym e) refl),
          asked_before n t ps others front r more,
        )
      ]

  pub all_asked : (n : ℕ) (s : S) (ps : List (S × R)) → IsCutRow f n s ps → AllByRecursion Asks (map (λ p. p.1) ps)
  all_asked n s [] cut = tt
  all_asked zero s (p ∷ ps) cut = absurd cut
  all_asked (suc n) s (p ∷ ps) cut =
      let more = (cut_rest_of n s p ps cut).1 in
      (subst IsSome (sym more.1) refl, all_asked n more.0 ps more.3)

  -- where only one step is ever asked for, all are that step
  module _ (s : S) (only : (r : R) (t : S) → f r ≡ Some t → t ≡ s) where
    pub same_steps : (n : ℕ) (t : S) (ps : List (S × R)) → t ≡ s → IsRow f n t ps
        → ps ≡ map (λ r. (s, r)) (map (λ p. p.1) ps)
    same_steps zero t ps is row =
        row ∙ sym (ap (λ (qs : List (S × R)). map (λ x. (s, x)) (map (λ q. q.1) qs)) row)
    same_steps (suc n) t [] is row = absurd row
    same_steps (suc n) t ((e, r) ∷ ps) is row =
        let rest = rest_of n t (e, r) ps row in
        let same : e ≡ s = rest.0 ∙ is in
        elim rest.1 [
          | inl none ↦ (λ i. (same i, r) ∷ none.1 i)
              ∙ sym (ap (λ (qs : List (S × R)). (s, r) ∷ map (λ x. (s, x)) (map (λ q. q.1) qs)) none.1)
          | inr (u, more, others) ↦
              (λ i. (same i, r) ∷ same_steps n u ps (only r u more) others i)
        ]

    pub same_cut_steps : (n : ℕ) (t : S) (ps : List (S × R)) → t ≡ s → IsCutRow f n t ps
        → ps ≡ map (λ r. (s, r)) (map (λ p. p.1) ps)
    same_cut_steps n t [] is cut = refl
    same_cut_steps zero t (p ∷ ps) is cut = absurd cut
    same_cut_steps (suc n) t ((e, r) ∷ ps) is cut =
        let rest = cut_rest_of n t (e, r) ps cut in
        let same : e ≡ s = rest.0 ∙ is in
        (λ i. (same i, r) ∷ same_cut_steps n rest.1.0 ps (only r rest.1.0 rest.1.1) rest.1.3 i)

-- a row with all the room there is, whose replies stand alone
pub whole_room : {X : Type 0} (f : Reply → Option Step) (n : ℕ) (s : Step) (done : Result X GateFault)
    (ps before now : List Pair) (had has : List Reply) → n ≡ 33 → had ≡ []
    → MatchResult done (λ x. IsRow f n s ps) (λ e. IsCutRow f n s ps) → AreAdded ps before now had has
    → MatchResult done (λ x. IsRow f 33 s ps) (λ e. IsCutRow f 33 s ps) × AreAdded ps before now [] has
whole_room {X} f n s done ps before now had has room none row added = (
  subst (λ m. MatchResult done (λ x. IsRow f m s ps) (λ e. IsCutRow f m s ps)) room row,
  subst (λ (rs : List Reply). AreAdded ps before now rs has) none added,
)

-- ---- work

pub only_work : (r : Reply) (t : Step) → further_behind Work r ≡ Some t → t ≡ steps.Work
only_work reply.Taken t is = cc
only_work reply.Ran t is = cc
only_work r t is = absurd cc

pub only_turns : (a : ℕ) (r : Reply) (t : Step) → further_behind (Turns a) r ≡ Some t → t ≡ steps.Turn a
only_turns a (reply.Sent p) t is = cc
only_turns a r t is = absurd cc

ran_or_none : (r : Reply) → is_taken r ≡ false
    → (r ≡ reply.Ran) ⊎ ((further_behind Work r ≡ None) × (is_ran r ≡ false))
ran_or_none reply.Ran not = inl refl
ran_or_none reply.Taken not = absurd cc
ran_or_none r not = inr (refl, refl)

taken_or_none : (r : Reply) → is_ran r ≡ false
    → (r ≡ reply.Taken) ⊎ ((further_behind Work r ≡ None) × (is_taken r ≡ false))
taken_or_none reply.Taken not = inl refl
taken_or_none reply.Ran not = absurd cc
taken_or_none r not = inr (refl, refl)

-- work up to and with the first reply that isn't Ran, so often at most
abbrev pub IsWorkOff : ℕ → List Pair → Type 0
IsWorkOff n ps =
    (rs : List Reply) × (ps ≡ worked rs)
    × ((rs ≡ replicate n reply.Ran)
    ⊎ ((m : ℕ) × (r : Reply) × (m < n) × (is_ran r ≡ false) × (rs ≡ replicate m reply.Ran ++ r ∷ [])))

one_ran : (n : ℕ) (ps : List Pair) → IsWorkOff n ps → IsWorkOff (suc n) ((steps.Work, reply.Ran) ∷ ps)
one_ran n ps (rs, is, inl all) = (
  reply.Ran ∷ rs,
  ap (λ (qs : List Pair). (steps.Work, reply.Ran) ∷ qs) is,
  inl (ap (λ (xs : List Reply). reply.Ran ∷ xs) all),
)
one_ran n ps (rs, is, inr (m, r, few, not, all)) = (
  reply.Ran ∷ rs,
  ap (λ (qs : List Pair). (steps.Work, reply.Ran) ∷ qs) is,
  inr (suc m, r, omega (arith, few), not, ap (λ (xs : List Reply). reply.Ran ∷ xs) all),
)

work_row : (n : ℕ) (t : Step) (ps : List Pair) → t ≡ steps.Work → IsRow (further_behind Work) n t ps
    → CanAllBeReplied ps → IsWorkOff n ps
work_row zero t ps is row can = ([], row, inl refl)
work_row (suc n) t [] is row can = absurd row
work_row (suc n) t ((e, r) ∷ ps) is row can =
    let f = further_behind Work in
    let rest = rest_of f n t (e, r) ps row in
    let same : e ≡ steps.Work = rest.0 ∙ is in
    let not = work_never_taken r (subst (λ x. CanBeReplied x r) same can.0) in
    elim rest.1 [
      | inl none ↦ elim (ran_or_none r not) [
        | inl ran ↦ elim none.0 [
          | inl stops ↦ absurd (cc (ap f ran, stops))
          | inr full ↦ (
            reply.Ran ∷ [],
            (λ i. (same i, ran i) ∷ none.1 i),
            inl (ap (λ (m : ℕ). replicate (suc m) reply.Ran) (sym full)),
          )
        ]
        | inr stops ↦ (
          r ∷ [],
          (λ i. (same i, r) ∷ none.1 i),
          inr (0, r, omega arith, stops.1, refl),
        )
      ]
      | inr (u, more, others) ↦ elim (ran_or_none r not) [
        | inl ran ↦
            subst (IsWorkOff (suc n)) (λ i. (sym same i, sym ran i) ∷ ps)
            (one_ran n ps (work_row n u ps (only_work r u more) others can.1))
        | inr stops ↦ absurd (cc (more, stops.0))
      ]
    ]

-- a step that a peer brings about, and the work behind it
pub round_row : (e : Step) (ps : List Pair) → is_of_peer e ≡ true → IsRow (further_behind Work) 33 e ps
    → CanAllBeReplied ps
    → (r : Reply) × (rs : List Reply) × (ps ≡ (e, r) ∷ worked rs) × IsWorkBehind (is_taken r) rs × CanBeReplied e r
round_row e [] of row can = absurd row
round_row e ((x, r) ∷ ps) of row can =
    let f = further_behind Work in
    let rest = rest_of f 32 e (x, r) ps row in
    let can' : CanBeReplied e r = subst (λ y. CanBeReplied y r) rest.0 can.0 in
    let not = peer_never_ran e r of can' in
    elim rest.1 [
      | inl none ↦ elim (taken_or_none r not) [
        | inl taken ↦ elim none.0 [
          | inl stops ↦ absurd (cc (ap f taken, stops))
          | inr full ↦ absurd (omega (arith, full))
        ]
        | inr stops ↦ (
          r,
          [],
          (λ i. (rest.0 i, r) ∷ none.1 i),
          subst (λ b. IsWorkBehind b []) (sym stops.1) refl,
          can',
        )
      ]
      | inr (u, more, others) ↦ elim (taken_or_none r not) [
        | inl taken ↦
            let off = work_row 32 u ps (only_work r u more) others can.1 in (
              r,
              off.0,
              (λ i. (rest.0 i, r) ∷ off.1 i),
              subst (λ b. IsWorkBehind b off.0) (sym (ap is_taken taken)) off.2,
              can',
            )
        | inr stops ↦ absurd (cc (more, stops.0))
      ]
    ]

cut_work : (n : ℕ) (t : Step) (ps : List Pair) → t ≡ steps.Work → 1 ≤ n → IsCutRow (further_behind Work) n t ps
    → CanAllBeReplied ps → (m : ℕ) × (m < n) × (ps ≡ worked (replicate m reply.Ran))
cut_work n t [] is room cut can = (0, omega (arith, room), refl)
cut_work zero t (p ∷ ps) is room cut can = absurd cut
cut_work (suc n) t ((e, r) ∷ ps) is room cut can =
    let rest = cut_rest_of (further_behind Work) n t (e, r) ps cut in
    let same : e ≡ steps.Work = rest.0 ∙ is in
    let not = work_never_taken r (subst (λ x. CanBeReplied x r) same can.0) in
    elim (ran_or_none r not) [
      | inl ran ↦
          let more = cut_work n rest.1.0 ps (only_work r rest.1.0 rest.1.1) rest.1.2 rest.1.3 can.1 in
          (suc more.0, omega (arith, more.1), (λ i. (same i, ran i) ∷ more.2 i))
      | inr stops ↦ absurd (cc (rest.1.1, stops.0))
    ]

pub cut_round_row : (e : Step) (ps : List Pair) → is_of_peer e ≡ true → IsCutRow (further_behind Work) 33 e ps
    → CanAllBeReplied ps → IsCutRound e ps
cut_round_row e [] of cut can = inl refl
cut_round_row e ((x, r) ∷ ps) of cut can =
    let rest = cut_rest_of (further_behind Work) 32 e (x, r) ps cut in
    let not = peer_never_ran e r of (subst (λ y. CanBeReplied y r) rest.0 can.0) in
    elim (taken_or_none r not) [
      | inl taken ↦
          let more = cut_work 32 rest.1.0 ps (only_work r rest.1.0 rest.1.1) rest.1.2 rest.1.3 can.1 in
          inr (more.0, more.1, (λ i. (rest.0 i, taken i) ∷ more.2 i))
      | inr stops ↦ absurd (cc (rest.1.1, stops.0))
    ]

-- ---- a step of a peer that was done, by its row

module _ (e : Step) (ps before now : List Pair) (has : List Reply) (of : is_of_peer e ≡ true)
    (added : AreAdded ps before now [] has) where
  first_in : (r : Reply) (rs : List Reply) → ps ≡ (e, r) ∷ worked rs → has ≡ r ∷ replies_of (worked rs)
  first_in r rs is = added.replies ∙ ap replies_of is

  pub has_first : IsRow (further_behind Work) 33 e ps → 0 < length has
  has_first row =
      let done = round_row e ps of row added.can in
      subst (λ (xs : List Reply). 0 < length xs) (sym (first_in done.0 done.1 done.2)) (omega arith)

  pub round_done : IsRow (further_behind Work) 33 e ps → (x : Reply) → x ≡ slice_index_or has 0 x
      → IsDone e x before now × CanBeReplied e x
  round_done row x first =
      let done = round_row e ps of row added.can in
      let same : x ≡ done.0 =
      first ∙ ap (λ (xs : List Reply). slice_index_or xs 0 x) (first_in done.0 done.1 done.2) in
      subst (λ r. IsDone e r before now × CanBeReplied e r) (sym same) (
        (done.1, done.3, added.pairs ∙ ap (λ (qs : List Pair). before ++ qs) done.2),
        done.4,
      )

  pub round_cut : IsCutRow (further_behind Work) 33 e ps → IsCut e before now
  round_cut cut = (ps, cut_round_row e ps of cut added.can, added.pairs)
