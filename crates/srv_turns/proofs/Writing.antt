-- What a writer has gathered and put: one reply more, and one piece more.
use Rattle.std.proofs.Common.{◌≡◌, inl, inr, ℕ, ◌+◌, List, [], ◌∷◌, ◌++◌, length, take, drop, get_or, Bool, true}
use Rattle.std.proofs.Common.{◌<◌, ◌≤◌}
use Rattle.std.proofs.Common.{Option, None, Some, IfSome, IsSome, Result, Ok, Err, refl, sym}
use Rattle.std.proofs.Common.{ap, ◌∙◌, subst, append_assoc}
use Rattle.std.proofs.Common.{length-append, arith}
use Rattle.std.specs.Prelude.{MatchResult}
use Rattle.std.specs.List.{AllByRecursion}
use Rattle.std.proofs.lemmas.Grind.{flat_map-append}
use Rattle.std.proofs.lemmas.List.{append-nil, map-append, take-append-le, take-append-drop, take_more, flat_map_more}
use Rattle.std.proofs.Math.Seq.{take-append_seam, take-append-add, take-add}
use Rattle.out_ports.specs.Ports.{Appends, AppendsFront}
use Rattle.hub_machine.specs.declared.steps.Step.{Step}
use Rattle.hub_machine.specs.declared.steps.Step.TheVariants.{Turn, Close}
use Rattle.hub_machine.specs.declared.steps.Reply.{Reply}
use Rattle.hub_machine.specs.declared.steps.Reply.TheVariants as reply
use Rattle.turn_gate.specs.Rows.{IsRow, IsCutRow}
use Rattle.turn_gate.specs.declared.gate.GateFault.{GateFault}
use Rattle.turn_gate.specs.declared.gate.GateFault.TheVariants as gate
use Rattle.srv_turns.specs.Rounds.{Pair, worked}
use Rattle.srv_turns.specs.Rows.{further_behind, replies_of, AreAdded, IsIdle, IsLast}
use Rattle.srv_turns.specs.Keeping.{IsCut}
use Rattle.srv_turns.specs.Writing.{turned, spelled_of, spelled_in, is_for_more_turns, AreForMoreTurns, IsLastTurn}
use Rattle.srv_turns.specs.Writing.{AreTurns, AreTurned, IsCutClosing, HasWritten}
use Rattle.srv_turns.specs.Gathering.{IsGathered, IsPaused, IsShut, after_turn, after_row, end_at}
use Rattle.srv_turns.specs.declared.committing.Behind.TheVariants.{Turns}
use Rattle.srv_turns.specs.declared.writer.WriterEnd.{WriterEnd}
use Rattle.srv_turns.specs.declared.writer.WriterEnd.TheVariants as end
use Rattle.srv_turns.specs.declared.writer.Pause.{Pause}
use Rattle.srv_turns.specs.declared.writer.Pause.TheVariants.{Full, Idle, Over}
use Rattle.ac_world.specs.Lemmas.Entries.{all_append}
use Rattle.srv_turns.proofs.Pairs.{all_snoc}
use Rattle.srv_turns.proofs.Following.{asked_before, all_asked, same_steps, same_cut_steps, only_turns}

-- ---- turns

pub turned_both : (k : ℕ) (rs ss : List Reply) (before mid now : List Pair) → AreTurned k rs before mid
    → AreTurned k ss mid now → AreTurned k (rs ++ ss) before now
turned_both k rs ss before mid now e f =
    f ∙ ap (λ (ps : List Pair). ps ++ turned k ss) e ∙ append_assoc before (turned k rs) (turned k ss)
    ∙ ap (λ (ps : List Pair). before ++ ps) (sym (map-append (λ (r : Reply). (Turn (16 + k), r)) rs ss))

pub spelled_both : (rs ss : List Reply) → spelled_in (rs ++ ss) ≡ spelled_in rs ++ spelled_in ss
spelled_both rs ss = flat_map-append spelled_of rs ss

pub spelled_one : (r : Reply) → spelled_in (r ∷ []) ≡ spelled_of r
spelled_one r = append-nil (spelled_of r)

pub last_behind : (rs ss : List Reply) (r : Reply) → AreForMoreTurns rs → IsLastTurn ss r → IsLastTurn (rs ++ ss) r
last_behind rs ss r more (front, goes, is) = (
  rs ++ front,
  all_append _ rs front more goes,
  ap (λ (xs : List Reply). rs ++ xs) is ∙ sym (append_assoc rs front (r ∷ [])),
)

-- ---- the replies of a row are gathered, one behind another

pub gathered_more : (rs : List Reply) (i : ℕ) (r : Reply) (start old new : List ℕ) → i < length rs → r ≡ get_or rs i r
    → old ≡ start ++ spelled_in (take i rs) → new ≡ old ++ spelled_of r → new ≡ start ++ spelled_in (take (i + 1) rs)
gathered_more rs i r start old new few at before e =
    e ∙ ap (λ (xs : List ℕ). xs ++ spelled_of r) before ∙ flat_map_more spelled_of start (take i rs) r
    ∙ ap (λ (xs : List Reply). start ++ spelled_in xs)
    (ap (λ (x : Reply). take i rs ++ x ∷ []) at ∙ sym (take_more rs i r few))

pub gathered_front : (rs : List Reply) (i : ℕ) (start now : List ℕ) → now ≡ start ++ spelled_in (take i rs)
    → (bytes rest : List ℕ) × (now ≡ start ++ bytes) × (spelled_in rs ≡ bytes ++ rest)
gathered_front rs i start now is = (
  spelled_in (take i rs),
  spelled_in (drop i rs),
  is,
  sym (ap spelled_in (take-append-drop i rs)) ∙ spelled_both (take i rs) (drop i rs),
)

-- ---- one row more

asked_one : (k : ℕ) (r : Reply) → IsSome (further_behind (Turns (16 + k)) r) → is_for_more_turns r ≡ true
asked_one k reply.Gone is = absurd cc
asked_one k reply.Worn is = absurd cc
asked_one k r is = refl

-- what a row of turns is
module _ (k : ℕ) (ps before now : List Pair) (has : List Reply) (added : AreAdded ps before now [] has) where
  abbrev asks : Reply → Option Step
  asks = further_behind (Turns (16 + k))

  asked_goes : (rs : List Reply) → AllByRecursion (λ r. IsSome (asks r)) rs → AreForMoreTurns rs
  asked_goes [] all = tt
  asked_goes (r ∷ rs) all = (asked_one k r all.0, asked_goes rs all.1)

  pub row_turned : IsRow asks 33 (Turn (16 + k)) ps → AreTurned k has before now
  row_turned row =
      added.pairs
      ∙ ap (λ (qs : List Pair). before ++ qs)
      (same_steps asks (Turn (16 + k)) (only_turns (16 + k)) 33 (Turn (16 + k)) ps refl row
      ∙ ap (turned k) (sym added.replies))

  pub cut_turned : IsCutRow asks 33 (Turn (16 + k)) ps → AreTurned k has before now
  cut_turned cut =
      added.pairs
      ∙ ap (λ (qs : List Pair). before ++ qs)
      (same_cut_steps asks (Turn (16 + k)) (only_turns (16 + k)) 33 (Turn (16 + k)) ps refl cut
      ∙ ap (turned k) (sym added.replies))

  pub cut_goes : IsCutRow asks 33 (Turn (16 + k)) ps → AreForMoreTurns has
  cut_goes cut =
      subst AreForMoreTurns (sym added.replies)
      (asked_goes (replies_of ps) (all_asked asks 33 (Turn (16 + k)) ps cut))

  pub both_turned : {X : Type 0} (done : Result X GateFault) → MatchResult done (λ _. IsRow asks 33 (Turn (16 + k)) ps)
      (λ e. IsCutRow asks 33 (Turn (16 + k)) ps) → AreTurned k has before now
  both_turned {X} (Ok x) row = row_turned row
  both_turned {X} (Err e) cut = cut_turned cut

  last_turn : IsRow asks 33 (Turn (16 + k)) ps → (front : List Reply) (r : Reply) → has ≡ front ++ r ∷ []
      → IsLastTurn has r
  last_turn row front r is = (
    front,
    asked_goes front (asked_before asks 33 (Turn (16 + k)) ps row front r (sym added.replies ∙ is)),
    is,
  )

  pub row_turns : {X : Type 0} (done : Result X GateFault) → MatchResult done (λ _. IsRow asks 33 (Turn (16 + k)) ps)
      (λ e. IsCutRow asks 33 (Turn (16 + k)) ps) → (last : Option Reply) → IsLast has last → AreTurns has
  row_turns {X} (Ok x) row None none = inl (subst AreForMoreTurns (sym none) tt)
  row_turns {X} (Ok x) row (Some r) (front, is) = inr (r, last_turn row front r is)
  row_turns {X} (Err e) cut last is = inl (cut_goes cut)

  module _ (old new : List ℕ) (spent : Bool) where
    last_gathered : (r : Reply) → IsLastTurn has r → new ≡ old ++ spelled_in has
        → IsGathered has old new spent (after_turn r)
    last_gathered reply.Idle last is = (spelled_in has, is, (last, refl))
    last_gathered reply.Gone last is = (spelled_in has, is, (last, refl))
    last_gathered reply.Worn last is = (spelled_in has, is, (last, refl))
    last_gathered r (front, goes, all) is =
        (subst AreForMoreTurns (sym all) (all_snoc (λ x. is_for_more_turns x ≡ true) front r goes refl), is)

    pub row_gathered : IsRow asks 33 (Turn (16 + k)) ps → (last : Option Reply) → IsLast has last
        → new ≡ old ++ spelled_in has → IsGathered has old new spent (after_row last)
    row_gathered row None none is = (subst AreForMoreTurns (sym none) tt, is)
    row_gathered row (Some r) (front, all) is = last_gathered r (last_turn row front r all) is

    pub cut_gathered : (f : GateFault) → IsCutRow asks 33 (Turn (16 + k)) ps → (f ≡ gate.Spent → spent ≡ true)
        → new ≡ old ++ spelled_in has → IsGathered has old new spent (Some (Over (end_at f)))
    cut_gathered gate.Spent cut cause is = (spelled_in has, is, (cut_goes cut, refl, cause refl))
    cut_gathered gate.NoMemory cut cause is =
        (spelled_in has, is, (inl (cut_goes cut), ([], sym (append-nil (spelled_in has)))))

-- behind what is gathered
module _ (rs ss : List Reply) (old new : List ℕ) (more : AreForMoreTurns rs) (is : old ≡ spelled_in rs) where
  bytes_on : (bytes : List ℕ) → new ≡ old ++ bytes → new ≡ spelled_in rs ++ bytes
  bytes_on bytes e = e ∙ ap (λ (xs : List ℕ). xs ++ bytes) is

  all_on : (bytes : List ℕ) → new ≡ old ++ bytes → bytes ≡ spelled_in ss → new ≡ spelled_in (rs ++ ss)
  all_on bytes e all =
      bytes_on bytes e ∙ ap (λ (xs : List ℕ). spelled_in rs ++ xs) all ∙ sym (spelled_both rs ss)

  turns_on : AreTurns ss → AreTurns (rs ++ ss)
  turns_on (inl goes) = inl (all_append _ rs ss more goes)
  turns_on (inr (r, last)) = inr (r, last_behind rs ss r more last)

  pub goes_on_with : (spent : Bool) → IsGathered ss old new spent None
      → AreForMoreTurns (rs ++ ss) × (new ≡ spelled_in (rs ++ ss))
  goes_on_with spent (goes, e) = (all_append _ rs ss more goes, all_on (spelled_in ss) e refl)

  pub pauses : (spent : Bool) (p : Pause) → IsGathered ss old new spent (Some p) → IsPaused (rs ++ ss) new spent p
  pauses spent Full (bytes, e, (goes, all)) = (all_append _ rs ss more goes, all_on bytes e all)
  pauses spent Idle (bytes, e, (last, all)) = (last_behind rs ss reply.Idle more last, all_on bytes e all)
  pauses spent (Over end.Ended) (bytes, e, (last, all)) = (last_behind rs ss reply.Gone more last, all_on bytes e all)
  pauses spent (Over end.Worn) (bytes, e, (last, all)) = (last_behind rs ss reply.Worn more last, all_on bytes e all)
  pauses spent (Over end.Spent) (bytes, e, (goes, all, so)) =
      (all_append _ rs ss more goes, all_on bytes e all, so)
  pauses spent (Over end.NoMemory) (bytes, e, (turns, (rest, all))) = (
    turns_on turns,
    (
      rest,
      spelled_both rs ss ∙ ap (λ (xs : List ℕ). spelled_in rs ++ xs) all
          ∙ sym (append_assoc (spelled_in rs) bytes rest)
          ∙ ap (λ (xs : List ℕ). xs ++ rest) (sym (bytes_on bytes e)),
    ),
  )
  pauses spent (Over end.WriteFault) (bytes, e, never) = absurd never

-- nothing waits
pub idle_on : (rs : List Reply) (bytes : List ℕ) (spent : Bool) → IsPaused rs bytes spent Idle
    → AreForMoreTurns rs × (bytes ≡ spelled_in rs)
idle_on rs bytes spent ((front, goes, is), all) =
    (subst AreForMoreTurns (sym is) (all_snoc (λ x. is_for_more_turns x ≡ true) front reply.Idle goes refl), all)

pub idle_pairs : (k : ℕ) (rs : List Reply) (before now : List Pair) → AreTurned k rs before now
    → IsLastTurn rs reply.Idle → IsIdle now
idle_pairs k rs before now made (front, goes, is) = (
  before ++ turned k front,
  Turn (16 + k),
  made
      ∙ ap (λ (xs : List Reply). before ++ turned k xs) is
      ∙ ap (λ (ps : List Pair). before ++ ps) (map-append (λ (r : Reply). (Turn (16 + k), r)) front (reply.Idle ∷ []))
      ∙ sym (append_assoc before (turned k front) ((Turn (16 + k), reply.Idle) ∷ [])),
)

-- steps that were spent still are
pub still_paused : (rs : List Reply) (bytes : List ℕ) (was spent : Bool) (p : Pause) → (was ≡ true → spent ≡ true)
    → IsPaused rs bytes was p → IsPaused rs bytes spent p
still_paused rs bytes was spent Full still p = p
still_paused rs bytes was spent Idle still p = p
still_paused rs bytes was spent (Over end.Ended) still p = p
still_paused rs bytes was spent (Over end.Worn) still p = p
still_paused rs bytes was spent (Over end.Spent) still (goes, all, so) = (goes, all, still so)
still_paused rs bytes was spent (Over end.NoMemory) still p = p
still_paused rs bytes was spent (Over end.WriteFault) still p = p

-- ---- bytes that are put

pub appends_both : (held mid holds : Option (List ℕ)) (a b : List ℕ) → Appends held mid a → Appends mid holds b
    → Appends held holds (a ++ b)
appends_both None mid holds a b first then = tt
appends_both (Some xs) mid holds a b first then =
    subst (λ o. IfSome o (λ ys. holds ≡ Some (ys ++ b))) first then ∙ ap Some (append_assoc xs a b)

pub appends_nothing : (held : Option (List ℕ)) → Appends held held []
appends_nothing None = tt
appends_nothing (Some xs) = ap Some (sym (append-nil xs))

-- one piece more of the bytes
pub piece_put : (held mid holds : Option (List ℕ)) (bytes piece : List ℕ) (at n : ℕ) → Appends held mid (take at bytes)
    → Appends mid holds (take n piece) → piece ≡ drop at bytes → Appends held holds (take (at + n) bytes)
piece_put held mid holds bytes piece at n first then is =
    subst (Appends held holds) (sym (take-add at n bytes))
    (appends_both held mid holds (take at bytes) (take n (drop at bytes)) first
    (subst (λ (xs : List ℕ). Appends mid holds (take n xs)) is then))

-- nothing of a piece
pub none_put : (held holds : Option (List ℕ)) → holds ≡ held → Appends held holds []
none_put held holds same = subst (λ o. Appends held o []) (sym same) (appends_nothing held)

-- a front of the bytes
pub front_put : (held mid holds : Option (List ℕ)) (bytes : List ℕ) (at : ℕ) → at ≤ length bytes
    → Appends held mid (take at bytes) → holds ≡ mid → AppendsFront held holds bytes
front_put held mid holds bytes at few put same =
    (at, few, subst (λ o. Appends held o (take at bytes)) (sym same) put)

-- a front of what is put behind all that was put before
pub appends_front : (held mid holds : Option (List ℕ)) (a b whole : List ℕ) → Appends held mid a
    → AppendsFront mid holds b → whole ≡ a ++ b → AppendsFront held holds whole
appends_front held mid holds a b whole first (n, few, then) is = (
  length a + n,
  omega (arith, length-append a b, ap (λ (xs : List ℕ). length xs) is),
  subst (Appends held holds)
      (sym (ap (λ (xs : List ℕ). take (length a + n) xs) is ∙ take-append-add a b n))
      (appends_both held mid holds a (take n b) first then),
)

pub front_of_more : (held holds : Option (List ℕ)) (b rest whole : List ℕ) → AppendsFront held holds b
    → whole ≡ b ++ rest → AppendsFront held holds whole
front_of_more held holds b rest whole (n, few, then) is = (
  n,
  omega (arith, length-append b rest, ap (λ (xs : List ℕ). length xs) is),
  subst (Appends held holds) (sym (ap (λ (xs : List ℕ). take n xs) is ∙ take-append-le n b rest few)) then,
)

pub whole_front : (held holds : Option (List ℕ)) (b rest whole : List ℕ) → Appends held holds b → whole ≡ b ++ rest
    → AppendsFront held holds whole
whole_front held holds b rest whole put is = (
  length b,
  omega (arith, length-append b rest, ap (λ (xs : List ℕ). length xs) is),
  subst (Appends held holds) (sym (ap (λ (xs : List ℕ). take (length b) xs) is ∙ take-append_seam b rest)) put,
)

-- ---- what was gathered is put

pub paused_on : (rs : List Reply) (bytes : List ℕ) (spent : Bool) (p : Pause) → IsPaused rs bytes spent p
    → (rest : List ℕ) × (spelled_in rs ≡ bytes ++ rest)
paused_on rs bytes spent Full p = ([], sym p.1 ∙ sym (append-nil bytes))
paused_on rs bytes spent Idle p = ([], sym p.1 ∙ sym (append-nil bytes))
paused_on rs bytes spent (Over end.Ended) p = ([], sym p.1 ∙ sym (append-nil bytes))
paused_on rs bytes spent (Over end.Worn) p = ([], sym p.1 ∙ sym (append-nil bytes))
paused_on rs bytes spent (Over end.Spent) p = ([], sym p.1 ∙ sym (append-nil bytes))
paused_on rs bytes spent (Over end.NoMemory) p = p.1
paused_on rs bytes spent (Over end.WriteFault) p = absurd p

module _ (k : ℕ) (rs ss : List Reply) (before mid now : List Pair) (more : AreForMoreTurns rs)
    (made : AreTurned k rs before mid) (makes : AreTurned k ss mid now) (bytes : List ℕ) (spent : Bool)
    (held puts holds : Option (List ℕ)) (put : Appends held puts (spelled_in rs)) where
  abbrev goes : Reply → Type 0
  goes r = is_for_more_turns r ≡ true

  all_made : AreTurned k (rs ++ ss) before now
  all_made = turned_both k rs ss before mid now made makes

  behind_last : (r : Reply) → IsLastTurn ss r → IsLastTurn (rs ++ ss) r
  behind_last r last = last_behind rs ss r more last

  are_turns : (p : Pause) → IsPaused ss bytes spent p → AreTurns (rs ++ ss)
  are_turns Full p = inl (all_append goes rs ss more p.0)
  are_turns Idle p = inr (reply.Idle, behind_last reply.Idle p.0)
  are_turns (Over end.Ended) p = inr (reply.Gone, behind_last reply.Gone p.0)
  are_turns (Over end.Worn) p = inr (reply.Worn, behind_last reply.Worn p.0)
  are_turns (Over end.Spent) p = inl (all_append goes rs ss more p.0)
  are_turns (Over end.NoMemory) (inl p, rest) = inl (all_append goes rs ss more p)
  are_turns (Over end.NoMemory) (inr (r, last), rest) = inr (r, behind_last r last)
  are_turns (Over end.WriteFault) p = absurd p

  -- all of it was put
  module _ (then : Appends puts holds bytes) where
    all_put : bytes ≡ spelled_in ss → Appends held holds (spelled_in (rs ++ ss))
    all_put is =
        subst (Appends held holds)
        (ap (λ (xs : List ℕ). spelled_in rs ++ xs) is ∙ sym (spelled_both rs ss))
        (appends_both held puts holds (spelled_in rs) bytes put then)

    pub puts_on : AreForMoreTurns ss × (bytes ≡ spelled_in ss)
        → AreForMoreTurns (rs ++ ss) × AreTurned k (rs ++ ss) before now × Appends held holds (spelled_in (rs ++ ss))
    puts_on p = (all_append goes rs ss more p.0, all_made, all_put p.1)

    pub put_over : (x : WriterEnd) → IsPaused ss bytes spent (Over x)
        → HasWritten k (rs ++ ss) before now spent held holds x
    put_over end.Ended p = (behind_last reply.Gone p.0, all_made, all_put p.1)
    put_over end.Worn p = (behind_last reply.Worn p.0, all_made, all_put p.1)
    put_over end.Spent p = (all_append goes rs ss more p.0, all_made, all_put p.1, p.2)
    put_over end.NoMemory p = (
      are_turns (Over end.NoMemory) p,
      ([], inl refl, all_made ∙ sym (append-nil (before ++ turned k (rs ++ ss)))),
      whole_front held holds (spelled_in rs ++ bytes) p.1.0 (spelled_in (rs ++ ss))
          (appends_both held puts holds (spelled_in rs) bytes put then)
          (spelled_both rs ss ∙ ap (λ (xs : List ℕ). spelled_in rs ++ xs) p.1.1
          ∙ sym (append_assoc (spelled_in rs) bytes p.1.0)),
    )
    put_over end.WriteFault p = absurd p

  cut_closing : (shut : List Pair) → IsCut (Close k) now shut → IsCutClosing k (rs ++ ss) before shut
  cut_closing shut (half, cut, is) = (half, cut, is ∙ ap (λ (ps : List Pair). ps ++ half) all_made)

  -- a front of it was put, and then the link failed
  failed_end : (shut : List Pair) (is_spent : Bool) (x : WriterEnd) → AreTurns (rs ++ ss)
      → AppendsFront held holds (spelled_in (rs ++ ss)) → IsShut k now shut is_spent x
      → HasWritten k (rs ++ ss) before shut is_spent held holds x
  failed_end shut is_spent end.WriteFault turns front (inl (r, (work, off, is))) = (
    turns,
    inl (r, work, off, is ∙ ap (λ (ps : List Pair). ps ++ (Close k, r) ∷ worked work) all_made),
    front,
  )
  failed_end shut is_spent end.WriteFault turns front (inr (cut, all)) = (turns, inr (cut_closing shut cut, all), front)
  failed_end shut is_spent end.NoMemory turns front cut = (turns, cut_closing shut cut, front)
  failed_end shut is_spent end.Ended turns front closes = absurd closes
  failed_end shut is_spent end.Worn turns front closes = absurd closes
  failed_end shut is_spent end.Spent turns front closes = absurd closes

  pub put_failed : (p : Pause) → IsPaused ss bytes spent p → AppendsFront puts holds bytes → (shut : List Pair)
      (is_spent : Bool) (x : WriterEnd) → IsShut k now shut is_spent x
      → HasWritten k (rs ++ ss) before shut is_spent held holds x
  put_failed p paused then shut is_spent x closes =
      let on = paused_on ss bytes spent p paused in
      let front : AppendsFront held holds (spelled_in (rs ++ ss)) =
      appends_front held puts holds (spelled_in rs) (spelled_in ss) (spelled_in (rs ++ ss)) put
      (front_of_more puts holds bytes on.0 (spelled_in ss) then on.1) (spelled_both rs ss) in
      failed_end shut is_spent x (are_turns p paused) front closes

-- nothing was done, for want of memory
pub nothing_written : (k : ℕ) (before : List Pair) (spent : Bool) (held : Option (List ℕ))
    → HasWritten k [] before before spent held held end.NoMemory
nothing_written k before spent held = (
  inl tt,
  ([], inl refl, sym (append-nil before) ∙ sym (append-nil (before ++ []))),
  (0, omega arith, appends_nothing held),
)
