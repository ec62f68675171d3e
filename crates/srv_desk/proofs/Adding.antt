-- What one step more adds to what a desk has done.
use Rattle.std.proofs.Common.{◌≡◌, ◌⊎◌, inl, inr, ℕ, Bool, true, List, [], ◌∷◌, ◌++◌, Option, None, Some, ap, ◌∙◌}
use Rattle.std.proofs.Common.{append-nil}
use Rattle.std.proofs.lemmas.Grind.{flat_map-append}
use Rattle.hub_machine.specs.declared.steps.Step.{Step}
use Rattle.hub_machine.specs.declared.steps.Step.TheVariants.{Arrive, Close}
use Rattle.hub_machine.specs.declared.steps.Reply.{Reply}
use Rattle.hub_machine.specs.declared.steps.Reply.TheVariants.{Opened}
use Rattle.srv_turns.specs.Rounds.{Pair}
use Rattle.srv_desk.specs.Desks.{IsAnswered, IsDone, HasCome, listed, opened_by, closed_by, opened_in, closed_in}

opened_more : (before : List Pair) (e : Step) (r : Reply)
    → opened_in (before ++ (e, r) ∷ []) ≡ opened_in before ++ opened_by e r
opened_more before e r =
    flat_map-append (λ (p : Pair). opened_by p.0 p.1) before ((e, r) ∷ [])
    ∙ ap (λ ns. opened_in before ++ ns) (append-nil (opened_by e r))

closed_more : (before : List Pair) (e : Step) (r : Reply)
    → closed_in (before ++ (e, r) ∷ []) ≡ closed_in before ++ closed_by e
closed_more before e r =
    flat_map-append (λ (p : Pair). closed_by p.0) before ((e, r) ∷ [])
    ∙ ap (λ ns. closed_in before ++ ns) (append-nil (closed_by e))

-- ---- an arrival

pub one_opened : (k : ℕ) (before now : List Pair) (spent : Bool) → HasCome (Some k) before now spent
    → opened_in now ≡ opened_in before ++ k ∷ []
one_opened k before now spent come = ap opened_in come.0 ∙ opened_more before (Arrive 0) (Opened k)

pub none_opened : (before now : List Pair) (spent : Bool) → HasCome None before now spent
    → opened_in now ≡ opened_in before
none_opened before now spent (None, is, done) = ap opened_in done.0
none_opened before now spent (Some r, is, done) =
    ap opened_in done ∙ opened_more before (Arrive 0) r ∙ ap (λ o. opened_in before ++ listed o) is
    ∙ append-nil (opened_in before)

closed_at : (answer : Option Reply) (before now : List Pair) (spent : Bool)
    → IsAnswered (Arrive 0) answer before now spent → closed_in now ≡ closed_in before
closed_at None before now spent done = ap closed_in done.0
closed_at (Some r) before now spent done =
    ap closed_in done ∙ closed_more before (Arrive 0) r ∙ append-nil (closed_in before)

pub none_closed : (o : Option ℕ) (before now : List Pair) (spent : Bool) → HasCome o before now spent
    → closed_in now ≡ closed_in before
none_closed (Some k) before now spent come = closed_at (Some (Opened k)) before now spent come.0
none_closed None before now spent come = closed_at come.0 before now spent come.2

-- what an arrival adds
pub ruleset welcomes = (one_opened, none_opened, none_closed)

-- ---- a close

pub one_closed : (k : ℕ) (before now : List Pair) (spent : Bool) → IsDone (Close k) before now spent
    → (closed_in now ≡ closed_in before ++ k ∷ []) ⊎ ((closed_in now ≡ closed_in before) × (spent ≡ true))
one_closed k before now spent (Some r, done) = inl (ap closed_in done ∙ closed_more before (Close k) r)
one_closed k before now spent (None, done) = inr (ap closed_in done.0, done.1)

pub still_opened : (k : ℕ) (before now : List Pair) (spent : Bool) → IsDone (Close k) before now spent
    → opened_in now ≡ opened_in before
still_opened k before now spent (Some r, done) =
    ap opened_in done ∙ opened_more before (Close k) r ∙ append-nil (opened_in before)
still_opened k before now spent (None, done) = ap opened_in done.0
