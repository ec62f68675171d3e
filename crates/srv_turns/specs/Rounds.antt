-- What a session commits: steps with their replies, and behind each step that was taken the work that it makes.
use Rattle.std.specs.Prelude.{◌≡◌, ◌⊎◌, ℕ, ◌<◌, List, [], ◌∷◌, ◌++◌, map, replicate, Bool, true, false}
use Rattle.std.specs.List.{flat_map, AllByRecursion}
use Rattle.hub_machine.specs.declared.steps.Step.{Step}
use Rattle.hub_machine.specs.declared.steps.Step.TheVariants.{Work}
use Rattle.hub_machine.specs.declared.steps.Reply.{Reply}
use Rattle.hub_machine.specs.declared.steps.Reply.TheVariants.{Ran, Taken}

-- a step with its reply
abbrev pub Pair : Type 0
Pair = Step × Reply

abbrev pub is_taken : Reply → Bool
is_taken Taken = true
is_taken r = false

abbrev pub is_ran : Reply → Bool
is_ran Ran = true
is_ran r = false

-- ---- the work behind a step that was taken

-- work steps with these replies
abbrev pub worked : List Reply → List Pair
worked rs = map (λ r. (Work, r)) rs

-- up to and with the first reply that isn't Ran, 32 at most
abbrev pub IsWorkedOff : List Reply → Type 0
IsWorkedOff rs =
    (rs ≡ replicate 32 Ran)
    ⊎ ((n : ℕ) × (r : Reply) × (n < 32) × (is_ran r ≡ false) × (rs ≡ replicate n Ran ++ r ∷ []))

-- behind a step that wasn't taken there is none
abbrev pub IsWorkBehind : Bool → List Reply → Type 0
IsWorkBehind true rs = IsWorkedOff rs
IsWorkBehind false rs = rs ≡ []

-- ---- rounds

-- a step that was done, its reply, and the replies to the work behind it
pub record Round : Type 0 where
  pub step : Step
  pub reply : Reply
  pub work : List Reply

-- all of it was done
abbrev pub IsRound : Round → Type 0
IsRound d = IsWorkBehind (is_taken d.reply) d.work

-- all of it was done, and the step was taken
abbrev pub IsTakenRound : Round → Type 0
IsTakenRound d = (d.reply ≡ Taken) × IsWorkedOff d.work

abbrev pub AreTakenRounds : List Round → Type 0
AreTakenRounds ds = AllByRecursion IsTakenRound ds

abbrev pub step_of : Round → Step
step_of d = d.step

abbrev pub pairs_of : Round → List Pair
pairs_of d = (d.step, d.reply) ∷ worked d.work

abbrev pub pairs_in : List Round → List Pair
pairs_in ds = flat_map pairs_of ds

-- nothing of a step was done, or it was taken and its work was begun
abbrev pub IsCutRound : Step → List Pair → Type 0
IsCutRound e half =
    (half ≡ []) ⊎ ((n : ℕ) × (n < 32) × (half ≡ (e, Taken) ∷ worked (replicate n Ran)))
