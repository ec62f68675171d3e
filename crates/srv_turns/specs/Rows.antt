-- Steps that a session does one behind another, with no other caller's between.
use Rattle.std.specs.Prelude.{◌≡◌, List, [], ◌∷◌, ◌++◌, map, Bool, true, false, Option, None, Some}
use Rattle.std.specs.List.{AllByRecursion}
use Rattle.hub_machine.specs.declared.steps.Step.{Step}
use Rattle.hub_machine.specs.declared.steps.Step.TheVariants as steps
use Rattle.hub_machine.specs.declared.steps.Reply.{Reply}
use Rattle.hub_machine.specs.declared.steps.Reply.TheVariants as reply
use Rattle.srv_turns.specs.Replies.{CanBeReplied}
use Rattle.srv_turns.specs.Rounds.{Pair}
use Rattle.srv_turns.specs.declared.committing.Behind.{Behind}
use Rattle.srv_turns.specs.declared.committing.Behind.TheVariants.{Work, Turns}

-- the step that comes next behind one that got this reply, where one does: work behind a step that was taken and behind
-- work that ran, and a turn of an actor behind one that sent a packet
abbrev pub further_behind : Behind → Reply → Option Step
further_behind Work reply.Taken = Some steps.Work
further_behind Work reply.Ran = Some steps.Work
further_behind (Turns a) (reply.Sent p) = Some (steps.Turn a)
further_behind b r = None

-- the replies of these pairs
abbrev pub replies_of : List Pair → List Reply
replies_of ps = map (λ p. p.1) ps

-- each step got a reply that it can get
abbrev pub CanAllBeReplied : List Pair → Type 0
CanAllBeReplied ps = AllByRecursion (λ p. CanBeReplied p.0 p.1) ps

-- these pairs were done, behind those before, and their replies are added to others
pub record AreAdded (ps before now : List Pair) (had has : List Reply) : Type 0 where
  pub pairs : now ≡ before ++ ps
  pub replies : has ≡ had ++ replies_of ps
  pub can : CanAllBeReplied ps

-- the last step got the reply Idle
abbrev pub IsIdle : List Pair → Type 0
IsIdle ps = (front : List Pair) × (e : Step) × (ps ≡ front ++ (e, reply.Idle) ∷ [])

-- this is the last reply, where there is one
abbrev pub IsLast : List Reply → Option Reply → Type 0
IsLast rs None = rs ≡ []
IsLast rs (Some r) = (front : List Reply) × (rs ≡ front ++ r ∷ [])

-- ---- a step that a peer brings about, by what it sends or by its end

abbrev pub is_of_peer : Step → Bool
is_of_peer (steps.Packet k t) = true
is_of_peer (steps.Bad k f) = true
is_of_peer (steps.Close k) = true
is_of_peer e = false
