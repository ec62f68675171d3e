-- Number 0 is no connection's: the actor that it would have is the system's, and is sent nothing.
use Rattle.std.proofs.Common.{◌≡◌, ℕ, ◌==◌, List, [], ◌∷◌, ◌++◌, Bool, true, false, cond, Option, Some, None, refl, ap}
use Rattle.std.proofs.Common.{◌∙◌, arith}
use Rattle.std.proofs.lemmas.Bool.Decides.{nat_tests}
use Rattle.ac_table.specs.declared.batches.Batch.{Batch}
use Rattle.ac_table.specs.Tables.{is_live, first_batch}
use Rattle.ac_world.specs.declared.turns.Turned.TheVariants as turned
use Rattle.ac_world.specs.Turns.{After as TurnOf, turn_first}
use Rattle.hub_machine.specs.State.{State}
use Rattle.hub_machine.specs.Machine.{After, unchanged, after_turn, turn_of, is_worn, step}
use Rattle.hub_machine.specs.Replays.{packet_in, sent_by, sent_from}
use Rattle.hub_machine.specs.declared.steps.Step.{Step}
use Rattle.hub_machine.specs.declared.steps.Step.TheVariants.{Bind, Watch, Arrive, Packet, Bad, Close, Turn, Work, Stop}
use Rattle.hub_machine.specs.declared.steps.Reply.TheVariants.{Worn}

-- a turn of the system's sends no packet
sixteenth : (s : State) → packet_in (turn_of 16 s).reply ≡ []
sixteenth s = by (is_live 16 s.world.table) (first_batch 16 s.world.table)
  where
    none : TurnOf
    none = record { world = s.world; turned = turned.Gone }

    after_this : TurnOf → After
    after_this t = after_turn 16 t.turned (record s { world = t.world })

    by : (c : Bool) (o : Option Batch) → packet_in (after_this (cond c (turn_first 16 o s.world) none)).reply ≡ []
    by false o = refl
    by true None = refl
    by true (Some b) = refl

own_unsent : (a : ℕ) (s : State) (b : Bool) → (a == 16) ≡ b → cond b (packet_in (step s (Turn a)).reply) [] ≡ []
own_unsent a s true is =
    let one : a ≡ 16 = grind (arith, nat_tests, is) in
    ap (λ c. packet_in (step s (Turn c)).reply) one ∙ by (is_worn s (Turn 16))
  where
    by : (c : Bool) → packet_in (cond c (unchanged s Worn) (turn_of 16 s)).reply ≡ []
    by true = refl
    by false = sixteenth s
own_unsent a s false is = refl

step_unsent : (s : State) (e : Step) → sent_by 0 e (step s e).reply ≡ []
step_unsent s (Bind b) = refl
step_unsent s (Watch x) = refl
step_unsent s (Arrive space) = refl
step_unsent s (Packet k es) = refl
step_unsent s (Bad k f) = refl
step_unsent s (Close k) = refl
step_unsent s (Turn a) = own_unsent a s (a == 16) refl
step_unsent s Work = refl
step_unsent s Stop = refl

pub zeroth_unsent : (s : State) (es : List Step) → sent_from s 0 es ≡ []
zeroth_unsent s [] = refl
zeroth_unsent s (e ∷ es) =
    ap (λ ps. ps ++ sent_from (step s e).state 0 es) (step_unsent s e) ∙ zeroth_unsent (step s e).state es
