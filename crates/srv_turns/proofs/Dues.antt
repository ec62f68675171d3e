-- What is due behind packets that were read.
use Rattle.std.proofs.Common.{◌≡◌, ℕ, List, [], ◌∷◌, ◌++◌, Bool, false, refl, ap, ◌∙◌, append_assoc}
use Rattle.rl_packet.specs.declared.packets.Packet.{Packet}
use Rattle.rl_packet.specs.declared.packets.Packet.TheVariants as packet
use Rattle.rl_stream.specs.Courses.{StreamCourse, behind}
use Rattle.hub_machine.specs.declared.steps.Step.{Step}
use Rattle.hub_machine.specs.declared.steps.Step.TheVariants as steps
use Rattle.srv_turns.specs.Reading.{has_error, packets_due, last_due, steps_due}

pub error_behind : (ps qs : List Packet) → has_error ps ≡ false → has_error (ps ++ qs) ≡ has_error qs
error_behind [] qs none = refl
error_behind (packet.Turn t ∷ ps) qs none = error_behind ps qs none
error_behind (packet.Error message detail ∷ ps) qs none = absurd cc
error_behind (packet.Nop ∷ ps) qs none = error_behind ps qs none
error_behind (packet.Extension v ∷ ps) qs none = error_behind ps qs none

pub due_behind : (k : ℕ) (ps qs : List Packet) → has_error ps ≡ false
    → packets_due k (ps ++ qs) ≡ packets_due k ps ++ packets_due k qs
due_behind k [] qs none = refl
due_behind k (packet.Turn t ∷ ps) qs none = ap (λ (ss : List Step). steps.Packet k t ∷ ss) (due_behind k ps qs none)
due_behind k (packet.Error message detail ∷ ps) qs none = absurd cc
due_behind k (packet.Nop ∷ ps) qs none = due_behind k ps qs none
due_behind k (packet.Extension v ∷ ps) qs none = due_behind k ps qs none

-- what is due for the packets behind those that were read is due behind what they are due
pub steps_behind : (k : ℕ) (ps : List Packet) (c : StreamCourse) → has_error ps ≡ false
    → steps_due k (behind ps c) ≡ packets_due k ps ++ steps_due k c
steps_behind k ps c none =
    ap (λ (ss : List Step). ss ++ last_due k (has_error (ps ++ c.packets)) c.ends ∷ []) (due_behind k ps c.packets none)
    ∙ ap (λ (b : Bool). (packets_due k ps ++ packets_due k c.packets) ++ last_due k b c.ends ∷ [])
    (error_behind ps c.packets none)
    ∙ append_assoc (packets_due k ps) (packets_due k c.packets) (last_due k (has_error c.packets) c.ends ∷ [])
