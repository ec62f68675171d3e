-- The replies of the machine as values: a word, or a record of a number or of a packet.
use Rattle.std.specs.Prelude.{List, ℕ, [], ◌∷◌, map, codes, Option, Some, None}
use Rattle.pv_value.specs.Plain.{Plain, plains, sequence, symbol}
use Rattle.pv_words.specs.Words.{labelled, number}
use Rattle.rl_packet.specs.Packets.{packet_value}
use Rattle.rl_packet.specs.declared.holding.Holding.{Holding}
use Rattle.sc_report.specs.Reports.{holding_value}
use Rattle.hub_machine.specs.Faults.{error_of}
use Rattle.hub_machine.specs.declared.steps.Reply.{Reply}
use Rattle.hub_machine.specs.declared.steps.Reply.TheVariants.{Worn, Barred, Halted, Full, Opened, Gone, Refused, Idle}
use Rattle.hub_machine.specs.declared.steps.Reply.TheVariants.{Sent, Ran, Taken}

abbrev pub reply_value : Reply → Plain
reply_value Worn = symbol (codes "worn")
reply_value Barred = symbol (codes "barred")
reply_value Halted = symbol (codes "halted")
reply_value Full = symbol (codes "full")
reply_value (Opened k) = labelled (codes "opened") (number k ∷ [])
reply_value Gone = symbol (codes "gone")
reply_value (Refused f) = labelled (codes "refused") (packet_value (error_of f) ∷ [])
reply_value Idle = symbol (codes "idle")
reply_value (Sent p) = labelled (codes "sent") (packet_value p ∷ [])
reply_value Ran = symbol (codes "ran")
reply_value Taken = symbol (codes "taken")

-- an actor's number, or none
abbrev pub actor_value : Option ℕ → Plain
actor_value None = symbol (codes "none")
actor_value (Some a) = number a

-- a sequence of `<holds oid handle value>`
abbrev pub holdings_value : List Holding → Plain
holdings_value hs = sequence (plains (map holding_value hs))
