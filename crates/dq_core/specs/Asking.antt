-- What the client says. It has two objects of its own: to object 1 the answer for the reference goes, to object 2 what
-- is observed. Syndicate Protocol, "packets", "gatekeeper" and "dataspaces".
use Rattle.std.specs.Prelude.{ℕ, true, List, [], ◌∷◌, codes, Option, None, Some}
use Rattle.pv_value.specs.Plain.{Plain, boolean, sequence, embedded, plains}
use Rattle.pv_words.specs.Words.{labelled, number}
use Rattle.rl_packet.specs.Packets.{spoken}
use Rattle.rl_packet.specs.declared.packets.TurnEvent.{TurnEvent}
use Rattle.rl_packet.specs.declared.packets.Turn.{Turn as TurnRecord}
use Rattle.rl_packet.specs.declared.packets.Dialect.TheVariants.{Newer}
use Rattle.rl_packet.specs.declared.packets.Event.TheVariants.{Assert, Message}

-- `#:[0 n]`, the client's object n
abbrev pub own_reference : ℕ → Plain
own_reference n = embedded (sequence (plains (number 0 ∷ number n ∷ [])))

-- `<word v #:[0 n]>`
abbrev pub asked_with : List ℕ → Plain → ℕ → Plain
asked_with word v n = labelled word (v ∷ own_reference n ∷ [])

-- `[0 <A <resolve REFERENCE #:[0 1]> 1>]`
abbrev pub resolving : Plain → TurnEvent
resolving r = record { oid = 0; event = Assert (asked_with (codes "resolve") r 1) 1 }

-- the first turn
abbrev pub opening : Plain → TurnRecord
opening r = spoken Newer (resolving r ∷ [])

-- `[n <A <Observe PATTERN #:[0 2]> 2>]`
abbrev pub observation : ℕ → Plain → TurnEvent
observation n pattern = record { oid = n; event = Assert (asked_with (codes "Observe") pattern 2) 2 }

-- `[n <M #t>]`
abbrev pub sync_answer : ℕ → TurnEvent
sync_answer n = record { oid = n; event = Message (boolean true) }

-- what is asked for one packet is one turn, in order; where nothing is asked there is none
abbrev pub ask_of : List TurnEvent → Option TurnRecord
ask_of [] = None
ask_of (e ∷ es) = Some (spoken Newer (e ∷ es))
