-- The script of a load: how its numbers are drawn, what each item asserts, and in which order it goes.
use Rattle.std.specs.Prelude.{ℕ, zero, suc, ◌+◌, ◌-◌, ◌*◌, ◌/◌, ◌%◌, ◌^◌, min, List, [], ◌∷◌, ◌++◌, codes}
use Rattle.std.specs.List.{flat_map}
use Rattle.pv_value.specs.Plain.{Plain, byte_string, symbol, sequence, dictionary, embedded, plains, pairs}
use Rattle.pv_words.specs.Words.{labelled, number}
use Rattle.pv_binary.specs.Written.{written}
use Rattle.rl_packet.specs.Packets.{packet_value, spoken}
use Rattle.rl_packet.specs.declared.packets.Dialect.TheVariants.{Newer}
use Rattle.rl_packet.specs.declared.packets.Event.TheVariants.{Assert}
use Rattle.rl_packet.specs.declared.packets.TurnEvent.{TurnEvent}
use Rattle.rl_packet.specs.declared.packets.Packet.{Packet}
use Rattle.rl_packet.specs.declared.packets.Packet.TheVariants.{Turn}

-- a quotient, rounded up
abbrev pub rounded_up : ℕ → ℕ → ℕ
rounded_up n m = n / m + min 1 (n % m)

-- ---- draws

-- a draw makes this number of the one before
abbrev pub next : ℕ → ℕ
next x = (x * 6364136223846793005 + 1442695040888963407) % 2 ^ 64

-- the number that so many draws make
abbrev pub after : ℕ → ℕ → ℕ
after start zero = start
after start (suc i) = next (after start i)

-- what a draw gives by the number that it makes
abbrev pub given : ℕ → ℕ
given x = x / 2 ^ 33 % 1000

-- item i, counted from 0, has what draw i gives
abbrev pub drawn : ℕ → ℕ → ℕ
drawn start i = given (next (after start i))

-- ---- items

-- `{0: <lit i> 1: <bind <_>>}`
abbrev pub fields_of : ℕ → List (Plain × Plain)
fields_of i =
    (number 0, labelled (codes "lit") (number i ∷ []))
    ∷ (number 1, labelled (codes "bind") (labelled (codes "_") [] ∷ [])) ∷ []

-- `<group <rec Load> fields>`
abbrev pub pattern_of : ℕ → Plain
pattern_of i =
    labelled (codes "group")
    (labelled (codes "rec") (symbol (codes "Load") ∷ []) ∷ dictionary (pairs (fields_of i)) ∷ [])

-- `#:[0 n]`
abbrev pub own_object : ℕ → Plain
own_object n = embedded (sequence (plains (number 0 ∷ number n ∷ [])))

-- `<Observe pattern #:[0 i+1]>`
abbrev pub observation : ℕ → Plain
observation i = labelled (codes "Observe") (pattern_of i ∷ own_object (i + 1) ∷ [])

-- `<Load i d>`
abbrev pub loading : ℕ → ℕ → Plain
loading start i = labelled (codes "Load") (number i ∷ number (drawn start i) ∷ [])

-- each item asserts both at object 0, the observation under handle 2 i and the other under the next one
abbrev pub observes : ℕ → TurnEvent
observes i = record { oid = 0; event = Assert (observation i) (2 * i) }

abbrev pub loads : ℕ → ℕ → TurnEvent
loads start i = record { oid = 0; event = Assert (loading start i) (2 * i + 1) }

-- ---- turns

-- the events of k items, from item i on
abbrev pub events_of : (ℕ → TurnEvent) → ℕ → ℕ → List TurnEvent
events_of event i zero = []
events_of event i (suc k) = events_of event i k ++ event (i + k) ∷ []

-- the packet of these events, in the newer dialect
abbrev pub newer_packet : List TurnEvent → Packet
newer_packet es = Turn (spoken Newer es)

-- `<bytes j b>`, b the packet of these events
abbrev pub bytes_event : ℕ → List TurnEvent → Plain
bytes_event j es =
    labelled (codes "bytes") (number j ∷ byte_string (written (packet_value (newer_packet es))) ∷ [])

-- behind them stands `<drain 10000>`
abbrev pub sent_by : ℕ → List TurnEvent → List Plain
sent_by j es = bytes_event j es ∷ labelled (codes "drain") (number 10000 ∷ []) ∷ []

-- a connection has 2,000 items, the last one what is left
abbrev pub connection_of : ℕ → ℕ
connection_of i = i / 2000 + 1

-- a turn has 500 items, the last one what is left; so the items of a turn are of one connection. This is turn t, counted
-- from 0, of n items
abbrev pub turn_of : (ℕ → TurnEvent) → ℕ → ℕ → List Plain
turn_of event n t =
    let first = 500 * t in sent_by (connection_of first) (events_of event first (min 500 (n - first)))

-- the first so many turns
abbrev pub turns_of : (ℕ → TurnEvent) → ℕ → ℕ → List Plain
turns_of event n zero = []
turns_of event n (suc t) = turns_of event n t ++ turn_of event n t

abbrev pub all_turns : (ℕ → TurnEvent) → ℕ → List Plain
all_turns event n = turns_of event n (rounded_up n 500)

-- ---- the script

-- so many connections come to dataspace 1
abbrev pub opens : ℕ → List Plain
opens zero = []
opens (suc k) = opens k ++ labelled (codes "open") (number 1 ∷ []) ∷ []

-- first all connections come, then all observations go, then all that they observe
abbrev pub load_events : ℕ → ℕ → List Plain
load_events start n = opens (rounded_up n 2000) ++ all_turns observes n ++ all_turns (loads start) n

abbrev pub load_bytes : ℕ → ℕ → List ℕ
load_bytes start n = flat_map written (load_events start n)
