-- Packets as values: a turn is a sequence of events `[oid event]`, and an event in the newer dialect
-- `<A assertion handle>`, `<R handle>`, `<M body>` or `<S #:peer>`, and in the older one, which older programs write,
-- `<assert assertion handle>`, `<retract handle>`, `<message body>` or `<sync #:peer>`; an error is
-- `<error message detail>`; `#f` means nothing; any other record is an extension. Syndicate Protocol, "packets".
use Rattle.std.specs.Prelude.{ℕ, Bool, true, false, List, [], ◌∷◌, map, codes, Some, None, unwrap_or, if◌then◌else◌}
use Rattle.pv_value.specs.Plain.{Plain, boolean, sequence, plains}
use Rattle.pv_words.specs.Words.{labelled, number}
pub use Rattle.rl_packet.specs.declared.packets.Dialect.{Dialect}
pub use Rattle.rl_packet.specs.declared.packets.Dialect.TheVariants.{Newer, Older}
pub use Rattle.rl_packet.specs.declared.packets.Event.{Event}
pub use Rattle.rl_packet.specs.declared.packets.Event.TheVariants.{Assert, Retract, Message, Sync}
pub use Rattle.rl_packet.specs.declared.packets.TurnEvent.{TurnEvent}
pub use Rattle.rl_packet.specs.declared.packets.Turn.{Turn as TurnRecord}
pub use Rattle.rl_packet.specs.declared.packets.Packet.{Packet}
pub use Rattle.rl_packet.specs.declared.packets.Packet.TheVariants.{Turn, Error, Nop, Extension}

abbrev pub other : Dialect → Dialect
other Newer = Older
other Older = Newer

-- the label of each kind of event
abbrev pub assert_word : Dialect → List ℕ
assert_word Newer = codes "A"
assert_word Older = codes "assert"

abbrev pub retract_word : Dialect → List ℕ
retract_word Newer = codes "R"
retract_word Older = codes "retract"

abbrev pub message_word : Dialect → List ℕ
message_word Newer = codes "M"
message_word Older = codes "message"

abbrev pub sync_word : Dialect → List ℕ
sync_word Newer = codes "S"
sync_word Older = codes "sync"

abbrev pub event_value : Dialect → Event → Plain
event_value d (Assert v h) = labelled (assert_word d) (v ∷ number h ∷ [])
event_value d (Retract h) = labelled (retract_word d) (number h ∷ [])
event_value d (Message v) = labelled (message_word d) (v ∷ [])
event_value d (Sync peer) = labelled (sync_word d) (peer ∷ [])

abbrev pub aimed_value : Dialect → TurnEvent → Plain
aimed_value d e = sequence (plains (number e.oid ∷ event_value d e.event ∷ []))

-- a turn that has events has a dialect
abbrev pub turn_value : TurnRecord → Plain
turn_value t = sequence (plains (map (aimed_value (unwrap_or t.dialect Newer)) t.events))

abbrev pub packet_value : Packet → Plain
packet_value (Turn t) = turn_value t
packet_value (Error message detail) = labelled (codes "error") (message ∷ detail ∷ [])
packet_value Nop = boolean false
packet_value (Extension v) = v

abbrev pub is_empty : List TurnEvent → Bool
is_empty [] = true
is_empty (e ∷ es) = false

-- the turn of these events in this dialect; a turn of no events has none
abbrev pub spoken : Dialect → List TurnEvent → TurnRecord
spoken d es = record { dialect = if is_empty es then None else Some d; events = es }
