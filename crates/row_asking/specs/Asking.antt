-- What a value asks: each step and each question, by the value that it is written as.
use Rattle.std.specs.Prelude.{◌≡◌, ℕ, ◌+◌, ◌-◌, ◌^◌, min, List, [], ◌∷◌, codes, map, ◌⊎◌}
use Rattle.std.specs.List.{range_with_len}
use Rattle.pv_value.specs.Plain.{Plain, Plains, byte_string, sequence, symbol}
use Rattle.pv_words.specs.Words.{labelled, number}
use Rattle.gk_sturdy.specs.declared.bound.Binding.{Binding}
use Rattle.ac_world.specs.declared.watched.Watched.{Watched}
use Rattle.rl_packet.specs.Grammar.{IsPacketOf}
use Rattle.rl_packet.specs.Packets.{spoken}
use Rattle.rl_packet.specs.declared.packets.Dialect.TheVariants.{Newer}
use Rattle.rl_packet.specs.declared.packets.Event.TheVariants.{Assert}
use Rattle.rl_packet.specs.declared.packets.Packet.TheVariants.{Turn as TurnPacket}
use Rattle.rl_packet.specs.declared.packets.Turn.{Turn as TurnRecord}
use Rattle.rl_packet.specs.declared.packets.TurnEvent.{TurnEvent}
use Rattle.hub_machine.specs.declared.faults.Fault.{Fault}
use Rattle.hub_machine.specs.declared.faults.Fault.TheVariants.{BadBytes, BadPacket}
use Rattle.hub_machine.specs.declared.steps.Step.TheVariants.{Bind, Watch, Arrive, Packet, Bad, Close, Turn, Work, Stop}
use Rattle.sc_events.specs.Events.{reference_to}
use Rattle.row_asking.specs.declared.asking.Asked.{Asked}
use Rattle.row_asking.specs.declared.asking.Asked.TheVariants.{Step, Pending, Lowest, Live, Holds}

-- a turn as it stands on the wire, in either dialect
abbrev pub IsTurnAt : Plain → TurnRecord → Type 0
IsTurnAt v turn = IsPacketOf v (TurnPacket turn)

-- a value asserted at object 0 under a handle, i past this one
abbrev pub assertion : Plain → ℕ → ℕ → TurnEvent
assertion v handle i = record { oid = 0; event = Assert v (min (handle + i) (2 ^ 64 - 1)) }

-- so many such assertions, under the handles from this one on
abbrev pub assertions : Plain → ℕ → ℕ → List TurnEvent
assertions v handle count = map (assertion v handle) (range_with_len 0 count)

-- the turn of them, in the newer dialect
abbrev pub fill_of : Plain → ℕ → ℕ → TurnRecord
fill_of v handle count = spoken Newer (assertions v handle count)

-- why what a connection sent is no packet: bad-packet, or <bad-bytes kind place>
abbrev pub IsCause : Plain → Fault → Type 0
IsCause v BadPacket = v ≡ symbol (codes "bad-packet")
IsCause v (BadBytes kind place) = v ≡ labelled (codes "bad-bytes") (number kind ∷ number place ∷ [])
IsCause v f = ⊥

-- a packet, <packet k TURN>, or <fill k v handle count>
abbrev pub AsksPacket : Plain → ℕ → TurnRecord → Type 0
AsksPacket v k turn =
    ((x : Plain) × (v ≡ labelled (codes "packet") (number k ∷ x ∷ [])) × IsTurnAt x turn)
    ⊎ ((x : Plain) × (handle : ℕ) × (count : ℕ)
    × (v ≡ labelled (codes "fill") (number k ∷ x ∷ number handle ∷ number count ∷ []))
    × (turn ≡ fill_of x handle count))

-- <bind oid key actor [caveat ..]>: the oid, bound to a key and to the reference to an actor itself with these caveats
abbrev pub AsksBinding : Plain → Binding → Type 0
AsksBinding v b =
    (actor : ℕ) × (cs : Plains)
    × (v ≡ labelled (codes "bind") (b.oid ∷ byte_string b.key ∷ number actor ∷ sequence cs ∷ []))
    × (b.cap ≡ reference_to actor cs)

-- <watch from pattern to name>
abbrev pub AsksWatcher : Plain → Watched → Type 0
AsksWatcher v x = v ≡ labelled (codes "watch") (number x.from ∷ x.pattern ∷ number x.to ∷ symbol x.name ∷ [])

abbrev pub Asks : Plain → Asked → Type 0
Asks v (Step Work) = v ≡ symbol (codes "work")
Asks v (Step Stop) = v ≡ symbol (codes "stop")
Asks v (Step (Bind b)) = AsksBinding v b
Asks v (Step (Watch x)) = AsksWatcher v x
Asks v (Step (Arrive space)) = v ≡ labelled (codes "arrive") (number space ∷ [])
Asks v (Step (Packet k turn)) = AsksPacket v k turn
Asks v (Step (Bad k f)) = (x : Plain) × (v ≡ labelled (codes "bad") (number k ∷ x ∷ [])) × IsCause x f
Asks v (Step (Close k)) = v ≡ labelled (codes "close") (number k ∷ [])
Asks v (Step (Turn actor)) = v ≡ labelled (codes "turn") (number actor ∷ [])
Asks v Pending = v ≡ symbol (codes "pending")
Asks v Lowest = v ≡ symbol (codes "lowest")
Asks v (Live k) = v ≡ labelled (codes "live") (number k ∷ [])
Asks v (Holds k) = v ≡ labelled (codes "holds") (number k ∷ [])
