-- What the script of a load does: each of its values writes an event, which is one of three.
use Rattle.std.specs.Prelude.{◌≡◌, ℕ, ◌≤◌, List, ◌++◌, IsSomeAnd}
use Rattle.std.specs.List.{AllByRecursion}
use Rattle.pv_value.specs.Plain.{Plain}
use Rattle.pv_binary.specs.Written.{written}
use Rattle.rl_packet.specs.Packets.{packet_value}
use Rattle.rl_packet.specs.declared.packets.TurnEvent.{TurnEvent}
use Rattle.sc_events.specs.Events.{event_of}
use Rattle.sc_events.specs.declared.events.ScriptEvent.{ScriptEvent}
use Rattle.sc_events.specs.declared.events.ScriptEvent.TheVariants.{Open, Bytes, Drain}
use Rattle.sc_load.specs.Limits.{most_items}
use Rattle.sc_load.specs.Loads.{rounded_up, observes, loads, newer_packet, all_turns, opens}

-- so many connections come in a load of n items
abbrev pub connections_of : ℕ → ℕ
connections_of n = rounded_up n 2000

-- a connection comes to dataspace 1
abbrev pub IsArrival : ScriptEvent → Type 0
IsArrival e = e ≡ Open 1

-- the bytes are those of a packet, a turn in the newer dialect
abbrev pub IsTurn : List ℕ → Type 0
IsTurn bytes = (es : List TurnEvent) × (bytes ≡ written (packet_value (newer_packet es)))

-- one of the first k connections sends a turn, or the system's work is done
abbrev pub IsSending : ℕ → ScriptEvent → Type 0
IsSending k (Bytes j bytes) = (1 ≤ j) × (j ≤ k) × IsTurn bytes
IsSending k (Drain m) = m ≡ 10000
IsSending k e = ⊥

-- each of the values writes an event, and of each this holds
abbrev pub WriteEvents : (ScriptEvent → Type 0) → List Plain → Type 0
WriteEvents Is vs = AllByRecursion (λ v. IsSomeAnd (event_of v) Is) vs

-- the values of a load: first its connections come, ten at most, and each value behind them is a turn that one of these
-- sends, or has the work done
pub record LoadOfEvents (start n : ℕ) : Type 0 where
  pub few : connections_of n ≤ 10
  pub arrivals : WriteEvents IsArrival (opens (connections_of n))
  pub sendings : WriteEvents (IsSending (connections_of n)) (all_turns observes n ++ all_turns (loads start) n)

-- so it is in each load
abbrev pub LoadsAreOfEvents : Type 0
LoadsAreOfEvents = (start n : ℕ) → n ≤ most_items → LoadOfEvents start n
