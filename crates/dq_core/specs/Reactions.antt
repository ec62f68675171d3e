-- What packets bring, one after another, up to the first that is at fault.
use Rattle.std.specs.Prelude.{ℕ, ◌-◌, nat_le, List, [], ◌∷◌, ◌++◌, length, Result, Ok, Err, Option, None, Some}
use Rattle.std.specs.Prelude.{if◌then◌else◌}
use Rattle.std.specs.List.{flat_map}
use Rattle.pv_read.specs.Results.{◌>>=◌}
use Rattle.rl_packet.specs.declared.packets.Packet.{Packet}
use Rattle.rl_packet.specs.declared.packets.Turn.{Turn as TurnRecord}
use Rattle.dq_core.specs.declared.lines.Line.{Line}
use Rattle.dq_core.specs.declared.client.Reaction.{Reaction}
use Rattle.dq_core.specs.declared.client.QueryFault.{QueryFault}
use Rattle.dq_core.specs.declared.hearing.Hearing.{Hearing}
use Rattle.dq_core.specs.States.{ClientState}
use Rattle.dq_core.specs.Asking.{ask_of}
use Rattle.dq_core.specs.Hearing.{begins, packet_heard}

-- what was brought, when all events are heard
abbrev pub reaction_of : Hearing → Reaction
reaction_of x = record { lines = x.lines; ask = ask_of x.asks }

abbrev pub finished : Hearing → ClientState × Reaction
finished x = (x.client, reaction_of x)

-- a packet
abbrev pub heard : Packet → ClientState → Result (ClientState × Reaction) QueryFault
heard p c = packet_heard p (begins c) >>= λ x. Ok (finished x)

-- the reactions to packets, and the client then, or the fault
pub record Told : Type 0 where
  pub reactions : List Reaction
  pub ends : Result ClientState QueryFault

abbrev pub behind : List Reaction → Told → Told
behind rs t = record { reactions = rs ++ t.reactions; ends = t.ends }

abbrev pub and_then : Result (ClientState × Reaction) QueryFault → (ClientState → Told) → Told
and_then (Ok x) more = behind (x.1 ∷ []) (more x.0)
and_then (Err f) more = record { reactions = []; ends = Err f }

abbrev pub told : List Packet → ClientState → Told
told [] c = record { reactions = []; ends = Ok c }
told (p ∷ ps) c = and_then (heard p c) (told ps)

-- all their lines, and all the turns that are asked
abbrev pub lines_in : List Reaction → List Line
lines_in rs = flat_map (λ r. r.lines) rs

abbrev pub turn_in : Option TurnRecord → List TurnRecord
turn_in (Some t) = t ∷ []
turn_in None = []

abbrev pub asks_in : List Reaction → List TurnRecord
asks_in rs = flat_map (λ r. turn_in r.ask) rs

-- the reactions before the one with the n-th line
abbrev pub before_line : ℕ → List Reaction → List Reaction
before_line n [] = []
before_line n (r ∷ rs) = if nat_le n (length r.lines) then [] else r ∷ before_line (n - length r.lines) rs
