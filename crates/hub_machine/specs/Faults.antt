-- Why connections end, and the packet by which a peer is told: `<error message [number ..]>`. Syndicate Protocol,
-- "packets"; the messages and numbers are this server's own.
use Rattle.std.specs.Prelude.{ℕ, List, [], ◌∷◌, map, codes, Bool, Option, Some, None, nat_lt, if◌then◌else◌}
use Rattle.std.specs.Option.{option_or}
use Rattle.pv_value.specs.Plain.{string, sequence, plains}
use Rattle.pv_words.specs.Words.{number}
use Rattle.rl_packet.specs.declared.packets.Packet.{Packet}
use Rattle.rl_packet.specs.declared.packets.Packet.TheVariants.{Error}
pub use Rattle.hub_machine.specs.declared.faults.Fault.{Fault}
pub use Rattle.hub_machine.specs.declared.faults.Fault.TheVariants.{BadBytes, BadPacket, UnknownOid, HandleInUse}
pub use Rattle.hub_machine.specs.declared.faults.Fault.TheVariants.{UnknownHandle, Limit, Overrun, Spread}

-- ---- causes

-- the first of two that is there
infixl 10 ◌<|>◌
abbrev pub ◌<|>◌ : Option Fault → Option Fault → Option Fault
◌<|>◌ f g = option_or f g

abbrev pub where_it_is : Bool → Fault → Option Fault
where_it_is b f = if b then Some f else None

-- n is more than the limit of this number
abbrev pub over : ℕ → ℕ → ℕ → Option Fault
over most which n = where_it_is (nat_lt most n) (Limit which n)

abbrev pub overrun : ℕ → ℕ → ℕ → Option Fault
overrun most which n = where_it_is (nat_lt most n) (Overrun which n)

-- ---- packets

abbrev pub error_with : List ℕ → List ℕ → Packet
error_with message numbers = Error (string message) (sequence (plains (map number numbers)))

abbrev pub error_of : Fault → Packet
error_of (BadBytes kind place) = error_with (codes "bad bytes") (kind ∷ place ∷ [])
error_of BadPacket = error_with (codes "bad packet") (30 ∷ [])
error_of (UnknownOid n) = error_with (codes "unknown oid") (31 ∷ n ∷ [])
error_of (HandleInUse h) = error_with (codes "handle in use") (32 ∷ h ∷ [])
error_of (UnknownHandle h) = error_with (codes "unknown handle") (33 ∷ h ∷ [])
error_of (Limit which n) = error_with (codes "limit") (34 ∷ which ∷ n ∷ [])
error_of (Overrun which n) = error_with (codes "overrun") (35 ∷ which ∷ n ∷ [])
error_of (Spread n) = error_with (codes "spread") (36 ∷ n ∷ [])
