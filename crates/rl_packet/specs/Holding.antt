-- What a peer holds by the packets that it was sent.
use Rattle.std.specs.Prelude.{ℕ, List, [], ◌∷◌, Bool, false, ◌==◌, ◌||◌, ◌&&◌, nat_lt, if◌then◌else◌}
use Rattle.std.specs.List.{list_any, flat_map}
use Rattle.rl_packet.specs.Packets.{Event, Assert, Retract, Message, Sync, TurnEvent}
use Rattle.rl_packet.specs.Packets.{Packet, Turn, Error, Nop, Extension}
use Rattle.rl_packet.specs.declared.holding.Holding.{Holding}

abbrev pub retracts : ℕ → Event → Bool
retracts h (Assert v n) = false
retracts h (Retract n) = n == h
retracts h (Message v) = false
retracts h (Sync peer) = false

abbrev pub retracted_by : ℕ → TurnEvent → Bool
retracted_by h e = retracts h e.event

-- an assertion stays where no later event retracts its handle
abbrev pub kept : TurnEvent → Event → List TurnEvent → List Holding → List Holding
kept e (Assert v h) later others =
    if list_any (retracted_by h) later then others else record { oid = e.oid; handle = h; value = v } ∷ others
kept e (Retract h) later others = others
kept e (Message v) later others = others
kept e (Sync peer) later others = others

abbrev pub all_kept : List TurnEvent → List Holding
all_kept [] = []
all_kept (e ∷ es) = kept e e.event es (all_kept es)

-- by object, and then by handle
abbrev pub is_before : Holding → Holding → Bool
is_before x y = nat_lt x.oid y.oid || ((x.oid == y.oid) && nat_lt x.handle y.handle)

abbrev pub insert_holding : Holding → List Holding → List Holding
insert_holding x [] = x ∷ []
insert_holding x (y ∷ ys) = if is_before x y then x ∷ y ∷ ys else y ∷ insert_holding x ys

abbrev pub holdings_in_order : List Holding → List Holding
holdings_in_order [] = []
holdings_in_order (x ∷ xs) = insert_holding x (holdings_in_order xs)

abbrev pub events_in : Packet → List TurnEvent
events_in (Turn t) = t.events
events_in (Error message detail) = []
events_in Nop = []
events_in (Extension v) = []

abbrev pub held : List Packet → List Holding
held packets = holdings_in_order (all_kept (flat_map events_in packets))
