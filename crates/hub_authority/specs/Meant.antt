-- What a connection is told by name: each reference in what it is sent is an object of its own, or stands under the
-- number that was given to the reference that was meant.
use Rattle.std.specs.Prelude.{◌≡◌, ℕ, ◌<◌, ◌⊎◌, List, [], ◌∷◌, length, Some, slice_get}
use Rattle.std.specs.List.{AllByRecursion}
use Rattle.pv_value.specs.Plain.{Plain, embedded}
use Rattle.sr_caveat.specs.Caps.{cap_of}
use Rattle.ac_table.specs.declared.batches.Event.{Event as Told}
use Rattle.ac_table.specs.declared.batches.Event.TheVariants as told
use Rattle.ac_world.specs.Worlds.{actor_of}
use Rattle.rl_packet.specs.declared.packets.Event.TheVariants.{Assert, Retract, Message, Sync}
use Rattle.rl_packet.specs.declared.packets.TurnEvent.{TurnEvent}
use Rattle.rl_wire.specs.Crossing.{crossed, held_in, wire_value}

-- `[1 e]` means the connection's own object e, without caveats
abbrev pub MeansOwn : ℕ → Plain → Plain → Type 0
MeansOwn k r x =
    (e : ℕ) × (cap_of r ≡ Some (record { actor = actor_of k; entity = e; caveats = [] })) × (x ≡ wire_value 1 e)

-- `[0 n]` means the reference to which n was given
abbrev pub MeansExport : List Plain → Plain → Plain → Type 0
MeansExport given r x = (n : ℕ) × (n < length given) × (slice_get given n ≡ Some r) × (x ≡ wire_value 0 n)

-- to connection k, where numbers were given to these, in order, the name x means the reference r
abbrev pub Means : List Plain → ℕ → Plain → Plain → Type 0
Means given k r x = MeansOwn k r x ⊎ MeansExport given r x

-- w is the value v with a name in place of each reference, which means it
abbrev pub NamesAll : List Plain → ℕ → Plain → Plain → Type 0
NamesAll given k v w =
    (name : Plain → Plain) × (w ≡ crossed name v) × AllByRecursion (λ r. Means given k r (name r)) (held_in v)

-- what is sent of an event
abbrev pub IsSentAs : List Plain → ℕ → Told → TurnEvent → Type 0
IsSentAs given k (told.Assert h entity v) t =
    (w : Plain) × (t ≡ record { oid = entity; event = Assert w h }) × NamesAll given k v w
IsSentAs given k (told.Retract h entity) t = t ≡ record { oid = entity; event = Retract h }
IsSentAs given k (told.Message entity v) t =
    (w : Plain) × (t ≡ record { oid = entity; event = Message w }) × NamesAll given k v w
IsSentAs given k (told.Sync entity peer) t =
    (w : Plain) × (t ≡ record { oid = entity; event = Sync w }) × NamesAll given k (embedded peer) w

-- event for event
abbrev pub AreSentAs : List Plain → ℕ → List Told → List TurnEvent → Type 0
AreSentAs given k [] [] = Unit {0}
AreSentAs given k [] (t ∷ ts) = ⊥
AreSentAs given k (e ∷ es) [] = ⊥
AreSentAs given k (e ∷ es) (t ∷ ts) = IsSentAs given k e t × AreSentAs given k es ts
