-- References as values: `[actor entity caveat ..]`. Here the object alone is looked at that a reference names; what its
-- caveats let pass is told where something is sent through it. Syndicate Protocol, "capabilities".
use Rattle.std.specs.Prelude.{pos, ◌^◌, [], ◌∷◌, Bool, false, ◌&&◌, nat_lt, nat_le, Option, Some, None}
use Rattle.std.specs.Prelude.{if◌then◌else◌}
use Rattle.pv_value.specs.Plain.{Plain, integer, sequence, then_more, plains}
use Rattle.pv_words.specs.Words.{number}
pub use Rattle.ds_space.specs.declared.references.Reference.{Reference}

-- `[a e ..]`: an actor's number is below 2 ^ 32, and an object's below 2 ^ 63
abbrev pub reference_of : Plain → Option Reference
reference_of (sequence (then_more (integer (pos a)) (then_more (integer (pos e)) caveats))) =
    if nat_lt a (2 ^ 32) && nat_lt e (2 ^ 63) then Some (record { actor = a; entity = e }) else None
reference_of v = None

-- the value that writes it, without caveats
abbrev pub reference_value : Reference → Plain
reference_value r = sequence (plains (number r.actor ∷ number r.entity ∷ []))

abbrev pub is_observers : Option Reference → Bool
is_observers None = false
is_observers (Some r) = nat_le 9 r.actor

-- an object of an actor numbered 9 or more: of a watcher or of a connection
abbrev pub names_observer : Plain → Bool
names_observer v = is_observers (reference_of v)
