-- The events of scripts, and the values that write them: records whose label is a symbol.
use Rattle.std.specs.Prelude.{◌≡◌, ℕ, ◌^◌, zero, suc, pos, nat_lt, nat_le, List}
use Rattle.std.specs.Prelude.{codes, ◌||◌}
use Rattle.std.specs.Prelude.{Option, Some, None, option_map, if◌then◌else◌}
use Rattle.pv_value.specs.Plain.{Plain, integer, string, byte_string, symbol, record_of, sequence, Plains, no_more}
use Rattle.pv_value.specs.Plain.{then_more}
use Rattle.pv_words.specs.Words.{is_word}
use Rattle.sr_caveat.specs.Caps.{Cap, IsSound, caveats_from}
use Rattle.sr_caveat.specs.Embedded.{has_embedded, any_embedded}
use Rattle.gk_sturdy.specs.declared.bound.Binding.{Binding}
use Rattle.hub_machine.specs.Limits.{last_dataspace}
use Rattle.sc_events.specs.Limits.{most_drain}
pub use Rattle.sc_events.specs.declared.events.ScriptEvent.{ScriptEvent}
pub use Rattle.sc_events.specs.declared.events.ScriptEvent.TheVariants.{Bind, Watch, Open, Bytes, Close, Turn}
pub use Rattle.sc_events.specs.declared.events.ScriptEvent.TheVariants.{Drain, LongDrain, Schema}

-- ---- numbers

-- the number that a value is, where it is below a bound
abbrev pub number_below : ℕ → Plain → Option ℕ
number_below bound (integer (pos n)) = if nat_lt n bound then Some n else None
number_below bound v = None

-- a connection or an actor
abbrev pub name_in : Plain → Option ℕ
name_in v = number_below (2 ^ 32) v

-- the gatekeeper, 0, or a dataspace
abbrev pub arrival_in : Plain → Option ℕ
arrival_in v = number_below (suc last_dataspace) v

-- a dataspace
abbrev pub space_in : Plain → Option ℕ
space_in (integer (pos (suc n))) = if nat_lt n last_dataspace then Some (suc n) else None
space_in v = None

-- ---- events with one field

-- `<open s>`
abbrev pub open_event : Plain → Option ScriptEvent
open_event v = option_map Open (arrival_in v)

abbrev pub close_event : Plain → Option ScriptEvent
close_event v = option_map Close (name_in v)

abbrev pub turn_event : Plain → Option ScriptEvent
turn_event v = option_map Turn (name_in v)

-- `<drain n>`, n up to 1,000,000, or more
abbrev pub drain_event : Plain → Option ScriptEvent
drain_event (integer (pos n)) = if nat_le n most_drain then Some (Drain n) else Some LongDrain
drain_event v = None

-- `<schema text>`
abbrev pub schema_event : Plain → Option ScriptEvent
schema_event (string s) = Some (Schema s)
schema_event v = None

abbrev pub event_of_one : List ℕ → Plain → Option ScriptEvent
event_of_one word f =
    if is_word word (codes "open") then open_event f
    else if is_word word (codes "close") then close_event f
    else if is_word word (codes "step") then turn_event f
    else if is_word word (codes "drain") then drain_event f
    else if is_word word (codes "schema") then schema_event f else None

-- ---- events with two

abbrev pub bytes_event : Plain → Plain → Option ScriptEvent
bytes_event v (byte_string b) = option_map (λ k. Bytes k b) (name_in v)
bytes_event v w = None

abbrev pub event_of_two : List ℕ → Plain → Plain → Option ScriptEvent
event_of_two word f g = if is_word word (codes "bytes") then bytes_event f g else None

-- ---- events with four

-- the reference to an actor itself, with these caveats
abbrev pub reference_to : ℕ → Plains → Cap
reference_to actor cs = record { actor = actor; entity = 0; caveats = caveats_from cs }

abbrev pub bound_to : Plain → List ℕ → Plains → ℕ → ScriptEvent
bound_to oid key cs space = Bind (record { oid = oid; key = key; cap = reference_to space cs })

-- `<bind oid key space caveats>`
abbrev pub binding_event : Plain → Plain → Plain → Plain → Option ScriptEvent
binding_event oid (byte_string key) space (sequence cs) =
    if has_embedded oid || any_embedded cs then None else option_map (bound_to oid key cs) (space_in space)
binding_event oid key space caveats = None

abbrev pub watch_between : Plain → List ℕ → Option ℕ → Option ℕ → Option ScriptEvent
watch_between pattern name (Some from) (Some to) =
    Some (Watch (record { from = from; pattern = pattern; to = to; name = name }))
watch_between pattern name (Some from) None = None
watch_between pattern name None to = None

-- `<watch from pattern to name>`
abbrev pub watch_event : Plain → Plain → Plain → Plain → Option ScriptEvent
watch_event from pattern to (symbol name) =
    if has_embedded pattern then None else watch_between pattern name (space_in from) (space_in to)
watch_event from pattern to name = None

abbrev pub event_of_four : List ℕ → Plain → Plain → Plain → Plain → Option ScriptEvent
event_of_four word f g h i =
    if is_word word (codes "bind") then binding_event f g h i
    else if is_word word (codes "watch") then watch_event f g h i else None

-- ---- the event that a value writes, where it writes one

abbrev pub event_of_record : List ℕ → Plains → Option ScriptEvent
event_of_record word (then_more f no_more) = event_of_one word f
event_of_record word (then_more f (then_more g no_more)) = event_of_two word f g
event_of_record word (then_more f (then_more g (then_more h (then_more i no_more)))) = event_of_four word f g h i
event_of_record word fs = None

abbrev pub event_of : Plain → Option ScriptEvent
event_of (record_of (symbol word) fs) = event_of_record word fs
event_of v = None

-- what the type of events keeps: a reference that is bound is one that is read back
abbrev pub IsSoundEvent : ScriptEvent → Type 0
IsSoundEvent e = (b : Binding) → e ≡ Bind b → IsSound b.cap
