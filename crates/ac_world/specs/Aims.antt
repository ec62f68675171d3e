-- What arrives of what is sent through references, and at which object. Syndicate Protocol, "capabilities".
use Rattle.std.specs.Prelude.{Bool, true, false, List, Option, Some, None, option_map, option_and_then}
use Rattle.pv_value.specs.Plain.{Plain, record_of, sequence, embedded, no_more, then_more}
use Rattle.ps_schema.specs.declared.Definition.{Definition}
use Rattle.sr_caveat.specs.declared.caps.Cap.{Cap}
use Rattle.sr_caveat.specs.Caps.{cap_of}
use Rattle.sr_pass.specs.Passing.{passed}
pub use Rattle.ac_world.specs.declared.aims.Aim.{Aim}

-- a value for the object that a reference names, as the reference's caveats let it pass; guards judge by a schema
abbrev pub aim_by : List Definition → Plain → Cap → Option Aim
aim_by ds v c =
    option_map (λ w. record { at = record { actor = c.actor; entity = c.entity }; value = w }) (passed ds c.caveats v)

-- a value that is sent through a reference: none where its caveats refuse the value, or it is no reference
abbrev pub aim_at : List Definition → Plain → Plain → Option Aim
aim_at ds v r = option_and_then (aim_by ds v) (cap_of r)

-- a value as long as that of a reference with caveats
abbrev pub has_caveats : Plain → Bool
has_caveats (sequence (then_more a (then_more e (then_more c cs)))) = true
has_caveats v = false

-- the reference that `<Observe p #:r>` or `<resolve s #:r>` names
abbrev pub observer_in : Plain → Option Plain
observer_in (record_of l (then_more p (then_more (embedded r) no_more))) = Some r
observer_in o = None

-- a value that is sent to the one that observes, or that asks
abbrev pub aim_for : List Definition → Plain → Plain → Option Aim
aim_for ds v o = option_and_then (aim_at ds v) (observer_in o)

-- a key `[o c]` belongs to the observation o, and a watcher's key `[c i]` to the captures c
abbrev pub observation_of : Plain → Option Plain
observation_of (sequence (then_more o rest)) = Some o
observation_of k = None

-- a key `[o c]` wants c at the object that o names, as the reference's caveats let it pass
abbrev pub aim_of : List Definition → Plain → Option Aim
aim_of ds (sequence (then_more o (then_more c no_more))) = aim_for ds c o
aim_of ds k = None
