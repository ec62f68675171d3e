-- What the code answers where an event is.
use Rattle.hub_packets.specs.declared.admitting.Aim.{Aim as AimFound}
use Rattle.hub_packets.specs.declared.admitting.Aim.TheVariants.{Object, Stale, Unknown}
use Rattle.hub_machine.specs.Admission.{Aim, object, stale, unknown}

abbrev pub aim_shown : AimFound → Aim
aim_shown (Object to) = object to
aim_shown Stale = stale
aim_shown Unknown = unknown
