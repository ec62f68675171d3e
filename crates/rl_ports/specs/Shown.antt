-- What the code answers of a number.
use Rattle.rl_ports.specs.Ports.{Standing, current, released, never}
use Rattle.rl_ports.specs.declared.ports.Exported.{Exported}
use Rattle.rl_ports.specs.declared.ports.Exported.TheVariants.{InForce, Released, Never}

abbrev pub standing_shown : Exported → Standing
standing_shown (InForce r) = current r.now
standing_shown Released = released
standing_shown Never = never
