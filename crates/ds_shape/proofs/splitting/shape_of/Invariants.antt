use Rattle.std.proofs.Common.{◌≡◌, map}
use Rattle.ds_shape.proofs.splitting.shape_of.Given as goal

abbrev pub invariant-loop-constant : goal.invariant-loop-constant
invariant-loop-constant l =
    (l.constants.items ≡ map (λ c. c.path) l.yielded) × (l.values.items ≡ map (λ c. c.value) l.yielded)
