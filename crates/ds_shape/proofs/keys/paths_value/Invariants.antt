use Rattle.std.proofs.Common.{◌≡◌, map, take}
use Rattle.ds_shape.specs.Keys.{path_value}
use Rattle.ds_shape.proofs.keys.paths_value.Given as goal

abbrev pub invariant-loop-path : goal.invariant-loop-path
invariant-loop-path l = l.values.items ≡ map path_value (take l.path-index l.paths)
