use Rattle.std.proofs.Common.{◌≡◌, map, take}
use Rattle.ds_shape.specs.Keys.{test_value}
use Rattle.ds_shape.proofs.keys.tests_value.Given as goal

abbrev pub invariant-loop-test : goal.invariant-loop-test
invariant-loop-test l = l.values.items ≡ map test_value (take l.test-index l.tests)
