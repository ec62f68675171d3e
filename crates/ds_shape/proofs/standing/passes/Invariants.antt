-- The tests that are left are all passed where all are.
use Rattle.std.proofs.Common.{◌≡◌, drop}
use Rattle.std.specs.List.{list_all}
use Rattle.ds_shape.specs.Outlines.{passes}
use Rattle.ds_shape.proofs.standing.passes.Given as goal

abbrev pub invariant-loop-test : goal.invariant-loop-test
invariant-loop-test l =
    list_all (passes l.value) (drop l.test-index l.outline.tests) ≡ list_all (passes l.value) l.outline.tests
