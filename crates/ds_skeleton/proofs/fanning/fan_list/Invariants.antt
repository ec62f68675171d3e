use Rattle.std.proofs.Common.{◌≡◌, map}
use Rattle.ds_skeleton.specs.Keys.{fanned_of}
use Rattle.ds_skeleton.proofs.fanning.fan_list.Given as goal

abbrev pub invariant-loop-key : goal.invariant-loop-key
invariant-loop-key l = l.list.items ≡ map fanned_of l.yielded
