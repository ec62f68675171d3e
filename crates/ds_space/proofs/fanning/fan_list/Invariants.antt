use Rattle.std.proofs.Common.{◌≡◌}
use Rattle.std.specs.List.{flat_map}
use Rattle.ds_space.specs.Wants.{captured}
use Rattle.ds_space.specs.Fans.{fan_for}
use Rattle.ds_space.proofs.fanning.fan_list.Given as goal

abbrev pub invariant-loop-observe : goal.invariant-loop-observe
invariant-loop-observe l = l.list.items ≡ flat_map (λ o. fan_for o (captured o l.message)) l.yielded
