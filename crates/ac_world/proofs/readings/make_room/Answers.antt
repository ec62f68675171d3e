use Rattle.std.proofs.Common.{arith, refl}
use Rattle.ac_world.proofs.Known.{none_room, few_room}
use Rattle.ac_world.proofs.readings.make_room.Goals as goal

pub returns-then-len-ge-READINGS : goal.returns-then-len-ge-READINGS
returns-then-len-ge-READINGS c = none_room c.clear.new.self.entries c.clear.ensures.empty

pub returns-else-len-ge-READINGS : goal.returns-else-len-ge-READINGS
returns-else-len-ge-READINGS c =
    few_room c.args.by_value.now.entries c.args.by_value.now.entries refl
    (omega (arith, c.if-len-ge-READINGS.false, c.len.ensures.len)) c.requires
