use Rattle.std.proofs.Common.{length, arith, is_some, ap, sym, subst}
use Rattle.ac_world.specs.Readings.{AreRead}
use Rattle.ac_world.proofs.Known.{one_more_fits, one_more_read}
use Rattle.ac_world.proofs.readings.Readings.keep.Goals as goal

pub invariant_of-self : goal.invariant_of-self
invariant_of-self c =
    let same = c.in_err-insert.ensures.err in
    let room = c.make_room.ensures in
    (omega (arith, room.0, ap length same), subst AreRead (sym same) room.1)

pub invariant_of-self-2 : goal.invariant_of-self-2
invariant_of-self-2 c =
    let before = c.make_room.new.by_value.entries in
    let room = c.make_room.ensures in
    let made = c.in_ok-insert.ensures in (
      one_more_fits (length before) (length c.insert.new.self.entries) (is_some c.in_ok-insert.field-0) room.0 made.len,
      one_more_read before c.insert.new.self.entries c.args.value c.args.cap room.1 c.requires made.updates.0,
    )
