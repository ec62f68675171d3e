use Rattle.std.proofs.Common.{refl, length-take, arith}
use Rattle.pv_stream.specs.Limits.{most_bytes}
use Rattle.pv_stream.specs.Nexts.{front_of}
use Rattle.pv_stream.proofs.Stopping.{front_stops, fault_stops, within_bytes}
use Rattle.pv_stream.proofs.nexts.stopped.Goals as goal

pub overflow_add-result : goal.overflow_add-result
overflow_add-result c =
    let left = c.args.left.now in
    let stands = fault_stops (front_of left) _ c.requires.stops c.in_default.not-Truncated in
    omega (arith, within_bytes (front_of left) _ stands, length-take most_bytes left)

pub returns-in_default : goal.returns-in_default
returns-in_default c =
    let stands = fault_stops (front_of c.args.left.now) _ c.requires.stops c.in_default.not-Truncated in
    (c.args.at, stands, refl, refl)

pub returns-in-Truncated-2 : goal.returns-in-Truncated-2
returns-in-Truncated-2 c =
    let front = front_stops (front_of c.args.left.now) _ c.requires.stops c.in-Truncated-2.is in
    (front, c.if-left-lt-MOST_BYTES.false, refl)
