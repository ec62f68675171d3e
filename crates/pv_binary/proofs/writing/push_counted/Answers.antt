use Rattle.std.proofs.Common.{◌<◌, length, append_assoc, arith}
use Rattle.pv_binary.proofs.Varints.{varint_last}
use Rattle.pv_binary.proofs.writing.push_counted.Goals as goal

pub returns-then-count-lt128-clause-all : goal.returns-then-count-lt128-clause-all
returns-then-count-lt128-clause-all c =
    let l : length c.args.bytes.now < 128 = omega arith in
    rw (varint_last (length c.args.bytes.now) l)
    (rw (c.in_ok-push_bytes.ensures.all, append_assoc) at c.push_bytes-then-count-lt128.ensures.all)
