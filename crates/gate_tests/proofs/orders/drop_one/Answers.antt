use Rattle.std.proofs.Common.{◌<◌, length, rules}
use Rattle.gate_tests.proofs.Moving.{others_less}
use Rattle.gate_tests.proofs.orders.drop_one.Goals as goal

pub returns-then-place-len : goal.returns-then-place-len
returns-then-place-len c = λ gate os.
    let ps = c.args.others.now.items in
    let h : c.args.place < length ps = search rules in
    others_less gate ps c.remove.new.self.items c.args.place c.remove.ensures.items h os
