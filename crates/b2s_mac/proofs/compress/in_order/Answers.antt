use Rattle.b2s_mac.proofs.Compressing.{map_sixteen}
use Rattle.b2s_mac.proofs.compress.in_order.Goals as goal

pub returns : goal.returns
returns c = map_sixteen c.args.m.now c.args.row.now c.told-row
