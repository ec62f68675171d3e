use Rattle.gk_sturdy.proofs.Alike.{decided}
use Rattle.gk_sturdy.proofs.links.verify_bytes.Goals as goal

pub returns : goal.returns
returns c =
    decided c.is_same.result c.args.sig.now c.last_link.result _ c.is_same.ensures c.last_link.ensures
