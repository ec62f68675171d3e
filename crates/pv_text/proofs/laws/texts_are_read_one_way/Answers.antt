use Rattle.pv_text.proofs.OneWay.{one_way}
use Rattle.pv_text.proofs.laws.texts_are_read_one_way.Goals as goal

pub returns : goal.returns
returns c = one_way
