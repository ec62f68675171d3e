use Rattle.pv_stream.specs.Lemmas.Deeds.{values_prefix, values_all, ends_whole, ends_stay}
use Rattle.pv_stream.proofs.laws.any_pieces.Goals as goal

pub returns : goal.returns
returns c = record { prefix = values_prefix; all = values_all; ends = ends_whole; stays = ends_stay }
