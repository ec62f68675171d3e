use Rattle.pv_binary.proofs.Whole.{unique_law}
use Rattle.pv_binary.proofs.Written.{spelled}
use Rattle.pv_binary.proofs.laws.spellings_are_unique.Goals as goal

pub returns : goal.returns
returns c = record { written = spelled; unique = unique_law }
