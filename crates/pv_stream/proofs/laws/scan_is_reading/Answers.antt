use Rattle.pv_stream.proofs.Alike.{passed_alike}
use Rattle.pv_stream.proofs.Unrepeated.{no_repeat}
use Rattle.pv_stream.proofs.laws.scan_is_reading.Goals as goal

pub returns : goal.returns
returns c = record { reading = passed_alike; no_repeat = no_repeat }
