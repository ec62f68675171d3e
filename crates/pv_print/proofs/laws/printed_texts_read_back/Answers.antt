use Rattle.pv_print.proofs.ReadBack.{reads_back, lines_read_back}
use Rattle.pv_print.proofs.laws.printed_texts_read_back.Goals as goal

pub returns : goal.returns
returns c = record { one = reads_back; all = lines_read_back }
