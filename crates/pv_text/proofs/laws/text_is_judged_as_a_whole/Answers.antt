use Rattle.pv_text.proofs.Judged.{first_judged, all_judged}
use Rattle.pv_text.proofs.laws.text_is_judged_as_a_whole.Goals as goal

pub returns : goal.returns
returns c = record {
  first = first_judged;
  all = all_judged;
}
