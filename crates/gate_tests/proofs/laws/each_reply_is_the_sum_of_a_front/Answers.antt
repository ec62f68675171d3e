use Rattle.gate_tests.proofs.Summing.{replies_are_sums}
use Rattle.gate_tests.proofs.laws.each_reply_is_the_sum_of_a_front.Goals as goal

pub returns : goal.returns
returns c = replies_are_sums
