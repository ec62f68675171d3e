use Rattle.load_laws.proofs.Whole.{limits_alone, two_limits}
use Rattle.load_laws.proofs.loads_stop_for_limits_alone.Goals as goal

pub returns : goal.returns
returns c = record {
  limits = limits_alone c.one_reading.ensures.one;
  two = two_limits c.one_reading.ensures.one;
}
