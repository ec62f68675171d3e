use Rattle.rl_wire.specs.Lemmas.Returning.{what_goes_out_is_exported, references_come_back, references_stay_apart}
use Rattle.rl_wire.proofs.laws.references_come_back.Goals as goal

pub returns : goal.returns
returns c = record {
  exported = what_goes_out_is_exported;
  back = references_come_back;
  apart = references_stay_apart;
}
