use Rattle.rl_stream.specs.Lemmas.Readers.{reading_goes_on, ends_stay, any_cut}
use Rattle.rl_stream.proofs.laws.any_cut_is_one_course.Goals as goal

pub returns : goal.returns
returns c = record { goes_on = reading_goes_on; stays = ends_stay; pieces = any_cut c.one_next.ensures }
