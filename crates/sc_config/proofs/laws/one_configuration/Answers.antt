use Rattle.sc_events.specs.declared.inputs.Form.TheVariants.{Text}
use Rattle.sc_schema.specs.Lemmas.Courses.{some_course, same_course}
use Rattle.sc_config.specs.Courses.{doing}
use Rattle.sc_config.proofs.laws.one_configuration.Goals as goal

pub returns : goal.returns
returns c = record {
  some = λ text. some_course doing Text text c.one_reading.ensures.some c.one_first_schema.ensures.some;
  one = λ text. same_course doing Text text c.one_reading.ensures.one c.one_first_schema.ensures.one;
}
