use Rattle.sc_events.proofs.ReadAs.{some_read_as, read_as_same, so_far_on}
use Rattle.sc_events.proofs.laws.one_reading.Goals as goal

pub returns : goal.returns
returns c =
    let one_way = c.texts_are_read_one_way.ensures in record {
      some = some_read_as c.one_of_three.ensures one_way;
      one = read_as_same c.spellings_are_unique.ensures.unique one_way;
      on = so_far_on c.one_of_three.ensures one_way;
    }
