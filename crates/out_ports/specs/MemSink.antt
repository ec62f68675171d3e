-- A sink in memory: what it answers to a put and to an offer, and what it is then.
use Rattle.std.specs.Prelude.{ℕ, ◌+◌, Bool, true, false, ◌||◌, nat_lt, List, [], ◌++◌, length, take, if◌then◌else◌}
use Rattle.out_ports.specs.declared.ports.Put.{Put}
use Rattle.out_ports.specs.declared.ports.Put.TheVariants as put
use Rattle.out_ports.specs.declared.ports.Offered.{Offered}
use Rattle.out_ports.specs.declared.ports.Offered.TheVariants as offered
use Rattle.out_ports.specs.Calls.{CallCounts, before_calls, is_next_listed, after_call}

-- what is held, how many bytes there is room for, how often it was finished, the puts, the offers, and whether it was
-- hurried; the calls that fail are puts, and those that are listed of the offers wait
pub record ToldSink : Type 0 where
  pub held : List ℕ
  pub room : ℕ
  pub finishes : ℕ
  pub calls : CallCounts
  pub offers : CallCounts
  pub hurried : Bool

-- an empty sink, before the first put
abbrev pub sink_of : ℕ → List ℕ → ToldSink
sink_of room failing = record {
  held = [];
  room = room;
  finishes = 0;
  calls = before_calls failing;
  offers = before_calls [];
  hurried = false;
}

-- the sink that waits at these offers, counted from now
abbrev pub waiting_at : List ℕ → ToldSink → ToldSink
waiting_at waiting sink = record sink { offers = before_calls waiting }

-- whether a put of so many bytes fails: it is to fail, or there is no room for all of them
abbrev pub put_fails : ToldSink → ℕ → Bool
put_fails sink count = is_next_listed sink.calls || nat_lt sink.room (length sink.held + count)

-- the answer to a put of so many bytes: all of them are taken
abbrev pub put_answer : ToldSink → ℕ → Put
put_answer sink count = if put_fails sink count then put.Failed else put.Some count

-- what is held after a put
abbrev pub held_after : Put → List ℕ → List ℕ → List ℕ
held_after (put.Some n) piece held = held ++ take n piece
held_after put.Failed piece held = held

-- whether a put failed
abbrev pub put_failed : Put → Bool
put_failed (put.Some n) = false
put_failed put.Failed = true

-- the sink after a put
abbrev pub after_put : Put → List ℕ → ToldSink → ToldSink
after_put answer piece sink = record {
  held = held_after answer piece sink.held;
  room = sink.room;
  finishes = sink.finishes;
  calls = after_call (put_failed answer) sink.calls;
  offers = sink.offers;
  hurried = sink.hurried;
}

-- the sink, in which one offer more is counted
abbrev pub after_asking : ToldSink → ToldSink
after_asking sink = record sink { offers = after_call (is_next_listed sink.offers) sink.offers }

-- a put's answer as that of an offer
abbrev pub as_offered : Put → Offered
as_offered (put.Some n) = offered.Some n
as_offered put.Failed = offered.Failed

-- the answer to an offer of so many bytes: it waits, or is that of a put
abbrev pub offer_answer : ToldSink → ℕ → Offered
offer_answer sink count = if is_next_listed sink.offers then offered.Waits else as_offered (put_answer sink count)

-- the sink after an offer: one that waits is no put
abbrev pub after_offer : List ℕ → ToldSink → ToldSink
after_offer piece sink =
    if is_next_listed sink.offers then after_asking sink else
    after_put (put_answer sink (length piece)) piece (after_asking sink)
