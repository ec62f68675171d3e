use Rattle.std.proofs.Common.{◌≡◌, ◌^◌, [], refl, ap, ◌∙◌, subst, arith}
use Rattle.out_ports.specs.Ports.{given_after, ended_after}
use Rattle.out_ports.specs.declared.ports.Took.TheVariants as took
use Rattle.pv_stream.specs.Takes.{IsTakenBehind}
use Rattle.srv_turns.specs.Keeping.{taken_after, link_end}
use Rattle.srv_turns.proofs.Taking.{none_taken, end_left}
use Rattle.srv_turns.proofs.Coming.{same_stream, piece_came, none_came, end_came, nothing_more}
use Rattle.srv_turns.proofs.Reading.{forgot, link_ended, link_failed, all_taken}
use Rattle.srv_turns.proofs.reader.take.Goals as goal

pub returns-then-room-eq0-clause-reads : goal.returns-then-room-eq0-clause-reads
returns-then-room-eq0-clause-reads g c = λ b before reading counted.
    let full : c.args.received.now.taken ≡ 2 ^ 40 = omega arith in (
      [],
      none_taken _ _ _ refl,
      tt,
      all_taken c.args.connection b c.args.received.now.stream before _ reading _ _ _ c.requires.waits
          (counted ∙ full) c.close.ensures,
    )

pub returns-in-Some-clause-reads : goal.returns-in-Some-clause-reads
returns-in-Some-clause-reads g c = λ b before reading counted.
    let old = c.args.received.now in
    let now = c.take_from.new.self in
    let left = g.R.Source.left c.args.link.now in
    let leaves = g.R.Source.left c.take_from.new.link in
    let given = g.R.Source.given c.args.link.now in
    let gives = g.R.Source.given c.take_from.new.link in
    piece_came c.args.connection b old.stream now.stream before _ reading _ left leaves given gives old.taken now.taken
    (subst (λ t. IsTakenBehind t left leaves old.stream.rest now.stream.rest) c.in-Some.is c.in-Ok.ensures.came)
    c.take_from.ensures.place
    (subst (λ t. gives ≡ given_after t given) c.in-Some.is c.in-Ok.ensures.counted)
    (subst (λ t. now.taken ≡ taken_after t old.taken) c.in-Some.is c.in-Ok.ensures.taken) counted

pub returns-in-End-clause-reads : goal.returns-in-End-clause-reads
returns-in-End-clause-reads g c = λ b before reading counted.
    let old = c.args.received.now in
    let now = c.take_from.new.self in
    let left = g.R.Source.left c.args.link.now in
    let leaves = g.R.Source.left c.take_from.new.link in
    let given = g.R.Source.given c.args.link.now in
    let gives = g.R.Source.given c.take_from.new.link in
    let came : IsTakenBehind took.End left leaves old.stream.rest now.stream.rest =
    subst (λ t. IsTakenBehind t left leaves old.stream.rest now.stream.rest) c.in-End.is c.in-Ok.ensures.came in
    let same : now.stream ≡ old.stream = same_stream now.stream old.stream came.filled c.take_from.ensures.place in (
      [],
      end_came old.stream.rest now.stream.rest left leaves given gives came
          (subst (λ t. gives ≡ given_after t given) c.in-End.is c.in-Ok.ensures.counted),
      tt,
      link_ended c.args.connection b old.stream before _ reading _ _ _ c.requires.waits _
          (c.end-end.ensures ∙ ap link_end same) c.close-in-End.ensures,
    )

pub returns-in-End-clause-at_end : goal.returns-in-End-clause-at_end
returns-in-End-clause-at_end g c = λ at.
    let old = c.args.received.now in
    let now = c.take_from.new.self in
    let left = g.R.Source.left c.args.link.now in
    let leaves = g.R.Source.left c.take_from.new.link in
    let came : IsTakenBehind took.End left leaves old.stream.rest now.stream.rest =
    subst (λ t. IsTakenBehind t left leaves old.stream.rest now.stream.rest) c.in-End.is c.in-Ok.ensures.came in (
      subst (λ t. g.R.Source.ended c.take_from.new.link ≡ ended_after t (g.R.Source.ended c.args.link.now)) c.in-End.is
          c.in-Ok.ensures.at_end,
      end_left left leaves came.taken,
    )

pub returns-in-Failed-clause-reads : goal.returns-in-Failed-clause-reads
returns-in-Failed-clause-reads g c = λ b before reading counted.
    let old = c.args.received.now in
    let now = c.take_from.new.self in
    let left = g.R.Source.left c.args.link.now in
    let leaves = g.R.Source.left c.take_from.new.link in
    let given = g.R.Source.given c.args.link.now in
    let gives = g.R.Source.given c.take_from.new.link in
    let came : IsTakenBehind took.Failed left leaves old.stream.rest now.stream.rest =
    subst (λ t. IsTakenBehind t left leaves old.stream.rest now.stream.rest) c.in-Failed.is c.in-Ok.ensures.came in (
      [],
      none_came left leaves given gives came.taken
          (subst (λ t. gives ≡ given_after t given) c.in-Failed.is c.in-Ok.ensures.counted),
      tt,
      link_failed c.args.connection b old.stream before _ reading _ _ _ c.requires.waits c.close-in-Failed.ensures,
    )

pub returns-in-Err-clause-reads : goal.returns-in-Err-clause-reads
returns-in-Err-clause-reads g c = λ b before reading counted.
    let same : c.take_from.new.link ≡ c.args.link.now = c.in-Err.ensures.unasked in (
      [],
      none_came _ _ _ _ (ap g.R.Source.left same) (ap g.R.Source.given same),
      tt,
      nothing_more c.args.connection b before _ _ _
          (forgot c.args.connection b _ before _ reading c.bytes_have_courses.ensures _),
    )
