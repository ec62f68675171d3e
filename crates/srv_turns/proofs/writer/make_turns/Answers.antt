use Rattle.std.proofs.Common.{◌++◌, subst}
use Rattle.srv_turns.specs.Gathering.{IsGathered}
use Rattle.srv_turns.proofs.Writing.{turned_both, pauses, goes_on_with}
use Rattle.srv_turns.proofs.writer.make_turns.Goals as goal

pub returns-in-Some-make_row : goal.returns-in-Some-make_row
returns-in-Some-make_row g c =
    let d = c.loop.invariant.done in
    let m = c.in-Some-make_row.ensures in (
      d.0 ++ m.0,
      turned_both c.args.connection d.0 m.0 _ _ _ d.3 m.1,
      pauses d.0 m.0 c.loop.gathered.items _ d.1 d.2 _ c.in-Some-make_row.pause m.2,
    )

pub loop-preserved : goal.loop-preserved
loop-preserved g c =
    let d = c.loop.invariant.done in
    let m = c.make_row.ensures in
    let old = c.loop.gathered.items in
    let new = c.make_row.new.gathered.items in
    let spent = g.T.Turns.spent c.make_row.new.turns in
    let on = goes_on_with d.0 m.0 old new d.1 d.2 spent (subst (IsGathered m.0 old new spent) c.in_default.is m.2) in
    record {
      can = tt;
      finite = tt;
      done = (d.0 ++ m.0, on.0, on.1, turned_both c.args.connection d.0 m.0 _ _ _ d.3 m.1);
    }

pub returns-then-len-ge-PIECE : goal.returns-then-len-ge-PIECE
returns-then-len-ge-PIECE g c =
    let d = c.loop.invariant.done in
    let m = c.make_row.ensures in
    let old = c.loop.gathered.items in
    let new = c.make_row.new.gathered.items in
    let spent = g.T.Turns.spent c.make_row.new.turns in
    let on = goes_on_with d.0 m.0 old new d.1 d.2 spent (subst (IsGathered m.0 old new spent) c.in_default.is m.2) in
    (d.0 ++ m.0, turned_both c.args.connection d.0 m.0 _ _ _ d.3 m.1, (on.0, on.1))
