use Rattle.pv_stream.proofs.Walking.{ends_at_tag}
use Rattle.pv_stream.proofs.walks.walk.Goals as goal

pub returns : goal.returns
returns c = (
  c.loop-place.invariant,
  ends_at_tag c.args.left.now c.loop-place.place c.loop-place.levels.items c.loop-place.invariant
      c.loop-place-test.false,
)
