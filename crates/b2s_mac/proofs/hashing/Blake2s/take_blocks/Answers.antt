use Rattle.std.proofs.Common.{◌≡◌, ◌+◌, ◌-◌, ◌*◌, ◌∙◌, arith}
use Rattle.b2s_mac.proofs.Absorbing.{HoldsAfter_at, grown}
use Rattle.b2s_mac.proofs.hashing.Blake2s.take_blocks.Goals as goal

pub blocks-2-preserved : goal.blocks-2-preserved
blocks-2-preserved c =
    let i = c.blocks-2.i in
    let width : 64 * i + 64 - 64 * i ≡ 64 = omega arith in (
      c.take_block.ensures.held,
      c.take_block.ensures.out_len ∙ c.blocks-2.invariant.1,
      λ h d k old.
          HoldsAfter_at h c.take_block.new.self _ _ (k + i + 1) _ (c.take_block.ensures.holds h _ _
          (c.blocks-2.invariant.2 h d k old))
          (grown d c.args.blocks.now i _ width) (omega arith),
    )
