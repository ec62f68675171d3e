use Rattle.std.proofs.Common.{ℕ, List, ◌-◌, ◌*◌, ◌/◌, length, take, drop, ◌∙◌, arith, refl, length-take, length-drop}
use Rattle.std.proofs.lemmas.List.{take_rest}
use Rattle.b2s_mac.proofs.Absorbing.{HoldsAfter_at, Holds-more, pieces}
use Rattle.b2s_mac.proofs.hashing.Blake2s.update.Goals as goal

pub returns-then-bytes-room : goal.returns-then-bytes-room
returns-then-bytes-room c = λ key m n old.
    Holds-more c.args.self.now c.hold.new.self key m c.args.bytes.now n old c.hold.ensures.out_len
    (λ none. (omega (arith, c.hold.ensures.held), omega (arith, c.hold.ensures.held)))
    (λ h d k held. (k, c.hold.ensures.holds h d k held))

pub returns : goal.returns
returns c = λ key m n old.
    let b = c.args.bytes.now in
    let a : ℕ = 64 - c.args.self.now.held in
    let rest : List ℕ = take (length b - a) (drop a b) in
    let w : ℕ = (length rest - 1) / 64 * 64 in
    Holds-more c.args.self.now c.hold-3.new.self key m b n old
    (c.hold-3.ensures.out_len ∙ c.take_blocks.ensures.out_len ∙ c.take_buffer.ensures.out_len
    ∙ c.hold-2.ensures.out_len)
    (λ none. absurd (omega (
      arith,
      c.hold-3.ensures.held,
      length-take (length rest - w) (drop w rest),
      length-drop w rest,
      length-take (length b - a) (drop a b),
      length-drop a b,
    )))
    (λ h d k held. (
      _,
      HoldsAfter_at h c.hold-3.new.self _ _ _ _
          (c.hold-3.ensures.holds h _ _ (c.take_blocks.ensures.holds h _ _ (c.take_buffer.ensures.holds h _ _
          (c.hold-2.ensures.holds h d k held))))
          (pieces d b _ rest _ _ a w refl (take_rest b a) refl (take_rest rest w)) refl,
    ))
