use Rattle.std.proofs.Common.{◌≡◌, ◌-◌, ◌<◌, suc, is_some, length, sym, ap, ◌∙◌, arith, option_copied, get_or}
use Rattle.ps_schema.proofs.Indexes.{indexed_more, twice_here, twice_behind}
use Rattle.ps_schema.proofs.indexed.places_of.Goals as goal

pub loop-at-preserved-then-is_some : goal.loop-at-preserved-then-is_some
loop-at-preserved-then-is_some c =
    let m : c.loop-at.at ≡ suc (c.loop-at.at - 1) = omega arith in
    let h : c.loop-at.at - 1 < length c.args.defs.now = omega arith in
    let d = get_or c.args.defs.now (c.loop-at.at - 1) c.index-defs-at.result in
    let e = ap (get_or c.args.defs.now (c.loop-at.at - 1)) c.index-defs-at.is in
    let j = c.in_ok-from_slice.ensures.items ∙ c.as_bytes.ensures.same in
    let i = c.loop-at.invariant in record {
      within = omega arith;
      indexed = indexed_more c.loop-at.at (c.loop-at.at - 1) c.args.defs.now d c.in_ok-from_slice.field-0
          c.loop-at.places c.insert.new.self m h e j i.indexed c.in_ok-before.ensures.updates;
      twice = twice_here c.loop-at.at (c.loop-at.at - 1) c.args.defs.now d c.in_ok-from_slice.field-0
          c.loop-at.places.entries m h e j i.indexed
          (ap is_some (sym c.in_ok-before.ensures.old) ∙ sym c.is_some.ensures ∙ c.if-is_some.true);
    }

pub loop-at-preserved : goal.loop-at-preserved
loop-at-preserved c =
    let m : c.loop-at.at ≡ suc (c.loop-at.at - 1) = omega arith in
    let h : c.loop-at.at - 1 < length c.args.defs.now = omega arith in
    let d = get_or c.args.defs.now (c.loop-at.at - 1) c.index-defs-at.result in
    let e = ap (get_or c.args.defs.now (c.loop-at.at - 1)) c.index-defs-at.is in
    let j = c.in_ok-from_slice.ensures.items ∙ c.as_bytes.ensures.same in
    let i = c.loop-at.invariant in record {
      within = omega arith;
      indexed = indexed_more c.loop-at.at (c.loop-at.at - 1) c.args.defs.now d c.in_ok-from_slice.field-0
          c.loop-at.places c.insert.new.self m h e j i.indexed c.in_ok-before.ensures.updates;
      twice = twice_behind c.loop-at.at (c.loop-at.at - 1) c.args.defs.now d c.in_ok-from_slice.field-0
          c.loop-at.places.entries (option_copied c.loop-at.twice) m h e j i.indexed
          (ap is_some (sym c.in_ok-before.ensures.old) ∙ sym c.is_some.ensures ∙ c.if-is_some.false) i.twice;
    }
