use Rattle.std.proofs.Common.{◌∙◌, sym, ap, option_copied, arith, rules}
use Rattle.pv_value.specs.Plain.{plains}
use Rattle.pv_words.proofs.Places.{got_item, placed_item, far_item}
use Rattle.pv_words.proofs.parts.item_under.Goals as goal

pub returns-in_err-place : goal.returns-in_err-place
returns-in_err-place c =
    ap option_copied c.from_residual.ensures
    ∙ far_item c.args.items.now c.args.key.now (sym c.number_in.ensures ∙ c.in_err-place.was) (search rules)

pub returns : goal.returns
returns c =
    got_item c.args.items.now c.in_ok-place.place c.get.result c.get.ensures.lookup.0
    (c.get.ensures.lookup.4 (omega arith))
    ∙ sym (placed_item (plains c.args.items.now) c.args.key.now c.in_ok-place.place (sym c.in_ok-place.ensures))
