-- A pin is written at the export of this number, or nothing changes.
use Rattle.std.proofs.Common.{◌∙◌, sym, ap}
use Rattle.std.specs.Option.{option_copied_mut}
use Rattle.rl_ports.specs.Kept.{with_pin}
use Rattle.rl_ports.proofs.Marks.{one_changes, none_changes}
use Rattle.rl_ports.proofs.marking.pin_one.Goals as goal

pub returns-in-Some : goal.returns-in-Some
returns-in-Some c =
    let x = c.in-Some.export.now in
    (c.get_mut.follows.holds (with_pin x)).0
    ∙ one_changes with_pin c.args.number x c.args.kept.now.entries c.get_mut.ensures.ordered (sym c.in-Some.ensures.value)

pub returns-in_default : goal.returns-in_default
returns-in_default c =
    ap (λ m. m.entries) c.get_mut.follows.holds-at-none
    ∙ sym (none_changes with_pin c.args.number c.args.kept.now.entries
    (sym c.get_mut.ensures.value ∙ ap option_copied_mut c.in_default.is))
