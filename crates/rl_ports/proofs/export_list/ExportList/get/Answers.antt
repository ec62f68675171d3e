-- What is shown under a number is the reference of the export that is kept there.
use Rattle.std.proofs.Common.{◌∙◌, sym, ap}
use Rattle.std.specs.Prelude.{option_map}
use Rattle.std.specs.BTreeMap.{is_at}
use Rattle.std.specs.Map.{lookup}
use Rattle.std.specs.Option.{option_copied}
use Rattle.std.specs.Ordering.{nat_cmp}
use Rattle.rl_ports.specs.Kept.{Listed, shown}
use Rattle.rl_ports.proofs.Entries.{found_shown, referred}
use Rattle.rl_ports.proofs.export_list.ExportList.get.Goals as goal

pub returns-in_err-export : goal.returns-in_err-export
returns-in_err-export c =
    let test = is_at (nat_cmp c.args.number) in
    ap option_copied c.from_residual.ensures
    ∙ ap (option_map referred) c.in_err-export.ensures.value
    ∙ sym (found_shown test c.self.inside.kept.entries)
    ∙ ap (λ (x : Listed). lookup test (shown x.kept)) c.self.view_is

pub returns : goal.returns
returns c =
    let test = is_at (nat_cmp c.args.number) in
    ap (option_map referred) c.in_ok-export.ensures.value
    ∙ sym (found_shown test c.self.inside.kept.entries)
    ∙ ap (λ (x : Listed). lookup test (shown x.kept)) c.self.view_is
