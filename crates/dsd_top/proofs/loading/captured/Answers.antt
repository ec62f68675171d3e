use Rattle.std.proofs.Common.{◌≡◌, sym, subst, ap, ◌∙◌, arith}
use Rattle.pv_value.specs.Plain.{plains, sequence}
use Rattle.pv_value.specs.View.{view_node}
use Rattle.dsd_top.specs.Loading.{captured}
use Rattle.dsd_top.proofs.Adding.{none_captured}
use Rattle.dsd_top.proofs.loading.captured.Goals as goal

pub returns-in_default-as_slice-2 : goal.returns-in_default-as_slice-2
returns-in_default-as_slice-2 c =
    let items = c.as_slice.result.now in
    let is : sequence (plains items) ≡ c.args.value.now =
    ap (λ vs. sequence (plains vs)) c.as_slice.ensures.same ∙ ap view_node (sym c.in-Seq.is) ∙ c.value.view_is in
    subst (λ v. 0 ≡ captured v) is (none_captured items (omega (arith, c.in_default-as_slice.len_at_least)))
