use Rattle.std.proofs.Common.{List, ℕ, ◌++◌, map, ap, sym, ◌∙◌, arith}
use Rattle.std.specs.List.{concat}
use Rattle.pv_canon.specs.Canonical.{canonical}
use Rattle.pv_canon.proofs.Cutting.{forms_next, behind_is, cut_step}
use Rattle.pv_canon.proofs.forms.cut_forms.Goals as goal

pub loop-x-preserved : goal.loop-x-preserved
loop-x-preserved c =
    let next = forms_next c.args.items.now c.loop-x.x-index c.x-item.result (omega arith) c.x-item.is in
    let rest = behind_is (canonical c.x-item.result) c.split_form.result.1.now _
    (sym c.split_form.ensures.behind ∙ c.loop-x.invariant.0 ∙ ap (λ (x : List (List ℕ)). concat x) next) in (
      rest,
      cut_step (λ f. f.items) c.loop-x.forms.items _ c.in_ok-from_slice.field-0 (canonical c.x-item.result) _ _
          c.in_ok-push.ensures.items (c.in_ok-from_slice.ensures.items ∙ c.split_form.ensures.form)
          (ap (λ (x : List (List ℕ)). map (λ f. f.items) c.loop-x.forms.items ++ x) (sym next) ∙ c.loop-x.invariant.1),
    )
