-- What the run of a script left, told as its report.
use Rattle.std.proofs.Common.{◌≡◌, ℕ, List, ap, ◌∙◌, subst}
use Rattle.pv_value.specs.Plain.{Plain}
use Rattle.hub_laws.specs.Laws.{SettledHoldings}
use Rattle.pv_print.specs.Lines.{line}
use Rattle.sc_events.specs.declared.inputs.Form.{Form as Input}
use Rattle.sc_events.specs.declared.inputs.Form.TheVariants.{Binary as binary}
use Rattle.sc_load.specs.Loads.{load_bytes}
use Rattle.sc_report.specs.Reports.{RanState, report_of}
use Rattle.sc_script.specs.Scripts.{LeavesAs}
use Rattle.dsd_top.specs.Asked.{Loading}
use Rattle.dsd_top.specs.Loading.{load_value, IsLoadLine}
use Rattle.dsd_top.specs.declared.forms.Form.{Form}
use Rattle.dsd_top.specs.Forms.{in_form}
use Rattle.dsd_top.specs.Makings.{LeavesSuch, IsReported}

-- each step met its condition, so that the law speaks of what is held
pub left_such : (input : Input) (bytes : List ℕ) (ran : RanState) (Is : RanState → Type 0) → SettledHoldings
    → LeavesAs input bytes ran → Is ran → LeavesSuch input bytes Is
left_such input bytes ran Is law leaves is = λ N decides.
    let l = leaves N decides in (l.0, l.1, λ k. law l.0.schema k l.0.steps l.2, subst Is l.3 is)

pub reported : (input : Input) (form : Form) (bytes out : List ℕ) (ran : RanState) (v : Plain) → SettledHoldings
    → LeavesAs input bytes ran → v ≡ report_of ran → out ≡ in_form form v → IsReported input form bytes out
reported input form bytes out ran v law leaves told written =
    left_such input bytes ran (λ r. out ≡ in_form form (report_of r)) law leaves (written ∙ ap (in_form form) told)

pub loaded : (l : Loading) (bytes out : List ℕ) (ran : RanState) (v : Plain) → SettledHoldings
    → bytes ≡ load_bytes l.start l.count → LeavesAs binary bytes ran → v ≡ load_value l ran → out ≡ line v
    → IsLoadLine l out
loaded l bytes out ran v law same leaves told written =
    left_such binary (load_bytes l.start l.count) ran (λ r. out ≡ line (load_value l r)) law
    (subst (λ b. LeavesAs binary b ran) same leaves) (written ∙ ap line told)
