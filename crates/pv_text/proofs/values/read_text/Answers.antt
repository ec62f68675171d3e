use Rattle.std.proofs.Common.{ℕ, arith, sym, ◌∙◌}
use Rattle.std.proofs.lemmas.Result.{err_from_is_err_and}
use Rattle.pv_value.specs.Plain.{Plain}
use Rattle.pv_value.specs.declared.Value.{Value}
use Rattle.pv_text.specs.Reading.{text_value}
use Rattle.pv_read.specs.Lemmas.Answering.{fault_only, fault_exact, fault_is}
use Rattle.pv_text.proofs.Whole.{text_found, text_within, text_same, text_read, text_stands, text_fails}
use Rattle.pv_text.proofs.values.read_text.Goals as goal

pub returns-in_err-value-clause-only : goal.returns-in_err-value-clause-only
returns-in_err-value-clause-only c =
    let p = err_from_is_err_and c.from_residual.result c.from_residual.ensures.1 in
    λ n v b. rw (p.1, p.2) (fault_only {X = Value × ℕ} {Y = Plain × ℕ} (λ x. (x.0, x.1)) (text_value c.args.text.now) _
    c.in_err-value.ensures _ (text_read c.args.text.now v b.1 b.0 b.2) _)

pub returns-in_err-value-clause-exact : goal.returns-in_err-value-clause-exact
returns-in_err-value-clause-exact c =
    let p = err_from_is_err_and c.from_residual.result c.from_residual.ensures.1 in
    rw (p.1, p.2) (fault_exact (text_value c.args.text.now) (Value × ℕ) _ c.in_err-value.ensures _
    (text_stands c.args.text.now))

pub returns-in_err-value-clause-only_fault : goal.returns-in_err-value-clause-only_fault
returns-in_err-value-clause-only_fault c =
    let p = err_from_is_err_and c.from_residual.result c.from_residual.ensures.1 in
    λ f s. rw (p.1, p.2) (fault_is (text_value c.args.text.now) (Value × ℕ) _ c.in_err-value.ensures f
    (text_fails c.args.text.now f s))

pub overflow_sub-result : goal.overflow_sub-result
overflow_sub-result c = text_within c.args.text.now c.in_ok-value.value c.in_ok-value.rest.now c.in_ok-value.ensures

pub returns-clause-found : goal.returns-clause-found
returns-clause-found c =
    let l = text_found c.args.text.now c.in_ok-value.value c.in_ok-value.rest.now c.in_ok-value.ensures in
    let w = text_within c.args.text.now c.in_ok-value.value c.in_ok-value.rest.now c.in_ok-value.ensures in
    (l.0, c.in_ok-value.rest.now, l.1, omega (arith, w))

pub returns-clause-only : goal.returns-clause-only
returns-clause-only c =
    λ n v b. text_same c.args.text.now n v c.in_ok-value.value c.in_ok-value.rest.now c.in_ok-value.ensures b

pub returns-clause-only_fault : goal.returns-clause-only_fault
returns-clause-only_fault c = λ f s. cc (sym c.in_ok-value.ensures ∙ text_fails c.args.text.now f s)
