use Rattle.std.proofs.Common.{List, ℕ, ◌≡◌, ◌++◌, ◌+◌, map, ap, sym, ◌∙◌, append_assoc, arith}
use Rattle.std.specs.List.{concat}
use Rattle.pv_value.specs.Lemmas.Appending.{starts_from}
use Rattle.pv_canon.specs.Canonical.{canonical, joined}
use Rattle.pv_canon.proofs.Cutting.{entries_from, entries_next, behind_is, cut_step}
use Rattle.pv_canon.proofs.forms.cut_entries.Goals as goal

-- what is behind the key
behind_key : (c : goal.After-behind-1) → c.split_form.result.1.now
    ≡ canonical c.e-item.result.value ++ concat (map joined (entries_from (c.loop-e.e-index + 1) c.args.entries.now))
behind_key c =
    let next = entries_next c.args.entries.now c.loop-e.e-index c.e-item.result (omega arith) c.e-item.is in
    let more = concat (map joined (entries_from (c.loop-e.e-index + 1) c.args.entries.now)) in
    behind_is (canonical c.e-item.result.key) c.split_form.result.1.now _
    (sym c.split_form.ensures.behind ∙ c.loop-e.invariant.0
    ∙ ap (λ (x : List (List ℕ × List ℕ)). concat (map joined x)) next
    ∙ append_assoc (canonical c.e-item.result.key) (canonical c.e-item.result.value) more)

pub split_form-requires-in-loop-e : goal.split_form-requires-in-loop-e
split_form-requires-in-loop-e c =
    starts_from (canonical c.e-item.result.value) c.split_form.result.1.now _ (behind_key c)

pub loop-e-preserved : goal.loop-e-preserved
loop-e-preserved c =
    let next = entries_next c.args.entries.now c.loop-e.e-index c.e-item.result (omega arith) c.e-item.is in
    let more = concat (map joined (entries_from (c.loop-e.e-index + 1) c.args.entries.now)) in
    let key = behind_is (canonical c.e-item.result.key) c.split_form.result.1.now _
    (sym c.split_form.ensures.behind ∙ c.loop-e.invariant.0
    ∙ ap (λ (x : List (List ℕ × List ℕ)). concat (map joined x)) next
    ∙ append_assoc (canonical c.e-item.result.key) (canonical c.e-item.result.value) more) in
    let rest = behind_is (canonical c.e-item.result.value) c.split_form-in-loop-e.result.1.now _
    (sym c.split_form-in-loop-e.ensures.behind ∙ key) in
    let first = c.in_ok-key.ensures.items ∙ c.split_form.ensures.form in
    let second = c.in_ok-value.ensures.items ∙ c.split_form-in-loop-e.ensures.form in (
      rest,
      cut_step (λ f. (f.0.items, f.1.items)) c.loop-e.forms.items _ (c.in_ok-key.key, c.in_ok-value.value)
          (canonical c.e-item.result.key, canonical c.e-item.result.value) _ _ c.in_ok-push.ensures.items
          (λ i. (first i, second i))
          (ap (λ (x : List (List ℕ × List ℕ)). map (λ f. (f.0.items, f.1.items)) c.loop-e.forms.items ++ x) (sym next)
          ∙ c.loop-e.invariant.1),
    )
