-- The first export is kept as it is, whatever it weighs.
use Rattle.std.proofs.Common.{◌≡◌, ◌∙◌, ◌∷◌, [], ap, sym, subst, refl, true, ℕ, List}
use Rattle.std.specs.BTreeMap.{insert_entry}
use Rattle.std.specs.Ordering.{nat_cmp}
use Rattle.pv_value.specs.Plain.{Plain}
use Rattle.pv_value.specs.Weight.{weight}
use Rattle.rl_ports.specs.Ports.{told}
use Rattle.rl_ports.specs.Kept.{Export, number_at, new_export, table_of, IsKept, IsFirstPinned}
use Rattle.rl_ports.proofs.Keeps.{kept_first}
use Rattle.rl_ports.proofs.export_list.ExportList.new.Goals as goal

pub invariant_of-result : goal.invariant_of-result
invariant_of-result c =
    let first = c.in_ok-reference.reference in
    let same : first ≡ c.args.first = c.in_ok-reference.ensures in
    let kept_is : c.put.new.kept.entries ≡ (0, new_export true first) ∷ [] =
    c.in_ok-put.ensures.kept
    ∙ ap (λ (es : List (ℕ × Export)). insert_entry nat_cmp es 0 (new_export true first)) c.new-kept.ensures.empty in
    let kept = kept_first first c.new-numbers.result.entries c.put.new.numbers.entries c.weight-weight.result
    (c.weight-weight.ensures ∙ ap (λ (r : Plain). told (weight r)) (sym same))
    (λ q. ap (number_at q) c.new-numbers.ensures.empty) c.in_ok-put.ensures.numbers in
    subst (λ (es : List (ℕ × Export)). IsKept (table_of (record { kept = es; next = 1 })) c.put.new.numbers.entries
    c.weight-weight.result × IsFirstPinned es) (sym kept_is) (kept, (refl, refl))
