use Rattle.std.proofs.Common.{ℕ, List}
use Rattle.std.specs.Cmp.{then_total, on_total}
use Rattle.std.proofs.lemmas.Cmp.{nat_list_cmp_total}
use Rattle.std.proofs.lemmas.Map.Lookups.{exact_bytes, exact_pairs}
use Rattle.pv_canon.specs.Canonical.{byte_order, form_order}
use Rattle.pv_canon.proofs.Sorting.{sorted_seen}
use Rattle.pv_canon.proofs.forms.sort_entries.Goals as goal

pub returns : goal.returns
returns c =
    let total = then_total (on_total (λ (e : List ℕ × List ℕ). e.0) nat_list_cmp_total)
    (on_total (λ (e : List ℕ × List ℕ). e.1) nat_list_cmp_total) in
    sorted_seen form_order total (exact_pairs byte_order byte_order exact_bytes exact_bytes)
    (λ e. (e.0.items, e.1.items)) _ _ c.sort_unstable.ensures.permutation c.sort_unstable.ensures.sorted
