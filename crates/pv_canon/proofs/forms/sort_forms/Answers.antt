use Rattle.std.proofs.lemmas.Cmp.{nat_list_cmp_total}
use Rattle.std.proofs.lemmas.Map.Lookups.{exact_bytes}
use Rattle.pv_canon.specs.Canonical.{byte_order}
use Rattle.pv_canon.proofs.Sorting.{sorted_seen}
use Rattle.pv_canon.proofs.forms.sort_forms.Goals as goal

pub returns : goal.returns
returns c = sorted_seen byte_order nat_list_cmp_total exact_bytes
    (λ f. f.items) _ _ c.sort_unstable.ensures.permutation c.sort_unstable.ensures.sorted
