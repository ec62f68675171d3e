use Rattle.std.proofs.Common.{ℕ, ◌∙◌, ◌+◌, ◌*◌, ap, sym}
use Rattle.pv_value.specs.Weight.{node_count}
use Rattle.pv_value.specs.Lemmas.WeightLaws.{weight-nodes}
use Rattle.pv_canon.proofs.Lengths.{canonical_sized}
use Rattle.pv_canon.proofs.laws.weight_counts_nodes.Goals as goal

pub returns : goal.returns
returns c = λ v h.
    weight-nodes v ∙ ap (λ (n : ℕ). n + 48 * node_count v) (sym (canonical_sized v h))
