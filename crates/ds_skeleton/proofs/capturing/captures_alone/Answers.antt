use Rattle.std.proofs.Common.{ℕ, List, cond, ap}
use Rattle.std.specs.BTreeMap as tree
use Rattle.std.specs.Map.{lookup}
use Rattle.pv_value.specs.Plain.{Plain}
use Rattle.pv_value.specs.Order.{order}
use Rattle.pv_words.specs.Parts.{same}
use Rattle.ds_skeleton.specs.Places.{stands}
use Rattle.ds_skeleton.specs.Leaves.{number}
use Rattle.ds_skeleton.proofs.Captures.{first_count}
use Rattle.ds_skeleton.proofs.capturing.captures_alone.Goals as goal

pub returns : goal.returns
returns c q =
    first_count (number (tree.get order c.count_captures.new.counts q)) (number (tree.get order c.new-counts.result q))
    (cond (stands c.args.outline.now c.args.constants.now q c.args.value.now) 1 0)
    (c.in_ok-count_captures.ensures q)
    (ap (λ (es : List (Plain × ℕ)). number (lookup (same q) es)) c.new-counts.ensures.empty)
