-- How much the value that a template gives weighs, and how deep it nests, reckoned from what was bound: told before any
-- of it is made.
use Rattle.std.specs.Prelude.{ℕ, suc, ◌+◌, max, List, option_map, unwrap_or, slice_get}
use Rattle.pv_value.specs.Plain.{Plain}
use Rattle.pv_value.specs.Weight.{weight, sizes_with}
use Rattle.pv_value.specs.Depth.{depth, deepest}
use Rattle.sr_caveat.specs.Patterns.{Template, attenuate, binding, constant, record_from, sequence_from, dictionary_of}
use Rattle.sr_caveat.specs.Patterns.{Templates, no_templates, then_template}
use Rattle.sr_caveat.specs.Spelled.{caveat_values}

-- of a binding, or 0 where there is none
abbrev pub weight_at : List Plain → ℕ → ℕ
weight_at bs n = unwrap_or (option_map weight (slice_get bs n)) 0

abbrev pub depth_at : List Plain → ℕ → ℕ
depth_at bs n = unwrap_or (option_map depth (slice_get bs n)) 0

abbrev mutual
  pub filled_weight : Template → List Plain → ℕ
  filled_weight (attenuate t cs) bs = filled_weight t bs + sizes_with 48 (caveat_values cs)
  filled_weight (binding n) bs = weight_at bs n
  filled_weight (constant v) bs = weight v
  filled_weight (record_from l ts) bs = 50 + weight l + filled_weights ts bs
  filled_weight (sequence_from ts) bs = 50 + filled_weights ts bs
  filled_weight (dictionary_of ks ts) bs = 50 + sizes_with 48 ks + filled_weights ts bs

  pub filled_weights : Templates → List Plain → ℕ
  filled_weights no_templates bs = 0
  filled_weights (then_template t ts) bs = filled_weight t bs + filled_weights ts bs

-- a reference's caveats stand two levels in
abbrev mutual
  pub filled_depth : Template → List Plain → ℕ
  filled_depth (attenuate t cs) bs = max (filled_depth t bs) (suc (suc (deepest (caveat_values cs))))
  filled_depth (binding n) bs = depth_at bs n
  filled_depth (constant v) bs = depth v
  filled_depth (record_from l ts) bs = suc (max (depth l) (filled_depths ts bs))
  filled_depth (sequence_from ts) bs = suc (filled_depths ts bs)
  filled_depth (dictionary_of ks ts) bs = suc (max (deepest ks) (filled_depths ts bs))

  pub filled_depths : Templates → List Plain → ℕ
  filled_depths no_templates bs = 0
  filled_depths (then_template t ts) bs = max (filled_depth t bs) (filled_depths ts bs)
