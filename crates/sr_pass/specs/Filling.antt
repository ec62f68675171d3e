-- What a caveat's template makes of the values that were bound. Sturdyref document, "caveats".
use Rattle.std.specs.Prelude.{Bool, nat_le, List, [], ◌∷◌, length, Option, Some, None, option_map, option_and_then}
use Rattle.std.specs.Prelude.{slice_get, ◌==◌, ◌&&◌, if◌then◌else◌}
use Rattle.pv_value.specs.Plain.{Plain, record_of, sequence, dictionary, embedded, Plains, plains, listed}
use Rattle.pv_value.specs.Weight.{weight}
use Rattle.sr_caveat.specs.Patterns.{Template, attenuate, binding, constant, record_from, sequence_from, dictionary_of}
use Rattle.sr_caveat.specs.Patterns.{Templates, no_templates, then_template}
use Rattle.sr_caveat.specs.Patterns.{Caveat, listed_caveats}
use Rattle.sr_caveat.specs.Spelled.{paired_with}
use Rattle.sr_caveat.specs.Limits.{reference_caveats, reference_weight}
use Rattle.sr_caveat.specs.Caps.{cap_of, cap_value, attenuated}
use Rattle.sr_caveat.specs.declared.caps.Cap.{Cap}

-- a reference has no more caveats than it may, and weighs no more
abbrev pub is_reference : Cap → Bool
is_reference c = nat_le (length c.caveats) reference_caveats && nat_le (weight (cap_value c)) reference_weight

abbrev pub if_reference : Cap → Option Plain
if_reference c = if is_reference c then Some (embedded (cap_value c)) else None

-- the reference that a value is, with these caveats behind its own; none where it is no reference, or would be past its
-- bounds
abbrev pub reference_with : List Caveat → Plain → Option Plain
reference_with cs (embedded x) = option_and_then (λ c. if_reference (attenuated cs c)) (cap_of x)
reference_with cs v = None

-- the dictionary of these values under these keys, where there are as many
abbrev pub dictionary_under : Plains → List Plain → Option Plain
dictionary_under ks xs =
    if length (listed ks) == length xs then Some (dictionary (paired_with ks (plains xs))) else None

-- a list that begins with this, where both are there
abbrev pub with_first : Option Plain → Option (List Plain) → Option (List Plain)
with_first (Some x) (Some xs) = Some (x ∷ xs)
with_first (Some x) None = None
with_first None xs = None

abbrev mutual
  pub filled : Template → List Plain → Option Plain
  filled (attenuate t cs) bs = option_and_then (reference_with (listed_caveats cs)) (filled t bs)
  filled (binding n) bs = slice_get bs n
  filled (constant v) bs = Some v
  filled (record_from l ts) bs = option_map (λ xs. record_of l (plains xs)) (all_filled ts bs)
  filled (sequence_from ts) bs = option_map (λ xs. sequence (plains xs)) (all_filled ts bs)
  filled (dictionary_of ks ts) bs = option_and_then (dictionary_under ks) (all_filled ts bs)

  pub all_filled : Templates → List Plain → Option (List Plain)
  all_filled no_templates bs = Some []
  all_filled (then_template t ts) bs = with_first (filled t bs) (all_filled ts bs)
