-- How much references weigh with caveats behind their own.
use Rattle.std.proofs.Common.{◌≡◌, ◌+◌, List, [], ◌∷◌, ◌++◌, arith}
use Rattle.pv_value.specs.Weight.{weight, sizes_with}
use Rattle.sr_caveat.specs.Caps.{Cap, cap_value, attenuated}
use Rattle.sr_caveat.specs.Patterns.{Caveat, caveats}
use Rattle.sr_caveat.specs.Spelled.{caveat_values}

pub appended_weight : (cs ds : List Caveat)
    → sizes_with 48 (caveat_values (caveats (cs ++ ds)))
    ≡ sizes_with 48 (caveat_values (caveats cs)) + sizes_with 48 (caveat_values (caveats ds))
appended_weight [] ds = omega arith
appended_weight (c ∷ cs) ds = omega (arith, appended_weight cs ds)

-- as much as the reference and the caveats
pub attenuated_weight : (cs : List Caveat) (c : Cap)
    → weight (cap_value (attenuated cs c)) ≡ weight (cap_value c) + sizes_with 48 (caveat_values (caveats cs))
unfolding weight
attenuated_weight cs c = omega (arith, appended_weight c.caveats cs)
