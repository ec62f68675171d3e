-- What items assert.
use Rattle.std.proofs.Common.{◌≡◌, ℕ, Some, refl}
use Rattle.pv_value.specs.Plain.{dictionary, pairs}
use Rattle.pv_value.specs.Sets.{dictionary_from}
use Rattle.sc_load.specs.Loads.{fields_of}

-- the keys ascend
pub made : (i : ℕ) → dictionary_from (fields_of i) ≡ Some (dictionary (pairs (fields_of i)))
unfolding dictionary_from
made i = refl
