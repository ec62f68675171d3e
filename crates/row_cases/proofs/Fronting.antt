-- The fronts told so far, and one byte more.
use Rattle.std.proofs.Common.{◌≡◌, ℕ, suc, ◌++◌, List, take, codes}
use Rattle.row_cases.specs.Told.{said, IsWithout}
use Rattle.row_cases.specs.Shown.{behind_first}
use Rattle.row_cases.specs.Calls.{TellFronts}
use Rattle.row_cases.specs.declared.codecs.Answer.{Answer}

pub front_more : (Gives : List ℕ → Answer → Type 0) (beginning bytes shorter s : List ℕ) (n count m : ℕ) (a : Answer)
    (rest : List ℕ) → count ≡ suc n → m ≡ suc n → TellFronts Gives beginning bytes n shorter
    → Gives (take count bytes) a
    → IsWithout beginning (said a) rest → s ≡ shorter ++ (behind_first n (codes ", ") ++ rest)
    → TellFronts Gives beginning bytes m s
front_more Gives beginning bytes shorter s n count m a rest is next so_far gives without e =
    let g = rw is at gives in rw next (shorter, a, rest, so_far, g, without, e)
