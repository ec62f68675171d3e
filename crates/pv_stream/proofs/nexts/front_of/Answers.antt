use Rattle.std.proofs.Common.{◌≡◌, ℕ, List, length, take, min, ◌∙◌, ap, arith}
use Rattle.std.proofs.lemmas.List.{take_min}
use Rattle.pv_stream.specs.Limits.{most_bytes}
use Rattle.pv_stream.proofs.nexts.front_of.Goals as goal

least : (n m : ℕ) (xs : List ℕ) → m ≡ min (length xs) n → take m xs ≡ take n xs
least n m xs e = let f : m ≡ min n (length xs) = omega arith in ap (λ k. take k xs) f ∙ take_min n xs

pub returns : goal.returns
returns c = least most_bytes _ _ c.min.ensures
