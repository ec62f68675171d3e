use Rattle.std.proofs.Common.{◌≡◌, ℕ, List, length, take, min, ◌∙◌, ap, arith}
use Rattle.std.proofs.lemmas.List.{take_min}
use Rattle.out_ports.specs.Ports.{file_front}
use Rattle.out_ports.proofs.memory.host.front.Goals as goal

least : (n m : ℕ) (xs : List ℕ) → m ≡ min (length xs) n → take m xs ≡ take n xs
least n m xs e = let f : m ≡ min n (length xs) = omega arith in ap (λ k. take k xs) f ∙ take_min n xs

pub returns-clause-front : goal.returns-clause-front
unfolding file_front
returns-clause-front c = least 1048577 _ _ c.min.ensures
