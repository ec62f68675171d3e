-- Text up to a closing quote, item by item: an item is a character as it stands, or an escape.
-- item gives what the first item stands for, and the bytes behind it. k is at least the number of bytes.
use Rattle.std.specs.Prelude.{ℕ, zero, suc, ◌==◌, List, [], ◌∷◌, ◌++◌, if◌then◌else◌, Result, Ok, Err}
use Rattle.pv_read.specs.Results.{◌>>=◌}
use Rattle.pv_lex.specs.declared.faults.TextKind.{TextKind}
use Rattle.pv_lex.specs.declared.faults.TextKind.TheVariants.{Unclosed}

-- what a text stands for up to its closing quote, and what follows the quote
abbrev pub content_in : (List ℕ → Result (List ℕ × List ℕ) TextKind) → ℕ → ℕ → List ℕ
    → Result (List ℕ × List ℕ) TextKind
content_in item quote zero bytes = Err Unclosed
content_in item quote (suc k) [] = Err Unclosed
content_in item quote (suc k) (b ∷ bs) =
    if b == quote then Ok ([], bs)
    else (item (b ∷ bs) >>= λ i. content_in item quote k i.1 >>= λ s. Ok (i.0 ++ s.0, s.1))

-- what a text between quotes stands for
abbrev pub items_value : (List ℕ → Result (List ℕ × List ℕ) TextKind) → ℕ → List ℕ → Result (List ℕ) TextKind
items_value item k [] = Ok []
items_value item zero (b ∷ bs) = Err Unclosed
items_value item (suc k) (b ∷ bs) = item (b ∷ bs) >>= λ i. items_value item k i.1 >>= λ s. Ok (i.0 ++ s)
