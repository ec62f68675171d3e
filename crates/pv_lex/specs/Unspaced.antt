-- A text without its white space, and base64 in the standard alphabet besides.
use Rattle.std.specs.Prelude.{ℕ, ◌==◌, List, [], ◌∷◌, if◌then◌else◌}
use Rattle.pv_lex.specs.Characters.{is_space}

abbrev pub without_spaces : List ℕ → List ℕ
without_spaces [] = []
without_spaces (b ∷ bs) = if is_space b then without_spaces bs else b ∷ without_spaces bs

-- + for -, and / for _
abbrev pub standard_digit : ℕ → ℕ
standard_digit b = if b == 45 then 43 else (if b == 95 then 47 else b)

abbrev pub standard_digits : List ℕ → List ℕ
standard_digits [] = []
standard_digits (b ∷ bs) = if is_space b then standard_digits bs else standard_digit b ∷ standard_digits bs
