-- What may stand between the tokens of a text. Preserves text syntax, "White space" and "Comments"; a comma counts as
-- white space inside [..], #{..} and {..}.
use Rattle.std.specs.Prelude.{◌≡◌, ℕ, Bool, true, false, ◌&&◌, ◌||◌, ◌==◌, not, IsTrue, List, [], ◌∷◌, ◌++◌}
use Rattle.std.specs.Prelude.{if◌then◌else◌}
use Rattle.pv_lex.specs.Characters.{is_space, is_line_end, begins_comment}

-- white space, and a comma where commas count as such
abbrev pub is_blank : Bool → ℕ → Bool
is_blank commas b = is_space b || (commas && (b == 44))

-- blanks, and comments each with its line's end; or what is left of such a text inside a comment
abbrev pub is_gap_from : Bool → Bool → List ℕ → Bool
is_gap_from commas in_comment [] = not in_comment
is_gap_from commas true (b ∷ bs) = is_gap_from commas (not (is_line_end b)) bs
is_gap_from commas false (b ∷ bs) =
    if (b == 35) && begins_comment bs then is_gap_from commas true bs
    else (is_blank commas b && is_gap_from commas false bs)

abbrev pub IsGap : Bool → List ℕ → Type 0
IsGap commas g = IsTrue (is_gap_from commas false g)

-- what follows the longest gap
abbrev pub blank_from : Bool → Bool → List ℕ → List ℕ
blank_from commas in_comment [] = []
blank_from commas true (b ∷ bs) = blank_from commas (not (is_line_end b)) bs
blank_from commas false (b ∷ bs) =
    if (b == 35) && begins_comment bs then blank_from commas true bs
    else (if is_blank commas b then blank_from commas false bs else b ∷ bs)

abbrev pub after_blank : Bool → List ℕ → List ℕ
after_blank commas bytes = blank_from commas false bytes

-- a gap up to the end of the text, whose last comment may lack its line's end
abbrev pub IsLastGap : Bool → List ℕ → Type 0
IsLastGap commas bytes = after_blank commas bytes ≡ []

-- behind a gap the text goes on with this character
abbrev pub GoesOnWith : Bool → ℕ → List ℕ → Type 0
GoesOnWith commas b bytes = (g : List ℕ) × (r : List ℕ) × (bytes ≡ g ++ b ∷ r) × IsGap commas g
