-- Which symbols are printed without quotes.
use Rattle.std.specs.Prelude.{ℕ, Bool, ◌&&◌, nat_lt, not, List}
use Rattle.pv_lex.specs.Characters.{is_bare, all_of}
use Rattle.pv_lex.specs.Numbers.{is_empty, is_integer_text, is_decimal_double}

-- a bare character of ASCII
abbrev pub is_bare_ascii : ℕ → Bool
is_bare_ascii b = is_bare b && nat_lt b 128

-- bare characters of ASCII, one at least, that read as no number
abbrev pub stands_bare : List ℕ → Bool
stands_bare s = not (is_empty s) && all_of is_bare_ascii s && not (is_integer_text s) && not (is_decimal_double s)
