-- The lines that tell what comes and goes: a sign, a space, the printed text of a value, and a line feed.
use Rattle.std.specs.Prelude.{ℕ, List, ◌∷◌, [], ◌++◌}
use Rattle.std.specs.List.{flat_map}
use Rattle.pv_value.specs.Plain.{Plain}
use Rattle.pv_print.specs.Printed.{printed}
use Rattle.dq_core.specs.declared.lines.Line.{Line}
use Rattle.dq_core.specs.declared.lines.Line.TheVariants.{Added, Removed, Said}

abbrev pub signed : ℕ → Plain → List ℕ
signed sign v = sign ∷ 32 ∷ (printed v ++ 10 ∷ [])

-- `+` where a value is asserted, `-` where an assertion of it is taken back, `!` where it is said
abbrev pub line_text : Line → List ℕ
line_text (Added v) = signed 43 v
line_text (Removed v) = signed 45 v
line_text (Said v) = signed 33 v

abbrev pub lines_text : List Line → List ℕ
lines_text ls = flat_map line_text ls
