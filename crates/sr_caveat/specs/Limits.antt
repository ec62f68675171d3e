-- The limits on references and on the values that pass them.
use Rattle.std.specs.Prelude.{ℕ}

-- the most that a value weighs, as the server keeps it
abbrev pub value_weight : ℕ
value_weight = 1048576

-- how deep such a value nests at most
abbrev pub value_depth : ℕ
value_depth = 48

-- the most caveats of a reference
abbrev pub reference_caveats : ℕ
reference_caveats = 32

-- the most that a reference weighs with its caveats
abbrev pub reference_weight : ℕ
reference_weight = 65536
