-- Keys by groups, as contracts see them: flat lists, each ascending by its keys.
use Rattle.std.specs.Prelude.{ℕ, List, Option, Some, None}
use Rattle.pv_value.specs.Plain.{Plain, sequence, no_more, then_more}

-- the handle of each key, and the facet of each group that has one
pub record Grouped : Type 0 where
  pub handles : List (Plain × ℕ)
  pub facets : List (Plain × ℕ)

-- the group of a key is its first item, as o is of `[o c]`
abbrev pub group_of : Plain → Option Plain
group_of (sequence (then_more o rest)) = Some o
group_of k = None

-- the key `[o c]`
abbrev pub pair : Plain → Plain → Plain
pair o c = sequence (then_more o (then_more c no_more))

-- o and c, where a key is `[o c]`
abbrev pub parts : Plain → Option (Plain × Plain)
parts (sequence (then_more o (then_more c no_more))) = Some (o, c)
parts k = None
