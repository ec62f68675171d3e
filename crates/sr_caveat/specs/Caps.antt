-- References with caveats: an object of an actor, and what stands between it and those who hold the reference.
-- Sturdyref document, "caveats".
use Rattle.std.specs.Prelude.{ℕ, ◌≡◌, ◌^◌, ◌<◌, true, nat_lt, List, [], ◌∷◌, ◌++◌, Option, Some, None}
use Rattle.std.specs.Prelude.{option_and_then, if◌then◌else◌}
use Rattle.std.specs.List.{AllByRecursion}
use Rattle.pv_value.specs.Plain.{Plain, sequence, Plains, no_more, then_more}
use Rattle.pv_words.specs.Words.{number, number_in}
use Rattle.pv_words.specs.Parts.{same}
use Rattle.sr_caveat.specs.Patterns.{Caveat, caveats}
use Rattle.sr_caveat.specs.Spelled.{caveat_value, caveat_values}
use Rattle.sr_caveat.specs.Written.{caveat_of}

-- a reference: an object of an actor, and the caveats before it, the oldest first
pub record Cap : Type 0 where
  pub actor : ℕ
  pub entity : ℕ
  pub caveats : List Caveat

-- `[actor entity caveat ..]`
abbrev pub cap_value : Cap → Plain
cap_value c =
    sequence (then_more (number c.actor) (then_more (number c.entity) (caveat_values (caveats c.caveats))))

-- the caveats of these values, each read as one of the server's own
abbrev pub caveats_from : Plains → List Caveat
caveats_from no_more = []
caveats_from (then_more x xs) = caveat_of true x ∷ caveats_from xs

-- an actor's number is below 2 ^ 32, and an object's below 2 ^ 63
abbrev pub cap_at : Option ℕ → Option ℕ → List Caveat → Option Cap
cap_at (Some a) (Some e) cs = if nat_lt a (2 ^ 32) then Some (record { actor = a; entity = e; caveats = cs }) else None
cap_at (Some a) None cs = None
cap_at None e cs = None

abbrev pub cap_read : Plain → Option Cap
cap_read (sequence (then_more a (then_more e xs))) = cap_at (number_in a) (number_in e) (caveats_from xs)
cap_read v = None

abbrev pub if_spelled : Plain → Cap → Option Cap
if_spelled v c = if same (cap_value c) v then Some c else None

-- the reference that a value writes; none where it isn't the value of one
abbrev pub cap_of : Plain → Option Cap
cap_of v = option_and_then (if_spelled v) (cap_read v)

-- the same reference with these caveats behind its own
abbrev pub attenuated : List Caveat → Cap → Cap
attenuated cs c = record c { caveats = c.caveats ++ cs }

-- a caveat that is read back from its value: each one that was read is
abbrev pub IsReadBack : Caveat → Type 0
IsReadBack c = caveat_of true (caveat_value c) ≡ c

-- an object's number is in its bounds, and so is the actor's; each caveat is one that was read. Every reference that is
-- handled is so, by its type
abbrev pub IsSound : Cap → Type 0
IsSound c = (c.actor < 2 ^ 32) × (c.entity < 2 ^ 63) × AllByRecursion IsReadBack c.caveats
