-- What is wanted over a list of values, and its weight. Syndicate Protocol, "dataspaces".
use Rattle.std.specs.Prelude.{ℕ, ◌+◌, ◌-◌, ◌^◌, min, Bool, false, ◌&&◌, List, [], ◌∷◌, Option, Some, None, codes}
use Rattle.std.specs.Prelude.{option_and_then, if◌then◌else◌}
use Rattle.std.specs.List.{flat_map, list_any}
use Rattle.pv_value.specs.Plain.{Plain, symbol, record_of, sequence, embedded, no_more, then_more, plains}
use Rattle.pv_value.specs.Order.{order}
use Rattle.pv_value.specs.Sets.{ascending_by}
use Rattle.pv_value.specs.Weight.{weight}
use Rattle.pv_words.specs.Words.{is_word}
use Rattle.dp_pattern.specs.Patterns.{Pattern}
use Rattle.dp_pattern.specs.Written.{pattern_of}
use Rattle.pv_words.specs.Parts.{same}
use Rattle.dp_pattern.specs.Matching.{matched}
use Rattle.ds_space.specs.References.{names_observer}

abbrev pub is_observer : Plain → Bool
is_observer (embedded r) = names_observer r
is_observer v = false

abbrev pub observer_by : List ℕ → Plain → Plain → Option Pattern
observer_by s p r = if is_word s (codes "Observe") && is_observer r then pattern_of p else None

-- the pattern of an observation `<Observe p #:r>`, where p is a pattern and r names an actor numbered 9 or more
abbrev pub observer_of : Plain → Option Pattern
observer_of (record_of (symbol s) (then_more p (then_more r no_more))) = observer_by s p r
observer_of v = None

-- what an observation captures of a value, where it is one and the value matches
abbrev pub captured : Plain → Plain → Option (List Plain)
captured o v = option_and_then (λ p. matched p v) (observer_of o)

-- the key `[o c]`, c the captures as a sequence
abbrev pub key_of : Plain → List Plain → Plain
key_of o cs = sequence (plains (o ∷ sequence (plains cs) ∷ []))

abbrev pub keys_for : Plain → Option (List Plain) → List Plain
keys_for o None = []
keys_for o (Some cs) = key_of o cs ∷ []

-- the keys of one observation over the values
abbrev pub keys_by : List Plain → Plain → List Plain
keys_by vs o = flat_map (λ v. keys_for o (captured o v)) vs

-- the keys that are wanted over the values, ascending, each once
abbrev pub wants : List Plain → List Plain
wants vs = ascending_by order (flat_map (keys_by vs) vs)

-- ---- the same as a test

abbrev pub is_one : Plain → Option Plain → Bool
is_one k None = false
is_one k (Some l) = same k l

abbrev pub is_key : Plain → Plain → Option (List Plain) → Bool
is_key k o None = false
is_key k o (Some cs) = same k (key_of o cs)

-- k is the key of what o captures of v
abbrev pub gives : Plain → Plain → Plain → Bool
gives k o v = is_key k o (captured o v)

-- k is the key of what one of the values captures of one of the values
abbrev pub wanted : List Plain → Plain → Bool
wanted vs k = list_any (λ o. list_any (gives k o) vs) vs

-- ---- its weight

-- what is wanted under a key `[o c]` is c
abbrev pub weight_of_key : Plain → ℕ
weight_of_key (sequence (then_more o (then_more c no_more))) = weight c
weight_of_key k = 0

abbrev pub weight_of_keys : List Plain → ℕ
weight_of_keys [] = 0
weight_of_keys (k ∷ ks) = weight_of_key k + weight_of_keys ks

-- each key counts once, and the sum ends at the greatest 64-bit number
abbrev pub wanted_weight : List Plain → ℕ
wanted_weight vs = min (weight_of_keys (wants vs)) (2 ^ 64 - 1)
