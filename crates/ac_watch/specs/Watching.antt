-- What a watcher has got and wants. For each sequence c among the values that it has got it wants a key `[c i]` for each
-- place i of what its behaviour makes of c. Messages to it are dropped.
use Rattle.std.specs.Prelude.{◌≡◌, ℕ, pos, ◌+◌, ◌-◌, ◌^◌, ◌≤◌, ◌<◌, min, Bool, true, false, List, [], ◌∷◌}
use Rattle.std.specs.Prelude.{◌++◌, map, Option, None}
use Rattle.std.specs.List.{flat_map, filter, slice_get}
use Rattle.pv_value.specs.Plain.{Plain, integer, sequence, no_more, then_more, plains, listed}
use Rattle.pv_value.specs.Order.{order}
use Rattle.pv_value.specs.Sets.{ascending_by}
use Rattle.pv_value.specs.Weight.{weight}
use Rattle.pv_words.specs.Words.{number}
use Rattle.ds_space.specs.Spaces.{Rows, IsAppliedWith}
use Rattle.ds_space.specs.Changes.{changes}
use Rattle.ds_space.specs.declared.space.SpaceEvent.{SpaceEvent}
use Rattle.ds_space.specs.declared.space.Change.{Change}
use Rattle.ds_space.specs.declared.space.Applied.{Applied}
use Rattle.lc_watch.specs.Behaviours.{behave}

-- ---- what is wanted

-- what the behaviour of a name makes of a sequence of captures; of what is no sequence nothing is made
abbrev pub made : List ℕ → Plain → List Plain
made name (sequence cs) = behave name (listed cs)
made name v = []

-- the key `[c i]`, of place i of what is made of c
abbrev pub key_at : Plain → ℕ → Plain
key_at c i = sequence (plains (c ∷ number i ∷ []))

-- a key for each place, from place i on
abbrev pub keys_from : Plain → ℕ → List Plain → List Plain
keys_from c i [] = []
keys_from c i (v ∷ vs) = key_at c i ∷ keys_from c (i + 1) vs

abbrev pub keys_over : List ℕ → Plain → List Plain
keys_over name c = keys_from c 0 (made name c)

-- the keys that are wanted over the values, ascending, each once
abbrev pub watcher_keys : List ℕ → List Plain → List Plain
watcher_keys name vs = ascending_by order (flat_map (keys_over name) vs)

-- what is wanted under a key
abbrev pub value_at : List ℕ → Plain → Option Plain
value_at name (sequence (then_more c (then_more (integer (pos i)) no_more))) = slice_get (made name c) i
value_at name k = None

-- ---- its weight

abbrev pub is_sequence : Plain → Bool
is_sequence (sequence cs) = true
is_sequence v = false

-- the sequences among the values, ascending, each once
abbrev pub sequences : List Plain → List Plain
sequences vs = ascending_by order (filter is_sequence vs)

abbrev pub weight_of_all : List Plain → ℕ
weight_of_all [] = 0
weight_of_all (v ∷ vs) = weight v + weight_of_all vs

-- what is made of each of them weighs so much
abbrev pub weight_of_made : List ℕ → List Plain → ℕ
weight_of_made name [] = 0
weight_of_made name (c ∷ cs) = weight_of_all (made name c) + weight_of_made name cs

-- each sequence counts once, and the sum ends at the greatest 64-bit number
abbrev pub watcher_weight : List ℕ → List Plain → ℕ
watcher_weight name vs = min (weight_of_made name (sequences vs)) (2 ^ 64 - 1)

-- ---- what becomes of an event

-- the name of its behaviour, and the rows that it has got
pub record Watch : Type 0 where
  pub name : List ℕ
  pub got : Rows

-- the keys that are wanted no more, ascending, and then those that are new, ascending
abbrev pub key_changes : List ℕ → List Plain → List Plain → List Change
key_changes name old new =
    changes (watcher_keys name old) (watcher_keys name new)

-- what becomes of an event; the name stays
abbrev pub IsWatched : Watch → SpaceEvent → Applied Watch → Type 0
IsWatched old e applied =
    IsAppliedWith (λ w. w.got) (λ w. w.name ≡ old.name) (λ before after cs. cs ≡ key_changes old.name before after)
    (watcher_weight old.name) old.got e applied
