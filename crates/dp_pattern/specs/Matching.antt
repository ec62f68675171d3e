-- What a pattern captures of a value. Syndicate Protocol, "dataspace patterns".
use Rattle.std.specs.Prelude.{ℕ, ◌==◌, Bool, true, false, ◌&&◌, List, [], ◌∷◌, length, Option, Some, None, option_map}
use Rattle.std.specs.Prelude.{option_and_then, if◌then◌else◌}
use Rattle.pv_value.specs.Plain.{Plain, record_of, sequence, dictionary, listed}
use Rattle.pv_words.specs.Parts.{same, item_under, value_under, both}
use Rattle.dp_pattern.specs.Patterns.{Extent, Open, Exactly, Group, InRecord, InSequence, InDictionary}
use Rattle.dp_pattern.specs.Patterns.{Pattern, discard, bind, literal, group, Fields, no_fields, then_field}

-- whether so many fields or items are as many as there are to be
abbrev pub is_met_by : Extent → ℕ → Bool
is_met_by Open n = true
is_met_by (Exactly m) n = n == m

-- whether the value is of the group's kind
abbrev pub is_of : Group → Plain → Bool
is_of (InRecord label e) (record_of l fs) = same l label && is_met_by e (length (listed fs))
is_of (InSequence e) (sequence xs) = is_met_by e (length (listed xs))
is_of InDictionary (dictionary ps) = true
is_of g v = false

-- the part of the value that a key of the group names
abbrev pub part_of : Group → Plain → Plain → Option Plain
part_of (InRecord label e) (record_of l fs) key = item_under fs key
part_of (InSequence e) (sequence xs) key = item_under xs key
part_of InDictionary (dictionary ps) key = value_under ps key
part_of g v key = None

-- the captures, in order, or nothing where the value doesn't match
abbrev mutual
  pub matched : Pattern → Plain → Option (List Plain)
  matched discard v = Some []
  matched (bind p) v = option_map (λ cs. v ∷ cs) (matched p v)
  matched (literal u) v = if same u v then Some [] else None
  matched (group g fs) v = if is_of g v then matched_fields g fs v else None

  pub matched_fields : Group → Fields → Plain → Option (List Plain)
  matched_fields g no_fields v = Some []
  matched_fields g (then_field k p fs) v = both (option_and_then (matched p) (part_of g v k)) (matched_fields g fs v)
