-- Which values write dataspace patterns, in the newer grammar or in the older one; one pattern may mix both. Syndicate
-- Protocol, "dataspace patterns".
use Rattle.std.specs.Prelude.{ℕ, suc, ◌^◌, pos, Bool, true, false, ◌&&◌, nat_lt, List, Option, Some, None, option_map}
use Rattle.std.specs.Prelude.{codes, if◌then◌else◌}
use Rattle.pv_value.specs.Plain.{Plain, boolean, double, integer, string, byte_string, symbol, record_of, sequence}
use Rattle.pv_value.specs.Plain.{set_of, dictionary, embedded, Plains, no_more, then_more}
use Rattle.pv_value.specs.Plain.{PlainPairs, no_pairs, then_pair}
use Rattle.pv_words.specs.Words.{is_word, number}
use Rattle.dp_pattern.specs.Patterns.{Open, Exactly, Group, InRecord, InSequence, InDictionary}
use Rattle.dp_pattern.specs.Patterns.{Pattern, discard, bind, literal, group, Fields, no_fields, then_field}

-- an atom or an embedded value
abbrev pub is_literal : Plain → Bool
is_literal (boolean b) = true
is_literal (double n) = true
is_literal (integer z) = true
is_literal (string s) = true
is_literal (byte_string s) = true
is_literal (symbol s) = true
is_literal (embedded x) = true
is_literal (record_of l fs) = false
is_literal (sequence xs) = false
is_literal (set_of xs) = false
is_literal (dictionary ps) = false

-- the place of a field or of an item: an integer from 0 to 2 ^ 31 - 1
abbrev pub is_place : Plain → Bool
is_place (integer (pos i)) = nat_lt i (2 ^ 31)
is_place v = false

abbrev pub are_places : Fields → Bool
are_places no_fields = true
are_places (then_field k p fs) = is_place k && are_places fs

-- `<arr>`, `<dict>`
abbrev pub bare_group : List ℕ → Option Group
bare_group s =
    if is_word s (codes "arr") then Some (InSequence Open)
    else (if is_word s (codes "dict") then Some InDictionary else None)

-- `<rec label>`
abbrev pub labelled_group : List ℕ → Plain → Option Group
labelled_group s label = if is_word s (codes "rec") then Some (InRecord label Open) else None

abbrev pub group_of : Plain → Option Group
group_of (record_of (symbol s) no_more) = bare_group s
group_of (record_of (symbol s) (then_more label no_more)) = labelled_group s label
group_of v = None

-- a group whose keys are of its kind
abbrev pub grouped : Option Group → Option Fields → Option Pattern
grouped (Some InDictionary) (Some fs) = Some (group InDictionary fs)
grouped (Some (InSequence e)) (Some fs) = if are_places fs then Some (group (InSequence e) fs) else None
grouped (Some (InRecord label e)) (Some fs) = if are_places fs then Some (group (InRecord label e) fs) else None
grouped (Some g) None = None
grouped None fs = None

abbrev pub with_field : Plain → Option Pattern → Option Fields → Option Fields
with_field k (Some p) (Some fs) = Some (then_field k p fs)
with_field k (Some p) None = None
with_field k None fs = None

-- `<_>`
abbrev pub no_field : List ℕ → Option Pattern
no_field s = if is_word s (codes "_") then Some discard else None

-- how many fields there are
abbrev pub count_of : Fields → ℕ
count_of no_fields = 0
count_of (then_field k p fs) = suc (count_of fs)

-- `<rec label [p ..]>` and `<arr [p ..]>`, by what their items write: all that there is to be
abbrev pub exact_record : Plain → Fields → Pattern
exact_record label fs = group (InRecord label (Exactly (count_of fs))) fs

abbrev pub exact_sequence : Fields → Pattern
exact_sequence fs = group (InSequence (Exactly (count_of fs))) fs

-- `<arr [p ..]>` and `<dict {k: p ..}>`, the older spellings
abbrev pub older_field : List ℕ → Option Fields → Option Fields → Option Pattern
older_field s items fields =
    if is_word s (codes "arr") then option_map exact_sequence items
    else (if is_word s (codes "dict") then option_map (group InDictionary) fields else None)

-- `<bind p>`, `<lit v>`, by the field's value and the pattern that it writes, or an older spelling
abbrev pub one_field : List ℕ → Plain → Option Pattern → Option Fields → Option Fields → Option Pattern
one_field s x p items fields =
    if is_word s (codes "bind") then option_map bind p
    else (if is_word s (codes "lit") then (if is_literal x then Some (literal x) else None)
    else older_field s items fields)

-- `<group g {k: p ..}>` or `<rec label [p ..]>`, by what the second field writes
abbrev pub two_fields : List ℕ → Plain → Option Fields → Option Fields → Option Pattern
two_fields s g items fields =
    if is_word s (codes "group") then grouped (group_of g) fields
    else (if is_word s (codes "rec") then option_map (exact_record g) items else None)

-- `<_>`, `<bind p>`, `<lit v>`, `<group g {k: p ..}>`; `<rec label [p ..]>`, `<arr [p ..]>`, `<dict {k: p ..}>`
abbrev mutual
  pub pattern_of : Plain → Option Pattern
  pattern_of (record_of (symbol s) no_more) = no_field s
  pattern_of (record_of (symbol s) (then_more x no_more)) = one_field s x (pattern_of x) (items_of x) (fields_of x)
  pattern_of (record_of (symbol s) (then_more g (then_more x no_more))) = two_fields s g (items_of x) (fields_of x)
  pattern_of v = None

  -- of the items of a sequence, by their places
  pub items_of : Plain → Option Fields
  items_of (sequence xs) = items_from 0 xs
  items_of v = None

  -- from a place on
  pub items_from : ℕ → Plains → Option Fields
  items_from i no_more = Some no_fields
  items_from i (then_more x xs) = with_field (number i) (pattern_of x) (items_from (suc i) xs)

  -- of the values of a dictionary, by their keys
  pub fields_of : Plain → Option Fields
  fields_of (dictionary ps) = fields_in ps
  fields_of v = None

  pub fields_in : PlainPairs → Option Fields
  fields_in no_pairs = Some no_fields
  fields_in (then_pair k v ps) = with_field k (pattern_of v) (fields_in ps)

-- ---- what the code looks at, before it reads the fields

-- whether each key is a place
abbrev pub places_in : PlainPairs → Bool
places_in no_pairs = true
places_in (then_pair k v ps) = is_place k && places_in ps

-- whether the keys are of the group's kind
abbrev pub keys_fit : Group → PlainPairs → Bool
keys_fit InDictionary ps = true
keys_fit (InSequence e) ps = places_in ps
keys_fit (InRecord label e) ps = places_in ps
