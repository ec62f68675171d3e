-- What a caveat's pattern binds of a value. Sturdyref document, "caveats".
use Rattle.std.specs.Prelude.{Bool, true, false, List, [], ◌∷◌, Option, Some, None, option_map, option_and_then}
use Rattle.std.specs.Prelude.{if◌then◌else◌}
use Rattle.pv_value.specs.Plain.{Plain, record_of, sequence, dictionary, embedded, Plains, no_more, then_more}
use Rattle.pv_value.specs.Plain.{PlainPairs}
use Rattle.pv_words.specs.Kinds.{is_of_kind}
use Rattle.pv_words.specs.Parts.{same, both, value_under}
use Rattle.sr_caveat.specs.declared.Kind.{Kind}
use Rattle.sr_caveat.specs.declared.Kind.TheVariants.{Atom, Embedded}
use Rattle.sr_caveat.specs.Patterns.{Pattern, discard, of_kind, bind, all_of, none_of, literal, record_with}
use Rattle.sr_caveat.specs.Patterns.{sequence_with, dictionary_with, Patterns, no_patterns, then_pattern}

abbrev pub is_kind : Kind → Plain → Bool
is_kind (Atom k) v = is_of_kind k v
is_kind Embedded (embedded x) = true
is_kind Embedded v = false

-- the fields of a record of this label, the items of a sequence, the pairs of a dictionary; none of another value
abbrev pub fields_of : Plain → Plain → Option Plains
fields_of label (record_of l xs) = if same l label then Some xs else None
fields_of label v = None

abbrev pub items_of : Plain → Option Plains
items_of (sequence xs) = Some xs
items_of v = None

abbrev pub pairs_of : Plain → Option PlainPairs
pairs_of (dictionary ps) = Some ps
pairs_of v = None

-- the values under these keys, in the order of the keys; none where one of the keys isn't there
abbrev pub with_value : Option Plain → Option Plains → Option Plains
with_value (Some x) (Some xs) = Some (then_more x xs)
with_value (Some x) None = None
with_value None xs = None

abbrev pub under_keys : Plains → PlainPairs → Option Plains
under_keys no_more ps = Some no_more
under_keys (then_more k ks) ps = with_value (value_under ps k) (under_keys ks ps)

abbrev pub values_under : Plains → Plain → Option Plains
values_under ks v = option_and_then (under_keys ks) (pairs_of v)

-- nothing, where the test holds
abbrev pub where_true : Bool → Option (List Plain)
where_true b = if b then Some [] else None

-- nothing, where there was no match
abbrev pub where_none : Option (List Plain) → Option (List Plain)
where_none None = Some []
where_none (Some bs) = None

-- the values that are bound, in order, or none where the value doesn't match
abbrev mutual
  pub bound : Pattern → Plain → Option (List Plain)
  bound discard v = Some []
  bound (of_kind k) v = where_true (is_kind k v)
  bound (bind p) v = option_map (λ bs. v ∷ bs) (bound p v)
  bound (all_of ps) v = all_bound ps v
  bound (none_of p) v = where_none (bound p v)
  bound (literal u) v = where_true (same u v)
  bound (record_with l ps) v = option_and_then (each_bound ps) (fields_of l v)
  bound (sequence_with ps) v = option_and_then (each_bound ps) (items_of v)
  bound (dictionary_with ks ps) v = option_and_then (each_bound ps) (values_under ks v)

  -- all of the patterns match the one value
  pub all_bound : Patterns → Plain → Option (List Plain)
  all_bound no_patterns v = Some []
  all_bound (then_pattern p ps) v = both (bound p v) (all_bound ps v)

  -- each of the patterns matches its value, and there are as many
  pub each_bound : Patterns → Plains → Option (List Plain)
  each_bound no_patterns no_more = Some []
  each_bound no_patterns (then_more x xs) = None
  each_bound (then_pattern p ps) no_more = None
  each_bound (then_pattern p ps) (then_more x xs) = both (bound p x) (each_bound ps xs)
