-- What is bound of a value that is known to match: the code finds first whether it does, and copies then.
use Rattle.std.specs.Prelude.{List, [], ◌∷◌, ◌++◌, option_map, unwrap_or}
use Rattle.pv_value.specs.Plain.{Plain, Plains, no_more, then_more, PlainPairs}
use Rattle.sr_caveat.specs.Patterns.{Pattern, discard, of_kind, bind, all_of, none_of, literal, record_with}
use Rattle.sr_caveat.specs.Patterns.{sequence_with, dictionary_with, Patterns, no_patterns, then_pattern}
use Rattle.pv_words.specs.Parts.{value_under}
use Rattle.sr_pass.specs.Binding.{fields_of, items_of, pairs_of}

abbrev mutual
  pub gathered : Pattern → Plain → List Plain
  gathered discard v = []
  gathered (of_kind k) v = []
  gathered (bind p) v = v ∷ gathered p v
  gathered (all_of ps) v = all_gathered ps v
  gathered (none_of p) v = []
  gathered (literal u) v = []
  gathered (record_with l ps) v = unwrap_or (option_map (each_gathered ps) (fields_of l v)) []
  gathered (sequence_with ps) v = unwrap_or (option_map (each_gathered ps) (items_of v)) []
  gathered (dictionary_with ks ps) v = unwrap_or (option_map (gathered_under ps ks) (pairs_of v)) []

  pub all_gathered : Patterns → Plain → List Plain
  all_gathered no_patterns v = []
  all_gathered (then_pattern p ps) v = gathered p v ++ all_gathered ps v

  pub each_gathered : Patterns → Plains → List Plain
  each_gathered no_patterns xs = []
  each_gathered (then_pattern p ps) no_more = []
  each_gathered (then_pattern p ps) (then_more x xs) = gathered p x ++ each_gathered ps xs

  pub gathered_under : Patterns → Plains → PlainPairs → List Plain
  gathered_under no_patterns ks qs = []
  gathered_under (then_pattern p ps) no_more qs = []
  gathered_under (then_pattern p ps) (then_more k ks) qs =
      unwrap_or (option_map (gathered p) (value_under qs k)) [] ++ gathered_under ps ks qs
