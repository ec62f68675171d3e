-- What a pattern is. Preserves Schema, section "Patterns".
use Rattle.std.specs.Prelude.{ℕ, List, [], ◌∷◌}
use Rattle.pv_value.specs.Plain.{Plain}
use Rattle.pv_words.specs.declared.kinds.AtomKind.{AtomKind}

mutual
  pub data PlainPattern : Type 0 where
    -- `any`
    any_value : PlainPattern
    -- `bool`, `double` and so on
    of_kind : AtomKind → PlainPattern
    -- a value by itself
    literal : Plain → PlainPattern
    -- a name
    reference : List ℕ → PlainPattern
    -- `#:P`
    embedded_as : PlainPattern → PlainPattern
    -- `<label P ..>`
    record_with : Plain → PlainPatterns → PlainPattern
    -- `<<rec> L F>`
    record_of_both : PlainPattern → PlainPattern → PlainPattern
    -- `[P ..]`
    tuple : PlainPatterns → PlainPattern
    -- `[P .. Q ...]`
    tuple_with_rest : PlainPatterns → PlainPattern → PlainPattern
    -- `#{P}`
    set_of_all : PlainPattern → PlainPattern
    -- `{K: V ...:...}`
    dictionary_of_all : PlainPattern → PlainPattern → PlainPattern
    -- `{key: P ..}`
    dictionary_with : PlainFields → PlainPattern
    -- `P / Q ..`
    one_of : PlainPatterns → PlainPattern
    -- `P & Q ..`
    all_of : PlainPatterns → PlainPattern

  pub data PlainPatterns : Type 0 where
    no_patterns : PlainPatterns
    then_pattern : PlainPattern → PlainPatterns → PlainPatterns

  -- patterns of the values under keys
  pub data PlainFields : Type 0 where
    no_fields : PlainFields
    then_field : Plain → PlainPattern → PlainFields → PlainFields

-- a list, as the data holds it
abbrev pub patterns : List PlainPattern → PlainPatterns
patterns [] = no_patterns
patterns (p ∷ ps) = then_pattern p (patterns ps)
