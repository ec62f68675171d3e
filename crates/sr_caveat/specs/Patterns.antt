-- What patterns, templates and caveats are. Sturdyref document, "caveats".
use Rattle.std.specs.Prelude.{ℕ, List, [], ◌∷◌}
use Rattle.pv_value.specs.Plain.{Plain, Plains}
pub use Rattle.sr_caveat.specs.declared.Kind.{Kind}
pub use Rattle.sr_caveat.specs.declared.Kind.TheVariants.{Atom, Embedded}

mutual
  pub data Pattern : Type 0 where
    -- `<_>`
    discard : Pattern
    -- `Boolean`, `Double` and so on
    of_kind : Kind → Pattern
    -- `<bind p>`
    bind : Pattern → Pattern
    -- `<and [p ..]>`
    all_of : Patterns → Pattern
    -- `<not p>`
    none_of : Pattern → Pattern
    -- `<lit v>`
    literal : Plain → Pattern
    -- `<rec label [p ..]>`
    record_with : Plain → Patterns → Pattern
    -- `<arr [p ..]>`
    sequence_with : Patterns → Pattern
    -- `<dict {k: p ..}>`: the keys, and their patterns in the same order
    dictionary_with : Plains → Patterns → Pattern

  pub data Patterns : Type 0 where
    no_patterns : Patterns
    then_pattern : Pattern → Patterns → Patterns

mutual
  pub data Template : Type 0 where
    -- `<attenuate t [caveat ..]>`
    attenuate : Template → Caveats → Template
    -- `<ref n>`
    binding : ℕ → Template
    -- `<lit v>`
    constant : Plain → Template
    -- `<rec label [t ..]>`
    record_from : Plain → Templates → Template
    -- `<arr [t ..]>`
    sequence_from : Templates → Template
    -- `<dict {k: t ..}>`: the keys, and their templates in the same order
    dictionary_of : Plains → Templates → Template

  pub data Templates : Type 0 where
    no_templates : Templates
    then_template : Template → Templates → Templates

  pub data Caveat : Type 0 where
    -- `<rewrite p t>`
    rewrite : Pattern → Template → Caveat
    -- `<or [rewrite ..]>`
    one_of : Rewrites → Caveat
    -- `<reject p>`
    reject : Pattern → Caveat
    -- `<guard Name>`
    guard : List ℕ → Caveat

  pub data Caveats : Type 0 where
    no_caveats : Caveats
    then_caveat : Caveat → Caveats → Caveats

  pub data Rewrites : Type 0 where
    no_rewrites : Rewrites
    then_rewrite : Pattern → Template → Rewrites → Rewrites

-- `<reject <_>>`, which refuses every value
abbrev pub reject_all : Caveat
reject_all = reject discard

-- a list of caveats, as the data holds it, and back
abbrev pub caveats : List Caveat → Caveats
caveats [] = no_caveats
caveats (c ∷ cs) = then_caveat c (caveats cs)

abbrev pub listed_caveats : Caveats → List Caveat
listed_caveats no_caveats = []
listed_caveats (then_caveat c cs) = c ∷ listed_caveats cs
