-- What was read so far, before what is read of the rest.
use Rattle.std.proofs.Common.{◌≡◌, List, [], ◌∷◌, ◌++◌, Result, Ok, Err, Some, refl, ap}
use Rattle.ps_schema.specs.Patterns.{PlainPattern}
use Rattle.ps_schema.specs.declared.Definition.{Definition}
use Rattle.ps_read.specs.Clauses.{Definitions, defined, first_and}
use Rattle.ps_read.specs.declared.faults.Misfit.{Misfit}

abbrev pub Patterns : Type 0
Patterns = Result (List PlainPattern) Misfit

abbrev pub patterns_first : List PlainPattern → Patterns → Patterns
patterns_first [] r = r
patterns_first (p ∷ ps) r = first_and (Ok p) (patterns_first ps r)

pub patterns_push : (ps : List PlainPattern) (p : PlainPattern) (r : Patterns)
    → patterns_first (ps ++ p ∷ []) r ≡ patterns_first ps (first_and (Ok p) r)
patterns_push [] p r = refl
patterns_push (q ∷ qs) p r = ap (first_and (Ok q)) (patterns_push qs p r)

pub patterns_all : (ps : List PlainPattern) → patterns_first ps (Ok []) ≡ Ok ps
patterns_all [] = refl
patterns_all (q ∷ qs) = ap (first_and (Ok q)) (patterns_all qs)

pub patterns_misfit : (ps : List PlainPattern) (m : Misfit) → patterns_first ps (Err m) ≡ Err m
patterns_misfit [] m = refl
patterns_misfit (q ∷ qs) m = ap (first_and (Ok q)) (patterns_misfit qs m)

abbrev pub definitions_first : List Definition → Definitions → Definitions
definitions_first [] r = r
definitions_first (d ∷ ds) r = defined (Ok (Some d)) (definitions_first ds r)

pub definitions_push : (ds : List Definition) (d : Definition) (r : Definitions)
    → definitions_first (ds ++ d ∷ []) r ≡ definitions_first ds (defined (Ok (Some d)) r)
definitions_push [] d r = refl
definitions_push (e ∷ es) d r = ap (defined (Ok (Some e))) (definitions_push es d r)

pub definitions_all : (ds : List Definition) → definitions_first ds (Ok []) ≡ Ok ds
definitions_all [] = refl
definitions_all (e ∷ es) = ap (defined (Ok (Some e))) (definitions_all es)

pub definitions_misfit : (ds : List Definition) (m : Misfit) → definitions_first ds (Err m) ≡ Err m
definitions_misfit [] m = refl
definitions_misfit (e ∷ es) m = ap (defined (Ok (Some e))) (definitions_misfit es m)
