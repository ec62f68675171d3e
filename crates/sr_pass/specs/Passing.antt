-- What passes caveats. Sturdyref document, "caveats".
use Rattle.std.specs.Prelude.{Bool, nat_le, List, [], ◌∷◌, Option, Some, None, is_some, option_and_then, ◌&&◌}
use Rattle.std.specs.Prelude.{if◌then◌else◌}
use Rattle.pv_value.specs.Plain.{Plain}
use Rattle.pv_value.specs.Weight.{weight}
use Rattle.pv_value.specs.Depth.{depth}
use Rattle.ps_schema.specs.Conforms.{conforms}
use Rattle.ps_schema.specs.declared.Definition.{Definition}
use Rattle.sr_caveat.specs.Limits.{value_weight, value_depth}
use Rattle.sr_caveat.specs.Patterns.{Template, Caveat, rewrite, one_of, reject, guard}
use Rattle.sr_caveat.specs.Patterns.{Rewrites, no_rewrites, then_rewrite}
use Rattle.sr_pass.specs.Binding.{bound}
use Rattle.sr_pass.specs.Filling.{filled}

-- a value that passes weighs no more than one may, and nests no deeper
abbrev pub fits : Plain → Bool
fits v = nat_le (weight v) value_weight && nat_le (depth v) value_depth

abbrev pub if_fits : Plain → Option Plain
if_fits v = if fits v then Some v else None

-- what the first rewrite that matches makes of the value; none where none matches
abbrev pub rewritten : Rewrites → Plain → Option Plain
rewritten no_rewrites v = None
rewritten (then_rewrite p t rs) v = by_match t (bound p v) (rewritten rs v)
  where
    by_match : Template → Option (List Plain) → Option Plain → Option Plain
    by_match t (Some bs) rest = filled t bs
    by_match t None rest = rest

-- what a caveat alone makes of a value; guards judge by a schema, and refuse under a name that it doesn't define
abbrev pub ruled : List Definition → Caveat → Plain → Option Plain
ruled ds (rewrite p t) v = option_and_then (filled t) (bound p v)
ruled ds (one_of rs) v = rewritten rs v
ruled ds (reject p) v = if is_some (bound p v) then None else Some v
ruled ds (guard name) v = if conforms ds name v then Some v else None

-- the same, and refused where it is past the bounds, also where it was left unchanged
abbrev pub applied : List Definition → Caveat → Plain → Option Plain
applied ds c v = option_and_then if_fits (ruled ds c v)

-- what passes a list of caveats: the last one, the newest, comes first, and what it gives goes to the one before it.
-- Where there are none, the value passes as it is
abbrev pub passed : List Definition → List Caveat → Plain → Option Plain
passed ds [] v = Some v
passed ds (c ∷ cs) v = option_and_then (applied ds c) (passed ds cs v)
