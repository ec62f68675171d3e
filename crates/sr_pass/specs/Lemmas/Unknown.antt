-- Nothing conforms to a name that a schema doesn't know.
use Rattle.std.specs.Prelude.{◌≡◌, ℕ, zero, suc, Bool, true, false, ◌||◌, List, [], ◌∷◌, Option, Some, None, refl}
use Rattle.std.specs.Prelude.{if◌then◌else◌}
use Rattle.std.specs.Str.{bytes_eq}
use Rattle.std.proofs.Common.{ap}
use Rattle.pv_value.specs.Plain.{Plain}
use Rattle.ps_schema.specs.Patterns.{PlainPattern}
use Rattle.ps_schema.specs.Names.{knows, pattern_under}
use Rattle.ps_schema.specs.Conforms.{conforms, matches_defined, matches_within}
use Rattle.ps_schema.specs.declared.Definition.{Definition}
use Rattle.sr_pass.specs.Laws.{UnknownIsRefused}

pub unknown_has_none : (ds : List Definition) (a : List ℕ) → knows ds a ≡ false → pattern_under ds a ≡ None
unknown_has_none [] a n = refl
unknown_has_none (d ∷ ds) a n = by (bytes_eq d.name a) n (unknown_has_none ds a)
  where
    by : (t : Bool) → (t || knows ds a) ≡ false → (knows ds a ≡ false → pattern_under ds a ≡ None)
        → (if t then Some d.pattern else pattern_under ds a) ≡ None
    by true n f = absurd cc
    by false n f = f n

refused_within : (ds : List Definition) (k : ℕ) (a : List ℕ) (v : Plain) → knows ds a ≡ false
    → matches_within ds k a v ≡ false
refused_within ds zero a v n = refl
refused_within ds (suc k) a v n =
    ap (λ (o : Option PlainPattern). matches_defined (matches_within ds k) o v) (unknown_has_none ds a n)

pub unknown_is_refused : UnknownIsRefused
unfolding conforms
unknown_is_refused ds a v n = refused_within ds _ a v n
