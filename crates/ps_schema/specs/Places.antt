-- Where the definition of a name stands.
use Rattle.std.specs.Prelude.{◌≡◌, ◌<◌, ℕ, zero, suc, List, [], ◌∷◌, length, get_or, Option, Some, None, if◌then◌else◌}
use Rattle.std.specs.Str.{bytes_eq}
use Rattle.std.specs.BTreeMap.{is_at}
use Rattle.std.specs.Map.{lookup}
use Rattle.std.specs.Ordering.{nat_cmp}
use Rattle.std.specs.Cmp.Lexicographic.{slice_cmp}
use Rattle.std.specs.declared.vec.Vec.{Vec}
use Rattle.ps_schema.specs.Names.{pattern_under}
use Rattle.ps_schema.specs.declared.Definition.{Definition}

-- the name of the definition at this place
abbrev pub name_of : List Definition → ℕ → List ℕ
name_of [] i = []
name_of (d ∷ ds) zero = d.name
name_of (d ∷ ds) (suc i) = name_of ds i

-- the definition of the name is at this place
pub record IsPlace (ds : List Definition) (a : List ℕ) (i : ℕ) : Type 0 where
  pub inside : i < length ds
  pub named : name_of ds i ≡ a
  pub under : (d : Definition) → pattern_under ds a ≡ Some (get_or ds i d).pattern

-- the place of the first definition of the name among these, the first of which is at this place
abbrev pub place_from : ℕ → List Definition → List ℕ → Option ℕ
place_from i [] a = None
place_from i (d ∷ ds) a = if bytes_eq d.name a then Some i else place_from (suc i) ds a

-- the place of the first definition of the name
abbrev pub place_of : List Definition → List ℕ → Option ℕ
place_of ds a = place_from 0 ds a

-- the place that a map has at the name
abbrev pub place_at : {A : Type 0} → List (Vec ℕ A × ℕ) → List ℕ → Option ℕ
place_at es a = lookup (is_at (λ k. slice_cmp nat_cmp a k.items)) es

-- a map has the place of the first one of each name among these definitions, the first of which is at this place
abbrev pub IsIndexFrom : {A : Type 0} → ℕ → List Definition → List (Vec ℕ A × ℕ) → Type 0
IsIndexFrom i ds es = (a : List ℕ) → place_at es a ≡ place_from i ds a

-- a map has the place of the first definition of each name
abbrev pub IsIndex : {A : Type 0} → List Definition → List (Vec ℕ A × ℕ) → Type 0
IsIndex ds es = IsIndexFrom 0 ds es
