-- The facets of an actor: a tree with facet 0 at its root. Syndicated actors, "facets": what a facet asserts lasts as
-- long as it does, and it ends with the one that it stands under.
use Rattle.std.specs.Prelude.{◌≡◌, ◌↔◌, ℕ, zero, suc, ◌<◌, ◌==◌, nat_lt, Bool, true, false, List, [], ◌∷◌, is_some}
use Rattle.std.specs.Prelude.{unwrap_or, if◌then◌else◌}
use Rattle.ac_table.specs.Maps.{value_at, is_key, KeysAscend}

-- each facet, ascending by number, and the one right above it; the root stands under itself
abbrev pub Tree : Type 0
Tree = List (ℕ × ℕ)

abbrev pub root_alone : Tree
root_alone = (0, 0) ∷ []

abbrev pub is_facet : ℕ → Tree → Bool
is_facet f t = is_some (value_at f t)

abbrev pub above : ℕ → Tree → ℕ
above f t = unwrap_or (value_at f t) 0

-- where so many steps up from a facet lead
abbrev pub climbed : ℕ → ℕ → Tree → ℕ
climbed zero f t = f
climbed (suc n) f t = climbed n (above f t) t

-- some number of steps up from g leads to f; so g may be f itself
abbrev pub IsBelow : ℕ → ℕ → Tree → Type 0
IsBelow f g t = (n : ℕ) × (climbed n g t ≡ f)

-- what is true of every tree: who is above is there, and each way up ends at the root, so that there is no circle
pub record IsTree (t : Tree) : Type 0 where
  pub ascends : KeysAscend t
  pub parents : (f : ℕ) → is_facet f t ≡ true → is_facet (above f t) t ≡ true
  pub root : above 0 t ≡ 0
  pub rooted : (f : ℕ) → is_facet f t ≡ true → IsBelow 0 f t

-- the least number from 1 that no facet has
pub record IsLeastFree (n : ℕ) (t : Tree) : Type 0 where
  pub some : 0 < n
  pub free : is_facet n t ≡ false
  pub least : (k : ℕ) → 0 < k → k < n → is_facet k t ≡ true

-- the least number from n on that no facet has; the facets ascend
abbrev pub least_from : ℕ → Tree → ℕ
least_from n [] = n
least_from n (e ∷ es) = if e.0 == n then least_from (suc n) es else (if nat_lt e.0 n then least_from n es else n)

-- the least number from 1 on, by one walk over them
abbrev pub least_free : Tree → ℕ
least_free t = least_from 1 t

-- these are the facet f and the facets below it
abbrev pub AreBelow : ℕ → Tree → List ℕ → Type 0
AreBelow f t gs = (g : ℕ) → (is_key g gs ≡ true) ↔ ((is_facet g t ≡ true) × IsBelow f g t)
