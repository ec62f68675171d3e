-- Exports that come behind others: one number stands for one reference.
use Rattle.std.proofs.Common.{◌≡◌, ℕ, ◌<◌, List, [], ◌∷◌, ◌++◌, Bool, true, false, Option, Some, None}
use Rattle.std.proofs.Common.{refl, ap, ◌∙◌}
use Rattle.std.specs.Prelude.{is_some, unwrap_or, if◌then◌else◌}
use Rattle.std.specs.Option.{option_or}
use Rattle.std.specs.List.{AllByRecursion}
use Rattle.std.specs.Map.{keys_of}
use Rattle.pv_value.specs.Plain.{Plain}
use Rattle.pv_words.specs.Lemmas.Same.{same_self}
use Rattle.pv_words.specs.Parts.{same}
use Rattle.rl_ports.specs.Ports.{ExportTable, place_of, number_of, exported, with_export, fault_at}
use Rattle.rl_wire.specs.Crossing.{all_exported, fault_out}

abbrev pub IsExported : ExportTable → Plain → Type 0
IsExported exports r = is_some (place_of r exports.in_force) ≡ true

-- ---- one list behind another

pub all_exported-more : (exports : ExportTable) (rs qs : List Plain)
    → all_exported exports (rs ++ qs) ≡ all_exported (all_exported exports rs) qs
all_exported-more exports [] qs = refl
all_exported-more exports (r ∷ rs) qs = all_exported-more (exported r exports) rs qs

option_or-assoc : {A : Type 0} (x y z : Option A) → option_or x (option_or y z) ≡ option_or (option_or x y) z
option_or-assoc (Some x) y z = refl
option_or-assoc None y z = refl

pub fault_out-more : (exports : ExportTable) (rs qs : List Plain)
    → fault_out exports (rs ++ qs) ≡ option_or (fault_out exports rs) (fault_out (all_exported exports rs) qs)
fault_out-more exports [] qs = refl
fault_out-more exports (r ∷ rs) qs =
    ap (option_or (fault_at r exports)) (fault_out-more (exported r exports) rs qs)
    ∙ option_or-assoc (fault_at r exports) (fault_out (exported r exports) rs) _

-- ---- what is exported stays so, under its number

place_in_front : (r : Plain) (n : ℕ) (x : Plain) (es : List (ℕ × Plain)) → is_some (place_of r es) ≡ true
    → place_of r (es ++ (n, x) ∷ []) ≡ place_of r es
place_in_front r n x [] there = cc
place_in_front r n x (e ∷ es) there = by (same r e.1) there (place_in_front r n x es)
  where
    by : (b : Bool) → is_some (if b then Some e.0 else place_of r es) ≡ true
        → (is_some (place_of r es) ≡ true → place_of r (es ++ (n, x) ∷ []) ≡ place_of r es)
        → (if b then Some e.0 else place_of r (es ++ (n, x) ∷ [])) ≡ (if b then Some e.0 else place_of r es)
    by true is later = refl
    by false is later = later is

place_with_one : (r x : Plain) (exports : ExportTable) → IsExported exports r
    → place_of r (exported x exports).in_force ≡ place_of r exports.in_force
place_with_one r x exports there = by (is_some (place_of x exports.in_force))
  where
    by : (b : Bool) → place_of r (if b then exports else with_export x exports).in_force ≡ place_of r exports.in_force
    by true = refl
    by false = place_in_front r exports.next x exports.in_force there

pub place_later : (r : Plain) (exports : ExportTable) (more : List Plain) → IsExported exports r
    → place_of r (all_exported exports more).in_force ≡ place_of r exports.in_force
place_later r exports [] there = refl
place_later r exports (x ∷ xs) there =
    let one = place_with_one r x exports there in
    place_later r (exported x exports) xs (ap is_some one ∙ there) ∙ one

pub exported_later : (r : Plain) (exports : ExportTable) (more : List Plain) → IsExported exports r
    → IsExported (all_exported exports more) r
exported_later r exports more there = ap is_some (place_later r exports more there) ∙ there

-- ---- what is exported now is exported

place_behind : (r : Plain) (n : ℕ) (es : List (ℕ × Plain)) → is_some (place_of r es) ≡ false
    → place_of r (es ++ (n, r) ∷ []) ≡ Some n
place_behind r n [] none = rw (same_self r) refl
place_behind r n (e ∷ es) none = by (same r e.1) none (place_behind r n es)
  where
    by : (b : Bool) → is_some (if b then Some e.0 else place_of r es) ≡ false
        → (is_some (place_of r es) ≡ false → place_of r (es ++ (n, r) ∷ []) ≡ Some n)
        → (if b then Some e.0 else place_of r (es ++ (n, r) ∷ [])) ≡ Some n
    by true none later = absurd cc
    by false none later = later none

pub is_exported : (r : Plain) (exports : ExportTable) → IsExported (exported r exports) r
is_exported r exports = by (is_some (place_of r exports.in_force)) refl
  where
    by : (b : Bool) → is_some (place_of r exports.in_force) ≡ b
        → is_some (place_of r (if b then exports else with_export r exports).in_force) ≡ true
    by true is = is
    by false is = ap is_some (place_behind r exports.next exports.in_force is)

pub are_exported : (exports : ExportTable) (rs : List Plain)
    → AllByRecursion (IsExported (all_exported exports rs)) rs
are_exported exports [] = tt
are_exported exports (r ∷ rs) =
    (exported_later r (exported r exports) rs (is_exported r exports), are_exported (exported r exports) rs)

-- the number that it has is the one that it is given
pub given_number : (r : Plain) (exports : ExportTable) → number_of r (exported r exports) ≡ number_of r exports
given_number r exports = by (place_of r exports.in_force) refl
  where
    by : (o : Option ℕ) → place_of r exports.in_force ≡ o
        → number_of r (if is_some o then exports else with_export r exports) ≡ unwrap_or o exports.next
    by (Some n) is = rw is refl
    by None is = rw (place_behind r exports.next exports.in_force (ap is_some is)) refl

pub number_stays : (r : Plain) (exports : ExportTable) (more : List Plain) → IsExported exports r
    → number_of r (all_exported exports more) ≡ number_of r exports
number_stays r exports more there = rw (place_later r exports more there) (by (place_of r exports.in_force) there)
  where
    by : (o : Option ℕ) → is_some o ≡ true
        → unwrap_or o (all_exported exports more).next ≡ unwrap_or o exports.next
    by None is = absurd cc
    by (Some n) is = refl

-- a number in force was given
pub number_given : (r : Plain) (next : ℕ) (es : List (ℕ × Plain)) → AllByRecursion (λ n. n < next) (keys_of es)
    → is_some (place_of r es) ≡ true → (m : ℕ) → unwrap_or (place_of r es) m < next
number_given r next [] given there m = absurd cc
number_given r next (e ∷ es) given there m =
    by (same r e.1) there (λ is. number_given r next es given.1 is m)
  where
    by : (b : Bool) → is_some (if b then Some e.0 else place_of r es) ≡ true
        → (is_some (place_of r es) ≡ true → unwrap_or (place_of r es) m < next)
        → unwrap_or (if b then Some e.0 else place_of r es) m < next
    by true is later = given.0
    by false is later = later is
