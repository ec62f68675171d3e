-- A canonical form is a spelling, given that a written spelling is one.
use Rattle.std.proofs.Common.{◌≡◌, ℕ, List, [], ◌++◌, map, refl, ap}
use Rattle.std.proofs.lemmas.List.Sorted.{IsPermutation-map}
use Rattle.pv_value.specs.Plain.{Plain, boolean, double, integer, string, byte_string, symbol, record_of, sequence}
use Rattle.pv_value.specs.Plain.{set_of, dictionary, embedded, Plains, no_more, then_more, PlainPairs, no_pairs}
use Rattle.pv_value.specs.Plain.{then_pair}
use Rattle.pv_value.specs.WellFormed.{IsWellFormed, AreWellFormed, ArePairsWellFormed}
use Rattle.pv_binary.specs.Written.{written}
use Rattle.pv_binary.specs.Spells.{Spells, Pieces, PairPieces}
use Rattle.pv_canon.specs.Canonical.{canonical, forms, entry_forms, sorted_by, byte_order, form_order, joined}
use Rattle.pv_canon.proofs.Sorting.{sorted_moves}

module _ (spelled : (v : Plain) → IsWellFormed v → Spells (written v) v) where
  mutual
    pub canonical_spells : (v : Plain) → IsWellFormed v → Spells (canonical v) v
    canonical_spells (boolean b) h = spelled (boolean b) h
    canonical_spells (double n) h = spelled (double n) h
    canonical_spells (integer z) h = spelled (integer z) h
    canonical_spells (string s) h = spelled (string s) h
    canonical_spells (byte_string s) h = spelled (byte_string s) h
    canonical_spells (symbol s) h = spelled (symbol s) h
    canonical_spells (record_of l fs) h = (canonical l, forms fs, canonical_spells l h.0, forms_spell fs h.1, refl)
    canonical_spells (sequence xs) h = (forms xs, forms_spell xs h, refl)
    canonical_spells (set_of xs) h =
        (forms xs, sorted_by byte_order (forms xs), forms_spell xs h.1, sorted_moves byte_order (forms xs), h.0, refl)
    canonical_spells (dictionary ps) h =
        let moved = IsPermutation-map joined (entry_forms ps) (sorted_by form_order (entry_forms ps))
        (sorted_moves form_order (entry_forms ps)) in (
          map joined (entry_forms ps),
          map joined (sorted_by form_order (entry_forms ps)),
          entries_spell ps h.1,
          moved,
          h.0,
          refl,
        )
    canonical_spells (embedded x) h = (canonical x, canonical_spells x h, refl)

    forms_spell : (xs : Plains) → AreWellFormed xs → Pieces (forms xs) xs
    forms_spell no_more h = tt
    forms_spell (then_more x xs) h = (canonical_spells x h.0, forms_spell xs h.1)

    entries_spell : (ps : PlainPairs) → ArePairsWellFormed ps → PairPieces (map joined (entry_forms ps)) ps
    entries_spell no_pairs h = tt
    entries_spell (then_pair k v ps) h =
        ((canonical k, canonical v, canonical_spells k h.0, canonical_spells v h.1, refl), entries_spell ps h.2)

  -- where no spelling of one value is that of another, no two values have one canonical form
  pub canonical_exact : ((a b x y : List ℕ) (v w : Plain) → Spells a v → Spells b w → a ++ x ≡ b ++ y → (a ≡ b)
      × (v ≡ w)) → (v w : Plain) → IsWellFormed v → IsWellFormed w → canonical v ≡ canonical w → v ≡ w
  canonical_exact unique v w hv hw e =
      (unique (canonical v) (canonical w) [] [] v w (canonical_spells v hv) (canonical_spells w hw)
      (ap (λ b. b ++ []) e)).1
