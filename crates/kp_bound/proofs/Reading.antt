-- What is read of the canonical form of a value is that value, and nothing is left.
use Rattle.std.proofs.Common.{◌≡◌, ℕ, ◌≤◌, false, true, List, [], ◌++◌, length, take, drop, append-nil, sym, ap, ◌∙◌}
use Rattle.std.proofs.Common.{Option, Some, None, option_map, Result, Ok, Err, IfOk, IfSome, IfNone}
use Rattle.std.proofs.Common.{subst, arith}
use Rattle.std.proofs.lemmas.List.{take_all, drop_all, take-append-drop, length-take-le}
use Rattle.std.proofs.lemmas.Option.{same_Some}
use Rattle.pv_value.specs.Plain.{Plain, plains, sequence, record_of, set_of, dictionary, embedded}
use Rattle.pv_value.specs.Plain.{boolean, double, integer, string, byte_string, symbol}
use Rattle.pv_value.specs.WellFormed.{IsWellFormed}
use Rattle.pv_read.specs.Limits.{read_depth}
use Rattle.pv_binary.specs.Reads.{LeadsWithin}
use Rattle.pv_binary.specs.Spells.{Spells}
use Rattle.pv_canon.specs.Canonical.{canonical}
use Rattle.sr_caveat.specs.Embedded.{has_embedded}
use Rattle.kp_keeper.specs.declared.records.Record.{Record}
use Rattle.kp_bound.specs.Forms.{IsFormOf, IsBareFormOf, sequence_in}
use Rattle.kp_bound.specs.Spelled.{IsWithin, IsRecordOf, HasParts, parts_with}

abbrev pub SpellsSo : Type 0
SpellsSo = (v : Plain) → IsWellFormed v → Spells (canonical v) v

abbrev pub IsUnique : Type 0
IsUnique = (a b x y : List ℕ) (v w : Plain) → Spells a v → Spells b w → a ++ x ≡ b ++ y → (a ≡ b) × (v ≡ w)

spelled : SpellsSo → (bytes : List ℕ) (v : Plain) → IsFormOf bytes v → Spells bytes v
spelled so bytes v f = subst (λ b. Spells b v) (sym f.form) (so v f.well_formed)

-- it is read
pub leads : SpellsSo → (bytes : List ℕ) (v : Plain) → IsFormOf bytes v → LeadsWithin read_depth bytes v []
leads so bytes v f = (
  length bytes,
  omega arith,
  subst (λ b. Spells b v) (sym (take_all (length bytes) bytes (omega arith))) (spelled so bytes v f),
  f.shallow,
  sym (drop_all (length bytes) bytes (omega arith)),
)

module _ (unique : IsUnique) (so : SpellsSo) (bytes : List ℕ) (w : Plain) (rest : List ℕ)
    (read : LeadsWithin read_depth bytes w rest) (v : Plain) (f : IsFormOf bytes v) where
  both : (take read.0 bytes ≡ bytes) × (w ≡ v)
  both =
      unique (take read.0 bytes) bytes (drop read.0 bytes) [] w v read.2 (spelled so bytes v f)
      (take-append-drop read.0 bytes ∙ sym (append-nil bytes))

  pub is_same : w ≡ v
  is_same = both.1

  pub nothing_left : rest ≡ []
  nothing_left =
      let n : length (take read.0 bytes) ≡ read.0 = length-take-le read.0 bytes read.1 in
      let m : length (take read.0 bytes) ≡ length bytes = ap length both.0 in
      read.4 ∙ drop_all read.0 bytes (omega (arith, n, m))

  pub is_form : canonical w ≡ bytes
  is_form = ap canonical is_same ∙ sym f.form

-- the value that was read, where its canonical form is all of the bytes
pub formed : (bytes : List ℕ) (w : Plain) (rest : List ℕ) → LeadsWithin read_depth bytes w rest → IsWellFormed w
    → canonical w ≡ bytes → IsFormOf bytes w
formed bytes w rest read whole is = record { well_formed = whole; shallow = read.3; form = sym is }

-- where something is embedded in it, no value without has the same bytes
pub never_bare : (bytes : List ℕ) (w : Plain) → ((v : Plain) → IsFormOf bytes v → w ≡ v) → has_embedded w ≡ true
    → (v : Plain) → IsBareFormOf bytes v → ⊥
never_bare bytes w only e v f =
    let clash : true ≡ false = sym e ∙ ap has_embedded (only v f.0) ∙ f.1 in cc

-- ---- the items of a sequence

some_in : (w : Plain) (xs : List Plain) → Some (plains xs) ≡ sequence_in w → w ≡ sequence (plains xs)
some_in (sequence ys) xs e = ap sequence (sym (same_Some (plains xs) ys e))
some_in (boolean b) xs e = absurd cc
some_in (double n) xs e = absurd cc
some_in (integer z) xs e = absurd cc
some_in (string s) xs e = absurd cc
some_in (byte_string s) xs e = absurd cc
some_in (symbol s) xs e = absurd cc
some_in (record_of l fs) xs e = absurd cc
some_in (set_of ys) xs e = absurd cc
some_in (dictionary ps) xs e = absurd cc
some_in (embedded x) xs e = absurd cc

-- what is read of the items
pub items_some : {E : Type 0} (bytes : List ℕ) (w : Plain) (r : Result (Option (List Plain)) E) → IsBareFormOf bytes w
    → IfOk r (λ o. option_map plains o ≡ sequence_in w)
    → IfOk r (λ o. IfSome o (λ xs. IsBareFormOf bytes (sequence (plains xs))))
items_some bytes w (Ok (Some xs)) f is = subst (IsBareFormOf bytes) (some_in w xs is) f
items_some bytes w (Ok None) f is = tt
items_some bytes w (Err e) f is = tt

pub items_none : {E : Type 0} (bytes : List ℕ) (w : Plain) (r : Result (Option (List Plain)) E)
    → ((v : Plain) → IsFormOf bytes v → w ≡ v)
    → IfOk r (λ o. option_map plains o ≡ sequence_in w)
    → IfOk r (λ o. IfNone o ((xs : List Plain) → IsBareFormOf bytes (sequence (plains xs)) → ⊥))
items_none bytes w (Ok (Some xs)) only is = tt
items_none bytes w (Ok None) only is =
    λ ys f. let clash : None ≡ Some (plains ys) = is ∙ ap sequence_in (only (sequence (plains ys)) f.0) in cc
items_none bytes w (Err e) only is = tt

-- ---- the parts of a record

pub parts_some : (r : Record) (o : Option Plain) (xs : Option (List Plain)) → IsWithin r → IfSome o (IsBareFormOf r.oid)
    → IfSome xs (λ cs. IsBareFormOf r.caveats (sequence (plains cs))) → IfSome (parts_with o xs) (IsRecordOf r)
parts_some r (Some v) (Some cs) w f g = record { within = w; oid = f; caveats = g }
parts_some r (Some v) None w f g = tt
parts_some r None xs w f g = tt

pub parts_none : (r : Record) (o : Option Plain) (xs : Option (List Plain))
    → IfNone o ((v : Plain) → IsBareFormOf r.oid v → ⊥)
    → IfNone xs ((cs : List Plain) → IsBareFormOf r.caveats (sequence (plains cs)) → ⊥)
    → IfNone (parts_with o xs) (HasParts r → ⊥)
parts_none r (Some v) (Some cs) f g = tt
parts_none r (Some v) None f g = λ h. g h.0.caveats h.1.caveats
parts_none r None xs f g = λ h. f h.0.oid h.1.oid
