-- Where an oid isn't kept, all stays without it.
use Rattle.std.proofs.Common.{◌≡◌, ℕ, Bool, true, false, not, ◌||◌, Option, Some, None, List, [], ◌∷◌, IfSome}
use Rattle.std.proofs.Common.{cond, sym, ap, ◌∙◌, refl}
use Rattle.std.specs.Option.{option_map}
use Rattle.std.specs.Str.{bytes_eq}
use Rattle.kp_keeper.specs.Records.{is_kept, without}
use Rattle.kp_keeper.specs.declared.records.Record.{Record}

unkept : (oid : List ℕ) (rs : List Record) → is_kept oid rs ≡ false → without oid rs ≡ rs
unkept oid [] h = refl
unkept oid (r ∷ rs) h = by (bytes_eq r.oid oid) h (unkept oid rs)
  where
    by : (b : Bool) → (b || is_kept oid rs) ≡ false → (is_kept oid rs ≡ false → without oid rs ≡ rs)
        → cond {A = List Record} (not b) (r ∷ without oid rs) (without oid rs) ≡ r ∷ rs
    by true e rest = absurd (cc e)
    by false e rest = ap (λ l. r ∷ l) (rest e)

pub unkept_stays : (kept : Option (List Record)) (oid : List ℕ) (there : Bool) → there ≡ false
    → IfSome kept (λ told. there ≡ is_kept oid told) → option_map (without oid) kept ≡ kept
unkept_stays None oid there e h = refl
unkept_stays (Some told) oid there e h = ap Some (unkept oid told (sym h ∙ e))
