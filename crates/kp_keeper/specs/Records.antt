-- Kept bindings: records that ascend by the bytes of their oids, of which no two are equal.
use Rattle.std.specs.Prelude.{ℕ, Bool, not, List, [], ◌∷◌, map}
use Rattle.std.specs.declared.cmp.Ordering.{Ordering}
use Rattle.std.specs.Cmp.Lexicographic.{slice_cmp}
use Rattle.std.specs.List.{filter, list_any}
use Rattle.std.specs.List.Sorted.{IsStrictlySortedBy}
use Rattle.std.specs.Ordering.{match_ordering, nat_cmp}
use Rattle.std.specs.Str.{bytes_eq}
pub use Rattle.kp_keeper.specs.declared.records.Record.{Record}

-- byte by byte, and a proper prefix first
abbrev pub byte_order : List ℕ → List ℕ → Ordering
byte_order = slice_cmp nat_cmp

-- each oid comes before all later ones
abbrev pub Ascend : List Record → Type 0
Ascend rs = IsStrictlySortedBy byte_order (map (λ r. r.oid) rs)

-- whether a record of this oid is kept
abbrev pub is_kept : List ℕ → List Record → Bool
is_kept oid rs = list_any (λ r. bytes_eq r.oid oid) rs

-- with one record more, in its place; where one of its oid is kept, that one stays alone
abbrev pub with_record : Record → List Record → List Record
with_record r [] = r ∷ []
with_record r (x ∷ xs) = match_ordering (byte_order r.oid x.oid) (r ∷ x ∷ xs) (x ∷ xs) (x ∷ with_record r xs)

-- without the record of this oid
abbrev pub without : List ℕ → List Record → List Record
without oid rs = filter (λ r. not (bytes_eq r.oid oid)) rs
