-- Where an atom ends, and where the bytes end inside one.
use Rattle.std.proofs.Common.{◌≡◌, ℕ, zero, ◌+◌, ◌-◌, ◌<◌, ◌≤◌, List, ◌∷◌, length, take, drop}
use Rattle.std.proofs.Common.{slice_index, slice_range, Result, Ok, Err, refl, sym, ap, ◌∙◌, subst, arith, IsFalse}
use Rattle.std.proofs.Common.{length-drop}
use Rattle.std.proofs.lemmas.List.{take_all, take-append-drop}
use Rattle.pv_value.specs.Plain.{Plain}
use Rattle.pv_read.specs.Results.{Fault}
use Rattle.pv_read.specs.Lemmas.Binds.{bind_ok}
use Rattle.pv_binary.specs.Tags.{tag_of}
use Rattle.pv_binary.specs.Spells.{Spells}
use Rattle.pv_binary.specs.Reading.{is_compound, atom_at}
use Rattle.pv_binary.specs.Fronts.{IsCut}
use Rattle.pv_binary.specs.Lemmas.Begins.{begins_some}
use Rattle.pv_binary.specs.declared.tag.Tag.{Tag}
use Rattle.pv_binary.specs.declared.faults.BinKind.{BinKind}
use Rattle.pv_binary.specs.declared.faults.BinKind.TheVariants as kind
use Rattle.pv_binary.proofs.Varints.{IsBytes, IsBytes-append}
use Rattle.pv_binary.proofs.Whole.{found_law}
use Rattle.pv_binary.proofs.Stops.{atom_behind}
use Rattle.pv_binary.proofs.Cuts.{AtomWrong, cut, faulty, no_tag, atom_fails, never_cut}
use Rattle.pv_stream.specs.Scans.{past}
use Rattle.pv_stream.specs.Walks.{IsFound, IsAtom, IsCutWhere}
use Rattle.pv_stream.proofs.Walking.{drop_one}

-- an atom may stand inside as many compounds as are open
pub atom_inside : (left : List ℕ) (from to outer : ℕ) → IsAtom left from to → outer ≤ 64 → IsFound left from to outer
atom_inside left from to outer (some, (before, within, (v, spells, level))) few =
    (before, within, (v, spells, omega (arith, level, few)))

past_err : {A E : Type 0} (r : Result (A × List ℕ) E) (f : E) → past r ≡ Err f → r ≡ Err f
past_err (Ok x) f e = absurd cc
past_err (Err g) f e = let same : g ≡ f = cc in ap Err same

cut_kind : (t : Tag) (bytes : List ℕ) (k : BinKind) → AtomWrong t bytes k → k ≡ kind.Truncated → IsCut t bytes
cut_kind t bytes k (cut u b is) e = is
cut_kind t bytes k (faulty u b m f) e = absurd (never_cut u b m f e)
cut_kind t bytes k (no_tag b) e = absurd cc

cut_where : (left : List ℕ) (place : ℕ) (k : BinKind)
    → (k ≡ kind.Truncated → IsCut (tag_of (slice_index left place)) (drop (place + 1) left)) → IsCutWhere left place k
cut_where left place kind.Truncated is = is refl
cut_where left place k is = tt

module _ (left : List ℕ) (place : ℕ) (all : IsBytes left) (within : place < length left)
    (atom : IsFalse (is_compound (tag_of (slice_index left place)))) where
  abbrev first : ℕ
  first = slice_index left place

  abbrev others : List ℕ
  others = drop (place + 1) left

  left_bytes : IsBytes (first ∷ others)
  left_bytes =
      subst IsBytes (drop_one left place within)
      (IsBytes-append (take place left) (drop place left)
      (subst IsBytes (sym (take-append-drop place left)) all)).1

  size : length (first ∷ others) ≡ length left - place
  size = sym (ap length (drop_one left place within)) ∙ length-drop place left

  -- the same, as they are cut out
  abbrev cut_out : List ℕ
  cut_out = take (length left - (place + 1)) others

  as_others : {A : Type 0} (told : A) (f : List ℕ → A) → f cut_out ≡ told → f others ≡ told
  as_others told f is =
      ap f (sym (take_all (length left - (place + 1)) others (omega (arith, length-drop (place + 1) left)))) ∙ is

  pub atom_found : (rest : List ℕ) → past (atom_at place (tag_of first) cut_out) ≡ Ok rest
      → (length rest ≤ length left) × IsAtom left place (length left - length rest)
  atom_found rest is =
      let x = bind_ok (atom_at place (tag_of first) others) _ _
      (as_others (Ok rest) (λ b. past (atom_at place (tag_of first) b)) is) in
      let v : Plain = x.0.0 in
      let same : x.0.1 ≡ rest = let e = x.2 in cc in
      let there : length left - length (first ∷ others) ≡ place = omega (arith, size, within) in
      let here : atom_at (length left - length (first ∷ others)) (tag_of first) others ≡ Ok (v, rest) =
      ap (λ n. atom_at n (tag_of first) others) there ∙ x.1 ∙ ap (λ (r : List ℕ). Ok (v, r)) same in
      let f = found_law (length left) zero (first ∷ others) v rest left_bytes
      (atom_behind (length left) zero first others (Ok (v, rest)) atom here) in
      let n : ℕ = length (first ∷ others) - length rest in
      let some : 1 ≤ n = begins_some (first ∷ others) n v (omega arith, f.1, omega (arith, f.2)) in
      let long : n ≡ length left - length rest - place = omega (arith, size, f.0) in
      let bytes : take n (first ∷ others) ≡ slice_range left place (length left - length rest) =
      (λ i. take (long i) (sym (drop_one left place within) i)) in (
        omega (arith, f.0, size),
        (
          omega (arith, f.0, size, some, within),
          (
            omega (arith, f.0, size, some, within),
            omega arith,
            (v, subst (λ b. Spells b v) bytes f.1, omega (arith, f.2)),
          ),
        ),
      )

  pub atom_cut : (f : Fault BinKind) → past (atom_at place (tag_of first) cut_out) ≡ Err f → IsCutWhere left place f.kind
  atom_cut f is =
      let fails = atom_fails place (tag_of first) others f atom left_bytes.1
      (past_err (atom_at place (tag_of first) others) f
      (as_others (Err f) (λ b. past (atom_at place (tag_of first) b)) is)) in
      cut_where left place f.kind (cut_kind (tag_of first) others f.kind fails.1)
