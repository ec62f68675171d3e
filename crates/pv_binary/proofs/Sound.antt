-- What is read was spelled so.
use Rattle.std.proofs.Common.{◌≡◌, ℕ, zero, suc, ◌-◌, ◌≤◌, true, false, eqb, List, [], ◌∷◌, ◌++◌, length, Option, Some}
use Rattle.std.proofs.Common.{None, Result, Ok, refl, sym, ap, ◌∙◌, subst, append_assoc, inl, inr, arith}
use Rattle.std.specs.List.{concat, AllZip, All}
use Rattle.std.proofs.lemmas.Bool.{eqb-true}
use Rattle.std.proofs.lemmas.List.Elements.{All-nil, All-cons, All-head, All-tail}
use Rattle.std.proofs.lemmas.List.Sorted.{IsPermutation-sym, All-permutation}
use Rattle.pv_value.specs.Plain.{Plain, boolean, double, integer, string, byte_string, symbol, record_of, sequence}
use Rattle.pv_value.specs.Plain.{set_of, dictionary, embedded, plains, listed, pairs, paired}
use Rattle.pv_value.specs.Lemmas.Listed.{listed-plains, paired-pairs}
use Rattle.pv_value.specs.Depth.{depth, deepest, deepest_pair}
use Rattle.pv_value.specs.WellFormed.{Ascend, KeysAscend}
use Rattle.pv_binary.specs.Numbers.{counted, int_bytes}
use Rattle.std.specs.Int.{w64, to_be_bytes}
use Rattle.pv_binary.specs.Spells.{Spells, Pieces, PairPieces, SpellsEntry}
use Rattle.pv_binary.specs.Tags.{tag_of}
use Rattle.pv_binary.specs.declared.tag.Tag.{Tag}
use Rattle.pv_binary.specs.declared.tag.Tag.TheVariants as tag
use Rattle.pv_read.specs.Results.{Fault}
use Rattle.pv_value.specs.Sets.{set_from, dictionary_from}
use Rattle.pv_binary.specs.Reading.{counted_at, text_at, int_at, double_at}
use Rattle.pv_binary.specs.Reading.{Inner, entry_at, up_to_end, items_at, pairs_at, made_at, atom_at, compound_at}
use Rattle.pv_binary.specs.Reading.{is_compound, behind, value_at}
use Rattle.pv_binary.specs.declared.faults.BinKind.{BinKind}
use Rattle.pv_read.specs.Lemmas.Binds.{parts, bind_ok, ok_same, within_ok, chosen}
use Rattle.pv_binary.proofs.TagBytes.{IsByteOf, tag_byte}
use Rattle.pv_binary.proofs.Varints.{IsBytes, counted_sound, counted_small}
use Rattle.pv_binary.proofs.Texts.{text_sound}
use Rattle.pv_binary.proofs.Ints.{int_sound}
use Rattle.pv_binary.proofs.Doubles.{double_sound}
use Rattle.pv_value.specs.Lemmas.SetFrom.{set_from_is}
use Rattle.pv_value.specs.Lemmas.DictionaryFrom.{dictionary_from_is}
use Rattle.pv_binary.proofs.Zips.{right_permutes}

-- a front of the bytes spells the value
pub record Found (d : ℕ) (bytes : List ℕ) (v : Plain) (rest : List ℕ) : Type 0 where
  pub front : List ℕ
  pub is : bytes ≡ front ++ rest
  pub spells : Spells front v
  pub shallow : depth v ≤ d
  pub bytes_left : IsBytes rest

pub record FoundItems (d : ℕ) (bytes : List ℕ) (xs : List Plain) (rest : List ℕ) : Type 0 where
  pub pieces : List (List ℕ)
  pub is : bytes ≡ concat pieces ++ 0x84 ∷ rest
  pub spells : Pieces pieces (plains xs)
  pub shallow : deepest (plains xs) ≤ d
  pub bytes_left : IsBytes rest

pub record FoundPairs (d : ℕ) (bytes : List ℕ) (ps : List (Plain × Plain)) (rest : List ℕ) : Type 0 where
  pub pieces : List (List ℕ)
  pub is : bytes ≡ concat pieces ++ 0x84 ∷ rest
  pub spells : PairPieces pieces (pairs ps)
  pub shallow : deepest_pair (pairs ps) ≤ d
  pub bytes_left : IsBytes rest

found_as : (d : ℕ) (bytes : List ℕ) (v w : Plain) (r s : List ℕ) → w ≡ v → s ≡ r → Found d bytes w s → Found d bytes v r
found_as d bytes v w r s p q f = subst (λ z. Found d bytes z r) p (subst (λ t. Found d bytes w t) q f)

-- the tag's byte, and what a front of the other bytes spells behind it
behind_tag : (d n b : ℕ) (bs front : List ℕ) (v w : Plain) (r s : List ℕ) → b ≡ n → bs ≡ front ++ s
    → Spells (n ∷ front) w → depth w ≤ d → IsBytes s → w ≡ v → s ≡ r → Found d (b ∷ bs) v r
behind_tag d n b bs front v w r s t e spells shallow left p q =
    found_as d (b ∷ bs) v w r s p q
    (record { front = n ∷ front; is = λ i. t i ∷ e i; spells = spells; shallow = shallow; bytes_left = left })

-- ---- lists

found_more : (d : ℕ) (bytes : List ℕ) (x : Plain) (more : List ℕ) (xs : List Plain) (rest : List ℕ)
    → Found d bytes x more → FoundItems d more xs rest → FoundItems d bytes (x ∷ xs) rest
found_more d bytes x more xs rest f g = record {
  pieces = f.front ∷ g.pieces;
  is = f.is ∙ rw (g.is, append_assoc f.front (concat g.pieces) (0x84 ∷ rest));
  spells = (f.spells, g.spells);
  shallow = let a = f.shallow in let b = g.shallow in omega arith;
  bytes_left = g.bytes_left;
}

found_pair_more : (d : ℕ) (bytes : List ℕ) (k : Plain) (middle : List ℕ) (v : Plain) (more : List ℕ)
    (ps : List (Plain × Plain)) (rest : List ℕ) → Found d bytes k middle → Found d middle v more
    → FoundPairs d more ps rest → FoundPairs d bytes ((k, v) ∷ ps) rest
found_pair_more d bytes k middle v more ps rest f h g = record {
  pieces = (f.front ++ h.front) ∷ g.pieces;
  is = f.is ∙ ap (λ y. f.front ++ y) (h.is ∙ ap (λ y. h.front ++ y) g.is)
      ∙ sym (append_assoc f.front h.front (concat g.pieces ++ 0x84 ∷ rest))
      ∙ sym (append_assoc (f.front ++ h.front) (concat g.pieces) (0x84 ∷ rest));
  spells = ((f.front, h.front, f.spells, h.spells, refl), g.spells);
  shallow = let a = f.shallow in let b = h.shallow in let c = g.shallow in omega arith;
  bytes_left = g.bytes_left;
}

-- elements, by what is known where none is left and by what one more element adds
module _ {A : Type 0} (total : ℕ) (element : List ℕ → Result (A × List ℕ) (Fault BinKind))
    (Known : List ℕ → List A → List ℕ → Type 0) (none : (bs : List ℕ) → IsBytes bs → Known (0x84 ∷ bs) [] bs)
    (one : (b : List ℕ) (x : A) (r : List ℕ) → IsBytes b → element b ≡ Ok (x, r)
    → IsBytes r × ((xs : List A) (s : List ℕ) → Known r xs s → Known b (x ∷ xs) s)) where
  elements_as : (bytes : List ℕ) (xs ys : List A) (r s : List ℕ) → ys ≡ xs → s ≡ r → Known bytes ys s → Known bytes xs r
  elements_as bytes xs ys r s p q f = subst (λ zs. Known bytes zs r) p (subst (λ t. Known bytes ys t) q f)

  elements_sound : (n : ℕ) (bytes : List ℕ) (xs : List A) (r : List ℕ) → IsBytes bytes
      → up_to_end total element n bytes ≡ Ok (xs, r) → Known bytes xs r
  elements_sound zero bytes xs r all e = cc
  elements_sound (suc n) [] xs r all e = cc
  elements_sound (suc n) (b ∷ bs) xs r all e =
      elim (chosen (eqb b 0x84) _ _ _ e) [
        | inl h ↦
            let p = parts [] xs bs r h.1 in
            let end : Known (b ∷ bs) [] bs =
            subst (λ (y : ℕ). Known (y ∷ bs) [] bs) (sym (eqb-true b 0x84 h.0)) (none bs all.1) in
            elements_as (b ∷ bs) xs [] r bs p.0 p.1 end
        | inr h ↦
            let x = bind_ok (element (b ∷ bs)) _ _ h.1 in
            let ys = bind_ok (up_to_end total element n x.0.1) _ _ x.2 in
            let f = one (b ∷ bs) x.0.0 x.0.1 all x.1 in
            let g = elements_sound n x.0.1 ys.0.0 ys.0.1 f.0 ys.1 in
            let p = parts (x.0.0 ∷ ys.0.0) xs ys.0.1 r ys.2 in
            elements_as (b ∷ bs) xs (x.0.0 ∷ ys.0.0) r ys.0.1 p.0 p.1 (f.1 ys.0.0 ys.0.1 g)
      ]

module _ (total : ℕ) (inner : Inner) (d : ℕ)
    (sound : (b : List ℕ) (v : Plain) (r : List ℕ) → IsBytes b → inner b ≡ Ok (v, r) → Found d b v r) where
  pub items_sound : (bytes : List ℕ) (xs : List Plain) (r : List ℕ) → IsBytes bytes → items_at total inner bytes
      ≡ Ok (xs, r)
      → FoundItems d bytes xs r
  items_sound bytes xs r all e = elements_sound total inner (FoundItems d) none one (length bytes) bytes xs r all e
    where
      none : (bs : List ℕ) → IsBytes bs → FoundItems d (0x84 ∷ bs) [] bs
      none bs left = record { pieces = []; is = refl; spells = tt; shallow = omega arith; bytes_left = left }

      one : (b : List ℕ) (x : Plain) (r : List ℕ) → IsBytes b → inner b ≡ Ok (x, r)
          → IsBytes r × ((xs : List Plain) (s : List ℕ) → FoundItems d r xs s → FoundItems d b (x ∷ xs) s)
      one b x r left k = let f = sound b x r left k in (f.bytes_left, λ xs s g. found_more d b x r xs s f g)

  pub pairs_sound : (bytes : List ℕ) (ps : List (Plain × Plain)) (r : List ℕ) → IsBytes bytes
      → pairs_at total inner bytes ≡ Ok (ps, r) → FoundPairs d bytes ps r
  pairs_sound bytes ps r all e =
      elements_sound total (entry_at inner) (FoundPairs d) none one (length bytes) bytes ps r all e
    where
      none : (bs : List ℕ) → IsBytes bs → FoundPairs d (0x84 ∷ bs) [] bs
      none bs left = record { pieces = []; is = refl; spells = tt; shallow = omega arith; bytes_left = left }

      one : (b : List ℕ) (p : Plain × Plain) (r : List ℕ) → IsBytes b → entry_at inner b ≡ Ok (p, r)
          → IsBytes r × ((ps : List (Plain × Plain)) (s : List ℕ) → FoundPairs d r ps s → FoundPairs d b (p ∷ ps) s)
      one b p r left k =
          let x = bind_ok (inner b) _ _ k in
          let y = bind_ok (inner x.0.1) _ _ x.2 in
          let f = sound b x.0.0 x.0.1 left x.1 in
          let h = sound x.0.1 y.0.0 y.0.1 f.bytes_left y.1 in
          let q = parts (x.0.0, y.0.0) p y.0.1 r y.2 in (
            subst IsBytes q.1 h.bytes_left,
            λ ps s g.
                subst (λ (z : Plain × Plain). FoundPairs d b (z ∷ ps) s) q.0
                (found_pair_more d b x.0.0 x.0.1 y.0.0 y.0.1 ps s f h
                (subst (λ (t : List ℕ). FoundPairs d t ps s) (sym q.1) g)),
          )

-- ---- sets and dictionaries

pieces_zip : (ps : List (List ℕ)) (xs : List Plain) → Pieces ps (plains xs) → AllZip Spells ps xs
pieces_zip [] [] h = tt
pieces_zip [] (x ∷ xs) h = absurd h
pieces_zip (p ∷ ps) [] h = absurd h
pieces_zip (p ∷ ps) (x ∷ xs) h = (h.0, pieces_zip ps xs h.1)

zip_pieces : (ps : List (List ℕ)) (xs : List Plain) → AllZip Spells ps xs → Pieces ps (plains xs)
zip_pieces [] [] h = tt
zip_pieces [] (x ∷ xs) h = absurd h
zip_pieces (p ∷ ps) [] h = absurd h
zip_pieces (p ∷ ps) (x ∷ xs) h = (h.0, zip_pieces ps xs h.1)

abbrev SpellsPair : List ℕ → Plain × Plain → Type 0
SpellsPair b p = SpellsEntry b p.0 p.1

pair_pieces_zip : (bs : List (List ℕ)) (ps : List (Plain × Plain)) → PairPieces bs (pairs ps) → AllZip SpellsPair bs ps
pair_pieces_zip [] [] h = tt
pair_pieces_zip [] (p ∷ ps) h = absurd h
pair_pieces_zip (b ∷ bs) [] h = absurd h
pair_pieces_zip (b ∷ bs) (p ∷ ps) h = (h.0, pair_pieces_zip bs ps h.1)

zip_pair_pieces : (bs : List (List ℕ)) (ps : List (Plain × Plain)) → AllZip SpellsPair bs ps → PairPieces bs (pairs ps)
zip_pair_pieces [] [] h = tt
zip_pair_pieces [] (p ∷ ps) h = absurd h
zip_pair_pieces (b ∷ bs) [] h = absurd h
zip_pair_pieces (b ∷ bs) (p ∷ ps) h = (h.0, zip_pair_pieces bs ps h.1)

all_shallow : (d : ℕ) (xs : List Plain) → deepest (plains xs) ≤ d → All (λ x. depth x ≤ d) xs
all_shallow d [] h = All-nil (λ x. depth x ≤ d)
all_shallow d (x ∷ xs) h = All-cons (λ x. depth x ≤ d) x xs (omega arith) (all_shallow d xs (omega arith))

shallow_all : (d : ℕ) (xs : List Plain) → All (λ x. depth x ≤ d) xs → deepest (plains xs) ≤ d
shallow_all d [] h = omega arith
shallow_all d (x ∷ xs) h =
    omega (arith, All-head (λ x. depth x ≤ d) x xs h, shallow_all d xs (All-tail (λ x. depth x ≤ d) x xs h))

abbrev IsShallow : ℕ → Plain × Plain → Type 0
IsShallow d p = (depth p.0 ≤ d) × (depth p.1 ≤ d)

all_pairs_shallow : (d : ℕ) (ps : List (Plain × Plain)) → deepest_pair (pairs ps) ≤ d → All (IsShallow d) ps
all_pairs_shallow d [] h = All-nil (IsShallow d)
all_pairs_shallow d (p ∷ ps) h =
    All-cons (IsShallow d) p ps (omega arith, omega arith) (all_pairs_shallow d ps (omega arith))

pairs_shallow_all : (d : ℕ) (ps : List (Plain × Plain)) → All (IsShallow d) ps → deepest_pair (pairs ps) ≤ d
pairs_shallow_all d [] h = omega arith
pairs_shallow_all d (p ∷ ps) h =
    let here = All-head (IsShallow d) p ps h in
    omega (arith, here.0, here.1, pairs_shallow_all d ps (All-tail (IsShallow d) p ps h))

-- what elements or entries made
made_ok : (place : ℕ) (made : Option Plain) (v : Plain) → made_at place made ≡ Ok v → made ≡ Some v
made_ok place None v e = cc
made_ok place (Some w) v e = ap (λ (x : Plain). Some x) (ok_same {E = Fault BinKind} w v e)

-- the bytes between a tag and the end
closed : (d : ℕ) (pieces : List (List ℕ)) (bs r : List ℕ) → bs ≡ concat pieces ++ 0x84 ∷ r → bs
    ≡ (concat pieces ++ 0x84 ∷ []) ++ r
closed d pieces bs r e = e ∙ sym (append_assoc (concat pieces) (0x84 ∷ []) r)

set_found : (d b : ℕ) (bs : List ℕ) (xs : List Plain) (v w : Plain) (r s : List ℕ) → b ≡ 0xb6 → set_from xs ≡ Some w
    → FoundItems d bs xs s → w ≡ v → s ≡ r → Found (suc d) (b ∷ bs) v r
set_found d b bs xs v w r s t e f same q =
    let made = set_from_is xs w e in
    let ys = made.0 in
    let z = right_permutes Spells f.pieces xs (pieces_zip f.pieces xs f.spells) ys made.1 in
    let up : Ascend (listed (plains ys)) = subst Ascend (sym (listed-plains ys)) made.2 in
    let deep : deepest (plains ys) ≤ d =
    shallow_all d ys (All-permutation (λ x. depth x ≤ d) xs ys made.1 (all_shallow d xs f.shallow)) in
    behind_tag (suc d) 0xb6 b bs (concat f.pieces ++ 0x84 ∷ []) v (set_of (plains ys)) r s t
    (closed d f.pieces bs s f.is)
    (z.0, f.pieces, zip_pieces z.0 ys z.1, IsPermutation-sym f.pieces z.0 z.2, up, refl) (omega arith) f.bytes_left
    (sym made.3 ∙ same) q

dictionary_found : (d b : ℕ) (bs : List ℕ) (ps : List (Plain × Plain)) (v w : Plain) (r s : List ℕ) → b ≡ 0xb7
    → dictionary_from ps ≡ Some w → FoundPairs d bs ps s → w ≡ v → s ≡ r → Found (suc d) (b ∷ bs) v r
dictionary_found d b bs ps v w r s t e f same q =
    let made = dictionary_from_is ps w e in
    let qs = made.0 in
    let z = right_permutes SpellsPair f.pieces ps (pair_pieces_zip f.pieces ps f.spells) qs made.1 in
    let up : KeysAscend (paired (pairs qs)) = subst KeysAscend (sym (paired-pairs qs)) made.2 in
    let deep : deepest_pair (pairs qs) ≤ d =
    pairs_shallow_all d qs (All-permutation (IsShallow d) ps qs made.1 (all_pairs_shallow d ps f.shallow)) in
    behind_tag (suc d) 0xb7 b bs (concat f.pieces ++ 0x84 ∷ []) v (dictionary (pairs qs)) r s t
    (closed d f.pieces bs s f.is)
    (z.0, f.pieces, zip_pair_pieces z.0 qs z.1, IsPermutation-sym f.pieces z.0 z.2, up, refl)
    (omega arith) f.bytes_left (sym made.3 ∙ same) q

-- ---- atoms

atom_sound : (place d : ℕ) (t : Tag) (b : ℕ) (bs : List ℕ) (v : Plain) (r : List ℕ) → IsByteOf t b → IsBytes bs
    → atom_at place t bs ≡ Ok (v, r) → Found d (b ∷ bs) v r
unfolding atom_at
atom_sound place d tag.False b bs v r is all e =
    let p = parts (boolean false) v bs r e in
    behind_tag d 0x80 b bs [] v (boolean false) r bs is refl refl (omega arith) all p.0 p.1
atom_sound place d tag.True b bs v r is all e =
    let p = parts (boolean true) v bs r e in
    behind_tag d 0x81 b bs [] v (boolean true) r bs is refl refl (omega arith) all p.0 p.1
atom_sound place d tag.Double b bs v r is all e =
    let x = bind_ok (double_at bs) _ _ (within_ok place _ _ e) in
    let f = double_sound bs x.0.0 x.0.1 all x.1 in
    let p = parts (double x.0.0) v x.0.1 r x.2 in
    behind_tag d 0x87 b bs (8 ∷ to_be_bytes w64 x.0.0) v (double x.0.0) r x.0.1 is f.1 (f.0, refl)
    (omega arith) f.2 p.0 p.1
atom_sound place d tag.Integer b bs v r is all e =
    let x = bind_ok (int_at bs) _ _ (within_ok place _ _ e) in
    let f = int_sound bs x.0.0 x.0.1 all x.1 in
    let p = parts (integer x.0.0) v x.0.1 r x.2 in
    behind_tag d 0xb0 b bs (counted (int_bytes x.0.0)) v (integer x.0.0) r x.0.1 is f.0 (f.2, refl)
    (omega arith) f.1 p.0 p.1
atom_sound place d tag.String b bs v r is all e =
    let x = bind_ok (text_at bs) _ _ (within_ok place _ _ e) in
    let f = text_sound bs x.0.0 x.0.1 all x.1 in
    let p = parts (string x.0.0) v x.0.1 r x.2 in
    behind_tag d 0xb1 b bs (counted x.0.0) v (string x.0.0) r x.0.1 is f.0 (f.2, f.3, refl) (omega arith) f.1 p.0 p.1
atom_sound place d tag.ByteString b bs v r is all e =
    let x = bind_ok (counted_at bs) _ _ (within_ok place _ _ e) in
    let f = counted_sound bs x.0.0 x.0.1 all x.1 in
    let p = parts (byte_string x.0.0) v x.0.1 r x.2 in
    behind_tag d 0xb2 b bs (counted x.0.0) v (byte_string x.0.0) r x.0.1 is f.0
    (counted_small bs x.0.0 x.0.1 all x.1, refl) (omega arith) f.1 p.0 p.1
atom_sound place d tag.Symbol b bs v r is all e =
    let x = bind_ok (text_at bs) _ _ (within_ok place _ _ e) in
    let f = text_sound bs x.0.0 x.0.1 all x.1 in
    let p = parts (symbol x.0.0) v x.0.1 r x.2 in
    behind_tag d 0xb3 b bs (counted x.0.0) v (symbol x.0.0) r x.0.1 is f.0 (f.2, f.3, refl) (omega arith) f.1 p.0 p.1
atom_sound place d t b bs v r is all e = cc

-- ---- compounds

record_found : (d b : ℕ) (bs : List ℕ) (l : Plain) (more : List ℕ) (xs : List Plain) (v : Plain) (r s : List ℕ) → b
    ≡ 0xb4 → Found d bs l more → FoundItems d more xs s → record_of l (plains xs) ≡ v → s ≡ r
    → Found (suc d) (b ∷ bs) v r
record_found d b bs l more xs v r s t g f same q =
    let body : List ℕ = concat f.pieces ++ 0x84 ∷ [] in
    let whole : bs ≡ (g.front ++ body) ++ s = rw (g.is, closed d f.pieces more s f.is, append_assoc g.front body s) in
    let a = g.shallow in
    let c = f.shallow in
    behind_tag (suc d) 0xb4 b bs (g.front ++ body) v (record_of l (plains xs)) r s t whole
    (g.front, f.pieces, g.spells, f.spells, refl) (omega arith) f.bytes_left same q

module _ (total place : ℕ) (inner : Inner) (d : ℕ)
    (sound : (b : List ℕ) (v : Plain) (r : List ℕ) → IsBytes b → inner b ≡ Ok (v, r) → Found d b v r) where
  compound_sound : (t : Tag) (b : ℕ) (bs : List ℕ) (v : Plain) (r : List ℕ) → IsByteOf t b → IsBytes bs
      → compound_at total place inner t bs ≡ Ok (v, r) → Found (suc d) (b ∷ bs) v r
  unfolding compound_at
  compound_sound tag.Embedded b bs v r is all e =
      let x = bind_ok (inner bs) _ _ e in
      let f = sound bs x.0.0 x.0.1 all x.1 in
      let p = parts (embedded x.0.0) v x.0.1 r x.2 in
      behind_tag (suc d) 0x86 b bs f.front v (embedded x.0.0) r x.0.1 is f.is (f.front, f.spells, refl)
      (let a = f.shallow in omega arith) f.bytes_left p.0 p.1
  compound_sound tag.Record b bs v r is all e =
      let l = bind_ok (inner bs) _ _ e in
      let x = bind_ok (items_at total inner l.0.1) _ _ l.2 in
      let g = sound bs l.0.0 l.0.1 all l.1 in
      let f = items_sound total inner d sound l.0.1 x.0.0 x.0.1 g.bytes_left x.1 in
      let p = parts (record_of l.0.0 (plains x.0.0)) v x.0.1 r x.2 in
      record_found d b bs l.0.0 l.0.1 x.0.0 v r x.0.1 is g f p.0 p.1
  compound_sound tag.Sequence b bs v r is all e =
      let x = bind_ok (items_at total inner bs) _ _ e in
      let f = items_sound total inner d sound bs x.0.0 x.0.1 all x.1 in
      let p = parts (sequence (plains x.0.0)) v x.0.1 r x.2 in
      behind_tag (suc d) 0xb5 b bs (concat f.pieces ++ 0x84 ∷ []) v (sequence (plains x.0.0)) r x.0.1 is
      (closed d f.pieces bs x.0.1 f.is) (f.pieces, f.spells, refl)
      (let a = f.shallow in omega arith) f.bytes_left p.0 p.1
  compound_sound tag.Set b bs v r is all e =
      let x = bind_ok (items_at total inner bs) _ _ e in
      let y = bind_ok (made_at place (set_from x.0.0)) _ _ x.2 in
      let f = items_sound total inner d sound bs x.0.0 x.0.1 all x.1 in
      let p = parts y.0 v x.0.1 r y.2 in
      set_found d b bs x.0.0 v y.0 r x.0.1 is (made_ok place (set_from x.0.0) y.0 y.1) f p.0 p.1
  compound_sound tag.Dictionary b bs v r is all e =
      let x = bind_ok (pairs_at total inner bs) _ _ e in
      let y = bind_ok (made_at place (dictionary_from x.0.0)) _ _ x.2 in
      let f = pairs_sound total inner d sound bs x.0.0 x.0.1 all x.1 in
      let p = parts y.0 v x.0.1 r y.2 in
      dictionary_found d b bs x.0.0 v y.0 r x.0.1 is (made_ok place (dictionary_from x.0.0) y.0 y.1) f p.0 p.1
  compound_sound t b bs v r is all e = cc

-- ---- values

module _ (d : ℕ) (deeper : Tag → Inner) (b : ℕ) (bs : List ℕ) (v : Plain) (r : List ℕ) where
  behind_sound : (place : ℕ) → IsBytes bs → (deeper (tag_of b) bs ≡ Ok (v, r) → Found d (b ∷ bs) v r)
      → behind place (tag_of b) bs deeper ≡ Ok (v, r) → Found d (b ∷ bs) v r
  unfolding behind
  behind_sound place all compound e =
      elim (chosen (is_compound (tag_of b)) _ _ _ e) [
        | inl h ↦ compound h.1
        | inr h ↦ atom_sound place d (tag_of b) b bs v r (tag_byte b) all h.1
      ]

pub value_sound : (total d : ℕ) (bytes : List ℕ) (v : Plain) (r : List ℕ) → IsBytes bytes → value_at total d bytes
    ≡ Ok (v, r) → Found d bytes v r
unfolding value_at
value_sound total d [] v r all e = cc
value_sound total zero (b ∷ bs) v r all e = behind_sound zero _ b bs v r (total - length (b ∷ bs)) all.1 (λ k. cc) e
value_sound total (suc d) (b ∷ bs) v r all e =
    let place = total - length (b ∷ bs) in
    behind_sound (suc d) _ b bs v r place all.1
    (λ k. compound_sound total place (value_at total d) d (value_sound total d) (tag_of b) b bs v r
    (tag_byte b) all.1 k) e
