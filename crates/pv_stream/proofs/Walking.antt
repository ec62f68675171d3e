-- What is open at a place: one compound more, one less, a value more, and that the bytes end there.
use Rattle.std.proofs.Common.{◌≡◌, ℕ, zero, suc, ◌+◌, ◌-◌, ◌<◌, ◌≤◌, inl, inr, List, [], ◌∷◌, ◌++◌}
use Rattle.std.proofs.Common.{length, take, drop, map, slice_index, slice_range, refl, sym, ap, ◌∙◌, subst}
use Rattle.std.proofs.Common.{append_assoc}
use Rattle.std.proofs.Common.{length-append, length-take, arith, IsTrue, add-one}
use Rattle.std.specs.List.{concat}
use Rattle.std.proofs.Math.Seq.{take-suc, take-append_seam, drop-append_seam}
use Rattle.std.proofs.lemmas.List.{append-nil, take-append-le, take_all, take-append-drop, take-take, drop-take}
use Rattle.std.proofs.lemmas.List.{length_push}
use Rattle.std.proofs.lemmas.List.Folds.{concat-append}
use Rattle.pv_value.specs.Plain.{Plain, plains, record_of, sequence, embedded}
use Rattle.pv_value.specs.Depth.{depth, deepest}
use Rattle.pv_binary.specs.Tags.{tag_of}
use Rattle.pv_binary.specs.Spells.{Spells, Pieces}
use Rattle.pv_binary.specs.Reading.{is_compound}
use Rattle.pv_binary.specs.Fronts.{Open, IsUnfilled, IsOpen, Opens, at_tag, inside_atom, IsCut}
use Rattle.pv_binary.specs.OneOfThree.{IsFront}
use Rattle.pv_binary.specs.declared.tag.Tag.{Tag}
use Rattle.pv_binary.specs.declared.tag.Tag.TheVariants as tag
use Rattle.pv_stream.specs.declared.walks.Level.{Level}
use Rattle.pv_stream.specs.declared.walks.Step.{Step}
use Rattle.pv_stream.specs.declared.walks.Step.TheVariants.{To, Waits, Looks}
use Rattle.pv_stream.specs.Walks.{level_of, levels_of, IsAt, IsValue, IsFound, IsMeasured, IsListed, Goes, GoesTo}
use Rattle.pv_stream.proofs.TagBytes.{IsByteOf, tag_byte}

-- ---- lists

snoc_same : {A : Type 0} (xs ys : List A) (x y : A) → xs ++ x ∷ [] ≡ ys ++ y ∷ [] → (xs ≡ ys) × (x ≡ y)
snoc_same [] [] x y e = (refl, cc)
snoc_same [] (b ∷ ys) x y e = absurd (omega (arith, ap length e, length_push ys y))
snoc_same (a ∷ xs) [] x y e = absurd (omega (arith, ap length e, length_push xs x))
snoc_same (a ∷ xs) (b ∷ ys) x y e = let s = snoc_same xs ys x y cc in (cc (e, s.0), s.1)

take_more : (p to : ℕ) (xs : List ℕ) → p ≤ to → take to xs ≡ take p xs ++ slice_range xs p to
take_more p to xs l =
    let n : ℕ = to - p in
    let all : p + n ≡ to = omega arith in
    let front : take p (take to xs) ≡ take p xs = take-take p to xs l in
    let back : drop p (take to xs) ≡ take n (drop p xs) =
    ap (λ k. drop p (take k xs)) (sym all) ∙ drop-take p n xs in
    sym (take-append-drop p (take to xs)) ∙ (λ i. front i ++ back i)

-- what stands between two places, by what stands up to a third
slice_from : (left front r : List ℕ) (place p to : ℕ) → take p left ≡ front ++ r → place ≡ length front → p ≤ to
    → place ≤ to → slice_range left place to ≡ r ++ slice_range left p to
slice_from left front r place p to is at l m =
    let n : ℕ = to - place in
    let all : place + n ≡ to = omega arith in
    let whole : take to left ≡ front ++ (r ++ slice_range left p to) =
    take_more p to left l ∙ ap (λ (x : List ℕ). x ++ slice_range left p to) is
    ∙ append_assoc front r (slice_range left p to) in
    sym (drop-take place n left) ∙ ap (λ k. drop place (take k left)) all
    ∙ (λ i. drop (at i) (whole i)) ∙ drop-append_seam front (r ++ slice_range left p to)

-- ---- levels

count_same : (os : List Open) → length (levels_of os) ≡ length os
count_same [] = refl
count_same (o ∷ os) = omega (arith, length_push (levels_of os) (level_of o), count_same os)

record Last (os : List Open) (ls : List Level) (l : Level) : Type 0 where
  inner : Open
  outer : List Open
  is : os ≡ inner ∷ outer
  levels : levels_of outer ≡ ls
  level : level_of inner ≡ l

last_level : (os : List Open) (ls : List Level) (l : Level) → ls ++ l ∷ [] ≡ levels_of os → Last os ls l
last_level [] ls l e = absurd (omega (arith, ap length e, length_push ls l))
last_level (o ∷ os) ls l e =
    let s = snoc_same ls (levels_of os) l (level_of o) e in
    record { inner = o; outer = os; is = refl; levels = sym s.0; level = sym s.1 }

-- the innermost compound: what stands before it, and what stands in it so far
record Innermost (left : List ℕ) (place : ℕ) (ls : List Level) (l : Level) : Type 0 where
  inner : Open
  outer : List Open
  front : List ℕ
  pieces : List (List ℕ)
  opens : Opens front outer
  open_ : IsOpen inner outer front
  spelled : Pieces pieces (plains inner.values)
  bytes : take place left ≡ front ++ l.byte ∷ concat pieces
  levels : ls ≡ levels_of outer
  at : l.place ≡ length front
  byte : inner.byte ≡ l.byte
  fits : place ≤ length left

innermost : (left : List ℕ) (place : ℕ) (ls : List Level) (l : Level) → IsAt left place (ls ++ l ∷ [])
    → Innermost left place ls l
innermost left place ls l (os, fits, opens, same) =
    let e = last_level os ls l same in
    let o = subst (λ (x : List Open). Opens (take place left) x) e.is opens in
    let b : e.inner.byte ≡ l.byte = ap (λ (x : Level). x.byte) e.level in
    record {
      inner = e.inner;
      outer = e.outer;
      front = o.0;
      pieces = o.1;
      opens = o.2;
      open_ = o.3;
      spelled = o.4;
      bytes = o.5 ∙ ap (λ n. o.0 ++ n ∷ concat o.1) b;
      levels = sym e.levels;
      at = sym (ap (λ (x : Level). x.place) e.level) ∙ o.3.place;
      byte = b;
      fits = fits;
    }

place_below : (left : List ℕ) (place : ℕ) (ls : List Level) (l : Level) (x : Innermost left place ls l)
    → l.place < place
place_below left place ls l x =
    omega (arith, x.at, ap length x.bytes, length-append x.front (l.byte ∷ concat x.pieces), length-take place left)

pub level_below : (left : List ℕ) (place : ℕ) (ls : List Level) (l : Level) → IsAt left place (ls ++ l ∷ [])
    → l.place < place
level_below left place ls l at = place_below left place ls l (innermost left place ls l at)

-- one compound less
pub popped : (left : List ℕ) (place : ℕ) (ls : List Level) (l : Level) → IsAt left place (ls ++ l ∷ [])
    → IsAt left l.place ls
popped left place ls l at =
    let x = innermost left place ls l at in
    let below = place_below left place ls l x in
    let small : take l.place left ≡ x.front =
    sym (take-take l.place place left (omega (arith, below))) ∙ (λ i. take (x.at i) (x.bytes i))
    ∙ take-append_seam x.front (l.byte ∷ concat x.pieces) in
    (x.outer, omega (arith, below, x.fits), subst (λ (b : List ℕ). Opens b x.outer) (sym small) x.opens, x.levels)

pub no_level : (left : List ℕ) → IsAt left 0 []
no_level left = ([], omega arith, refl, refl)

-- ---- one compound more

unfilled_none : (t : Tag) → IsUnfilled t []
unfilled_none tag.Embedded = refl
unfilled_none t = tt

pub opened : (left : List ℕ) (place : ℕ) (ls : List Level) → IsAt left place ls → place < length left → length ls < 64
    → IsTrue (is_compound (tag_of (slice_index left place)))
    → IsAt left (place + 1) (ls ++ record { place = place; byte = slice_index left place } ∷ [])
opened left place ls (os, fits, opens, same) l few compound =
    let o : Open = record { place = place; byte = slice_index left place; values = [] } in
    let count : length os < 64 = omega (arith, few, ap length same, count_same os) in
    let at : place ≡ length (take place left) = omega (arith, l, length-take place left) in
    let bytes : take (place + 1) left ≡ take place left ++ slice_index left place ∷ [] =
    ap (λ k. take k left) (add-one place) ∙ take-suc left place 0 l in
    let is : IsOpen o os (take place left) = record {
      place = at;
      compound = compound;
      unfilled = unfilled_none (tag_of (slice_index left place));
      level = count;
      shallow = omega (arith, count);
    } in (
      o ∷ os,
      omega (arith, l),
      (take place left, [], opens, is, tt, bytes),
      ap (λ (x : List Level). x ++ level_of o ∷ []) same,
    )

-- ---- a value more

unfilled_other : (t : Tag) (vs : List Plain) → (t ≡ tag.Embedded → ⊥) → IsUnfilled t vs
unfilled_other tag.Embedded vs other = absurd (other refl)
unfilled_other t vs other = tt

deepest_more : (vs : List Plain) (v : Plain) (n : ℕ) → deepest (plains vs) ≤ n → depth v ≤ n
    → deepest (plains (vs ++ v ∷ [])) ≤ n
deepest_more [] v n a b = omega (arith, b)
deepest_more (w ∷ vs) v n a b =
    let others = deepest_more vs v n (omega (arith, a)) b in
    omega (arith, a, others)

pieces_more : (ps : List (List ℕ)) (vs : List Plain) (q : List ℕ) (v : Plain) → Pieces ps (plains vs) → Spells q v
    → Pieces (ps ++ q ∷ []) (plains (vs ++ v ∷ []))
pieces_more [] [] q v a b = (b, tt)
pieces_more [] (w ∷ vs) q v a b = absurd a
pieces_more (p ∷ ps) [] q v a b = absurd a
pieces_more (p ∷ ps) (w ∷ vs) q v a b = (a.0, pieces_more ps vs q v a.1 b)

concat_more : (ps : List (List ℕ)) (q : List ℕ) → concat (ps ++ q ∷ []) ≡ concat ps ++ q
concat_more ps q = concat-append ps (q ∷ []) ∙ ap (λ (x : List ℕ). concat ps ++ x) (append-nil q)

not_embedded : (b : ℕ) → (b ≡ 0x86 → ⊥) → tag_of b ≡ tag.Embedded → ⊥
not_embedded b other is = other (subst (λ (t : Tag). IsByteOf t b) is (tag_byte b))

pub arrived : (left : List ℕ) (from to : ℕ) (ls : List Level) (l : Level) → IsAt left from (ls ++ l ∷ [])
    → IsFound left from to (length (ls ++ l ∷ [])) → (l.byte ≡ 0x86 → ⊥) → IsAt left to (ls ++ l ∷ [])
arrived left from to ls l at (before, within, (v, spells, level)) other =
    let x = innermost left from ls l at in
    let q : List ℕ = slice_range left from to in
    let vs : List Plain = x.inner.values ++ v ∷ [] in
    let o : Open = record { place = x.inner.place; byte = x.inner.byte; values = vs } in
    let count : length ls ≡ length x.outer = ap length x.levels ∙ count_same x.outer in
    let shallow : deepest (plains vs) ≤ 63 - length x.outer =
    deepest_more x.inner.values v (63 - length x.outer) (omega (arith, x.open_.shallow))
    (omega (arith, level, length_push ls l, count)) in
    let is : IsOpen o x.outer x.front = record {
      place = x.open_.place;
      compound = x.open_.compound;
      unfilled = unfilled_other (tag_of x.inner.byte) vs
          (not_embedded x.inner.byte (λ e. other (sym x.byte ∙ e)));
      level = x.open_.level;
      shallow = omega (arith, shallow, x.open_.level);
    } in
    let bytes : take to left ≡ x.front ++ x.inner.byte ∷ concat (x.pieces ++ q ∷ []) =
    take_more from to left before ∙ ap (λ (y : List ℕ). y ++ q) x.bytes
    ∙ append_assoc x.front (l.byte ∷ concat x.pieces) q
    ∙ (λ i. x.front ++ sym x.byte i ∷ sym (concat_more x.pieces q) i) in
    let same : l ≡ level_of o = λ i. record { place = (x.at ∙ sym x.open_.place) i; byte = sym x.byte i } in (
      o ∷ x.outer,
      within,
      (x.front, x.pieces ++ q ∷ [], x.opens, is, pieces_more x.pieces x.inner.values q v x.spelled spells, bytes),
      (λ i. x.levels i ++ same i ∷ []),
    )

-- ---- values that are whole

no_pieces : (ps : List (List ℕ)) (vs : List Plain) → Pieces ps (plains vs) → vs ≡ [] → ps ≡ []
no_pieces [] vs a e = refl
no_pieces (p ∷ ps) [] a e = absurd a
no_pieces (p ∷ ps) (v ∷ vs) a e = absurd cc

-- an embedded value, with the value in it
pub filled : (left : List ℕ) (from to : ℕ) (ls : List Level) (l : Level) → IsAt left from (ls ++ l ∷ [])
    → IsFound left from to (length (ls ++ l ∷ [])) → l.byte ≡ 0x86 → IsFound left l.place to (length ls)
filled left from to ls l at (before, within, (v, spells, level)) byte =
    let x = innermost left from ls l at in
    let below = place_below left from ls l x in
    let none : x.inner.values ≡ [] =
    subst (λ n. IsUnfilled (tag_of n) x.inner.values) (x.byte ∙ byte) x.open_.unfilled in
    let empty : x.pieces ≡ [] = no_pieces x.pieces x.inner.values x.spelled none in
    let is : take from left ≡ x.front ++ 0x86 ∷ [] =
    x.bytes ∙ (λ i. x.front ++ byte i ∷ concat (empty i)) in
    let bytes = slice_from left x.front (0x86 ∷ []) l.place from to is x.at before (omega (arith, below, before)) in (
      omega (arith, below, before),
      within,
      (embedded v, (slice_range left from to, spells, bytes), omega (arith, level, length_push ls l)),
    )

last_slice : (left : List ℕ) (place : ℕ) → place < length left → slice_index left place ≡ 0x84
    → slice_range left place (place + 1) ≡ 0x84 ∷ []
last_slice left place l ends =
    let one : take (place + 1) left ≡ take place left ++ 0x84 ∷ [] =
    ap (λ k. take k left) (add-one place) ∙ take-suc left place 0 l
    ∙ ap (λ n. take place left ++ n ∷ []) ends in
    let at : place ≡ length (take place left) = omega (arith, l, length-take place left) in
    let size : place + 1 - place ≡ 1 = omega arith in
    ap (λ k. take k (drop place left)) size ∙ sym (drop-take place 1 left) ∙ (λ i. drop (at i) (one i))
    ∙ drop-append_seam (take place left) (0x84 ∷ [])

-- a record's label, and its fields
record_spells : (ps : List (List ℕ)) (vs : List Plain) → Pieces ps (plains vs) → 0 < length vs
    → (v : Plain) × Spells (0xb4 ∷ (concat ps ++ 0x84 ∷ [])) v × (depth v ≡ suc (deepest (plains vs)))
record_spells [] [] a l = absurd (omega (arith, l))
record_spells [] (v ∷ vs) a l = absurd a
record_spells (p ∷ ps) [] a l = absurd a
record_spells (p ∷ ps) (v ∷ vs) a l = (
  record_of v (plains vs),
  (p, ps, a.0, a.1, ap (λ (y : List ℕ). 0xb4 ∷ y) (append_assoc p (concat ps) (0x84 ∷ []))),
  refl,
)

some_values : (vs : List Plain) → (vs ≡ [] → ⊥) → 0 < length vs
some_values [] h = absurd (h refl)
some_values (v ∷ vs) h = omega arith

pub listed : (left : List ℕ) (place : ℕ) (ls : List Level) (l : Level) → IsAt left place (ls ++ l ∷ [])
    → place < length left → slice_index left place ≡ 0x84 → IsListed l place
    → IsFound left l.place (place + 1) (length ls)
listed left place ls l at within ends may =
    let x = innermost left place ls l at in
    let below = place_below left place ls l x in
    let count : length ls ≡ length x.outer = ap length x.levels ∙ count_same x.outer in
    let bytes : slice_range left l.place (place + 1) ≡ l.byte ∷ (concat x.pieces ++ 0x84 ∷ []) =
    slice_from left x.front (l.byte ∷ concat x.pieces) l.place place (place + 1) x.bytes x.at (omega arith)
    (omega (arith, below))
    ∙ ap (λ (y : List ℕ). l.byte ∷ (concat x.pieces ++ y)) (last_slice left place within ends) in
    elim may [
      | inl byte ↦ (
        omega (arith, below),
        omega (arith, within),
        (
          sequence (plains x.inner.values),
          (x.pieces, x.spelled, bytes ∙ ap (λ n. n ∷ (concat x.pieces ++ 0x84 ∷ [])) byte),
          omega (arith, x.open_.shallow, count),
        ),
      )
      | inr other ↦
          let long : x.inner.values ≡ [] → ⊥ = λ none.
          let empty = no_pieces x.pieces x.inner.values x.spelled none in
          let is : take place left ≡ x.front ++ l.byte ∷ [] =
          x.bytes ∙ ap (λ (y : List (List ℕ)). x.front ++ l.byte ∷ concat y) empty in
          omega (arith, other.1, x.at, ap length is, length_push x.front l.byte, length-take place left, within) in
          let r = record_spells x.pieces x.inner.values x.spelled (some_values x.inner.values long) in (
            omega (arith, below),
            omega (arith, within),
            (
              r.0,
              subst (λ (y : List ℕ). Spells y r.0)
                  (sym (bytes ∙ ap (λ n. n ∷ (concat x.pieces ++ 0x84 ∷ [])) other.0)) r.1,
              omega (arith, x.open_.shallow, count, r.2),
            ),
          )
    ]

-- ---- the bytes end

pub ends_at_tag : (left : List ℕ) (place : ℕ) (ls : List Level) → IsAt left place ls → length left ≤ place
    → IsFront left
ends_at_tag left place ls (os, fits, opens, same) l = (
  map (λ (o : Open). o.place) os,
  (
    left,
    [],
    os,
    [],
    sym (append-nil left),
    subst (λ (b : List ℕ). Opens b os) (take_all place left l) opens,
    at_tag left,
    refl,
  ),
)

drop_first : (left : List ℕ) (place : ℕ) → place < length left
    → drop place left ≡ slice_index left place ∷ drop (suc place) left
drop_first [] place l = absurd (omega (arith, l))
drop_first (b ∷ bs) zero l = refl
drop_first (b ∷ bs) (suc n) l = drop_first bs n (omega (arith, l))

-- the byte at a place, and those behind it
pub drop_one : (left : List ℕ) (place : ℕ) → place < length left
    → drop place left ≡ slice_index left place ∷ drop (place + 1) left
drop_one left place l =
    drop_first left place l ∙ ap (λ n. slice_index left place ∷ drop n left) (sym (add-one place))

pub ends_in_atom : (left : List ℕ) (place : ℕ) (ls : List Level) → IsAt left place ls → place < length left
    → IsCut (tag_of (slice_index left place)) (drop (place + 1) left) → IsFront left
ends_in_atom left place ls (os, fits, opens, same) l cut =
    let t : ℕ = slice_index left place in
    let bytes : List ℕ = drop (place + 1) left in
    let whole : left ≡ take place left ++ t ∷ bytes =
    sym (take-append-drop place left) ∙ ap (λ (y : List ℕ). take place left ++ y) (drop_one left place l) in (
      length (take place left) ∷ map (λ (o : Open). o.place) os,
      (
        take place left,
        t ∷ bytes,
        os,
        length (take place left) ∷ [],
        whole,
        opens,
        inside_atom (take place left) t bytes cut,
        refl,
      ),
    )

-- ---- more bytes, and what was measured

pub at_longer : (left more : List ℕ) (place : ℕ) (ls : List Level) → IsAt left place ls → IsAt (left ++ more) place ls
at_longer left more place ls (os, fits, opens, same) = (
  os,
  omega (arith, fits, length-append left more),
  subst (λ (b : List ℕ). Opens b os) (sym (take-append-le place left more fits)) opens,
  same,
)

pub measured_whole : (bytes : List ℕ) (size deep outer : ℕ) → IsMeasured bytes size deep → size ≡ length bytes
    → deep + outer ≤ 64 → IsValue bytes outer
measured_whole bytes size deep outer (v, begins, level) all few =
    let whole = subst (λ (y : List ℕ). Spells y v) (take_all size bytes (omega (arith, all))) begins.1 in
    (v, whole, omega (arith, level, few))

-- ---- as the code goes

pub few_levels : (left : List ℕ) (place : ℕ) (ls : List Level) → IsAt left place ls → length ls ≤ 64
few_levels left place ls (os, fits, opens, same) =
    omega (arith, ap length same, count_same os, few_open (take place left) os opens)
  where
    few_open : (b : List ℕ) (os : List Open) → Opens b os → length os ≤ 64
    few_open b [] none = omega arith
    few_open b (o ∷ os) (f, ps, opens, is, pieces, bytes) = omega (arith, is.level)

module _ (left : List ℕ) (place : ℕ) (old : List Level) (ls : List Level) (l : Level) (is : old ≡ ls ++ l ∷ [])
    (at : IsAt left place old) where
  inside : IsAt left place (ls ++ l ∷ [])
  inside = subst (λ (x : List Level). IsAt left place x) is at

  pub is_inside : IsAt left place (ls ++ l ∷ [])
  is_inside = inside

  pub before : IsAt left l.place ls
  before = popped left place ls l inside

  pub fewer : length ls < length old
  fewer = omega (arith, ap length is, length_push ls l)

  pub then_filled : (to : ℕ) → IsFound left place to (length old) → l.byte ≡ 0x86 → IsFound left l.place to (length ls)
  then_filled to found byte =
      filled left place to ls l inside (subst (λ (x : List Level). IsFound left place to (length x)) is found) byte

  pub then_arrived : (to : ℕ) (new : List Level) → IsFound left place to (length old) → (l.byte ≡ 0x86 → ⊥)
      → new ≡ ls ++ l ∷ [] → IsAt left to new
  then_arrived to new found other same =
      subst (λ (x : List Level). IsAt left to x) (sym same)
      (arrived left place to ls l inside (subst (λ (x : List Level). IsFound left place to (length x)) is found) other)

pub goes_to : (left : List ℕ) (place to : ℕ) (ls : List Level) (s : Step) → place < to → GoesTo left to ls s
    → Goes left place ls s
goes_to left place to ls (To n) l (same, at) =
    (omega (arith, l, same), subst (λ k. IsAt left k ls) (sym same) at)
goes_to left place to ls Waits l is = absurd is
goes_to left place to ls Looks l is = tt
