-- How far a walk is from its end: by the nodes of the value, by the names that may still follow, and by the pattern.
use Rattle.std.proofs.Common.{◌≡◌, ℕ, zero, suc, ◌+◌, ◌*◌, ◌<◌, ◌≤◌, max, Bool, true, false, ◌||◌, List, [], ◌∷◌}
use Rattle.std.proofs.Common.{length}
use Rattle.std.proofs.Common.{Option, Some, None, refl, sym, ap, ◌∙◌, arith, get_or}
use Rattle.std.proofs.Math.Nat.{mul-le-mul_left}
use Rattle.std.specs.Str.{bytes_eq}
use Rattle.ps_schema.specs.Patterns.{PlainPattern, reference}
use Rattle.ps_schema.specs.Patterns.{one_of, all_of, PlainPatterns, no_patterns, then_pattern, patterns}
use Rattle.ps_schema.specs.Names.{pattern_under}
use Rattle.ps_schema.specs.Schemas.{asks, one_asks, IsSchema}
use Rattle.ps_schema.specs.Laws.{EndsWithin}
use Rattle.ps_schema.specs.Lemmas.Ends.{decide, its_own_name, ways_end}
use Rattle.ps_schema.specs.Lemmas.Measures.{measure}
use Rattle.ps_schema.specs.declared.Definition.{Definition}

-- ---- how many names stand behind one another

abbrev mutual
  pub height : (List ℕ → ℕ) → PlainPattern → ℕ
  height h (reference a) = suc (h a)
  height h (one_of ps) = heights h ps
  height h (all_of ps) = heights h ps
  height h p = 0

  pub heights : (List ℕ → ℕ) → PlainPatterns → ℕ
  heights h no_patterns = 0
  heights h (then_pattern p ps) = max (height h p) (heights h ps)

abbrev pub defined_height : (List ℕ → ℕ) → Option PlainPattern → ℕ
defined_height h (Some p) = height h p
defined_height h None = 0

abbrev pub name_height : List Definition → ℕ → List ℕ → ℕ
name_height ds zero a = 0
name_height ds (suc n) a = defined_height (name_height ds n) (pattern_under ds a)

unfoldable pub above : List Definition → PlainPattern → ℕ
above ds p = height (name_height ds (suc (length ds))) p

unfoldable pub above_all : List Definition → PlainPatterns → ℕ
above_all ds ps = heights (name_height ds (suc (length ds))) ps

unfoldable pub above_name : List Definition → List ℕ → ℕ
above_name ds a = name_height ds (suc (length ds)) a

-- ---- they are no more than there are names, and two

mutual
  height_most : (h : List ℕ → ℕ) (n : ℕ) (p : PlainPattern) → ((a : List ℕ) → h a ≤ n) → height h p ≤ suc n
  height_most h n (reference a) f = omega (arith, f a)
  height_most h n (one_of ps) f = heights_most h n ps f
  height_most h n (all_of ps) f = heights_most h n ps f
  height_most h n p f = omega arith

  heights_most : (h : List ℕ → ℕ) (n : ℕ) (ps : PlainPatterns) → ((a : List ℕ) → h a ≤ n) → heights h ps ≤ suc n
  heights_most h n no_patterns f = omega arith
  heights_most h n (then_pattern p ps) f = omega (arith, height_most h n p f, heights_most h n ps f)

name_most : (ds : List Definition) (n : ℕ) (a : List ℕ) → name_height ds n a ≤ n
name_most ds zero a = omega arith
name_most ds (suc n) a = by (pattern_under ds a) (name_most ds n)
  where
    by : (o : Option PlainPattern) → ((b : List ℕ) → name_height ds n b ≤ n)
        → defined_height (name_height ds n) o ≤ suc n
    by None f = omega arith
    by (Some p) f = height_most (name_height ds n) n p f

pub above_most : (ds : List Definition) (p : PlainPattern) → above ds p ≤ length ds + 2
unfolding above
above_most ds p =
    omega (arith, height_most (name_height ds (suc (length ds))) (suc (length ds)) p (name_most ds (suc (length ds))))

-- ---- a definition's pattern is as high as its name

either_asks : (a b : Bool) → a ≡ true → (a || b) ≡ true
either_asks true b e = refl
either_asks false b e = absurd cc

or_asks : (a b : Bool) → b ≡ true → (a || b) ≡ true
or_asks true b e = refl
or_asks false b e = e

mutual
  height_agrees : (h g : List ℕ → ℕ) (p : PlainPattern) → ((b : List ℕ) → asks p b ≡ true → h b ≡ g b)
      → height h p ≡ height g p
  height_agrees h g (reference a) f = ap (λ (n : ℕ). suc n) (f a (its_own_name a))
  height_agrees h g (one_of ps) f = heights_agree h g ps f
  height_agrees h g (all_of ps) f = heights_agree h g ps f
  height_agrees h g p f = refl

  heights_agree : (h g : List ℕ → ℕ) (ps : PlainPatterns) → ((b : List ℕ) → one_asks ps b ≡ true → h b ≡ g b)
      → heights h ps ≡ heights g ps
  heights_agree h g no_patterns f = refl
  heights_agree h g (then_pattern p ps) f =
      let e : height h p ≡ height g p =
      height_agrees h g p (λ b e. f b (either_asks (asks p b) (one_asks ps b) e)) in
      let d : heights h ps ≡ heights g ps =
      heights_agree h g ps (λ b e. f b (or_asks (asks p b) (one_asks ps b) e)) in
      λ i. max (e i) (d i)

same_defined : (h g : List ℕ → ℕ) (o : Option PlainPattern)
    → ((q : PlainPattern) → o ≡ Some q → height h q ≡ height g q) → defined_height h o ≡ defined_height g o
same_defined h g None f = refl
same_defined h g (Some q) f = f q refl

stable_height : (ds : List Definition) (k : ℕ) (p : PlainPattern) (n : ℕ) → EndsWithin ds k p → k ≤ n
    → height (name_height ds n) p ≡ height (name_height ds (suc n)) p
stable_height ds zero p n h l =
    height_agrees (name_height ds n) (name_height ds (suc n)) p (λ b e. absurd (h b e))
stable_height ds (suc k) p zero h l = absurd (omega (arith, l))
stable_height ds (suc k) p (suc n) h l =
    height_agrees (name_height ds (suc n)) (name_height ds (suc (suc n))) p
    (λ b e. same_defined (name_height ds n) (name_height ds (suc n)) (pattern_under ds b)
    (λ q u. stable_height ds k q n (h b q e u) (omega (arith, l))))

pub above_defined : (ds : List Definition) → IsSchema ds → (a : List ℕ) (p : PlainPattern)
    → pattern_under ds a ≡ Some p → above ds p ≡ above_name ds a
unfolding above above_name
above_defined ds s a p u =
    sym (stable_height ds (length ds) p (length ds) (ways_end ds s a p u) (omega arith))
    ∙ ap (defined_height (name_height ds (length ds))) (sym u)

pub above_reference : (ds : List Definition) (a : List ℕ) → above ds (reference a) ≡ suc (above_name ds a)
unfolding above above_name
above_reference ds a = refl

pub above_one_of : (ds : List Definition) (ps : PlainPatterns) → above ds (one_of ps) ≡ above_all ds ps
unfolding above above_all
above_one_of ds ps = refl

pub above_all_of : (ds : List Definition) (ps : PlainPatterns) → above ds (all_of ps) ≡ above_all ds ps
unfolding above above_all
above_all_of ds ps = refl

height_at : (h : List ℕ → ℕ) (ps : List PlainPattern) (i : ℕ) (p : PlainPattern) → i < length ps → p ≡ get_or ps i p
    → height h p ≤ heights h (patterns ps)
height_at h [] i p l e = absurd (omega arith)
height_at h (q ∷ qs) zero p l e = omega (arith, ap (height h) e)
height_at h (q ∷ qs) (suc i) p l e = omega (arith, height_at h qs i p (omega arith) e)

pub above_at : (ds : List Definition) (ps : List PlainPattern) (i : ℕ) (p : PlainPattern) → i < length ps
    → p ≡ get_or ps i p → above ds p ≤ above_all ds (patterns ps)
unfolding above above_all
above_at ds ps i p l e = height_at (name_height ds (suc (length ds))) ps i p l e

-- ---- all in one number

-- more than each pattern of a definition measures
abbrev pub breadth : List Definition → ℕ
breadth [] = 0
breadth (d ∷ ds) = 8 * measure d.pattern + 8 + breadth ds

pub breadth_more : (ds : List Definition) (a : List ℕ) (p : PlainPattern) → pattern_under ds a ≡ Some p
    → 8 * measure p + 3 < breadth ds
breadth_more [] a p u = absurd cc
breadth_more (d ∷ ds) a p u =
    decide (bytes_eq d.name a) (8 * measure p + 3 < breadth (d ∷ ds))
    (λ t. let f : Some d.pattern ≡ Some p = rw t at u in
    let g : d.pattern ≡ p = cc in
    omega (arith, ap measure g))
    (λ t. omega (arith, breadth_more ds a p (rw t at u)))

unfoldable pub rank : List Definition → ℕ → ℕ → ℕ → ℕ
rank ds n h m = (length ds + 2) * breadth ds * n + (breadth ds * h + m)

inside_of : (c b n k h i m j : ℕ) → n < k → h ≤ c → m < j → c * b * n + (b * h + m) < c * b * k + (b * i + j)
inside_of c b n k h i m j l e f =
    let p : c * b * (n + 1) ≤ c * b * k = mul-le-mul_left (c * b) (omega (arith, l)) in
    let q : b * h ≤ b * c = mul-le-mul_left b e in
    omega (arith, p, q, f)

-- at a value inside
pub rank_inside : (ds : List Definition) (n k h i m j : ℕ) → n < k → h ≤ length ds + 2 → m < j
    → rank ds n h m < rank ds k i j
unfolding rank
rank_inside ds n k h i m j l e f = inside_of (length ds + 2) (breadth ds) n k h i m j l e f

lower_of : (s b n h i m j : ℕ) → h < i → m < b → s * n + (b * h + m) < s * n + (b * i + j)
lower_of s b n h i m j l e =
    let q : b * (h + 1) ≤ b * i = mul-le-mul_left b (omega (arith, l)) in
    omega (arith, q, e)

-- behind a name
pub rank_lower : (ds : List Definition) (n h i m j : ℕ) → h < i → m < breadth ds → rank ds n h m < rank ds n i j
unfolding rank
rank_lower ds n h i m j l e = lower_of ((length ds + 2) * breadth ds) (breadth ds) n h i m j l e

within_of : (s b n k h i m j : ℕ) → n ≤ k → h ≤ i → m < j → s * n + (b * h + m) < s * k + (b * i + j)
within_of s b n k h i m j l e f =
    let p : s * n ≤ s * k = mul-le-mul_left s l in
    let q : b * h ≤ b * i = mul-le-mul_left b e in
    omega (arith, p, q, f)

-- within a list
pub rank_within : (ds : List Definition) (n k h i m j : ℕ) → n ≤ k → h ≤ i → m < j → rank ds n h m < rank ds k i j
unfolding rank
rank_within ds n k h i m j l e f = within_of ((length ds + 2) * breadth ds) (breadth ds) n k h i m j l e f

-- ---- from a pattern to what is inside, at values inside

pub into : (ds : List Definition) (q p : PlainPattern) (n k : ℕ) → measure p < measure q → n < k
    → rank ds n (above ds p) (8 * measure p + 4) < rank ds k (above ds q) (8 * measure q + 3)
into ds q p n k l h =
    rank_inside ds n k (above ds p) (above ds q) (8 * measure p + 4) (8 * measure q + 3) h (above_most ds p) (omega
    (arith, l))

pub into_list : (ds : List Definition) (q : PlainPattern) (n k m : ℕ) → m < 8 * measure q + 3 → n < k
    → rank ds n (length ds + 2) m < rank ds k (above ds q) (8 * measure q + 3)
into_list ds q n k m l h =
    rank_inside ds n k (length ds + 2) (above ds q) m (8 * measure q + 3) h (omega arith) l

pub in_list : (ds : List Definition) (p : PlainPattern) (n k m : ℕ) → 8 * measure p + 4 < m → n ≤ k
    → rank ds n (above ds p) (8 * measure p + 4) < rank ds k (length ds + 2) m
in_list ds p n k m l h =
    rank_within ds n k (above ds p) (length ds + 2) (8 * measure p + 4) m h (above_most ds p) l
