-- Where a fault stands behind open compounds, the reader answers it.
use Rattle.std.proofs.Common.{◌≡◌, ℕ, zero, suc, ◌-◌, ◌≤◌, Bool, true, false, not, List, [], ◌∷◌, ◌++◌, length, map}
use Rattle.std.proofs.Common.{None, Result, Ok, Err, refl, sym, ap, ◌∙◌, subst, append_assoc, length-append, arith}
use Rattle.std.specs.List.{concat, AllZip}
use Rattle.std.specs.Prelude.{IsTrue, slice_index}
use Rattle.pv_value.specs.Plain.{Plain, plains}
use Rattle.pv_value.specs.Lemmas.Listed.{listed-plains}
use Rattle.pv_value.specs.Depth.{deepest}
use Rattle.pv_value.specs.Sets.{AreDistinct}
use Rattle.pv_binary.specs.Spells.{Pieces}
use Rattle.pv_binary.specs.Tags.{tag_of}
use Rattle.pv_read.specs.Results.{Fault}
use Rattle.pv_value.specs.Sets.{all_differ, set_from, dictionary_from}
use Rattle.pv_binary.specs.Reading.{no_tag, Inner, entry_at, up_to_end, items_at, pairs_at, atom_at, compound_at}
use Rattle.pv_binary.specs.Reading.{is_compound, behind, value_at}
use Rattle.pv_binary.specs.Fronts.{IsCut, AtomFault, Open, tag_at, IsUnfilled, Opens, is_even, may_end_in, may_end}
use Rattle.pv_binary.specs.Fronts.{keys_in, past_value, Repeats, EndsAt, at_tag, inside_atom, Front, truncated_place}
use Rattle.pv_binary.specs.Fronts.{truncated, FaultAt, too_deep, bad_tag, bad_atom, repeated, Stands}
use Rattle.pv_binary.specs.declared.tag.Tag.{Tag}
use Rattle.pv_binary.specs.declared.tag.Tag.TheVariants as tag
use Rattle.pv_binary.specs.declared.faults.BinKind.{BinKind}
use Rattle.pv_binary.specs.declared.faults.BinKind.TheVariants as kind
use Rattle.pv_read.specs.Lemmas.Binds.{err, err_same}
use Rattle.pv_binary.proofs.Varints.{IsBytes, IsBytes-append}
use Rattle.pv_read.specs.Lemmas.Elements.{elements_none, elements_fail}
use Rattle.std.proofs.lemmas.List.{append-nil}
use Rattle.pv_value.specs.Lemmas.SetFrom.{distinct_from_differ}
use Rattle.pv_binary.proofs.Complete.{Parses, entry_parses, elements_next, elements_again, agains}
use Rattle.pv_binary.proofs.Cuts.{cut_is_atom, cut_read, fault_is_atom, fault_read}

pub even_later : (b : Bool) → not (not b) ≡ b
even_later true = refl
even_later false = refl

-- values by twos
abbrev mutual
  pub paired_up : List Plain → List (Plain × Plain)
  paired_up [] = []
  paired_up (k ∷ vs) = with_value k vs

  pub with_value : Plain → List Plain → List (Plain × Plain)
  with_value k [] = []
  with_value k (v ∷ vs) = (k, v) ∷ paired_up vs

-- the bytes do not begin with the end where it may not stand
abbrev pub NoEnd : List ℕ → Bool → Type 0
NoEnd tail b = (r : List ℕ) → tail ≡ 0x84 ∷ r → b ≡ false

-- ---- what is due in a compound isn't there

module _ {A : Type 0} (total : ℕ) (element : List ℕ → Result (A × List ℕ) (Fault BinKind))
    (none : element [] ≡ Err (no_tag total)) where
  due_elements : (n : ℕ) (tail : List ℕ) (f : Fault BinKind) → NoEnd tail true → element tail ≡ Err f → length tail ≤ n
      → up_to_end total element n tail ≡ Err f
  due_elements n [] f due e l =
      elements_none (λ b. b) 0x84 (no_tag total) element n [] refl
      ∙ ap (λ (x : Fault BinKind). err {A = List A × List ℕ} x)
      (err_same {A = A × List ℕ} (no_tag total) f (sym none ∙ e))
  due_elements zero (b ∷ bs) f due e l = absurd (omega arith)
  due_elements (suc n) (b ∷ bs) f due e l =
      let no_end : b ≡ 0x84 → ⊥ = λ t. let w : true ≡ false = due bs (ap (λ (x : ℕ). x ∷ bs) t) in cc in
      elements_fail (λ b. b) 0x84 (no_tag total) element n (b ∷ bs) bs b f refl no_end e

  -- one more element before
  stuck_next : (p : List ℕ) (x : A) (bytes rest : List ℕ) (n : ℕ) (f : Fault BinKind) → Parses element p x
      → bytes ≡ p ++ rest → length bytes ≤ n
      → ((m : ℕ) → length rest ≤ m → up_to_end total element m rest ≡ Err f) → up_to_end total element n bytes ≡ Err f
  stuck_next p x bytes rest zero f g e l more =
      absurd (omega (arith, ap length e, length-append p rest, ap length g.is))
  stuck_next p x bytes rest (suc n) f g e l more =
      let size : length rest ≤ n = omega (arith, ap length e, length-append p rest, ap length g.is) in
      rw (e, elements_next total element n p x rest g, more n size)

  elements_stuck : (ps : List (List ℕ)) (vs : List A) (tail : List ℕ) (n : ℕ) (f : Fault BinKind)
      → AllZip (Parses element) ps vs → NoEnd tail true → element tail ≡ Err f → length (concat ps ++ tail) ≤ n
      → up_to_end total element n (concat ps ++ tail) ≡ Err f
  elements_stuck [] [] tail n f h due e l = due_elements n tail f due e l
  elements_stuck [] (v ∷ vs) tail n f h due e l = absurd h
  elements_stuck (p ∷ ps) [] tail n f h due e l = absurd h
  elements_stuck (p ∷ ps) (v ∷ vs) tail n f h due e l =
      stuck_next p v ((p ++ concat ps) ++ tail) (concat ps ++ tail) n f h.0 (append_assoc p (concat ps) tail) l
      (λ m k. elements_stuck ps vs tail m f h.1 due e k)

module _ (total : ℕ) (inner : Inner) (none : inner [] ≡ Err (no_tag total)) where
  no_entry : entry_at inner [] ≡ Err (no_tag total)
  no_entry = rw none refl

  pairs_stuck : (ps : List (List ℕ)) (vs : List Plain) (tail : List ℕ) (n : ℕ) (f : Fault BinKind)
      → AllZip (Parses inner) ps vs → NoEnd tail (is_even (length vs)) → inner tail ≡ Err f
      → length (concat ps ++ tail) ≤ n → up_to_end total (entry_at inner) n (concat ps ++ tail) ≡ Err f
  pairs_stuck [] [] tail n f h due e l =
      let key : entry_at inner tail ≡ Err f = rw e refl in
      due_elements total (entry_at inner) no_entry n tail f due key l
  pairs_stuck [] (v ∷ vs) tail n f h due e l = absurd h
  pairs_stuck (p ∷ ps) [] tail n f h due e l = absurd h
  pairs_stuck (p ∷ []) (k ∷ []) tail n f h due e l =
      let g = h.0 in
      let is : (p ++ []) ++ tail ≡ p ++ tail = append_assoc p [] tail in
      let first : p ++ tail ≡ g.tag ∷ (g.others ++ tail) = ap (λ q. q ++ tail) g.is in
      let value : entry_at inner (p ++ tail) ≡ Err f = rw (g.reads tail, e) refl in
      let no_end : NoEnd (p ++ tail) true = λ r t. absurd (g.no_end (let w = sym first ∙ t in cc)) in
      rw is (due_elements total (entry_at inner) no_entry n (p ++ tail) f no_end value (omega (arith, ap length is)))
  pairs_stuck (p ∷ []) (k ∷ v ∷ vs) tail n f h due e l = absurd h.1
  pairs_stuck (p ∷ q ∷ ps) (k ∷ []) tail n f h due e l = absurd h.1
  pairs_stuck (p ∷ q ∷ ps) (k ∷ v ∷ vs) tail n f h due e l =
      let rest : List ℕ = concat ps ++ tail in
      let is : (p ++ (q ++ concat ps)) ++ tail ≡ (p ++ q) ++ rest =
      ap (λ (x : List ℕ). x ++ tail) (sym (append_assoc p q (concat ps))) ∙ append_assoc (p ++ q) (concat ps) tail in
      let due' : NoEnd tail (is_even (length vs)) = λ r t. sym (even_later (is_even (length vs))) ∙ due r t in
      stuck_next total (entry_at inner) no_entry (p ++ q) (k, v) ((p ++ (q ++ concat ps)) ++ tail) rest n f
      (entry_parses inner (p ++ q) p q k v refl h.0 h.1.0) is l (λ m j. pairs_stuck ps vs tail m f h.1.1 due' e j)

  -- keys and values by turns are read as entries
  by_twos : (ps : List (List ℕ)) (vs : List Plain) → AllZip (Parses inner) ps vs → is_even (length vs) ≡ true
      → (qs : List (List ℕ)) × AllZip (Parses (entry_at inner)) qs (paired_up vs) × (concat qs ≡ concat ps)
  by_twos [] [] h even = ([], tt, refl)
  by_twos [] (v ∷ vs) h even = absurd h
  by_twos (p ∷ ps) [] h even = absurd h
  by_twos (p ∷ ps) (k ∷ []) h even = cc
  by_twos (p ∷ []) (k ∷ v ∷ vs) h even = absurd h.1
  by_twos (p ∷ q ∷ ps) (k ∷ v ∷ vs) h even =
      let more = by_twos ps vs h.1.1 (sym (even_later (is_even (length vs))) ∙ even) in (
        (p ++ q) ∷ more.0,
        (entry_parses inner (p ++ q) p q k v refl h.0 h.1.0, more.1),
        ap (λ (x : List ℕ). (p ++ q) ++ x) more.2 ∙ append_assoc p q (concat ps),
      )

  pairs_whole : (ps : List (List ℕ)) (vs : List Plain) (rest : List ℕ) → AllZip (Parses inner) ps vs
      → is_even (length vs) ≡ true → pairs_at total inner (concat ps ++ 0x84 ∷ rest) ≡ Ok (paired_up vs, rest)
  pairs_whole ps vs rest h even =
      let t = by_twos ps vs h even in
      let read = elements_again total (entry_at inner) t.0 (paired_up vs) rest (length (concat t.0 ++ 0x84 ∷ rest)) t.1
      (omega arith) in
      subst (λ (x : List ℕ). pairs_at total inner (x ++ 0x84 ∷ rest) ≡ Ok (paired_up vs, rest)) t.2 read

  -- ---- so the compound isn't there

  compound_stuck : (place : ℕ) (t : Tag) (ps : List (List ℕ)) (vs : List Plain) (tail : List ℕ) (f : Fault BinKind)
      → is_compound t ≡ true → IsUnfilled t vs → AllZip (Parses inner) ps vs → NoEnd tail (may_end_in t vs) → inner tail
      ≡ Err f
      → compound_at total place inner t (concat ps ++ tail) ≡ Err f
  unfolding compound_at
  compound_stuck place tag.Embedded [] [] tail f c u h due e = rw e
  compound_stuck place tag.Embedded [] (v ∷ vs) tail f c u h due e = absurd h
  compound_stuck place tag.Embedded (p ∷ ps) [] tail f c u h due e = absurd h
  compound_stuck place tag.Embedded (p ∷ ps) (v ∷ vs) tail f c u h due e = cc
  compound_stuck place tag.Record [] [] tail f c u h due e = rw e
  compound_stuck place tag.Record [] (v ∷ vs) tail f c u h due e = absurd h
  compound_stuck place tag.Record (p ∷ ps) [] tail f c u h due e = absurd h
  compound_stuck place tag.Record (p ∷ ps) (v ∷ vs) tail f c u h due e =
      let g = h.0 in
      let is : (p ++ concat ps) ++ tail ≡ p ++ (concat ps ++ tail) = append_assoc p (concat ps) tail in
      let label : inner (p ++ (concat ps ++ tail)) ≡ Ok (v, concat ps ++ tail) = g.reads (concat ps ++ tail) in
      let fields : items_at total inner (concat ps ++ tail) ≡ Err f =
      elements_stuck total inner none ps vs tail (length (concat ps ++ tail)) f h.1 due e (omega arith) in
      rw (is, label, fields)
  compound_stuck place tag.Sequence ps vs tail f c u h due e =
      let items = elements_stuck total inner none ps vs tail (length (concat ps ++ tail)) f h due e (omega arith) in
      rw items
  compound_stuck place tag.Set ps vs tail f c u h due e =
      let items = elements_stuck total inner none ps vs tail (length (concat ps ++ tail)) f h due e (omega arith) in
      rw items
  compound_stuck place tag.Dictionary ps vs tail f c u h due e =
      let entries = pairs_stuck ps vs tail (length (concat ps ++ tail)) f h due e (omega arith) in
      rw entries
  compound_stuck place t ps vs tail f c u h due e = cc

  -- ---- equal elements or keys

  not_distinct : (xs : List Plain) → (AreDistinct xs → ⊥) → all_differ xs ≡ false
  not_distinct xs n = by (all_differ xs) refl
    where
      by : (b : Bool) → all_differ xs ≡ b → b ≡ false
      by true e = absurd (n (distinct_from_differ xs e))
      by false e = refl

  mutual
    keys_of : (vs : List Plain) → is_even (length vs) ≡ true → map (λ (p : Plain × Plain). p.0) (paired_up vs)
        ≡ keys_in vs
    keys_of [] e = refl
    keys_of (k ∷ vs) e = keys_past k vs e

    keys_past : (k : Plain) (vs : List Plain) → not (is_even (length vs)) ≡ true
        → map (λ (p : Plain × Plain). p.0) (with_value k vs) ≡ k ∷ past_value vs
    keys_past k [] e = cc
    keys_past k (v ∷ vs) e = ap (λ (xs : List Plain). k ∷ xs) (keys_of vs (sym (even_later (is_even (length vs))) ∙ e))

  set_repeats : (xs : List Plain) → (AreDistinct xs → ⊥) → set_from xs ≡ None
  unfolding set_from
  set_repeats xs n = rw (not_distinct xs n)

  dictionary_repeats : (vs : List Plain) → is_even (length vs) ≡ true → (AreDistinct (keys_in vs) → ⊥)
      → dictionary_from (paired_up vs) ≡ None
  unfolding dictionary_from
  dictionary_repeats vs e n = rw (keys_of vs e, not_distinct (keys_in vs) n)

  compound_repeats : (place : ℕ) (t : Tag) (ps : List (List ℕ)) (vs : List Plain) (r : List ℕ)
      → AllZip (Parses inner) ps vs → may_end_in t vs ≡ true → Repeats t vs
      → compound_at total place inner t (concat ps ++ 0x84 ∷ r) ≡ Err (record { kind = kind.Duplicate; place = place })
  unfolding compound_at
  compound_repeats place tag.Set ps vs r h ends n =
      let items : items_at total inner (concat ps ++ 0x84 ∷ r) ≡ Ok (vs, r) =
      elements_again total inner ps vs r (length (concat ps ++ 0x84 ∷ r)) h (omega arith) in
      rw (items, set_repeats vs n)
  compound_repeats place tag.Dictionary ps vs r h ends n =
      let entries : pairs_at total inner (concat ps ++ 0x84 ∷ r) ≡ Ok (paired_up vs, r) = pairs_whole ps vs r h ends in
      rw (entries, dictionary_repeats vs ends n)
  compound_repeats place t ps vs r h ends n = absurd n

-- ---- behind the tag of a compound, and of an atom

compound_behind : (total d b : ℕ) (bs : List ℕ) (x : Result (Plain × List ℕ) (Fault BinKind)) → is_compound (tag_of b)
    ≡ true → compound_at total (total - length (b ∷ bs)) (value_at total d) (tag_of b) bs ≡ x
    → value_at total (suc d) (b ∷ bs) ≡ x
unfolding value_at behind
compound_behind total d b bs x c e = rw c e

deep_behind : (total b : ℕ) (bs : List ℕ) → is_compound (tag_of b) ≡ true → value_at total zero (b ∷ bs)
    ≡ Err (record { kind = kind.TooDeep; place = total - length (b ∷ bs) })
unfolding value_at behind
deep_behind total b bs c = rw c

pub atom_behind : (total d b : ℕ) (bs : List ℕ) (x : Result (Plain × List ℕ) (Fault BinKind)) → is_compound (tag_of b)
    ≡ false → atom_at (total - length (b ∷ bs)) (tag_of b) bs ≡ x → value_at total d (b ∷ bs) ≡ x
unfolding value_at behind
atom_behind total zero b bs x c e = rw c e
atom_behind total (suc d) b bs x c e = rw c e

pub none_behind : (total d : ℕ) → value_at total d [] ≡ Err (no_tag total)
unfolding value_at
none_behind total zero = refl
none_behind total (suc d) = refl

-- the end is no tag of a compound
pub no_end_byte : (b : ℕ) → is_compound (tag_of b) ≡ true → b ≡ 0x84 → ⊥
no_end_byte b c e = let w : is_compound (tag_of 0x84) ≡ true = subst (λ (x : ℕ). is_compound (tag_of x) ≡ true) e c in
    cc

module _ (total : ℕ) where
  -- the pieces of a compound's values are read
  pub pieces_read : (d : ℕ) (ps : List (List ℕ)) (vs : List Plain) → Pieces ps (plains vs) → deepest (plains vs) ≤ d
      → AllZip (Parses (value_at total d)) ps vs
  pieces_read d ps vs s l =
      subst (λ (xs : List Plain). AllZip (Parses (value_at total d)) ps xs) (listed-plains vs)
      (agains (plains vs) total d ps s l)

  pub open_stuck : (d : ℕ) (o : Open) (ps : List (List ℕ)) (tail : List ℕ) (f : Fault BinKind) → is_compound (tag_at o)
      ≡ true → IsUnfilled (tag_at o) o.values → Pieces ps (plains o.values) → deepest (plains o.values) ≤ d
      → NoEnd tail (may_end_in (tag_at o) o.values) → value_at total d tail ≡ Err f
      → value_at total (suc d) (o.byte ∷ (concat ps ++ tail)) ≡ Err f
  open_stuck d o ps tail f c u s l due e =
      compound_behind total d o.byte (concat ps ++ tail) (Err f) c
      (compound_stuck total (value_at total d) (none_behind total d) (total - length (o.byte ∷ (concat ps ++ tail)))
      (tag_at o) ps o.values tail f c u (pieces_read d ps o.values s l) due e)

  -- what isn't there behind the open compounds isn't there at all
  pub carried : (os : List Open) (front tail : List ℕ) (f : Fault BinKind) → Opens front os → NoEnd tail (may_end os)
      → value_at total (64 - length os) tail ≡ Err f → value_at total 64 (front ++ tail) ≡ Err f
  carried [] front tail f h due e = rw h e
  carried (o ∷ outer) front tail f h due e =
      let before = h.0 in
      let ps = h.1 in
      let is_open = h.3 in
      let d = 64 - length (o ∷ outer) in
      let level : 64 - length outer ≡ suc d = omega arith in
      let fits : deepest (plains o.values) ≤ d = omega arith in
      let here : value_at total (suc d) (o.byte ∷ (concat ps ++ tail)) ≡ Err f =
      open_stuck d o ps tail f is_open.compound is_open.unfilled h.4 fits due e in
      let there : value_at total (64 - length outer) (o.byte ∷ (concat ps ++ tail)) ≡ Err f =
      subst (λ (n : ℕ). value_at total n (o.byte ∷ (concat ps ++ tail)) ≡ Err f) (sym level) here in
      let is : front ++ tail ≡ before ++ (o.byte ∷ (concat ps ++ tail)) =
      ap (λ (x : List ℕ). x ++ tail) h.5 ∙ append_assoc before (o.byte ∷ concat ps) tail in
      rw is (carried outer before (o.byte ∷ (concat ps ++ tail)) f h.2
      (λ r t. absurd (no_end_byte o.byte is_open.compound (cc))) there)

-- ---- the fault that stands, and the end of the bytes

fault_as : {A : Type 0} (o : Result A (Fault BinKind)) (k : BinKind) (p q : ℕ) → p ≡ q → o
    ≡ Err (record { kind = k; place = p }) → o ≡ Err (record { kind = k; place = q })
fault_as {A} o k p q e h = h ∙ ap (λ (x : ℕ). err {A = A} (record { kind = k; place = x })) e

pub before_tag : (total t : ℕ) (front r : List ℕ) → total ≡ length (front ++ t ∷ r) → total - length (t ∷ r)
    ≡ length front
before_tag total t front r e = omega (arith, length-append front (t ∷ r))

-- the byte behind a front
at_front : (front r : List ℕ) (t : ℕ) → slice_index (front ++ t ∷ r) (length front) ≡ t
at_front [] r t = refl
at_front (b ∷ bs) r t = at_front bs r t

-- at the tag of an atom that is cut off
pub cut_place : (front r outer : List ℕ) (t : ℕ) → is_compound (tag_of t) ≡ false
    → truncated_place (front ++ t ∷ r) (length front ∷ outer) ≡ length front
cut_place front r outer t c =
    let atom = ap (λ (x : ℕ). is_compound (tag_of x)) (at_front front r t) ∙ c in
    rw atom refl

abbrev pub places : List Open → List ℕ
places os = map (λ (o : Open). o.place) os

-- behind the bytes where a tag is due
pub due_place : (os : List Open) (front : List ℕ) → Opens front os → truncated_place front (places os) ≡ length front
due_place [] front h = refl
due_place (o ∷ outer) front h =
    let behind_before : List ℕ = h.0 ++ o.byte ∷ concat h.1 in
    let here : slice_index front o.place ≡ o.byte =
    ap (λ (x : List ℕ). slice_index x o.place) h.5 ∙ ap (λ (n : ℕ). slice_index behind_before n) (h.3).place
    ∙ at_front h.0 (concat h.1) o.byte in
    let compound = ap (λ (x : ℕ). is_compound (tag_of x)) here ∙ (h.3).compound in
    rw compound refl

pub due_place_nil : (os : List Open) (front : List ℕ) → Opens front os
    → truncated_place (front ++ []) (places os) ≡ length (front ++ [])
due_place_nil os front h =
    ap (λ (x : List ℕ). truncated_place x (places os)) (append-nil front) ∙ due_place os front h
    ∙ ap (λ (x : List ℕ). length x) (sym (append-nil front))

ends_read : (total d : ℕ) (os : List Open) (front tail cut : List ℕ) → EndsAt front tail cut → Opens front os
    → total ≡ length (front ++ tail) → IsBytes tail
    → value_at total d tail ≡ Err (truncated (front ++ tail) (cut ++ places os))
ends_read total d os front tail cut (at_tag f) h size all =
    fault_as (value_at total d []) kind.Truncated total (truncated_place (f ++ []) (places os))
    (size ∙ sym (due_place_nil os f h)) (none_behind total d)
ends_read total d os front tail cut (inside_atom f t bytes c) h size all =
    let p = total - length (t ∷ bytes) in
    let atom = cut_is_atom (tag_of t) bytes c in
    let place = before_tag total t f bytes size ∙ sym (cut_place f bytes (places os) t atom) in
    let here = fault_as (atom_at p (tag_of t) bytes) kind.Truncated p
    (truncated_place (f ++ t ∷ bytes) (length f ∷ places os))
    place (cut_read p (tag_of t) bytes all.1 c) in
    atom_behind total d t bytes _ atom here

-- the end is no tag of an atom
ends_due : (front tail cut : List ℕ) (b : Bool) → EndsAt front tail cut → NoEnd tail b
ends_due front tail cut b (at_tag f) = λ r e. cc
ends_due front tail cut b (inside_atom f t bytes c) =
    λ r e. let same : t ≡ 0x84 = cc in absurd (subst (λ (x : ℕ). IsCut (tag_of x) bytes) same c)

pub front_answered : (b path : List ℕ) → IsBytes b → Front b path → value_at (length b) 64 b ≡ Err (truncated b path)
front_answered b path all h =
    let front = h.0 in
    let tail = h.1 in
    let os = h.2 in
    let way : List ℕ = h.3 ++ places os in
    let is : b ≡ front ++ tail = h.4 in
    let both = IsBytes-append front tail (subst IsBytes is all) in
    let here = ends_read (length b) (64 - length os) os front tail h.3 h.6 h.5 (ap length is) both.1 in
    let whole = carried (length b) os front tail (truncated (front ++ tail) way) h.5
    (ends_due front tail h.3 (may_end os) h.6) here in
    ap (value_at (length b) 64) is ∙ whole
    ∙ ap (λ (x : List ℕ). err {A = Plain × List ℕ} (truncated x way)) (sym is)
    ∙ ap (λ (x : List ℕ). err {A = Plain × List ℕ} (truncated b x)) (sym h.7)

module _ (total : ℕ) where
  at_tag_of : (d t : ℕ) (front r : List ℕ) (k : BinKind) → total ≡ length (front ++ t ∷ r) → is_compound (tag_of t)
      ≡ false → ((p : ℕ) → atom_at p (tag_of t) r ≡ Err (record { kind = k; place = p })) → value_at total d (t ∷ r)
      ≡ Err (record { kind = k; place = length front })
  at_tag_of d t front r k size c h =
      let p = total - length (t ∷ r) in
      atom_behind total d t r _ c
      (fault_as (atom_at p (tag_of t) r) k p (length front) (before_tag total t front r size) (h p))

  other_read : (t : Tag) (p : ℕ) (r : List ℕ) → t ≡ tag.Other → atom_at p t r
      ≡ Err (record { kind = kind.BadTag; place = p })
  unfolding atom_at
  other_read t p r e = rw e

  repeat_answered : (front : List ℕ) (o : Open) (os : List Open) (r : List ℕ) → Opens front (o ∷ os)
      → IsTrue (may_end (o ∷ os)) → Repeats (tag_at o) o.values → total ≡ length (front ++ 0x84 ∷ r)
      → value_at total 64 (front ++ 0x84 ∷ r) ≡ Err (record { kind = kind.Duplicate; place = o.place })
  repeat_answered front o os r h ends again size =
      let before = h.0 in
      let ps = h.1 in
      let is_open = h.3 in
      let d = 64 - length (o ∷ os) in
      let level : 64 - length os ≡ suc d = omega arith in
      let fits : deepest (plains o.values) ≤ d = omega arith in
      let inside : List ℕ = concat ps ++ 0x84 ∷ r in
      let p = total - length (o.byte ∷ inside) in
      let is : front ++ 0x84 ∷ r ≡ before ++ (o.byte ∷ inside) =
      ap (λ (x : List ℕ). x ++ 0x84 ∷ r) h.5 ∙ append_assoc before (o.byte ∷ concat ps) (0x84 ∷ r) in
      let place : p ≡ o.place = before_tag total o.byte before inside (size ∙ ap length is) ∙ sym is_open.place in
      let made = compound_repeats total (value_at total d) (none_behind total d) p (tag_at o) ps o.values r
      (pieces_read total d ps o.values h.4 fits) ends again in
      let here = compound_behind total d o.byte inside _ is_open.compound
      (fault_as (compound_at total p (value_at total d) (tag_at o) inside) kind.Duplicate p o.place place made) in
      let there : value_at total (64 - length os) (o.byte ∷ inside)
      ≡ Err (record { kind = kind.Duplicate; place = o.place }) =
      subst (λ (n : ℕ). value_at total n (o.byte ∷ inside)
      ≡ Err (record { kind = kind.Duplicate; place = o.place })) (sym level) here in
      rw is (carried total os before (o.byte ∷ inside) (record { kind = kind.Duplicate; place = o.place }) h.2
      (λ q t. absurd (no_end_byte o.byte is_open.compound (cc))) there)

  fault_behind : (front : List ℕ) (os : List Open) (tail : List ℕ) (k : BinKind) (place : ℕ)
      → FaultAt front os tail k place → Opens front os → IsBytes tail → total ≡ length (front ++ tail)
      → value_at total 64 (front ++ tail) ≡ Err (record { kind = k; place = place })
  fault_behind front os tail k place (too_deep f qs t r c l) h all size =
      let none : 64 - length qs ≡ zero = omega arith in
      let deep = fault_as (value_at total zero (t ∷ r)) kind.TooDeep (total - length (t ∷ r)) (length f)
      (before_tag total t f r size) (deep_behind total t r c) in
      let here : value_at total (64 - length qs) (t ∷ r) ≡ Err (record { kind = kind.TooDeep; place = length f }) =
      subst (λ (n : ℕ). value_at total n (t ∷ r) ≡ Err (record { kind = kind.TooDeep; place = length f }))
      (sym none) deep in
      carried total qs f (t ∷ r) _ h (λ q e. absurd (no_end_byte t c (cc))) here
  fault_behind front os tail k place (bad_tag f qs t r other due) h all size =
      carried total qs f (t ∷ r) _ h (λ q e. due (cc))
      (at_tag_of (64 - length qs) t f r kind.BadTag size (ap is_compound other)
      (λ p. other_read (tag_of t) p r other))
  fault_behind front os tail k place (bad_atom f qs t r m w) h all size =
      carried total qs f (t ∷ r) _ h
      (λ q e. let same : t ≡ 0x84 = cc in absurd (subst (λ (x : ℕ). AtomFault (tag_of x) r m) same w))
      (at_tag_of (64 - length qs) t f r m size (fault_is_atom (tag_of t) r m w)
      (λ p. fault_read p (tag_of t) r m all.1 w))
  fault_behind front os tail k place (repeated f o qs r ends again) h all size =
      repeat_answered f o qs r h ends again size

pub fault_answered : (b : List ℕ) (f : Fault BinKind) → IsBytes b → Stands b f → value_at (length b) 64 b ≡ Err f
fault_answered b f all h =
    let front = h.0 in
    let tail = h.1 in
    let is : b ≡ front ++ tail = h.3 in
    let both = IsBytes-append front tail (subst IsBytes is all) in
    ap (value_at (length b) 64) is
    ∙ fault_behind (length b) front h.2 tail f.kind f.place h.5 h.4 both.1 (ap length is)
