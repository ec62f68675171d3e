-- What the reader answers, where it finds no value, stands there.
use Rattle.std.proofs.Common.{◌≡◌, ℕ, zero, suc, ◌+◌, ◌-◌, ◌<◌, ◌≤◌, eqb, Bool, true, false, List, [], ◌∷◌, ◌++◌}
use Rattle.std.proofs.Common.{length, map, Option, Some, None, Ok, Err, refl, sym, ap, ◌∙◌, subst, append_assoc}
use Rattle.std.proofs.Common.{length-append, inl, inr, arith}
use Rattle.std.proofs.lemmas.Bool.{eqb-false}
use Rattle.std.specs.List.{concat}
use Rattle.pv_value.specs.Plain.{Plain, plains, pairs}
use Rattle.pv_value.specs.Depth.{deepest, deepest_pair}
use Rattle.pv_value.specs.Sets.{AreDistinct}
use Rattle.pv_binary.specs.Spells.{Pieces, PairPieces}
use Rattle.pv_binary.specs.Tags.{tag_of}
use Rattle.pv_read.specs.Results.{Fault, within}
use Rattle.pv_value.specs.Sets.{all_differ, set_from, dictionary_from}
use Rattle.pv_binary.specs.Reading.{no_tag, Inner, entry_at, up_to_end, items_at, pairs_at, made_at, atom_at}
use Rattle.pv_binary.specs.Reading.{compound_at, is_compound, behind, value_at}
use Rattle.pv_binary.specs.Fronts.{Open, IsUnfilled, IsOpen, Opens, is_even, may_end_in, may_end, keys_in, Repeats}
use Rattle.pv_binary.specs.Fronts.{IsCut, AtomFault, at_tag, inside_atom, truncated_place, FaultAt, too_deep, bad_tag}
use Rattle.pv_binary.specs.Fronts.{bad_atom, repeated}
use Rattle.pv_binary.specs.Reads.{Stops}
use Rattle.pv_binary.specs.declared.tag.Tag.{Tag}
use Rattle.pv_binary.specs.declared.tag.Tag.TheVariants as tag
use Rattle.pv_binary.specs.declared.faults.BinKind.{BinKind}
use Rattle.pv_binary.specs.declared.faults.BinKind.TheVariants as kind
use Rattle.pv_read.specs.Lemmas.Binds.{err, err_same, parts, bind_ok, bind_err, chosen}
use Rattle.pv_binary.proofs.Varints.{IsBytes}
use Rattle.pv_value.specs.Lemmas.SetFrom.{differ_from_distinct}
use Rattle.pv_binary.proofs.Sound.{Found, FoundItems, FoundPairs, items_sound, pairs_sound, value_sound}
use Rattle.pv_binary.proofs.Complete.{again}
use Rattle.pv_binary.proofs.Cuts.{AtomWrong, cut, faulty, no_tag as other_tag, atom_fails, cut_is_atom}
use Rattle.pv_binary.proofs.Stops.{NoEnd, even_later, none_behind, before_tag, places, cut_place, due_place_nil}

-- ---- where reading values stops

-- values stand at the front, and the next one isn't there
record Stuck (inner : Inner) (d : ℕ) (ends : ℕ → Bool) (bytes : List ℕ) (f : Fault BinKind) : Type 0 where
  pub pieces : List (List ℕ)
  pub values : List Plain
  pub tail : List ℕ
  pub is : bytes ≡ concat pieces ++ tail
  pub spells : Pieces pieces (plains values)
  pub shallow : deepest (plains values) ≤ d
  pub bytes_left : IsBytes tail
  pub due : NoEnd tail (ends (length values))
  pub fails : inner tail ≡ Err f

abbrev always : ℕ → Bool
always n = true

-- what was spelled is not empty
shorter : (d : ℕ) (bytes : List ℕ) (x : Plain) (more : List ℕ) → Found d bytes x more → length more < length bytes
shorter d bytes x more f =
    let p = again x zero d f.front f.spells f.shallow in
    omega (arith, ap length f.is, length-append f.front more, ap length p.is)

module _ (total : ℕ) (inner : Inner) (d : ℕ) (none : inner [] ≡ Err (no_tag total))
    (sound : (b : List ℕ) (v : Plain) (r : List ℕ) → IsBytes b → inner b ≡ Ok (v, r) → Found d b v r) where
  stuck_here : (ends : ℕ → Bool) (bytes : List ℕ) (f : Fault BinKind) → IsBytes bytes → NoEnd bytes (ends 0)
      → inner bytes ≡ Err f → Stuck inner d ends bytes f
  stuck_here ends bytes f all due e =
      record {
        pieces = [];
        values = [];
        tail = bytes;
        is = refl;
        spells = tt;
        shallow = omega arith;
        bytes_left =
            all;
        due = due;
        fails = e;
      }

  stuck_none : {A : Type 0} (ends : ℕ → Bool) (f : Fault BinKind) → err {A = A} (no_tag total) ≡ Err f
      → Stuck inner d ends [] f
  stuck_none {A} ends f e =
      let same = err_same {A = A} (no_tag total) f e in
      stuck_here ends [] f tt (λ r t. cc) (none ∙ ap (λ (x : Fault BinKind). err {A = Plain × List ℕ} x) same)

  stuck_more : (ends : ℕ → Bool) (bytes : List ℕ) (x : Plain) (more : List ℕ) (f : Fault BinKind) → Found d bytes x more
      → Stuck inner d (λ n. ends (suc n)) more f → Stuck inner d ends bytes f
  stuck_more ends bytes x more f g s = record {
    pieces = g.front ∷ s.pieces;
    values = x ∷ s.values;
    tail = s.tail;
    is = g.is ∙ ap (λ (y : List ℕ). g.front ++ y) s.is ∙ sym (append_assoc g.front (concat s.pieces) s.tail);
    spells = (g.spells, s.spells);
    shallow = let a = g.shallow in let b = s.shallow in omega arith;
    bytes_left = s.bytes_left;
    due = s.due;
    fails = s.fails;
  }

  -- after a key and its value the turn is a key's again
  stuck_even : (bytes : List ℕ) (f : Fault BinKind) → Stuck inner d is_even bytes f
      → Stuck inner d (λ n. is_even (suc (suc n))) bytes f
  stuck_even bytes f s = record {
    pieces = s.pieces;
    values = s.values;
    tail = s.tail;
    is = s.is;
    spells = s.spells;
    shallow = s.shallow;
    bytes_left = s.bytes_left;
    due = λ r e. even_later (is_even (length s.values)) ∙ s.due r e;
    fails = s.fails;
  }

  no_end : (b : ℕ) (bs : List ℕ) (t : Bool) → eqb b 0x84 ≡ false → NoEnd (b ∷ bs) t
  no_end b bs t e = λ r w. let same : b ≡ 0x84 = cc in absurd (eqb-false b 0x84 e same)

  items_fail : (n : ℕ) (bytes : List ℕ) (f : Fault BinKind) → IsBytes bytes → length bytes ≤ n
      → up_to_end total inner n bytes ≡ Err f → Stuck inner d always bytes f
  items_fail zero [] f all l e = stuck_none {A = List Plain × List ℕ} always f e
  items_fail zero (b ∷ bs) f all l e = absurd (omega arith)
  items_fail (suc n) [] f all l e = stuck_none {A = List Plain × List ℕ} always f e
  items_fail (suc n) (b ∷ bs) f all l e =
      elim (chosen (eqb b 0x84) _ _ _ e) [
        | inl h ↦ absurd (let w = h.1 in cc)
        | inr h ↦
            elim (bind_err (inner (b ∷ bs)) _ f h.1) [
              | inl w ↦ stuck_here always (b ∷ bs) f all (no_end b bs true h.0) w
              | inr x ↦
                  let g = sound (b ∷ bs) x.0.0 x.0.1 all x.1 in
                  let less = shorter d (b ∷ bs) x.0.0 x.0.1 g in
                  elim (bind_err (up_to_end total inner n x.0.1) _ f x.2) [
                    | inl w ↦ stuck_more always (b ∷ bs) x.0.0 x.0.1 f g
                        (items_fail n x.0.1 f g.bytes_left (omega arith) w)
                    | inr w ↦ absurd (let z = w.2 in cc)
                  ]
            ]
      ]

  -- where an entry isn't there, its key or its value isn't
  entry_fails : (bytes : List ℕ) (f : Fault BinKind) → IsBytes bytes → NoEnd bytes true → entry_at inner bytes ≡ Err f
      → Stuck inner d is_even bytes f
  entry_fails bytes f all due e =
      elim (bind_err (inner bytes) _ f e) [
        | inl w ↦ stuck_here is_even bytes f all due w
        | inr x ↦
            let g = sound bytes x.0.0 x.0.1 all x.1 in
            elim (bind_err (inner x.0.1) _ f x.2) [
              | inl w ↦
                  let value = stuck_here (λ n. is_even (suc n)) x.0.1 f g.bytes_left (λ r t. refl) w in
                  stuck_more is_even bytes x.0.0 x.0.1 f g value
              | inr y ↦ absurd (let z = y.2 in cc)
            ]
      ]

  pairs_fail : (n : ℕ) (bytes : List ℕ) (f : Fault BinKind) → IsBytes bytes → length bytes ≤ n
      → up_to_end total (entry_at inner) n bytes ≡ Err f → Stuck inner d is_even bytes f
  pairs_fail zero [] f all l e = stuck_none {A = List (Plain × Plain) × List ℕ} is_even f e
  pairs_fail zero (b ∷ bs) f all l e = absurd (omega arith)
  pairs_fail (suc n) [] f all l e = stuck_none {A = List (Plain × Plain) × List ℕ} is_even f e
  pairs_fail (suc n) (b ∷ bs) f all l e =
      elim (chosen (eqb b 0x84) _ _ _ e) [
        | inl h ↦ absurd (let w = h.1 in cc)
        | inr h ↦
            elim (bind_err (entry_at inner (b ∷ bs)) _ f h.1) [
              | inl w ↦ entry_fails (b ∷ bs) f all (no_end b bs true h.0) w
              | inr p ↦
                  let x = bind_ok (inner (b ∷ bs)) _ _ p.1 in
                  let y = bind_ok (inner x.0.1) _ _ x.2 in
                  let g = sound (b ∷ bs) x.0.0 x.0.1 all x.1 in
                  let k = sound x.0.1 y.0.0 y.0.1 g.bytes_left y.1 in
                  let rest : y.0.1 ≡ p.0.1 = (parts (x.0.0, y.0.0) p.0.0 y.0.1 p.0.1 y.2).1 in
                  let less = shorter d (b ∷ bs) x.0.0 x.0.1 g in
                  let less' = shorter d x.0.1 y.0.0 y.0.1 k in
                  elim (bind_err (up_to_end total (entry_at inner) n p.0.1) _ f p.2) [
                    | inl w ↦
                        let w' : up_to_end total (entry_at inner) n y.0.1 ≡ Err f =
                        ap (λ (z : List ℕ). up_to_end total (entry_at inner) n z) rest ∙ w in
                        let more = stuck_even y.0.1 f (pairs_fail n y.0.1 f k.bytes_left (omega arith) w') in
                        stuck_more is_even (b ∷ bs) x.0.0 x.0.1 f g
                        (stuck_more (λ n. is_even (suc n)) x.0.1 y.0.0 y.0.1 f k more)
                    | inr w ↦ absurd (let z = w.2 in cc)
                  ]
            ]
      ]

-- ---- entries as keys and values by turns

abbrev by_turns : List (Plain × Plain) → List Plain
by_turns [] = []
by_turns (p ∷ ps) = p.0 ∷ p.1 ∷ by_turns ps

turns_even : (ps : List (Plain × Plain)) → is_even (length (by_turns ps)) ≡ true
turns_even [] = refl
turns_even (p ∷ ps) = even_later (is_even (length (by_turns ps))) ∙ turns_even ps

turns_keys : (ps : List (Plain × Plain)) → keys_in (by_turns ps) ≡ map (λ (p : Plain × Plain). p.0) ps
turns_keys [] = refl
turns_keys (p ∷ ps) = ap (λ (xs : List Plain). p.0 ∷ xs) (turns_keys ps)

turns_shallow : (d : ℕ) (ps : List (Plain × Plain)) → deepest_pair (pairs ps) ≤ d → deepest (plains (by_turns ps)) ≤ d
turns_shallow d [] h = omega arith
turns_shallow d (p ∷ ps) h = let more = turns_shallow d ps (omega arith) in omega arith

turns_pieces : (bs : List (List ℕ)) (ps : List (Plain × Plain)) → PairPieces bs (pairs ps) → (qs : List (List ℕ))
    × Pieces qs (plains (by_turns ps)) × (concat qs ≡ concat bs)
turns_pieces [] [] h = ([], tt, refl)
turns_pieces [] (p ∷ ps) h = absurd h
turns_pieces (b ∷ bs) [] h = absurd h
turns_pieces (b ∷ bs) (p ∷ ps) h =
    let one = h.0 in
    let more = turns_pieces bs ps h.1 in (
      one.0 ∷ one.1 ∷ more.0,
      (one.2, (one.3, more.1)),
      ap (λ (x : List ℕ). one.0 ++ (one.1 ++ x)) more.2
          ∙ sym (append_assoc one.0 one.1 (concat bs)) ∙ ap (λ (x : List ℕ). x ++ concat bs) (sym one.4),
    )

-- ---- equal elements or keys

differ_test : (xs : List Plain) → all_differ xs ≡ false → AreDistinct xs → ⊥
differ_test xs e h = let w = differ_from_distinct xs h in cc

none_made : (place : ℕ) (made : Option Plain) (f : Fault BinKind) → made_at place made ≡ Err f
    → (made ≡ None) × (record { kind = kind.Duplicate; place = place } ≡ f)
none_made place (Some v) f e = cc
none_made place None f e = (refl, err_same {A = Plain} _ f e)

set_fails : (xs : List Plain) → set_from xs ≡ None → AreDistinct xs → ⊥
unfolding set_from
set_fails xs e =
    elim (chosen (all_differ xs) _ _ _ e) [
      | inl h ↦ absurd (let w = h.1 in cc)
      | inr h ↦ differ_test xs h.0
    ]

dictionary_fails : (ps : List (Plain × Plain)) → dictionary_from ps ≡ None
    → AreDistinct (map (λ (p : Plain × Plain). p.0) ps) → ⊥
unfolding dictionary_from
dictionary_fails ps e =
    elim (chosen (all_differ (map (λ (p : Plain × Plain). p.0) ps)) _ _ _ e) [
      | inl h ↦ absurd (let w = h.1 in cc)
      | inr h ↦ differ_test (map (λ (p : Plain × Plain). p.0) ps) h.0
    ]

-- ---- what stops the whole

stops_as : (b : List ℕ) (f g : Fault BinKind) → g ≡ f → Stops b g → Stops b f
stops_as b f g e h = subst (λ (x : Fault BinKind). Stops b x) e h

abbrev fault_at : BinKind → ℕ → Fault BinKind
fault_at k place = record { kind = k; place = place }

-- a fault of this kind at an equal place
placed_at : (b : List ℕ) (f : Fault BinKind) (place : ℕ) → f.place ≡ place → Stops b (fault_at f.kind place) → Stops b f
placed_at b f place e h = stops_as b f (fault_at f.kind place) (ap (λ (n : ℕ). fault_at f.kind n) (sym e)) h

abbrev opened : ℕ → ℕ → List Plain → Open
opened place b vs = record { place = place; byte = b; values = vs }

opens_more : (front : List ℕ) (os : List Open) (b d : ℕ) (vs : List Plain) (ps : List (List ℕ)) (t : Tag) → tag_of b ≡ t
    → is_compound t ≡ true → IsUnfilled t vs → Opens front os → length os + suc d ≡ 64 → Pieces ps (plains vs)
    → deepest (plains vs) ≤ d
    → Opens (front ++ b ∷ concat ps) (opened (length front) b vs ∷ os)
opens_more front os b d vs ps t is c u h level s l = (front, ps, h, now_open, s, refl)
  where
    now_open : IsOpen (opened (length front) b vs) os front
    now_open = record {
      place = refl;
      compound = subst (λ (x : Tag). is_compound x ≡ true) (sym is) c;
      unfilled = subst (λ (x : Tag). IsUnfilled x vs) (sym is) u;
      level = omega arith;
      shallow = omega arith;
    }

-- what one reader, at this depth, says where it fails
abbrev IsExactAt : List ℕ → ℕ → Type 0
IsExactAt all d = (front : List ℕ) (os : List Open) (tail : List ℕ) (f : Fault BinKind) → all ≡ front ++ tail
    → Opens front os → length os + d ≡ 64 → NoEnd tail (may_end os) → IsBytes tail → value_at (length all) d tail
    ≡ Err f → Stops all f

module _ (all front : List ℕ) (os : List Open) (b : ℕ) (bs : List ℕ) (is : all ≡ front ++ b ∷ bs)
    (opens : Opens front os) where
  tag_place : length all - length (b ∷ bs) ≡ length front
  tag_place = before_tag (length all) b front bs (ap length is)

  atom_stops : (t : Tag) (k : BinKind) → tag_of b ≡ t → NoEnd (b ∷ bs) (may_end os) → AtomWrong t bs k
      → Stops all (fault_at k (length front))
  atom_stops t k same due (cut s bytes c) =
      let here : IsCut (tag_of b) bs = subst (λ (x : Tag). IsCut x bs) (sym same) c in
      let path : List ℕ = length front ∷ places os in
      let place : truncated_place all path ≡ length front =
      ap (λ (x : List ℕ). truncated_place x path) is
      ∙ cut_place front bs (places os) b (cut_is_atom (tag_of b) bs here) in
      inl (
        path,
        (front, b ∷ bs, os, length front ∷ [], is, opens, inside_atom front b bs here, refl),
        ap (λ (n : ℕ). fault_at kind.Truncated n) (sym place),
      )
  atom_stops t k same due (faulty s bytes m w) =
      inr (front, b ∷ bs, os, is, opens, bad_atom front os b bs m (subst (λ (x : Tag). AtomFault x bs m) (sym same) w))
  atom_stops t k same due (other_tag bytes) =
      inr (front, b ∷ bs, os, is, opens, bad_tag front os b bs same (λ e. due bs (ap (λ (x : ℕ). x ∷ bs) e)))

  atom_exact : (f : Fault BinKind) → is_compound (tag_of b) ≡ false → NoEnd (b ∷ bs) (may_end os) → IsBytes bs
      → atom_at (length all - length (b ∷ bs)) (tag_of b) bs ≡ Err f → Stops all f
  atom_exact f c due left e =
      let w = atom_fails (length all - length (b ∷ bs)) (tag_of b) bs f c left e in
      placed_at all f (length front) (w.0 ∙ tag_place) (atom_stops (tag_of b) f.kind refl due w.1)

  deep_exact : (f : Fault BinKind) → is_compound (tag_of b) ≡ true → length os ≡ 64
      → within {A = Plain × List ℕ} (length all - length (b ∷ bs)) (Err kind.TooDeep) ≡ Err f → Stops all f
  deep_exact f c level e =
      let same = err_same {A = Plain × List ℕ} (fault_at kind.TooDeep (length all - length (b ∷ bs))) f e in
      let place = ap (λ (n : ℕ). fault_at kind.TooDeep n) (sym tag_place) in
      stops_as all f (fault_at kind.TooDeep (length front)) (place ∙ same)
      (inr (front, b ∷ bs, os, is, opens, too_deep front os b bs c level))

  module _ (d : ℕ) (left : IsBytes bs) (level : length os + suc d ≡ 64) (exact : IsExactAt all d) (t : Tag)
      (same : tag_of b ≡ t) (c : is_compound t ≡ true) (f : Fault BinKind) where
    inside_is : (ps : List (List ℕ)) (tail : List ℕ) → bs ≡ concat ps ++ tail → all ≡ (front ++ b ∷ concat ps) ++ tail
    inside_is ps tail e = is ∙ ap (λ (x : List ℕ). front ++ b ∷ x) e ∙ sym (append_assoc front (b ∷ concat ps) tail)

    stuck_exact : (vs : List Plain) (ps : List (List ℕ)) (tail : List ℕ) → bs ≡ concat ps ++ tail
        → Pieces ps (plains vs) → deepest (plains vs) ≤ d → IsUnfilled t vs → IsBytes tail
        → NoEnd tail (may_end_in t vs) → value_at (length all) d tail ≡ Err f → Stops all f
    stuck_exact vs ps tail e s l u tail_bytes due fails =
        exact (front ++ b ∷ concat ps) (opened (length front) b vs ∷ os) tail f (inside_is ps tail e)
        (opens_more front os b d vs ps t same c u opens level s l) (omega arith)
        (λ r w. ap (λ (x : Tag). may_end_in x vs) same ∙ due r w) tail_bytes fails

    repeat_exact : (vs : List Plain) (ps : List (List ℕ)) (r : List ℕ) → bs ≡ concat ps ++ 0x84 ∷ r
        → Pieces ps (plains vs)
        → deepest (plains vs) ≤ d → IsUnfilled t vs → may_end_in t vs ≡ true → Repeats t vs
        → fault_at kind.Duplicate (length all - length (b ∷ bs)) ≡ f → Stops all f
    repeat_exact vs ps r e s l u ends again p =
        let o = opened (length front) b vs in
        let open_now = opens_more front os b d vs ps t same c u opens level s l in
        let fault : FaultAt (front ++ b ∷ concat ps) (o ∷ os) (0x84 ∷ r) kind.Duplicate (length front) =
        repeated (front ++ b ∷ concat ps) o os r (ap (λ (x : Tag). may_end_in x vs) same ∙ ends)
        (subst (λ (x : Tag). Repeats x vs) (sym same) again) in
        let place = ap (λ (n : ℕ). fault_at kind.Duplicate n) (sym tag_place) in
        stops_as all f (fault_at kind.Duplicate (length front)) (place ∙ p)
        (inr (front ++ b ∷ concat ps, 0x84 ∷ r, o ∷ os, inside_is ps (0x84 ∷ r) e, open_now, fault))

-- ---- compounds

module _ (all front : List ℕ) (os : List Open) (b : ℕ) (bs : List ℕ) (is : all ≡ front ++ b ∷ bs)
    (opens : Opens front os) (d : ℕ) (left : IsBytes bs) (level : length os + suc d ≡ 64) (exact : IsExactAt all d)
    (f : Fault BinKind) where
  stuck_items_exact : (t : Tag) → tag_of b ≡ t → is_compound t ≡ true
      → ((vs : List Plain) → IsUnfilled t vs × (may_end_in t vs ≡ true)) → Stuck (value_at (length all) d) d always bs f
      → Stops all f
  stuck_items_exact t same c g s =
      stuck_exact all front os b bs is opens d left level exact t same c f s.values s.pieces s.tail s.is s.spells
      s.shallow (g s.values).0 s.bytes_left (λ r w. (g s.values).1 ∙ s.due r w) s.fails

  first_exact : (t : Tag) → tag_of b ≡ t → is_compound t ≡ true → IsUnfilled t [] → may_end_in t [] ≡ false
      → value_at (length all) d bs ≡ Err f → Stops all f
  first_exact t same c u ends h =
      stuck_exact all front os b bs is opens d left level exact t same c f [] [] bs refl tt (omega arith) u left
      (λ r w. ends) h

  fields_exact : (l : Plain) (more : List ℕ) → tag_of b ≡ tag.Record → Found d bs l more
      → Stuck (value_at (length all) d) d always more f → Stops all f
  fields_exact l more same g s =
      let a = g.shallow in
      let z = s.shallow in
      let whole : bs ≡ (g.front ++ concat s.pieces) ++ s.tail =
      g.is ∙ ap (λ (y : List ℕ). g.front ++ y) s.is ∙ sym (append_assoc g.front (concat s.pieces) s.tail) in
      stuck_exact all front os b bs is opens d left level exact tag.Record same refl f (l ∷ s.values)
      (g.front ∷ s.pieces) s.tail whole (g.spells, s.spells) (omega arith) tt s.bytes_left s.due s.fails

  set_exact : (xs : List Plain) (r : List ℕ) → tag_of b ≡ tag.Set → FoundItems d bs xs r
      → made_at (length all - length (b ∷ bs)) (set_from xs) ≡ Err f → Stops all f
  set_exact xs r same g e =
      let n = none_made (length all - length (b ∷ bs)) (set_from xs) f e in
      repeat_exact all front os b bs is opens d left level exact tag.Set same refl f xs g.pieces r g.is g.spells
      g.shallow
      tt refl (set_fails xs n.0) n.1

  dictionary_exact : (ps : List (Plain × Plain)) (r : List ℕ) → tag_of b ≡ tag.Dictionary → FoundPairs d bs ps r
      → made_at (length all - length (b ∷ bs)) (dictionary_from ps) ≡ Err f → Stops all f
  dictionary_exact ps r same g e =
      let n = none_made (length all - length (b ∷ bs)) (dictionary_from ps) f e in
      let turns = turns_pieces g.pieces ps g.spells in
      let whole : bs ≡ concat turns.0 ++ 0x84 ∷ r = g.is ∙ ap (λ (x : List ℕ). x ++ 0x84 ∷ r) (sym turns.2) in
      let again : AreDistinct (keys_in (by_turns ps)) → ⊥ =
      λ h. dictionary_fails ps n.0 (subst AreDistinct (turns_keys ps) h) in
      repeat_exact all front os b bs is opens d left level exact tag.Dictionary same refl f
      (by_turns ps) turns.0 r whole
      turns.1 (turns_shallow d ps g.shallow) tt (turns_even ps) again n.1

  compound_exact : (t : Tag) → tag_of b ≡ t → is_compound t ≡ true
      → compound_at (length all) (length all - length (b ∷ bs)) (value_at (length all) d) t bs ≡ Err f → Stops all f
  unfolding compound_at
  compound_exact tag.Embedded same c e =
      elim (bind_err (value_at (length all) d bs) _ f e) [
        | inl h ↦ first_exact tag.Embedded same c refl refl h
        | inr x ↦ absurd (let w = x.2 in cc)
      ]
  compound_exact tag.Record same c e =
      elim (bind_err (value_at (length all) d bs) _ f e) [
        | inl h ↦ first_exact tag.Record same c tt refl h
        | inr l ↦
            let g = value_sound (length all) d bs l.0.0 l.0.1 left l.1 in
            elim (bind_err (items_at (length all) (value_at (length all) d) l.0.1) _ f l.2) [
              | inl h ↦ fields_exact l.0.0 l.0.1 same g
                  (items_fail (length all) (value_at (length all) d) d (none_behind (length all) d)
                  (value_sound (length all) d) (length l.0.1) l.0.1 f g.bytes_left (omega arith) h)
              | inr x ↦ absurd (let w = x.2 in cc)
            ]
      ]
  compound_exact tag.Sequence same c e =
      elim (bind_err (items_at (length all) (value_at (length all) d) bs) _ f e) [
        | inl h ↦ stuck_items_exact tag.Sequence same c (λ vs. (tt, refl))
            (items_fail (length all) (value_at (length all) d) d (none_behind (length all) d)
            (value_sound (length all) d) (length bs) bs f left (omega arith) h)
        | inr x ↦ absurd (let w = x.2 in cc)
      ]
  compound_exact tag.Set same c e =
      elim (bind_err (items_at (length all) (value_at (length all) d) bs) _ f e) [
        | inl h ↦ stuck_items_exact tag.Set same c (λ vs. (tt, refl))
            (items_fail (length all) (value_at (length all) d) d (none_behind (length all) d)
            (value_sound (length all) d) (length bs) bs f left (omega arith) h)
        | inr x ↦
            elim (bind_err (made_at (length all - length (b ∷ bs)) (set_from x.0.0)) _ f x.2) [
              | inl h ↦ set_exact x.0.0 x.0.1 same
                  (items_sound (length all) (value_at (length all) d) d
                  (value_sound (length all) d) bs x.0.0 x.0.1 left x.1) h
              | inr y ↦ absurd (let w = y.2 in cc)
            ]
      ]
  compound_exact tag.Dictionary same c e =
      elim (bind_err (pairs_at (length all) (value_at (length all) d) bs) _ f e) [
        | inl h ↦
            let s = pairs_fail (length all) (value_at (length all) d) d (none_behind (length all) d)
            (value_sound (length all) d) (length bs) bs f left (omega arith) h in
            stuck_exact all front os b bs is opens d left level exact tag.Dictionary same c f s.values s.pieces s.tail
            s.is s.spells s.shallow tt s.bytes_left s.due s.fails
        | inr x ↦
            elim (bind_err (made_at (length all - length (b ∷ bs)) (dictionary_from x.0.0)) _ f x.2) [
              | inl h ↦ dictionary_exact x.0.0 x.0.1 same
                  (pairs_sound (length all) (value_at (length all) d) d
                  (value_sound (length all) d) bs x.0.0 x.0.1 left x.1) h
              | inr y ↦ absurd (let w = y.2 in cc)
            ]
      ]
  compound_exact t same c e = cc

-- ---- values

none_exact : (all front : List ℕ) (os : List Open) (f : Fault BinKind) → all ≡ front ++ [] → Opens front os
    → err {A = Plain × List ℕ} (no_tag (length all)) ≡ Err f → Stops all f
none_exact all front os f is opens e =
    let same = err_same {A = Plain × List ℕ} (no_tag (length all)) f e in
    let place : truncated_place all (places os) ≡ length all =
    ap (λ (x : List ℕ). truncated_place x (places os)) is ∙ due_place_nil os front opens
    ∙ ap (λ (x : List ℕ). length x) (sym is) in
    inl (
      places os,
      (front, [], os, [], is, opens, at_tag front, refl),
      sym same ∙ ap (λ (n : ℕ). fault_at kind.Truncated n) (sym place),
    )

module _ (all front : List ℕ) (os : List Open) (b : ℕ) (bs : List ℕ) (f : Fault BinKind) (deeper : Tag → Inner) where
  behind_exact : all ≡ front ++ b ∷ bs → Opens front os → NoEnd (b ∷ bs) (may_end os) → IsBytes bs
      → (is_compound (tag_of b) ≡ true → deeper (tag_of b) bs ≡ Err f → Stops all f)
      → behind (length all - length (b ∷ bs)) (tag_of b) bs deeper ≡ Err f → Stops all f
  unfolding behind
  behind_exact is opens due left compound e =
      elim (chosen (is_compound (tag_of b)) _ _ _ e) [
        | inl h ↦ compound h.0 h.1
        | inr h ↦ atom_exact all front os b bs is opens f h.0 due left h.1
      ]

value_exact : (all : List ℕ) (d : ℕ) → IsExactAt all d
unfolding value_at
value_exact all zero front os [] f is opens level due left e = none_exact all front os f is opens e
value_exact all (suc d) front os [] f is opens level due left e = none_exact all front os f is opens e
value_exact all zero front os (b ∷ bs) f is opens level due left e =
    behind_exact all front os b bs f _ is opens due left.1
    (λ c k. deep_exact all front os b bs is opens f c (omega arith) k) e
value_exact all (suc d) front os (b ∷ bs) f is opens level due left e =
    behind_exact all front os b bs f _ is opens due left.1
    (λ c k. compound_exact all front os b bs is opens d left.1 level (value_exact all d) f (tag_of b) refl c k) e

pub exact_law : (bytes : List ℕ) (f : Fault BinKind) → IsBytes bytes → value_at (length bytes) 64 bytes ≡ Err f
    → Stops bytes f
exact_law bytes f all e = value_exact bytes 64 [] [] bytes f refl refl refl (λ r t. refl) all e
