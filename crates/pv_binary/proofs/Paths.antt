-- Two fronts of the same bytes have the same path: values are told apart from the outermost one inwards.
use Rattle.std.proofs.Common.{◌≡◌, ℕ, zero, suc, ◌+◌, ◌-◌, ◌≤◌, true, List, [], ◌∷◌, ◌++◌, length, Err}
use Rattle.std.proofs.Common.{refl, sym, ap, ◌∙◌, subst, append_assoc, length-append, inl, inr, ◌⊎◌, arith}
use Rattle.std.proofs.lemmas.List.{append-nil}
use Rattle.std.specs.List.{concat, AllZip}
use Rattle.std.specs.Prelude.{IsTrue}
use Rattle.pv_value.specs.Plain.{Plain, plains}
use Rattle.pv_value.specs.Depth.{deepest}
use Rattle.pv_read.specs.Results.{Fault}
use Rattle.pv_read.specs.Lemmas.Binds.{parts}
use Rattle.pv_binary.specs.Spells.{Pieces}
use Rattle.pv_binary.specs.Tags.{tag_of}
use Rattle.pv_binary.specs.Reading.{Inner, no_tag, is_compound, value_at}
use Rattle.pv_binary.specs.Fronts.{Open, tag_at, IsUnfilled, Opens, may_end_in, IsCut, EndsAt, at_tag, inside_atom}
use Rattle.pv_binary.specs.Fronts.{Front}
use Rattle.pv_binary.specs.declared.faults.BinKind.{BinKind}
use Rattle.pv_binary.proofs.Varints.{IsBytes, IsBytes-append}
use Rattle.pv_binary.proofs.Complete.{Parses}
use Rattle.pv_binary.proofs.Cuts.{cut_is_atom, cut_read}
use Rattle.pv_binary.proofs.Stops.{NoEnd, places, none_behind, atom_behind, no_end_byte, pieces_read, open_stuck}

-- ---- the path from the outermost value inwards

-- the bytes end inside the atom that they begin with
abbrev IsInAtom : List ℕ → List ℕ → Type 0
IsInAtom bytes path = (t : ℕ) × (s : List ℕ) × (bytes ≡ t ∷ s) × IsCut (tag_of t) s × (path ≡ [])

-- the compound that bytes begin with, at this depth: its tag, the values in it, and what is behind these
record IsInside (d : ℕ) (bytes : List ℕ) : Type 0 where
  pub open_ : Open
  pub pieces : List (List ℕ)
  pub behind_them : List ℕ
  pub deeper : ℕ
  pub level : d ≡ suc deeper
  pub is : bytes ≡ open_.byte ∷ (concat pieces ++ behind_them)
  pub compound : IsTrue (is_compound (tag_at open_))
  pub unfilled : IsUnfilled (tag_at open_) open_.values
  pub spells : Pieces pieces (plains open_.values)
  pub shallow : deepest (plains open_.values) ≤ deeper

-- bytes from the offset at on, in which these places are open, the outermost first, at this depth
abbrev Inward : ℕ → ℕ → List ℕ → List ℕ → Type 0
Inward d at bytes [] = bytes ≡ []
Inward d at bytes (p ∷ path) = (p ≡ at)
    × (IsInAtom bytes path
    ⊎ ((c : IsInside d bytes) × Inward c.deeper (at + suc (length (concat c.pieces))) c.behind_them path))

-- what is inside is no end
inward_due : (d at : ℕ) (bytes path : List ℕ) (ends : _) → Inward d at bytes path → NoEnd bytes ends
inward_due d at bytes [] ends h = λ r e. let w : [] ≡ 0x84 ∷ r = sym h ∙ e in cc
inward_due d at bytes (p ∷ path) ends (here, inl (t, s, is, c, over)) =
    λ r e. let w : t ∷ s ≡ 0x84 ∷ r = sym is ∙ e in
    let same : t ≡ 0x84 = cc in absurd (subst (λ (x : ℕ). IsCut (tag_of x) s) same c)
inward_due d at bytes (p ∷ path) ends (here, inr (c, more)) =
    λ r e. let w : (c.open_).byte ∷ (concat c.pieces ++ c.behind_them) ≡ 0x84 ∷ r = sym c.is ∙ e in
    absurd (no_end_byte (c.open_).byte c.compound (let same : (c.open_).byte ≡ 0x84 = cc in same))

-- so no value is read there
inward_fails : (d at : ℕ) (bytes path : List ℕ) → IsBytes bytes → Inward d at bytes path
    → (f : Fault BinKind) × (value_at zero d bytes ≡ Err f)
inward_fails d at bytes [] all h = (no_tag zero, ap (λ (x : List ℕ). value_at zero d x) h ∙ none_behind zero d)
inward_fails d at bytes (p ∷ path) all (here, inl (t, s, is, c, over)) =
    let left = subst IsBytes is all in
    let read = atom_behind zero d t s _ (cut_is_atom (tag_of t) s c)
    (cut_read (zero - length (t ∷ s)) (tag_of t) s left.1 c) in
    (_, ap (λ (x : List ℕ). value_at zero d x) is ∙ read)
inward_fails d at bytes (p ∷ path) all (here, inr (c, more)) =
    let left = subst IsBytes c.is all in
    let both = IsBytes-append (concat c.pieces) c.behind_them left.1 in
    let f = inward_fails c.deeper (at + suc (length (concat c.pieces))) c.behind_them path both.1 more in
    let due = inward_due c.deeper (at + suc (length (concat c.pieces))) c.behind_them path
    (may_end_in (tag_at c.open_) (c.open_).values) more in
    let stuck = open_stuck zero c.deeper c.open_ c.pieces c.behind_them f.0 c.compound c.unfilled c.spells c.shallow due
    f.1 in (
      f.0,
      ap (λ (x : List ℕ). value_at zero d x) c.is
          ∙ ap (λ (n : ℕ). value_at zero n ((c.open_).byte ∷ (concat c.pieces ++ c.behind_them))) c.level ∙ stuck,
    )

-- ---- there is one

-- as many values, and the same behind them
module _ (inner : Inner) where
  same_values : (ps qs : List (List ℕ)) (vs ws : List Plain) (r s : List ℕ) (f g : Fault BinKind)
      → AllZip (Parses inner) ps vs → AllZip (Parses inner) qs ws → concat ps ++ r ≡ concat qs ++ s
      → inner r ≡ Err f → inner s ≡ Err g → (length (concat ps) ≡ length (concat qs)) × (r ≡ s)
  same_values [] [] [] [] r s f g h k e m n = (refl, e)
  same_values [] (q ∷ qs) [] (w ∷ ws) r s f g h k e m n =
      let read = (k.0).reads (concat qs ++ s) in
      let is : r ≡ q ++ (concat qs ++ s) = e ∙ append_assoc q (concat qs) s in
      let there = ap inner is ∙ read in
      absurd (let w = sym m ∙ there in cc)
  same_values (p ∷ ps) [] (v ∷ vs) [] r s f g h k e m n =
      let read = (h.0).reads (concat ps ++ r) in
      let is : s ≡ p ++ (concat ps ++ r) = sym e ∙ append_assoc p (concat ps) r in
      let there = ap inner is ∙ read in
      absurd (let w = sym n ∙ there in cc)
  same_values (p ∷ ps) (q ∷ qs) (v ∷ vs) (w ∷ ws) r s f g h k e m n =
      let is : p ++ (concat ps ++ r) ≡ q ++ (concat qs ++ s) =
      sym (append_assoc p (concat ps) r) ∙ e ∙ append_assoc q (concat qs) s in
      let both = parts {E = Fault BinKind} v w (concat ps ++ r) (concat qs ++ s)
      (sym ((h.0).reads (concat ps ++ r)) ∙ ap inner is ∙ (k.0).reads (concat qs ++ s)) in
      let more = same_values ps qs vs ws r s f g h.1 k.1 both.1 m n in
      let size = ap (λ (x : List ℕ). length x) is in
      let rest = ap (λ (x : List ℕ). length x) both.1 in (
        omega (
          arith,
          size,
          rest,
          more.0,
          length-append p (concat ps ++ r),
          length-append q (concat qs ++ s),
          length-append p (concat ps),
          length-append q (concat qs),
        ),
        more.1,
      )
  same_values [] qs (v ∷ vs) ws r s f g h k e m n = absurd h
  same_values (p ∷ ps) qs [] ws r s f g h k e m n = absurd h
  same_values ps [] vs (w ∷ ws) r s f g h k e m n = absurd k
  same_values ps (q ∷ qs) vs [] r s f g h k e m n = absurd k

-- an atom is no compound
not_both : (d : ℕ) (bytes way : List ℕ) → IsInAtom bytes way → IsInside d bytes → ⊥
not_both d bytes way (t, s, is, cut, over) c =
    let w : t ∷ s ≡ (c.open_).byte ∷ (concat c.pieces ++ c.behind_them) = sym is ∙ c.is in
    let same : t ≡ (c.open_).byte = cc in
    let atom = cut_is_atom (tag_of t) s cut in
    let compound : is_compound (tag_of t) ≡ true =
    subst (λ (x : ℕ). is_compound (tag_of x) ≡ true) (sym same) c.compound in
    let x = sym atom ∙ compound in cc

-- the same bytes at the same depth have the same compound open
same_inside : (d at : ℕ) (bytes path way : List ℕ) → IsBytes bytes → (a b : IsInside d bytes)
    → Inward a.deeper (at + suc (length (concat a.pieces))) a.behind_them path
    → Inward b.deeper (at + suc (length (concat b.pieces))) b.behind_them way
    → (length (concat a.pieces) ≡ length (concat b.pieces)) × (a.behind_them ≡ b.behind_them)
same_inside d at bytes path way all a b h k =
    let deeper : b.deeper ≡ a.deeper = let l = a.level in let m = b.level in omega arith in
    let left = IsBytes-append (concat a.pieces) a.behind_them (subst IsBytes a.is all).1 in
    let right = IsBytes-append (concat b.pieces) b.behind_them (subst IsBytes b.is all).1 in
    let f = inward_fails a.deeper (at + suc (length (concat a.pieces))) a.behind_them path left.1 h in
    let g = inward_fails b.deeper (at + suc (length (concat b.pieces))) b.behind_them way right.1 k in
    let g' = subst (λ (n : ℕ). value_at zero n b.behind_them ≡ Err g.0) deeper g.1 in
    let shallow = subst (λ (n : ℕ). deepest (plains (b.open_).values) ≤ n) deeper b.shallow in
    let w : (a.open_).byte ∷ (concat a.pieces ++ a.behind_them) ≡ (b.open_).byte ∷ (concat b.pieces ++ b.behind_them) =
    sym a.is ∙ b.is in
    let same : concat a.pieces ++ a.behind_them ≡ concat b.pieces ++ b.behind_them = cc in
    same_values (value_at zero a.deeper) a.pieces b.pieces (a.open_).values
    (b.open_).values a.behind_them b.behind_them f.0 g.0
    (pieces_read zero a.deeper a.pieces (a.open_).values a.spells a.shallow)
    (pieces_read zero a.deeper b.pieces (b.open_).values b.spells shallow) same f.1 g'

inward_one : (d at : ℕ) (bytes path way : List ℕ) → IsBytes bytes → Inward d at bytes path → Inward d at bytes way
    → path ≡ way
inward_one d at bytes [] [] all h k = refl
inward_one d at bytes [] (q ∷ way) all h (there, inl (t, s, is, c, over)) = let w : [] ≡ t ∷ s = sym h ∙ is in cc
inward_one d at bytes [] (q ∷ way) all h (there, inr (c, more)) =
    let w : [] ≡ (c.open_).byte ∷ (concat c.pieces ++ c.behind_them) = sym h ∙ c.is in cc
inward_one d at bytes (p ∷ path) [] all (here, inl (t, s, is, c, over)) k = let w : [] ≡ t ∷ s = sym k ∙ is in cc
inward_one d at bytes (p ∷ path) [] all (here, inr (c, more)) k =
    let w : [] ≡ (c.open_).byte ∷ (concat c.pieces ++ c.behind_them) = sym k ∙ c.is in cc
inward_one d at bytes (p ∷ path) (q ∷ way) all (here, inl a) (there, inl b) =
    λ i. (here ∙ sym there) i ∷ (a.4 ∙ sym b.4) i
inward_one d at bytes (p ∷ path) (q ∷ way) all (here, inl a) (there, inr (c, more)) = absurd (not_both d bytes path a c)
inward_one d at bytes (p ∷ path) (q ∷ way) all (here, inr (c, more)) (there, inl b) = absurd (not_both d bytes way b c)
inward_one d at bytes (p ∷ path) (q ∷ way) all (here, inr (a, h)) (there, inr (b, k)) =
    let same = same_inside d at bytes path way all a b h k in
    let deeper : b.deeper ≡ a.deeper = let l = a.level in let m = b.level in omega arith in
    let left = IsBytes-append (concat a.pieces) a.behind_them (subst IsBytes a.is all).1 in
    let k' = subst (λ (n : ℕ). Inward n (at + suc (length (concat b.pieces))) b.behind_them way) deeper k in
    let k'' = subst (λ (n : ℕ). Inward a.deeper (at + suc n) b.behind_them way) (sym same.0) k' in
    let k''' = subst (λ (x : List ℕ). Inward a.deeper (at + suc (length (concat a.pieces))) x way) (sym same.1) k'' in
    let rest = inward_one a.deeper (at + suc (length (concat a.pieces))) a.behind_them path way left.1 h k''' in
    λ i. (here ∙ sym there) i ∷ rest i

-- ---- the other way round

-- a list turned round, in front of another
abbrev turned : List ℕ → List ℕ → List ℕ
turned [] ys = ys
turned (x ∷ xs) ys = turned xs (x ∷ ys)

turned_back : (xs ys zs : List ℕ) → turned (turned xs ys) zs ≡ turned ys (xs ++ zs)
turned_back [] ys zs = refl
turned_back (x ∷ xs) ys zs = turned_back xs (x ∷ ys) zs

turned_twice : (xs : List ℕ) → turned (turned xs []) [] ≡ xs
turned_twice xs = turned_back xs [] [] ∙ append-nil xs

turned_same : (xs ys : List ℕ) → turned xs [] ≡ turned ys [] → xs ≡ ys
turned_same xs ys e = sym (turned_twice xs) ∙ ap (λ (x : List ℕ). turned x []) e ∙ turned_twice ys

-- what is open behind the open compounds is open inside them
inward_opens : (os : List Open) (front tail path : List ℕ) → Opens front os → length os ≤ 64
    → Inward (64 - length os) (length front) tail path → Inward 64 zero (front ++ tail) (turned (places os) path)
inward_opens [] front tail path h l i =
    let is : front ++ tail ≡ tail = ap (λ (x : List ℕ). x ++ tail) h in
    let size : length front ≡ zero = ap (λ (x : List ℕ). length x) h in
    subst (λ (x : List ℕ). Inward 64 zero x path) (sym is) (subst (λ (n : ℕ). Inward 64 n tail path) size i)
inward_opens (o ∷ outer) front tail path h l i =
    let before = h.0 in
    let ps = h.1 in
    let is_open = h.3 in
    let inside : List ℕ = o.byte ∷ (concat ps ++ tail) in
    let is : front ++ tail ≡ before ++ inside =
    ap (λ (x : List ℕ). x ++ tail) h.5 ∙ append_assoc before (o.byte ∷ concat ps) tail in
    let size : length front ≡ length before + suc (length (concat ps)) =
    ap (λ (x : List ℕ). length x) h.5 ∙ length-append before (o.byte ∷ concat ps) in
    let here : IsInside (64 - length outer) inside = record {
      open_ = o;
      pieces = ps;
      behind_them = tail;
      deeper = 64 - length (o ∷ outer);
      level = omega arith;
      is = refl;
      compound = is_open.compound;
      unfilled = is_open.unfilled;
      spells = h.4;
      shallow = let s = is_open.shallow in omega arith;
    } in
    let more = subst (λ (n : ℕ). Inward (64 - length (o ∷ outer)) n tail path) size i in
    subst (λ (x : List ℕ). Inward 64 zero x (turned (places outer) (o.place ∷ path))) (sym is)
    (inward_opens outer before inside (o.place ∷ path) h.2 (omega arith) (is_open.place, inr (here, more)))

opens_few : (os : List Open) (front : List ℕ) → Opens front os → length os ≤ 64
opens_few [] front h = omega arith
opens_few (o ∷ outer) front h = let l = (h.3).level in omega arith

-- what is open at the end of the bytes
inward_ends : (d : ℕ) (front tail cut : List ℕ) → EndsAt front tail cut → Inward d (length front) tail cut
inward_ends d front tail cut (at_tag f) = refl
inward_ends d front tail cut (inside_atom f t bytes c) = (refl, inl (t, bytes, refl, c, refl))

turned_cut : (front tail cut : List ℕ) (ps : List ℕ) → EndsAt front tail cut → turned (cut ++ ps) [] ≡ turned ps cut
turned_cut front tail cut ps (at_tag f) = refl
turned_cut front tail cut ps (inside_atom f t bytes c) = refl

front_inward : (bytes path : List ℕ) → Front bytes path → Inward 64 zero bytes (turned path [])
front_inward bytes path h =
    let os = h.2 in
    let i = inward_opens os h.0 h.1 h.3 h.5 (opens_few os h.0 h.5) (inward_ends (64 - length os) h.0 h.1 h.3 h.6) in
    let same : turned path [] ≡ turned (places os) h.3 =
    ap (λ (x : List ℕ). turned x []) h.7 ∙ turned_cut h.0 h.1 h.3 (places os) h.6 in
    subst (λ (x : List ℕ). Inward 64 zero bytes x) (sym same)
    (subst (λ (x : List ℕ). Inward 64 zero x (turned (places os) h.3)) (sym h.4) i)

pub one_path : (bytes path way : List ℕ) → IsBytes bytes → Front bytes path → Front bytes way → path ≡ way
one_path bytes path way all h k =
    turned_same path way
    (inward_one 64 zero bytes (turned path []) (turned way []) all (front_inward bytes path h)
    (front_inward bytes way k))
