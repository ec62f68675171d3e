-- What is next in bytes stays next when more bytes come, but for waiting.
use Rattle.std.proofs.Common.{◌≡◌, ℕ, ◌+◌, ◌-◌, ◌≤◌, inl, inr, List, [], ◌++◌, length, take, true, sym, ap}
use Rattle.std.proofs.Common.{◌∙◌, subst, append_assoc, length-append, length-take, refl, arith}
use Rattle.std.proofs.Math.Seq.{take-append-add}
use Rattle.std.proofs.lemmas.Bool.Decides.{leb_tells}
use Rattle.std.proofs.lemmas.List.{append-nil, take-append-le, take_all, drop-append-le}
use Rattle.pv_value.specs.Plain.{Plain}
use Rattle.pv_read.specs.Results.{Fault}
use Rattle.pv_binary.specs.Spells.{Spells}
use Rattle.pv_binary.specs.Reads.{BeginsWith}
use Rattle.pv_binary.specs.Numbers.{varint}
use Rattle.pv_binary.specs.Fronts.{Open, IsCounted, IsBadText, IsLongInteger, AtomFault}
use Rattle.pv_binary.specs.Fronts.{FaultAt, too_deep, bad_tag, bad_atom, repeated, Stands}
use Rattle.pv_binary.specs.OneOfThree.{IsFront}
use Rattle.pv_binary.specs.declared.tag.Tag.{Tag}
use Rattle.pv_binary.specs.declared.tag.Tag.TheVariants as tag
use Rattle.pv_binary.specs.declared.faults.BinKind.{BinKind}
use Rattle.pv_binary.specs.declared.faults.BinKind.TheVariants as kind
use Rattle.pv_stream.specs.Feeds.{FeedState, with_bytes, given}
use Rattle.pv_stream.specs.Limits.{most_bytes}
use Rattle.pv_stream.specs.declared.nexts.Next.{Next}
use Rattle.pv_stream.specs.declared.nexts.Next.TheVariants as next
use Rattle.pv_stream.specs.Nexts.{front_of, IsNext, is_end}

-- ---- values

begins_longer : (b z : List ℕ) (n : ℕ) (v : Plain) → BeginsWith b n v → BeginsWith (b ++ z) n v
begins_longer b z n v (few, spells, level) = (
  omega (arith, few, length-append b z),
  subst (λ (x : List ℕ). Spells x v) (sym (take-append-le n b z few)) spells,
  level,
)

-- ---- faults

counted_longer : (b s z : List ℕ) (n : ℕ) → IsCounted b n s → IsCounted (b ++ z) n (s ++ z)
counted_longer b s z n (small, is) =
    (small, ap (λ (x : List ℕ). x ++ z) is ∙ append_assoc (varint n) s z)

text_longer : (b z : List ℕ) → IsBadText b → IsBadText (b ++ z)
text_longer b z (n, s, r, counted, long, bad) = (
  n,
  s,
  r ++ z,
  subst (λ (x : List ℕ). IsCounted (b ++ z) n x) (append_assoc s r z) (counted_longer b (s ++ r) z n counted),
  long,
  bad,
)

integer_longer : (b z : List ℕ) → IsLongInteger b → IsLongInteger (b ++ z)
integer_longer b z (n, s, r, counted, long, few, bad) = (
  n,
  s,
  r ++ z,
  subst (λ (x : List ℕ). IsCounted (b ++ z) n x) (append_assoc s r z) (counted_longer b (s ++ r) z n counted),
  long,
  few,
  bad,
)

atom_longer : (t : Tag) (b z : List ℕ) (k : BinKind) → AtomFault t b k → AtomFault t (b ++ z) k
atom_longer tag.Double b z kind.BadTag (x, s, is, other) = (x, s ++ z, ap (λ (y : List ℕ). y ++ z) is, other)
atom_longer tag.Integer b z kind.LongVarint (c, r, is, other) =
    (c, r ++ z, ap (λ (y : List ℕ). y ++ z) is ∙ append_assoc c r z, other)
atom_longer tag.Integer b z kind.TooWide (n, s, counted, wide) = (n, s ++ z, counted_longer b s z n counted, wide)
atom_longer tag.Integer b z kind.LongInteger h = integer_longer b z h
atom_longer tag.String b z kind.LongVarint (c, r, is, other) =
    (c, r ++ z, ap (λ (y : List ℕ). y ++ z) is ∙ append_assoc c r z, other)
atom_longer tag.String b z kind.BadUtf8 h = text_longer b z h
atom_longer tag.ByteString b z kind.LongVarint (c, r, is, other) =
    (c, r ++ z, ap (λ (y : List ℕ). y ++ z) is ∙ append_assoc c r z, other)
atom_longer tag.Symbol b z kind.LongVarint (c, r, is, other) =
    (c, r ++ z, ap (λ (y : List ℕ). y ++ z) is ∙ append_assoc c r z, other)
atom_longer tag.Symbol b z kind.BadUtf8 h = text_longer b z h
atom_longer t b z k h = absurd h

fault_longer : (z front : List ℕ) (os : List Open) (tail : List ℕ) (k : BinKind) (place : ℕ)
    → FaultAt front os tail k place → FaultAt front os (tail ++ z) k place
fault_longer z front os tail k place (too_deep f qs t r c l) = too_deep f qs t (r ++ z) c l
fault_longer z front os tail k place (bad_tag f qs t r other due) = bad_tag f qs t (r ++ z) other due
fault_longer z front os tail k place (bad_atom f qs t r m w) = bad_atom f qs t (r ++ z) m (atom_longer _ r z m w)
fault_longer z front os tail k place (repeated f o qs r ends again) = repeated f o qs (r ++ z) ends again

stands_longer : (b z : List ℕ) (f : Fault BinKind) → Stands b f → Stands (b ++ z) f
stands_longer b z f (front, tail, os, is, open_, at) = (
  front,
  tail ++ z,
  os,
  ap (λ (x : List ℕ). x ++ z) is ∙ append_assoc front tail z,
  open_,
  fault_longer z front os tail f.kind f.place at,
)

-- ---- what is next

-- what is decided on goes on, where it goes on at all
front_longer : (left more : List ℕ) → (z : List ℕ) × (front_of (left ++ more) ≡ front_of left ++ z)
front_longer left more = elim (leb_tells most_bytes (length left)) [
  | inl l ↦ ([], take-append-le most_bytes left more l.1 ∙ sym (append-nil (front_of left)))
  | inr l ↦
      let n : ℕ = most_bytes - length left in
      let all : length left + n ≡ most_bytes = omega arith in
      let whole : take most_bytes left ≡ left = take_all most_bytes left (omega arith) in (
        take n more,
        ap (λ m. take m (left ++ more)) (sym all) ∙ take-append-add left more n
            ∙ ap (λ (x : List ℕ). x ++ take n more) (sym whole),
      )
]

pub front_full : (left more : List ℕ) → most_bytes ≤ length left → front_of (left ++ more) ≡ front_of left
front_full left more l = take-append-le most_bytes left more l

pub still_begins : (left more : List ℕ) (n : ℕ) (v : Plain) → BeginsWith (front_of left) n v
    → BeginsWith (front_of (left ++ more)) n v
still_begins left more n v begins =
    let f = front_longer left more in
    subst (λ (x : List ℕ). BeginsWith x n v) (sym f.1) (begins_longer (front_of left) f.0 n v begins)

pub still_stands : (left more : List ℕ) (f : Fault BinKind) → Stands (front_of left) f
    → Stands (front_of (left ++ more)) f
still_stands left more f stands =
    let l = front_longer left more in
    subst (λ (x : List ℕ). Stands x f) (sym l.1) (stands_longer (front_of left) l.0 f stands)

-- no more bytes are given than are left
pub value_fits : (left : List ℕ) (n : ℕ) (v : Plain) → BeginsWith (front_of left) n v → n ≤ length left
value_fits left n v b = omega (arith, b.0, length-take most_bytes left)

given_with : (b : List ℕ) (f : FeedState) (n : ℕ) → n ≤ length f.left
    → with_bytes b (given n f) ≡ given n (with_bytes b f)
given_with b f n few =
    let e = drop-append-le n f.left b few in
    λ i. record { left = sym e i; before = f.before + n }

pub value_stays : (b : List ℕ) (f : FeedState) (v : Plain) (g : FeedState) → IsNext f (next.Value v) g
    → IsNext (with_bytes b f) (next.Value v) (with_bytes b g)
value_stays b f v g (n, begins, is) = (
  n,
  still_begins f.left b n v begins,
  ap (with_bytes b) is ∙ given_with b f n (value_fits f.left n v begins),
)

-- nothing is given with an end
pub end_same : (f : FeedState) (x : Next) (g : FeedState) → IsNext f x g → is_end x ≡ true → g ≡ f
end_same f (next.Value v) g is e = absurd cc
end_same f next.More g is e = absurd cc
end_same f (next.Fault kind at) g is e = is.3
end_same f next.TooLong g is e = is.2

pub end_stays : (b : List ℕ) (f : FeedState) (x : Next) (g : FeedState) → IsNext f x g → is_end x ≡ true
    → IsNext (with_bytes b f) x (with_bytes b f)
end_stays b f (next.Value v) g is e = absurd cc
end_stays b f next.More g is e = absurd cc
end_stays b f (next.Fault kind at) g (place, stands, there, same) e =
    (place, still_stands f.left b (record { kind = kind; place = place }) stands, there, refl)
end_stays b f next.TooLong g (front, full, same) e =
    (subst IsFront (sym (front_full f.left b full)) front, omega (arith, full, length-append f.left b), refl)
