-- Of what may be next, one stands, and one alone.
use Rattle.std.proofs.Common.{◌≡◌, ℕ, ◌+◌, ◌<◌, List, length, refl, sym, subst, ap, ◌∙◌, ◌⊎◌, inl, inr, arith}
use Rattle.std.proofs.Common.{add-zero}
use Rattle.std.proofs.lemmas.Bool.Decides.{leb_tells}
use Rattle.std.proofs.lemmas.List.{take_all}
use Rattle.std.proofs.lemmas.List.Elements.{All-take}
use Rattle.pv_value.specs.Plain.{Plain}
use Rattle.pv_read.specs.Results.{Fault}
use Rattle.pv_binary.specs.OneOfThree.{AreBytes, IsFront, HasValue, HasFault, OneOfThreeHolds}
use Rattle.pv_binary.specs.declared.faults.BinKind.{BinKind}
use Rattle.pv_stream.specs.Limits.{most_bytes}
use Rattle.pv_stream.specs.Feeds.{FeedState, given}
use Rattle.pv_stream.specs.declared.nexts.Next.{Next}
use Rattle.pv_stream.specs.declared.nexts.Next.TheVariants as next
use Rattle.pv_stream.specs.Nexts.{front_of, IsNext, IsOnlyNext, SomeNext, OneNext, NeverTruncated}
use Rattle.pv_stream.proofs.Stopping.{never_cut}

module _ (f : FeedState) (three : OneOfThreeHolds (front_of f.left)) where
  -- a value leaves room for nothing else
  no_value : HasValue (front_of f.left) → HasFault (front_of f.left) ⊎ IsFront (front_of f.left) → ⊥
  no_value v (inl bad) = three.1.value_and_fault v bad
  no_value v (inr front) = three.1.value_and_front v front

  value_same : (v w : Plain) (g h : FeedState) → IsNext f (next.Value v) g → IsNext f (next.Value w) h
      → (next.Value w ≡ next.Value v) × (h ≡ g)
  value_same v w g h (m, a, s) (n, b, t) =
      let u = three.2.value n m w v b a in
      (ap next.Value u.1, t ∙ ap (λ k. given k f) u.0 ∙ sym s)

  fault_same : (k l : BinKind) (at there : ℕ) (g h : FeedState) → IsNext f (next.Fault k at) g
      → IsNext f (next.Fault l there) h → (next.Fault l there ≡ next.Fault k at) × (h ≡ g)
  fault_same k l at there g h (p, a, x, s) (q, b, y, t) =
      let u = three.2.fault (record { kind = l; place = q }) (record { kind = k; place = p }) b a in
      let e : l ≡ k = ap (λ (z : Fault BinKind). z.kind) u in
      let d : there ≡ at = sym y ∙ ap (λ (z : Fault BinKind). f.before + z.place) u ∙ x in
      (λ i. next.Fault (e i) (d i), t ∙ sym s)

  next_same : (x : Next) (g : FeedState) (y : Next) (h : FeedState) → IsNext f x g → IsNext f y h → (y ≡ x) × (h ≡ g)
  next_same (next.Value v) g (next.Value w) h a b = value_same v w g h a b
  next_same (next.Value v) g next.More h a b = absurd (no_value (a.0, v, a.1) (inr b.0))
  next_same (next.Value v) g (next.Fault l there) h a b = absurd (no_value (a.0, v, a.1) (inl (_, b.1)))
  next_same (next.Value v) g next.TooLong h a b = absurd (no_value (a.0, v, a.1) (inr b.0))
  next_same next.More g (next.Value w) h a b = absurd (no_value (b.0, w, b.1) (inr a.0))
  next_same next.More g next.More h a b = (refl, b.2 ∙ sym a.2)
  next_same next.More g (next.Fault l there) h a b = absurd (three.1.front_and_fault a.0 (_, b.1))
  next_same next.More g next.TooLong h a b = absurd (omega (arith, a.1, b.1))
  next_same (next.Fault k at) g (next.Value w) h a b = absurd (no_value (b.0, w, b.1) (inl (_, a.1)))
  next_same (next.Fault k at) g next.More h a b = absurd (three.1.front_and_fault b.0 (_, a.1))
  next_same (next.Fault k at) g (next.Fault l there) h a b = fault_same k l at there g h a b
  next_same (next.Fault k at) g next.TooLong h a b = absurd (three.1.front_and_fault b.0 (_, a.1))
  next_same next.TooLong g (next.Value w) h a b = absurd (no_value (b.0, w, b.1) (inr a.0))
  next_same next.TooLong g next.More h a b = absurd (omega (arith, a.1, b.1))
  next_same next.TooLong g (next.Fault l there) h a b = absurd (three.1.front_and_fault a.0 (_, b.1))
  next_same next.TooLong g next.TooLong h a b = (refl, b.2 ∙ sym a.2)

  next_some : (x : Next) × (g : FeedState) × IsNext f x g
  next_some = elim three.0 [
    | inl x ↦ (next.Value x.1, given x.0 f, (x.0, x.2, refl))
    | inr (inl x) ↦ elim (leb_tells most_bytes (length f.left)) [
      | inl l ↦ (next.TooLong, f, (x, l.1, refl))
      | inr l ↦ (next.More, f, (x, l.1, refl))
    ]
    | inr (inr x) ↦ (next.Fault x.0.kind (f.before + x.0.place), f, (x.0.place, x.1, refl, refl))
  ]

-- from what one_of_three ensures
module _ (three : (bytes : List ℕ) → AreBytes bytes → OneOfThreeHolds bytes) where
  pub one_is_next : OneNext
  one_is_next f x g are a y h b =
      next_same f (three (front_of f.left) (All-take (λ n. n < 256) most_bytes f.left are)) x g y h a b

  pub some_is_next : SomeNext
  some_is_next f are = next_some f (three (front_of f.left) (All-take (λ n. n < 256) most_bytes f.left are))

-- the same of what is next and how many bytes it takes
pub only_next : OneNext → (left : List ℕ) (before : ℕ) (x : Next) (n : ℕ) → AreBytes left
    → IsNext (record { left = left; before = before }) x (given n (record { left = left; before = before }))
    → IsOnlyNext (record { left = left; before = before }) x (given n (record { left = left; before = before }))
only_next one left before x n are is =
    one (record { left = left; before = before }) x (given n (record { left = left; before = before })) are is

-- where no byte is given, all stands
pub none_given : (f : FeedState) → f ≡ given 0 f
none_given f = λ i. record { left = f.left; before = sym (add-zero f.before) i }

more_here : (left : List ℕ) (before : ℕ) → length left < most_bytes → IsFront left
    → IsNext (record { left = left; before = before }) next.More (given 0 (record { left = left; before = before }))
more_here left before few front = (
  subst IsFront (sym (take_all most_bytes left (omega (arith, few)))) front,
  few,
  sym (none_given (record { left = left; before = before })),
)

-- where more is known to come, nothing else is next
pub more_next : OneNext → (left : List ℕ) (before : ℕ) → AreBytes left → length left < most_bytes → IsFront left
    → IsNext (record { left = left; before = before }) next.More (given 0 (record { left = left; before = before }))
    × IsOnlyNext (record { left = left; before = before }) next.More
    (given 0 (record { left = left; before = before }))
more_next one left before are few front =
    let is = more_here left before few front in
    (is, only_next one left before next.More 0 are is)

-- no fault that stands is that the bytes end
pub never_truncated : NeverTruncated
never_truncated f k at g (place, stands, there, same) e =
    never_cut (front_of f.left) (record { kind = k; place = place }) stands e
