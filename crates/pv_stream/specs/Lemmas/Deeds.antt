-- What is done to a feed, against the values of all that was pushed.
use Rattle.std.proofs.Common.{◌≡◌, ℕ, ◌<◌, ◌≤◌, List, [], ◌∷◌, ◌++◌, length, true, false, refl, sym, ap, ◌∙◌, subst}
use Rattle.std.proofs.Common.{append_assoc, length-take, arith}
use Rattle.std.proofs.lemmas.List.{append-nil}
use Rattle.std.proofs.lemmas.List.Elements.{All-drop}
use Rattle.std.proofs.lemmas.List.{take-take}
use Rattle.pv_value.specs.Plain.{Plain}
use Rattle.pv_read.specs.Leading.{LeadsOver}
use Rattle.pv_binary.specs.Spells.{Spells}
use Rattle.pv_binary.specs.Reads.{BeginsWith, Leads}
use Rattle.pv_binary.specs.OneOfThree.{AreBytes}
use Rattle.pv_stream.specs.Limits.{most_bytes}
use Rattle.pv_stream.specs.Feeds.{FeedState, no_bytes, with_bytes}
use Rattle.pv_stream.specs.declared.nexts.Next.{Next}
use Rattle.pv_stream.specs.declared.nexts.Next.TheVariants as next
use Rattle.pv_stream.specs.Nexts.{front_of, IsNext, OneNext, is_value, is_end}
use Rattle.pv_stream.specs.Courses.{AreNext, Course, Deed, pushed, told, AreDone, pieces_of, values_of}
use Rattle.pv_stream.specs.Laws.{OneCourse, ValuesAreAPrefix, ValuesAreAll, EndsAreOfTheWhole, EndsStay}
use Rattle.pv_stream.specs.Lemmas.Longer.{value_fits, value_stays, end_same, end_stays}

-- ---- more bytes

pub still_next : (b : List ℕ) (vs : List Plain) (f g : FeedState) → AreNext vs f g
    → AreNext vs (with_bytes b f) (with_bytes b g)
still_next b [] f g is = ap (with_bytes b) is
still_next b (v ∷ vs) f g (h, is, others) =
    (with_bytes b h, value_stays b f v h is, still_next b vs h g others)

nothing_more : (f : FeedState) → with_bytes [] f ≡ f
nothing_more f = λ i. record { left = append-nil f.left i; before = f.before }

twice_more : (b c : List ℕ) (f : FeedState) → with_bytes c (with_bytes b f) ≡ with_bytes (b ++ c) f
twice_more b c f = λ i. record { left = append_assoc f.left b c i; before = f.before }

-- ---- what was done

from_same : (ds : List Deed) (f h g : FeedState) → h ≡ f
    → AreNext (values_of ds) (with_bytes (pieces_of ds) h) g → AreNext (values_of ds) (with_bytes (pieces_of ds) f) g
from_same ds f h g same are = subst (λ (k : FeedState). AreNext (values_of ds) (with_bytes (pieces_of ds) k) g) same are

pub done_next : (ds : List Deed) (f g : FeedState) → AreDone ds f g
    → AreNext (values_of ds) (with_bytes (pieces_of ds) f) g
done_next [] f g is = is ∙ sym (nothing_more f)
done_next (pushed b ∷ ds) f g is =
    subst (λ (k : FeedState). AreNext (values_of ds) k g) (twice_more b (pieces_of ds) f)
    (done_next ds (with_bytes b f) g is)
done_next (told (next.Value v) ∷ ds) f g (h, is, others) =
    (with_bytes (pieces_of ds) h, value_stays (pieces_of ds) f v h is, done_next ds h g others)
done_next (told next.More ∷ ds) f g (h, is, others) = from_same ds f h g is.2 (done_next ds h g others)
done_next (told (next.Fault kind at) ∷ ds) f g (h, is, others) = from_same ds f h g is.3 (done_next ds h g others)
done_next (told next.TooLong ∷ ds) f g (h, is, others) = from_same ds f h g is.2 (done_next ds h g others)

-- ---- in order

begins_whole : (left : List ℕ) (n : ℕ) (v : Plain) → BeginsWith (front_of left) n v → BeginsWith left n v
begins_whole left n v (few, spells, level) =
    let fits : n ≤ length left = value_fits left n v (few, spells, level) in
    let small : n ≤ most_bytes = omega (arith, few, length-take most_bytes left) in
    (fits, subst (λ (x : List ℕ). Spells x v) (take-take n most_bytes left small) spells, level)

in_order : (vs : List Plain) (f g : FeedState) → AreNext vs f g → LeadsOver Leads f.left vs g.left
in_order [] f g is = sym (ap (λ (k : FeedState). k.left) is)
in_order (v ∷ vs) f g (h, (n, begins, is), others) =
    (h.left, (n, begins_whole f.left n v begins, ap (λ (k : FeedState). k.left) is), in_order vs h g others)

-- ---- there is one course

no_value : (f g : FeedState) (v : Plain) (h : FeedState) (x : Next) → OneNext → AreBytes f.left → g ≡ f
    → IsNext f (next.Value v) h → IsNext g x g → is_value x ≡ false → ⊥
no_value f g v h x one are same is comes none =
    let e = one f (next.Value v) h are is x f (subst (λ (k : FeedState). IsNext k x k) same comes) in
    cc (ap is_value e.0, none)

same_ends : (f l m : FeedState) (x y : Next) → OneNext → AreBytes f.left → l ≡ f → m ≡ f → IsNext l x l
    → IsNext m y m → x ≡ y
same_ends f l m x y one are a b is so =
    (one f y f are (subst (λ (k : FeedState). IsNext k y k) b so) x f
    (subst (λ (k : FeedState). IsNext k x k) a is)).0

abbrev the_value : Next → Plain → Plain
the_value (next.Value v) w = v
the_value x w = w

value_same : (v w : Plain) → next.Value v ≡ next.Value w → v ≡ w
value_same v w e = ap (λ (x : Next). the_value x v) e

next_bytes : (f : FeedState) (v : Plain) (g : FeedState) → IsNext f (next.Value v) g → AreBytes f.left → AreBytes g.left
next_bytes f v g (n, begins, is) are =
    subst (λ (k : FeedState). AreBytes k.left) (sym is) (All-drop (λ b. b < 256) n f.left are)

abbrev course : List Plain → FeedState → Next → Course
course vs l x = record { values = vs; left = l; ends = x }

same_course : OneNext → (vs ws : List Plain) (f l m : FeedState) (x y : Next) → AreBytes f.left
    → AreNext vs f l → AreNext ws f m → IsNext l x l → IsNext m y m → is_value x ≡ false → is_value y ≡ false
    → course vs l x ≡ course ws m y
same_course one [] [] f l m x y are a b is so u v =
    let e = same_ends f l m x y one are a b is so in
    let s = a ∙ sym b in
    λ i. record { values = []; left = s i; ends = e i }
same_course one [] (w ∷ ws) f l m x y are a b is so u v = absurd (no_value f l w b.0 x one are a b.1 is u)
same_course one (p ∷ ps) [] f l m x y are a b is so u v = absurd (no_value f m p a.0 y one are b a.1 so v)
same_course one (p ∷ ps) (w ∷ ws) f l m x y are a b is so u v =
    let e = one f (next.Value w) b.0 are b.1 (next.Value p) a.0 a.1 in
    let s = value_same p w e.0 in
    let others = subst (λ (k : FeedState). AreNext ps k l) e.1 a.2 in
    let c = same_course one ps ws b.0 l m x y (next_bytes f w b.0 b.1 are) others b.2 is so u v in
    λ i. record { values = s i ∷ (c i).values; left = (c i).left; ends = (c i).ends }

pub one_course_is : OneNext → OneCourse
one_course_is one f c d are a b =
    same_course one c.values d.values f c.left d.left c.ends d.ends are a.values b.values a.ends b.ends a.no_more
    b.no_more

-- ---- laws

pub values_prefix : ValuesAreAPrefix
values_prefix ds g done = in_order (values_of ds) (with_bytes (pieces_of ds) no_bytes) g (done_next ds no_bytes g done)

pub values_all : ValuesAreAll
values_all ds g x done is none = record { values = done_next ds no_bytes g done; ends = is; no_more = none }

end_no_value : (x : Next) → is_end x ≡ true → is_value x ≡ false
end_no_value (next.Value v) e = absurd cc
end_no_value next.More e = refl
end_no_value (next.Fault kind at) e = refl
end_no_value next.TooLong e = refl

pub ends_whole : EndsAreOfTheWhole
ends_whole ds g x more done is end = record {
  values = subst (λ (k : FeedState). AreNext (values_of ds) k (with_bytes more g))
      (twice_more (pieces_of ds) more no_bytes)
      (still_next more (values_of ds) (with_bytes (pieces_of ds) no_bytes) g (done_next ds no_bytes g done));
  ends = end_stays more g x g is end;
  no_more = end_no_value x end;
}

pub ends_stay : EndsStay
ends_stay f x g more is end = (end_same f x g is end, end_stays more f x g is end)
