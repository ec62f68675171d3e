-- What became of many links, after one more.
use Rattle.std.proofs.Common.{◌≡◌, ℕ, ◌+◌, ◌*◌, ◌≤◌, Bool, true, false, List, [], ◌∷◌, ◌++◌, length}
use Rattle.std.proofs.Common.{Option, refl, sym, ◌∙◌, ap, subst, arith, inl, inr, length-append}
use Rattle.std.proofs.lemmas.Bool.{cases_lt, eqb-true}
use Rattle.std.proofs.lemmas.List.{length-map}
use Rattle.out_ports.specs.Ports.{raised, RoseBy}
use Rattle.srv_loop.specs.declared.tally.Tally.{Tally}
use Rattle.srv_loop.specs.declared.tally.Fate.{Fate}
use Rattle.srv_loop.specs.declared.tally.Fate.TheVariants.{Served, Full, Unserved}
use Rattle.srv_loop.specs.Fates.{served_in, full_in, unserved_in}
use Rattle.srv_loop.specs.Tallies.{links_of, Counts}
use Rattle.srv_loop.specs.Links.{Deeds, Opened, is_served, AreTaken, numbers, jobs_of, served, unserved, AreLed}
use Rattle.srv_loop.proofs.Leading.{AreLed-none, AreLed-more, AreTaken-none, AreTaken-more, jobs_of-more, served-more}
use Rattle.srv_loop.proofs.Leading.{unserved-more}
use Rattle.srv_loop.proofs.One.{IsLed}

-- the links so far, as the tally counts them, and what became of them
abbrev pub AllLed :
    {J : Type 0} → (ℕ → J → Type 0) → (ℕ → J → Type 0) → Tally → Deeds → Deeds → Option (List J) → Option (List J) →
    ℕ → ℕ → Type 0
AllLed {J} is_first is_second tally a b j k m n =
    (links : List (Opened J)) × Counts links tally × AreLed is_first is_second links a b
    × AreTaken (jobs_of links) j k m n

pub AllLed-none :
    {J : Type 0} (is_first is_second : ℕ → J → Type 0) (tally : Tally) (a : Deeds) (j : Option (List J)) (m : ℕ) →
    tally.served ≡ 0 → tally.unserved ≡ 0 → AllLed is_first is_second tally a a j j m m
AllLed-none is_first is_second tally a j m served unserved =
    ([], record { served = served; unserved = unserved }, AreLed-none is_first is_second a, AreTaken-none j m)

pub AllLed-more :
    {J : Type 0} (is_first is_second : ℕ → J → Type 0) (t u : Tally) (fate : Fate) (a b c : Deeds)
    (i j k : Option (List J)) (l m n : ℕ) → AllLed is_first is_second t a b i j l m →
    IsLed is_first is_second fate b c j k m n → (b.spent ≡ true → c.spent ≡ true) →
    u.served ≡ t.served + served_in fate → u.unserved ≡ t.unserved + unserved_in fate →
    AllLed is_first is_second u a c i k l n
AllLed-more {J} is_first is_second t u fate a b c i j k l m n so_far next stays served unserved =
    let (ks, counts, led, taken) = so_far in
    let (ls, told, then, more) = next in (
      ks ++ ls,
      record {
        served = omega (arith, served-more ks ls, counts.served, told.served);
        unserved = omega (arith, unserved-more ks ls, counts.unserved, told.unserved);
      },
      AreLed-more is_first is_second ks ls a b c led then stays,
      (let P : List J → Type 0 = λ jobs. AreTaken jobs i k l n in
          subst P (sym (jobs_of-more ks ls)) (AreTaken-more (jobs_of ks) (jobs_of ls) i j k l m n taken more)),
    )

-- a count that rose by what a tally has, and by one more
pub at_least_more : (m n a b c : ℕ) → raised m a ≤ b → raised n b ≤ c → raised (m + n) a ≤ c
at_least_more m n a b c first next = omega (arith, first, next)

-- each fate counts one link
one_link : (fate : Fate) → served_in fate + full_in fate + unserved_in fate ≡ 1
one_link Served = refl
one_link Full = refl
one_link Unserved = refl

pub one_more :
    (t u : Tally) (fate : Fate) → u.served ≡ t.served + served_in fate → u.full ≡ t.full + full_in fate →
    u.unserved ≡ t.unserved + unserved_in fate → links_of u ≡ links_of t + 1
one_more t u fate served full unserved = omega (arith, served, full, unserved, one_link fate)

-- What the lists tell of the counts

at_least : (k l m n : ℕ) → k ≤ l → RoseBy l m n → raised k m ≤ n
at_least k l m n le rose =
    elim (cases_lt n 18446744073709551615) [
      | inl small ↦ (let e = rose small in omega (arith, e, le))
      | inr large ↦ omega (arith, large)
    ]

split_kind :
    {J : Type 0} (link : Opened J) (links : List (Opened J)) (b : Bool) → is_served link ≡ b →
    length links ≡ length (served links) + length (unserved links) →
    length (link ∷ links) ≡ length (served (link ∷ links)) + length (unserved (link ∷ links))
split_kind link links true is e = rw is (omega (arith, e))
split_kind link links false is e = rw is (omega (arith, e))

-- each link is served or isn't
both_kinds : {J : Type 0} (links : List (Opened J)) → length links ≡ length (served links) + length (unserved links)
both_kinds [] = refl
both_kinds (link ∷ links) = split_kind link links (is_served link) refl (both_kinds links)

pub AllLed-many :
    {J : Type 0} (is_first is_second : ℕ → J → Type 0) (tally : Tally) (a b : Deeds) (j k : Option (List J))
    (m n : ℕ) → AllLed is_first is_second tally a b j k m n →
    length b.opened ≡ length a.opened + tally.served + tally.unserved
AllLed-many is_first is_second tally a b j k m n (links, counts, led, taken) =
    let e = ap length led.opened ∙ length-append a.opened (numbers links) in
    let n = length-map links (λ link. link.number) in
    let f = both_kinds links in
    let g = counts.served in
    let h = counts.unserved in
    omega (arith, e, n, f, g, h)

two_more :
    {J : Type 0} (link : Opened J) (links : List (Opened J)) (b : Bool) → is_served link ≡ b →
    2 * length (served links) ≤ length (jobs_of links) →
    2 * length (served (link ∷ links)) ≤ length (jobs_of (link ∷ links))
two_more link links true is e =
    let two : length link.taken ≡ 2 = eqb-true (length link.taken) 2 is in
    let f = length-append link.taken (jobs_of links) in
    rw is (omega (arith, e, f, two))
two_more link links false is e =
    let f = length-append link.taken (jobs_of links) in
    rw is (omega (arith, e, f))

-- both jobs of each served link were taken
two_each : {J : Type 0} (links : List (Opened J)) → 2 * length (served links) ≤ length (jobs_of links)
two_each [] = omega arith
two_each (link ∷ links) = two_more link links (is_served link) refl (two_each links)

pub AllLed-jobs :
    {J : Type 0} (is_first is_second : ℕ → J → Type 0) (tally : Tally) (a b : Deeds) (j k : Option (List J))
    (m n : ℕ) → AllLed is_first is_second tally a b j k m n → raised (2 * tally.served) m ≤ n
AllLed-jobs is_first is_second tally a b j k m n (links, counts, led, taken) =
    at_least (2 * tally.served) (length (jobs_of links)) m n (rw counts.served (two_each links)) taken.count
