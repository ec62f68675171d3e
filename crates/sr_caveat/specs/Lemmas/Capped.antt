-- References are read from their values, and hold what was read.
use Rattle.std.proofs.Common.{◌≡◌, ℕ, ◌<◌, ◌^◌, cond, Bool, true, false, nat_lt, List, [], ◌∷◌, Option, Some, None}
use Rattle.std.proofs.Common.{refl, ap, sym, subst, ◌∙◌, option_and_then, pos, arith, Result, Ok, Err, IfOk}
use Rattle.std.proofs.lemmas.Bool.{lt-ltb}
use Rattle.std.proofs.lemmas.Bool.Decides.{nat_tests}
use Rattle.std.specs.List.{AllByRecursion}
use Rattle.pv_value.specs.Plain.{Plain, integer, sequence, Plains, no_more, then_more}
use Rattle.pv_words.specs.Parts.{same}
use Rattle.pv_words.specs.Words.{number, number_in}
use Rattle.pv_words.specs.Lemmas.Same.{same_is, same_self}
use Rattle.sr_caveat.specs.Patterns.{Caveat, caveats}
use Rattle.sr_caveat.specs.Spelled.{caveat_values}
use Rattle.sr_caveat.specs.Caps.{Cap, cap_of, cap_value, caveats_from, cap_at, cap_read, if_spelled, IsReadBack}
use Rattle.sr_caveat.specs.Caps.{IsSound}
use Rattle.sr_caveat.specs.Laws.{CapsAreTheirValues}
use Rattle.sr_caveat.specs.Lemmas.CaveatsBack.{read_back as caveat_back}

caveats_back : (cs : List Caveat) → AllByRecursion IsReadBack cs → caveats_from (caveat_values (caveats cs)) ≡ cs
caveats_back [] h = refl
caveats_back (c ∷ cs) h = λ i. h.0 i ∷ caveats_back cs h.1 i

number_back : (n : ℕ) → n < 2 ^ 63 → number_in (number n) ≡ Some n
number_back n h = rw (lt-ltb n (2 ^ 63) h) refl

read_back : (c : Cap) → IsSound c → cap_read (cap_value c) ≡ Some c
read_back c h =
    (λ i. cap_at (number_back c.actor (omega (arith, h.0)) i) (number_back c.entity h.1 i)
    (caveats_back c.caveats h.2 i))
    ∙ rw (lt-ltb c.actor (2 ^ 32) h.0) refl

-- a value that is read as a reference is the value of it
pub cap_is : (v : Plain) (c : Cap) → cap_of v ≡ Some c → v ≡ cap_value c
cap_is v c e = by (cap_read v) e
  where
    spelled : (d : Cap) (b : Bool) → same (cap_value d) v ≡ b → cond {A = Option Cap} b (Some d) None ≡ Some c
        → v ≡ cap_value c
    spelled d true s f = let g : d ≡ c = cc in sym (same_is (cap_value d) v s) ∙ ap cap_value g
    spelled d false s f = absurd cc

    by : (o : Option Cap) → option_and_then (if_spelled v) o ≡ Some c → v ≡ cap_value c
    by None f = absurd cc
    by (Some d) f = spelled d (same (cap_value d) v) refl f

-- a reference that is sound is read from its value
pub cap_back : (c : Cap) → IsSound c → cap_of (cap_value c) ≡ Some c
cap_back c h =
    ap (option_and_then (if_spelled (cap_value c))) (read_back c h)
    ∙ ap (λ b. cond {A = Option Cap} b (Some c) None) (same_self (cap_value c))

pub caps_are_their_values : ((c : Cap) → IsSound c → cap_of (cap_value c) ≡ Some c) × CapsAreTheirValues
caps_are_their_values = (cap_back, cap_is)

-- ---- what is read is sound

entity_low : (v : Plain) (e : ℕ) → number_in v ≡ Some e → e < 2 ^ 63
entity_low (integer (pos n)) e is = by (nat_lt n (2 ^ 63)) refl is
  where
    by : (b : Bool) → nat_lt n (2 ^ 63) ≡ b → cond {A = Option ℕ} b (Some n) None ≡ Some e → e < 2 ^ 63
    by true low is = let one : n ≡ e = cc in grind (arith, nat_tests, low, one)
    by false high is = absurd cc
entity_low v e is = absurd cc

all_read_back : (xs : Plains) → AllByRecursion IsReadBack (caveats_from xs)
all_read_back no_more = tt
all_read_back (then_more x xs) = (caveat_back true x, all_read_back xs)

at_sound : (a e : Option ℕ) (cs : List Caveat) (c : Cap) → ((n : ℕ) → e ≡ Some n → n < 2 ^ 63)
    → AllByRecursion IsReadBack cs → cap_at a e cs ≡ Some c → IsSound c
at_sound (Some a) (Some e) cs c low back is = by (nat_lt a (2 ^ 32)) refl is
  where
    by : (b : Bool) → nat_lt a (2 ^ 32) ≡ b
        → cond {A = Option Cap} b (Some (record { actor = a; entity = e; caveats = cs })) None ≡ Some c → IsSound c
    by true small is =
        let one : record { actor = a; entity = e; caveats = cs } ≡ c = cc in
        rw (← one) (grind (arith, nat_tests, small), low e refl, back)
    by false large is = absurd cc
at_sound (Some a) None cs c low back is = absurd cc
at_sound None e cs c low back is = absurd cc

-- the parts of one that is read
pub made_sound : (e : Plain) (xs : Plains) (m n : ℕ) (cs : List Caveat) → m < 2 ^ 32 → Some n ≡ number_in e
    → cs ≡ caveats_from xs → IsSound (record { actor = m; entity = n; caveats = cs })
made_sound e xs m n cs small is read =
    (small, entity_low e n (sym is), subst (AllByRecursion IsReadBack) (sym read) (all_read_back xs))

-- the value of one that is sound is read as it
pub value_back : (v : Plain) (c : Cap) → IsSound c → v ≡ cap_value c → cap_of v ≡ Some c
value_back v c h is = ap cap_of is ∙ cap_back c h

pub if_ok_back : {E : Type 0} (r : Result Plain E) (c : Cap) → IsSound c → IfOk r (λ v. v ≡ cap_value c)
    → IfOk r (λ v. cap_of v ≡ Some c)
if_ok_back (Ok v) c h is = value_back v c h is
if_ok_back (Err e) c h is = tt

read_sound : (v : Plain) (c : Cap) → cap_read v ≡ Some c → IsSound c
read_sound (sequence (then_more a (then_more e xs))) c is =
    at_sound (number_in a) (number_in e) (caveats_from xs) c (entity_low e) (all_read_back xs) is
read_sound v c is = absurd cc

-- a reference that is read is sound
pub cap_sound : (v : Plain) (c : Cap) → cap_of v ≡ Some c → IsSound c
cap_sound v c is = by (cap_read v) refl is
  where
    kept : (d : Cap) (b : Bool) → cap_read v ≡ Some d → cond {A = Option Cap} b (Some d) None ≡ Some c → IsSound c
    kept d true there f = let one : d ≡ c = cc in rw (← one) (read_sound v d there)
    kept d false there f = absurd cc

    by : (o : Option Cap) → cap_read v ≡ o → option_and_then (if_spelled v) o ≡ Some c → IsSound c
    by None there f = absurd cc
    by (Some d) there f = kept d (same (cap_value d) v) there f
