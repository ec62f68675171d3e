-- References that were read, each kept by its value.
use Rattle.std.proofs.Common.{◌≡◌, ℕ, ◌+◌, ◌<◌, ◌≤◌, List, [], length, Bool, true, false, cond, if◌then◌else◌, Option}
use Rattle.std.proofs.Common.{Some, unwrap_or, refl, ap, sym, ◌∙◌, subst, arith}
use Rattle.std.specs.Map.{lookup}
use Rattle.std.specs.BTreeMap.{is_at}
use Rattle.pv_value.specs.Plain.{Plain}
use Rattle.pv_value.specs.Order.{order}
use Rattle.pv_words.specs.Lemmas.Same.{same_is}
use Rattle.sr_caveat.specs.Caps.{Cap, cap_of}
use Rattle.ac_world.specs.Limits.{most_readings}
use Rattle.ac_world.specs.Readings.{AreRead, HaveRoom}

abbrev pub Kept : Type 0
Kept = List (Plain × Option Cap)

none_found : (v : Plain) (c : Option Cap) → lookup {X = Option Cap} (is_at (order v)) [] ≡ Some c → ⊥
none_found v c e = cc

-- all are forgotten
pub none_room : (es : Kept) → es ≡ [] → HaveRoom es
none_room es none = (
  omega (arith, ap length none),
  λ v c found. absurd (none_found v c (ap (lookup (is_at (order v))) (sym none) ∙ found)),
)

-- or there are few
pub few_room : (es old : Kept) → es ≡ old → length old < most_readings → AreRead old → HaveRoom es
few_room es old same few read = subst HaveRoom (sym same) (few, read)

pub one_more_fits : (n m : ℕ) (there : Bool) → n < most_readings → m ≡ n + (if there then 0 else 1) → m ≤ most_readings
one_more_fits n m true few is = omega (arith, few, is)
one_more_fits n m false few is = omega (arith, few, is)

-- as before, and one more
pub one_more_read : (old new : Kept) (k : Plain) (x : Option Cap) → AreRead old → x ≡ cap_of k
    → ((q : Plain) → lookup (is_at (order q)) new ≡ cond (is_at (order k) q) (Some x) (lookup (is_at (order q)) old))
    → AreRead new
one_more_read old new k x read is puts v c found = by (is_at (order k) v) (same_is k v) (sym (puts v) ∙ found)
  where
    by : (t : Bool) → (t ≡ true → k ≡ v)
        → cond {A = Option (Option Cap)} t (Some x) (lookup (is_at (order v)) old) ≡ Some c → c ≡ cap_of v
    by true same e = sym (ap (λ o. unwrap_or o x) e) ∙ is ∙ ap cap_of (same refl)
    by false same e = read v c e
