-- What a connection has got keeps its numbers where exports are released, since notes mention them.
use Rattle.std.proofs.Common.{◌≡◌, ℕ, ◌==◌, Bool, true, false, List, [], ◌∷◌, map, filter, cond, Option, Some, None}
use Rattle.std.proofs.Common.{refl, ap, sym, ◌∙◌}
use Rattle.std.specs.Prelude.{is_some, unwrap_or, if◌then◌else◌}
use Rattle.std.specs.List.{AllByRecursion}
use Rattle.pv_value.specs.Plain.{Plain}
use Rattle.pv_words.specs.Parts.{same}
use Rattle.ac_world.specs.declared.held.Held.{Held}
use Rattle.rl_ports.specs.Ports.{PortsState, ExportTable, place_of, number_of, has_number, is_mentioned, stays, swept}
use Rattle.rl_wire.specs.Crossing.{foreign_in, numbers_out}
use Rattle.rl_wire.specs.Lemmas.Exporting.{IsExported}
use Rattle.hub_laws.specs.Noting.{note_of}
use Rattle.hub_laws.specs.Settled.{HasNumbers}
use Rattle.hub_laws.proofs.Agreeing.{Agrees, AllAgree, numbers_stay, notes_same}
use Rattle.hub_laws.proofs.Among.{IsAmongAll, all_among, any_map, has_ascending, or_right, same_number}
use Rattle.hub_laws.proofs.Numbered.{AreNoted}

-- a reference whose number stays keeps it
place_among : (r : Plain) (n : ℕ) (test : ℕ → Bool) (es : List (ℕ × Plain)) → place_of r es ≡ Some n → test n ≡ true
    → place_of r (filter (λ e. test e.0) es) ≡ Some n
place_among r n test [] is stay = absurd cc
place_among r n test (e ∷ es) is stay = by (test e.0) refl (λ later. place_among r n test es later stay)
  where
    Rest : Type 0
    Rest = place_of r es ≡ Some n → place_of r (filter (λ d. test d.0) es) ≡ Some n

    here : (a : Bool) → Rest → (if a then Some e.0 else place_of r es) ≡ Some n
        → (if a then Some e.0 else place_of r (filter (λ d. test d.0) es)) ≡ Some n
    here true rest one = one
    here false rest later = rest later

    gone : (a : Bool) → Rest → test e.0 ≡ false → (if a then Some e.0 else place_of r es) ≡ Some n
        → place_of r (filter (λ d. test d.0) es) ≡ Some n
    gone true rest out one =
        absurd (let number : e.0 ≡ n = cc in let clash : false ≡ true = sym out ∙ ap test number ∙ stay in cc)
    gone false rest out later = rest later

    by : (b : Bool) → test e.0 ≡ b → Rest
        → place_of r (cond b (e ∷ filter (λ d. test d.0) es) (filter (λ d. test d.0) es)) ≡ Some n
    by true kept rest = here (same r e.1) rest is
    by false out rest = gone (same r e.1) rest out is

agrees_swept : (q : PortsState) (r : Plain) → IsExported q.exports r → stays q (number_of r q.exports) ≡ true
    → Agrees q.exports (swept q).exports r
agrees_swept q r there stay = (there, by (place_of r q.exports.in_force) refl there stay)
  where
    by : (o : Option ℕ) → place_of r q.exports.in_force ≡ o → is_some o ≡ true
        → stays q (unwrap_or o q.exports.next) ≡ true → place_of r (swept q).exports.in_force ≡ o
    by None is some stay = absurd cc
    by (Some n) is some stay = place_among r n (stays q) q.exports.in_force is stay

-- ---- what is mentioned

mentioned_by : (x : ExportTable) (k : ℕ) (v r : Plain) → IsAmongAll (foreign_in k v) r
    → has_number (number_of r x) (numbers_out x k v) ≡ true
mentioned_by x k v r among =
    has_ascending (number_of r x) (map (λ s. number_of s x) (foreign_in k v))
    ∙ any_map (λ m. m == number_of r x) (λ s. number_of s x) (foreign_in k v)
    ∙ among (λ s. number_of s x == number_of r x) (same_number (number_of r x))

mentioned : (x : ExportTable) (k : ℕ) (got : List (ℕ × Held)) (e : ℕ × Held) (r : Plain) → IsAmongAll got e
    → IsAmongAll (foreign_in k e.1.value) r → is_mentioned (number_of r x) (map (note_of x k) got) ≡ true
mentioned x k got e r held among =
    any_map (λ (d : ℕ × List ℕ). has_number (number_of r x) d.1) (note_of x k) got
    ∙ held (λ d. has_number (number_of r x) (numbers_out x k d.1.value)) (mentioned_by x k e.1.value r among)

-- ---- what is released

pub swept_agrees : (k : ℕ) (q : PortsState) (got : List (ℕ × Held)) → AreNoted k q got
    → AllAgree q.exports (swept q).exports k got
swept_agrees k q got noted =
    all_among (HasNumbers q.exports k)
    (λ e. AllByRecursion (Agrees q.exports (swept q).exports) (foreign_in k e.1.value)) got
    (λ e held numbers. all_among (IsExported q.exports) (Agrees q.exports (swept q).exports) (foreign_in k e.1.value)
    (λ r among there. agrees_swept q r there
    (or_right (has_number (number_of r q.exports) q.pinned) (is_mentioned (number_of r q.exports) q.notes)
    (ap (is_mentioned (number_of r q.exports)) noted.notes ∙ mentioned q.exports k got e r held among)))
    numbers)
    noted.numbers

pub swept_noted : (k : ℕ) (q : PortsState) (got : List (ℕ × Held)) → AreNoted k q got → AreNoted k (swept q) got
swept_noted k q got noted =
    let agrees = swept_agrees k q got noted in
    record {
      numbers = numbers_stay q.exports (swept q).exports k got agrees;
      notes = noted.notes ∙ sym (notes_same q.exports (swept q).exports k got agrees);
    }
