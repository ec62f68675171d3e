-- What bytes begin with: numbers, values one behind another, events and turns.
use Rattle.std.proofs.Common.{◌≡◌, ℕ, suc, ◌-◌, ◌<◌, ◌≤◌, ℤ, pos, List, [], ◌∷◌, ◌++◌, length, take}
use Rattle.std.proofs.Common.{map, Ok, refl, sym, ap, ◌∙◌, subst, append_assoc, length-append, arith}
use Rattle.std.proofs.Math.Seq.{take-append_seam}
use Rattle.std.proofs.lemmas.List.{take-append-drop, append-nil, map-append}
use Rattle.std.specs.Str.{IsUtf8}
use Rattle.std.specs.List.{concat, AllByRecursion}
use Rattle.pv_value.specs.Plain.{Plain, integer, sequence, plains}
use Rattle.pv_words.specs.Words.{labelled, number}
use Rattle.pv_binary.specs.Numbers.{counted, int_bytes}
use Rattle.pv_binary.specs.Reading.{int_at}
use Rattle.pv_binary.specs.Reads.{BeginsWith, LeadsWithin}
use Rattle.pv_binary.specs.Spells.{Spells}
use Rattle.pv_binary.proofs.Varints.{IsBytes, varint_last}
use Rattle.pv_binary.proofs.Ints.{int_sound}
use Rattle.rl_packet.specs.Packets.{Dialect, Event, TurnEvent, event_value, aimed_value}
use Rattle.rl_packet.specs.Wired.{IsTurnEvent}
use Rattle.rl_packet.specs.Spelled.{Begins, BeginsAll, opened}
use Rattle.rl_packet.proofs.Words.{word, fields, value_is, word_text, word_short}

-- ---- one value

pub within_begins : (d : ℕ) (bytes : List ℕ) (v : Plain) (more : List ℕ) → LeadsWithin d bytes v more
    → Begins d bytes v more
within_begins d bytes v more (n, l, s, deep, e) = record {
  front = take n bytes;
  is = sym (take-append-drop n bytes) ∙ ap (λ (r : List ℕ). take n bytes ++ r) (sym e);
  spells = s;
  shallow = deep;
}

pub deeper : (c d : ℕ) (bytes : List ℕ) (v : Plain) (rest : List ℕ) → c ≤ d → Begins c bytes v rest
    → Begins d bytes v rest
deeper c d bytes v rest l b = record {
  front = b.front;
  is = b.is;
  spells = b.spells;
  shallow = let s = b.shallow in omega arith;
}

pub number_begins : (d : ℕ) (bytes more : List ℕ) (z : ℤ) (n : ℕ) (rest : List ℕ) → IsBytes bytes → bytes ≡ 0xb0 ∷ more
    → int_at more ≡ Ok (z, rest) → z ≡ pos n → Begins d bytes (number n) rest
number_begins d bytes more z n rest all e read is =
    let left : IsBytes (0xb0 ∷ more) = subst IsBytes e all in
    let f = int_sound more z rest left.1 read in
    subst (λ (y : ℤ). Begins d bytes (integer y) rest) is
    (record {
      front = 0xb0 ∷ counted (int_bytes z);
      is = e ∙ ap (λ (r : List ℕ). 0xb0 ∷ r) f.0;
      spells = (f.2, refl);
      shallow = omega arith;
    })

pub begins_shorter : (d : ℕ) (bytes : List ℕ) (v : Plain) (rest : List ℕ) → Begins d bytes v rest
    → length rest ≤ length bytes
begins_shorter d bytes v rest b =
    let l = ap (λ (x : List ℕ). length x) b.is in
    let k = length-append b.front rest in
    omega arith

pub begins_with : (bytes : List ℕ) (v : Plain) (rest : List ℕ) → Begins 64 bytes v rest
    → BeginsWith bytes (length bytes - length rest) v
begins_with bytes v rest b =
    let l = ap (λ (x : List ℕ). length x) b.is in
    let k = length-append b.front rest in
    let n : length b.front ≡ length bytes - length rest = omega arith in
    let t : take (length b.front) bytes ≡ b.front = ap (take (length b.front)) b.is ∙ take-append_seam b.front rest in
    let u : take (length bytes - length rest) bytes ≡ b.front = ap (λ m. take m bytes) (sym n) ∙ t in
    (omega arith, subst (λ x. Spells x v) (sym u) b.spells, b.shallow)

-- ---- values one behind another

pub all_none : (d : ℕ) (bytes rest : List ℕ) → bytes ≡ 0x84 ∷ rest → BeginsAll d bytes [] rest
all_none d bytes rest e = record { pieces = []; is = e; spells = tt; shallow = omega arith }

pub all_more : (d : ℕ) (bytes : List ℕ) (x : Plain) (more : List ℕ) (xs : List Plain) (rest : List ℕ)
    → Begins d bytes x more → BeginsAll d more xs rest → BeginsAll d bytes (x ∷ xs) rest
all_more d bytes x more xs rest f g = record {
  pieces = f.front ∷ g.pieces;
  is = f.is ∙ rw (g.is, append_assoc f.front (concat g.pieces) (0x84 ∷ rest));
  spells = (f.spells, g.spells);
  shallow = let a = f.shallow in let b = g.shallow in omega arith;
}

closed : (pieces : List (List ℕ)) (bytes rest : List ℕ) → bytes ≡ concat pieces ++ 0x84 ∷ rest → bytes
    ≡ (concat pieces ++ 0x84 ∷ []) ++ rest
closed pieces bytes rest e = e ∙ sym (append_assoc (concat pieces) (0x84 ∷ []) rest)

pub sequence_begins : (d : ℕ) (bytes more : List ℕ) (xs : List Plain) (rest : List ℕ) → bytes ≡ 0xb5 ∷ more
    → BeginsAll d more xs rest → Begins (suc d) bytes (sequence (plains xs)) rest
sequence_begins d bytes more xs rest e b = record {
  front = 0xb5 ∷ (concat b.pieces ++ 0x84 ∷ []);
  is = e ∙ ap (λ (r : List ℕ). 0xb5 ∷ r) (closed b.pieces more rest b.is);
  spells = (b.pieces, b.spells, refl);
  shallow = let s = b.shallow in omega arith;
}

pub record_begins : (d : ℕ) (label bytes : List ℕ) (xs : List Plain) (rest : List ℕ) → IsUtf8 label
    → length label < 128 → BeginsAll d bytes xs rest → Begins (suc d) (opened label bytes) (labelled label xs) rest
record_begins d label bytes xs rest text short b =
    let n : ℕ = length label in
    let symbol : 0xb3 ∷ n ∷ label ≡ 0xb3 ∷ counted label =
    ap (λ (c : List ℕ). 0xb3 ∷ (c ++ label)) (sym (varint_last n short)) in
    let fs : List ℕ = concat b.pieces ++ 0x84 ∷ [] in
    record {
      front = 0xb4 ∷ ((0xb3 ∷ n ∷ label) ++ fs);
      is = ap (λ (r : List ℕ). opened label r) (closed b.pieces bytes rest b.is)
          ∙ ap (λ (r : List ℕ). 0xb4 ∷ 0xb3 ∷ n ∷ r) (sym (append_assoc label fs rest));
      spells = (0xb3 ∷ n ∷ label, b.pieces, (text, omega arith, symbol), b.spells, refl);
      shallow = let s = b.shallow in omega arith;
    }

-- ---- events

-- an event's fields, behind its label
pub event_begins : (d : Dialect) (e : Event) (bytes rest : List ℕ) → BeginsAll 61 bytes (fields e) rest
    → Begins 62 (opened (word d e) bytes) (event_value d e) rest
event_begins d e bytes rest b =
    subst (λ (v : Plain). Begins 62 (opened (word d e) bytes) v rest) (sym (value_is d e))
    (record_begins 61 (word d e) bytes (fields e) rest (word_text d e) (word_short d e) b)

pub one_field : (bytes : List ℕ) (v : Plain) (end rest : List ℕ) → LeadsWithin 61 bytes v end → end ≡ 0x84 ∷ rest
    → BeginsAll 61 bytes (v ∷ []) rest
one_field bytes v end rest b e =
    all_more 61 bytes v end [] rest (within_begins 61 bytes v end b) (all_none 61 end rest e)

pub handle_field : (bytes : List ℕ) (h : ℕ) (end rest : List ℕ) → Begins 0 bytes (number h) end → end ≡ 0x84 ∷ rest
    → BeginsAll 61 bytes (number h ∷ []) rest
handle_field bytes h end rest n e =
    all_more 61 bytes (number h) end [] rest (deeper 0 61 bytes (number h) end (omega arith) n)
    (all_none 61 end rest e)

pub assertion_fields : (bytes : List ℕ) (v : Plain) (count : List ℕ) (h : ℕ) (end rest : List ℕ)
    → LeadsWithin 61 bytes v count → Begins 0 count (number h) end → end ≡ 0x84 ∷ rest
    → BeginsAll 61 bytes (v ∷ number h ∷ []) rest
assertion_fields bytes v count h end rest b n e =
    all_more 61 bytes v count (number h ∷ []) rest (within_begins 61 bytes v count b)
    (handle_field count h end rest n e)

pub aimed_begins : (d : Dialect) (bytes aim more end rest : List ℕ) (e : TurnEvent) → bytes ≡ 0xb5 ∷ aim
    → Begins 0 aim (number e.oid) more → Begins 62 more (event_value d e.event) end → end ≡ 0x84 ∷ rest
    → Begins 63 bytes (aimed_value d e) rest
aimed_begins d bytes aim more end rest e is o v z =
    sequence_begins 62 bytes aim (number e.oid ∷ event_value d e.event ∷ []) rest is
    (all_more 62 aim (number e.oid) more (event_value d e.event ∷ []) rest
    (deeper 0 62 aim (number e.oid) more (omega arith) o)
    (all_more 62 more (event_value d e.event) end [] rest v (all_none 62 end rest z)))

-- ---- turns

abbrev pub AreBehind : Dialect → List ℕ → List ℕ → List TurnEvent → Type 0
AreBehind d bytes rest es = (xs : List Plain) (r : List ℕ) → BeginsAll 63 rest xs r
    → BeginsAll 63 bytes (map (aimed_value d) es ++ xs) r

appended_good : (es : List TurnEvent) (e : TurnEvent) → AllByRecursion IsTurnEvent es → IsTurnEvent e
    → AllByRecursion IsTurnEvent (es ++ e ∷ [])
appended_good [] e all good = (good, tt)
appended_good (d ∷ es) e all good = (all.0, appended_good es e all.1 good)

pub all_good : (es new : List TurnEvent) (e : TurnEvent) → new ≡ es ++ e ∷ [] → AllByRecursion IsTurnEvent es
    → IsTurnEvent e → AllByRecursion IsTurnEvent new
all_good es new e is all good = subst (AllByRecursion IsTurnEvent) (sym is) (appended_good es e all good)

-- one event more
pub all_step : (d : Dialect) (bytes rest after : List ℕ) (es new : List TurnEvent) (e : TurnEvent) → new ≡ es ++ e ∷ []
    → Begins 63 rest (aimed_value d e) after → AreBehind d bytes rest es → AreBehind d bytes after new
all_step d bytes rest after es new e is one behind xs r all =
    let value : TurnEvent → Plain = aimed_value d in
    let same : map value new ++ xs ≡ map value es ++ value e ∷ xs =
    ap (λ (ds : List TurnEvent). map value ds ++ xs) is
    ∙ ap (λ (ys : List Plain). ys ++ xs) (map-append value es (e ∷ []))
    ∙ append_assoc (map value es) (value e ∷ []) xs in
    subst (λ (ys : List Plain). BeginsAll 63 bytes ys r) (sym same)
    (behind (value e ∷ xs) r (all_more 63 rest (value e) after xs r one all))

pub all_ended : (d : Dialect) (bytes rest after : List ℕ) (es : List TurnEvent) → rest ≡ 0x84 ∷ after
    → AreBehind d bytes rest es → BeginsAll 63 bytes (map (aimed_value d) es) after
all_ended d bytes rest after es e behind =
    subst (λ (ys : List Plain). BeginsAll 63 bytes ys after) (append-nil (map (aimed_value d) es))
    (behind [] after (all_none 63 rest after e))

pub turn_begins : (d : Dialect) (bytes more : List ℕ) (es : List TurnEvent) (rest : List ℕ) → bytes ≡ 0xb5 ∷ more
    → BeginsAll 63 more (map (aimed_value d) es) rest
    → BeginsWith bytes (length bytes - length rest) (sequence (plains (map (aimed_value d) es)))
turn_begins d bytes more es rest e all =
    begins_with bytes (sequence (plains (map (aimed_value d) es))) rest
    (sequence_begins 63 bytes more (map (aimed_value d) es) rest e all)
