-- Where no part of a turn begins bytes: what they begin with is one value, and what is behind it is one rest.
use Rattle.std.proofs.Common.{◌≡◌, ℕ, suc, max, ◌<◌, ◌≤◌, ◌^◌, ℤ, pos, true, false, List, [], ◌∷◌, ◌++◌}
use Rattle.std.proofs.Common.{length, take, drop, map, Ok, Err, refl, sym, ap, ◌∙◌, subst, append_assoc}
use Rattle.std.proofs.Common.{length-append, arith}
use Rattle.std.proofs.Math.Seq.{take-append_seam, drop-append_seam}
use Rattle.std.proofs.lemmas.List.{take-append-drop, append_cancel_left}
use Rattle.std.specs.List.{concat, AllByRecursion}
use Rattle.pv_value.specs.Plain.{Plain, sequence, plains, no_more, then_more}
use Rattle.pv_value.specs.Depth.{depth, deepest}
use Rattle.pv_words.specs.Words.{labelled, number}
use Rattle.pv_binary.specs.Numbers.{counted, int_bytes}
use Rattle.pv_binary.specs.Reading.{int_at}
use Rattle.pv_binary.specs.Reads.{BeginsWith, LeadsWithin}
use Rattle.pv_binary.specs.Spells.{Spells, Pieces}
use Rattle.pv_binary.specs.declared.faults.BinKind.{BinKind}
use Rattle.pv_read.specs.Lemmas.Binds.{parts}
use Rattle.pv_binary.proofs.Varints.{varint_last}
use Rattle.pv_binary.proofs.Ints.{int_again}
use Rattle.pv_binary.proofs.Whole.{unique_law}
use Rattle.rl_packet.specs.Packets.{Dialect, Event, Assert, Retract, Message, Sync, TurnEvent}
use Rattle.rl_packet.specs.Packets.{event_value, aimed_value, assert_word, retract_word, message_word, sync_word}
use Rattle.rl_packet.specs.Wired.{is_wired, is_peer, IsEvent, IsTurnEvent}
use Rattle.rl_packet.specs.Spelled.{Begins, BeginsAll, opened, NoNumber, NoEvent, NoAimed, NoEvents, NoTurn}
use Rattle.rl_packet.proofs.Words.{word, fields, value_is, word_short, same_kind}
use Rattle.rl_packet.proofs.Fronts.{within_begins}

-- ---- one value

pub same_begins : (c d : ℕ) (bytes : List ℕ) (v w : Plain) (more rest : List ℕ) → Begins c bytes v more
    → Begins d bytes w rest → (v ≡ w) × (more ≡ rest)
same_begins c d bytes v w more rest f g =
    let e : f.front ++ more ≡ g.front ++ rest = sym f.is ∙ g.is in
    let u = unique_law f.front g.front more rest v w f.spells g.spells e in
    (u.1, append_cancel_left g.front more rest (ap (λ (r : List ℕ). r ++ more) (sym u.0) ∙ e))

begins_within : (d : ℕ) (bytes : List ℕ) (v : Plain) (rest : List ℕ) → Begins d bytes v rest
    → LeadsWithin d bytes v rest
begins_within d bytes v rest b =
    let l = ap (λ (x : List ℕ). length x) b.is in
    let k = length-append b.front rest in
    let n : ℕ = length b.front in
    let t : take n bytes ≡ b.front = ap (take n) b.is ∙ take-append_seam b.front rest in
    let u : drop n bytes ≡ rest = ap (drop n) b.is ∙ drop-append_seam b.front rest in
    (n, omega arith, subst (λ x. Spells x v) (sym t) b.spells, b.shallow, sym u)

with_begins : (bytes : List ℕ) (n : ℕ) (v : Plain) → BeginsWith bytes n v → Begins 64 bytes v (drop n bytes)
with_begins bytes n v b = record {
  front = take n bytes;
  is = sym (take-append-drop n bytes);
  spells = b.1;
  shallow = b.2;
}

flat : (d : ℕ) (bytes : List ℕ) (n : ℕ) (rest : List ℕ) → Begins d bytes (number n) rest
    → Begins 0 bytes (number n) rest
flat d bytes n rest b = record { front = b.front; is = b.is; spells = b.spells; shallow = omega arith }

-- ---- what a compound holds

ended : (d : ℕ) (bytes rest : List ℕ) → BeginsAll d bytes [] rest → bytes ≡ 0x84 ∷ rest
ended d bytes rest b = by b.pieces b.spells b.is
  where
    by : (ps : List (List ℕ)) → Pieces ps no_more → bytes ≡ concat ps ++ 0x84 ∷ rest → bytes ≡ 0x84 ∷ rest
    by [] s e = e
    by (p ∷ ps) s e = absurd s

abbrev First : ℕ → List ℕ → Plain → List Plain → List ℕ → Type 0
First d bytes x xs rest = (more : List ℕ) × Begins d bytes x more × BeginsAll d more xs rest

first : (d : ℕ) (bytes : List ℕ) (x : Plain) (xs : List Plain) (rest : List ℕ) → BeginsAll d bytes (x ∷ xs) rest
    → First d bytes x xs rest
first d bytes x xs rest b = by b.pieces b.is b.spells b.shallow
  where
    by : (ps : List (List ℕ)) → bytes ≡ concat ps ++ 0x84 ∷ rest → Pieces ps (then_more x (plains xs))
        → max (depth x) (deepest (plains xs)) ≤ d → First d bytes x xs rest
    by [] e s l = absurd s
    by (p ∷ ps) e s l = (
      concat ps ++ 0x84 ∷ rest,
      record { front = p; is = e ∙ append_assoc p (concat ps) (0x84 ∷ rest); spells = s.0; shallow = omega arith },
      record { pieces = ps; is = refl; spells = s.1; shallow = omega arith },
    )

in_sequence : (d : ℕ) (bytes : List ℕ) (xs : List Plain) (rest : List ℕ)
    → Begins (suc d) bytes (sequence (plains xs)) rest
    → (more : List ℕ) × (bytes ≡ 0xb5 ∷ more) × BeginsAll d more xs rest
in_sequence d bytes xs rest b =
    let ps = b.spells.0 in
    let s = b.shallow in (
      concat ps ++ 0x84 ∷ rest,
      b.is ∙ ap (λ (r : List ℕ). r ++ rest) b.spells.2
          ∙ ap (λ (r : List ℕ). 0xb5 ∷ r) (append_assoc (concat ps) (0x84 ∷ []) rest),
      record { pieces = ps; is = refl; spells = b.spells.1; shallow = omega arith },
    )

in_record : (d : ℕ) (label bytes : List ℕ) (xs : List Plain) (rest : List ℕ) → length label < 128
    → Begins (suc d) bytes (labelled label xs) rest
    → (more : List ℕ) × (bytes ≡ opened label more) × BeginsAll d more xs rest
in_record d label bytes xs rest short b =
    let c = b.spells.0 in
    let ps = b.spells.1 in
    let s = b.shallow in
    let fs : List ℕ = concat ps ++ 0x84 ∷ [] in
    let symbol : c ≡ 0xb3 ∷ length label ∷ label =
    b.spells.2.2 ∙ ap (λ (t : List ℕ). 0xb3 ∷ (t ++ label)) (varint_last (length label) short) in (
      concat ps ++ 0x84 ∷ rest,
      b.is ∙ ap (λ (r : List ℕ). r ++ rest) b.spells.4
          ∙ ap (λ (q : List ℕ). 0xb4 ∷ ((q ++ fs) ++ rest)) symbol
          ∙ ap (λ (r : List ℕ). 0xb4 ∷ 0xb3 ∷ length label ∷ r) (append_assoc label fs rest)
          ∙ ap (λ (r : List ℕ). opened label r) (append_assoc (concat ps) (0x84 ∷ []) rest),
      record { pieces = ps; is = refl; spells = b.spells.3; shallow = omega arith },
    )

same_front : (s t xs ys : List ℕ) → length s ≡ length t → s ++ xs ≡ t ++ ys → (s ≡ t) × (xs ≡ ys)
same_front [] [] xs ys l e = (refl, e)
same_front [] (b ∷ t) xs ys l e = absurd (omega arith)
same_front (a ∷ s) [] xs ys l e = absurd (omega arith)
same_front (a ∷ s) (b ∷ t) xs ys l e =
    let head : a ≡ b = cc in
    let tail : s ++ xs ≡ t ++ ys = cc in
    let r = same_front s t xs ys (omega arith) tail in
    (λ i. head i ∷ r.0 i, r.1)

same_opened : (s t xs ys : List ℕ) → opened s xs ≡ opened t ys → (s ≡ t) × (xs ≡ ys)
same_opened s t xs ys e =
    let l : length s ≡ length t = cc in
    let f : s ++ xs ≡ t ++ ys = cc in
    same_front s t xs ys l f

in_opened : (d : ℕ) (s t bytes : List ℕ) (xs : List Plain) (rest : List ℕ) → length t < 128
    → Begins (suc d) (opened s bytes) (labelled t xs) rest → (s ≡ t) × BeginsAll d bytes xs rest
in_opened d s t bytes xs rest short b =
    let r = in_record d t (opened s bytes) xs rest short b in
    let e = same_opened s t bytes r.0 r.1 in
    (e.0, subst (λ x. BeginsAll d x xs rest) (sym e.1) r.2)

-- ---- numbers

in_number : (d : ℕ) (bytes : List ℕ) (n : ℕ) (rest : List ℕ) → Begins d bytes (number n) rest
    → (more : List ℕ) × (bytes ≡ 0xb0 ∷ more) × (int_at more ≡ Ok (pos n, rest))
in_number d bytes n rest b = (
  counted (int_bytes (pos n)) ++ rest,
  b.is ∙ ap (λ (r : List ℕ). r ++ rest) b.spells.1,
  int_again (pos n) rest b.spells.0,
)

pub no_integer : (bytes : List ℕ) → ((digits : List ℕ) → bytes ≡ 0xb0 ∷ digits → ⊥) → NoNumber bytes
no_integer bytes none n rest l b = let f = in_number 0 bytes n rest b in none f.0 f.1

-- the same digits, read
digits_read : (bytes digits : List ℕ) (n : ℕ) (rest : List ℕ) → bytes ≡ 0xb0 ∷ digits → Begins 0 bytes (number n) rest
    → int_at digits ≡ Ok (pos n, rest)
digits_read bytes digits n rest e b =
    let f = in_number 0 bytes n rest b in
    let is : 0xb0 ∷ f.0 ≡ 0xb0 ∷ digits = sym f.1 ∙ e in
    let same : f.0 ≡ digits = cc in
    subst (λ d. int_at d ≡ Ok (pos n, rest)) same f.2

pub no_digits : (bytes digits : List ℕ) (k : BinKind) → bytes ≡ 0xb0 ∷ digits → int_at digits ≡ Err k → NoNumber bytes
no_digits bytes digits k e bad n rest l b = let w = sym bad ∙ digits_read bytes digits n rest e b in cc

pub no_small : (bytes digits : List ℕ) (z : ℤ) (more : List ℕ) → bytes ≡ 0xb0 ∷ digits → int_at digits ≡ Ok (z, more)
    → ((m : ℕ) → m < 2 ^ 63 → z ≡ pos m → ⊥) → NoNumber bytes
no_small bytes digits z more e good none n rest l b =
    none n l (parts z (pos n) more rest (sym good ∙ digits_read bytes digits n rest e b)).0

-- ---- fields

two_fields : (d : ℕ) (bytes : List ℕ) (v w : Plain) (rest : List ℕ) → BeginsAll d bytes (v ∷ w ∷ []) rest
    → (more : List ℕ) × (end : List ℕ) × Begins d bytes v more × Begins d more w end × (end ≡ 0x84 ∷ rest)
two_fields d bytes v w rest b =
    let f = first d bytes v (w ∷ []) rest b in
    let g = first d f.0 w [] rest f.2 in
    (f.0, g.0, f.1, g.1, ended d g.0 rest g.2)

-- no value is the only one before an end
abbrev pub NoOne : List ℕ → (Plain → Type 0) → Type 0
NoOne bytes P = (v : Plain) (rest : List ℕ) → P v → BeginsAll 61 bytes (v ∷ []) rest → ⊥

pub one_missing : (bytes : List ℕ) → ((v : Plain) (more : List ℕ) → LeadsWithin 61 bytes v more → ⊥)
    → (v : Plain) (rest : List ℕ) → BeginsAll 61 bytes (v ∷ []) rest → ⊥
one_missing bytes none v rest b =
    let f = first 61 bytes v [] rest b in
    none v f.0 (begins_within 61 bytes v f.0 f.1)

pub one_unended : (bytes : List ℕ) (w : Plain) (end : List ℕ) → LeadsWithin 61 bytes w end
    → ((rest : List ℕ) → end ≡ 0x84 ∷ rest → ⊥) → (v : Plain) (rest : List ℕ) → BeginsAll 61 bytes (v ∷ []) rest → ⊥
one_unended bytes w end found none v rest b =
    let f = first 61 bytes v [] rest b in
    let same = same_begins 61 61 bytes w v end f.0 (within_begins 61 bytes w end found) f.1 in
    none rest (same.1 ∙ ended 61 f.0 rest f.2)

pub one_unfit : (bytes : List ℕ) (P : Plain → Type 0) (w : Plain) (end : List ℕ) → BeginsAll 61 bytes (w ∷ []) end
    → (P w → ⊥) → NoOne bytes P
one_unfit bytes P w end found none v rest p b =
    let f = first 61 bytes w [] end found in
    let g = first 61 bytes v [] rest b in
    let same = same_begins 61 61 bytes w v f.0 g.0 f.1 g.1 in
    none (subst P (sym same.0) p)

-- ---- events

-- where the fields of no event with this label stand behind it
pub no_fields : (d : Dialect) (label bytes : List ℕ)
    → ((e : Event) (rest : List ℕ) → IsEvent e → label ≡ word d e → BeginsAll 61 bytes (fields e) rest → ⊥)
    → NoEvent d (opened label bytes)
no_fields d label bytes none e rest good b =
    let c : Begins 62 (opened label bytes) (labelled (word d e) (fields e)) rest =
    subst (λ v. Begins 62 (opened label bytes) v rest) (value_is d e) b in
    let r = in_opened 61 label (word d e) bytes (fields e) rest (word_short d e) c in
    none e rest good r.0 r.1

-- no value and no number are the only fields
abbrev pub NoTwo : List ℕ → Type 0
NoTwo bytes =
    (v : Plain) (h : ℕ) (rest : List ℕ) → (is_wired v ≡ true) × (h < 2 ^ 63)
    → BeginsAll 61 bytes (v ∷ number h ∷ []) rest → ⊥

module _ (d : Dialect) (bytes : List ℕ) where
  pub no_assertion : NoTwo bytes → NoEvent d (opened (assert_word d) bytes)
  no_assertion none = no_fields d (assert_word d) bytes by
    where
      by : (e : Event) (rest : List ℕ) → IsEvent e → assert_word d ≡ word d e → BeginsAll 61 bytes (fields e) rest → ⊥
      by (Assert v h) rest good is b = none v h rest good b
      by (Retract h) rest good is b = absurd (omega (arith, same_kind d d (Assert (number 0) 0) (Retract h) is))
      by (Message v) rest good is b = absurd (omega (arith, same_kind d d (Assert (number 0) 0) (Message v) is))
      by (Sync v) rest good is b = absurd (omega (arith, same_kind d d (Assert (number 0) 0) (Sync v) is))

  pub no_retraction : ((h : ℕ) (rest : List ℕ) → h < 2 ^ 63 → BeginsAll 61 bytes (number h ∷ []) rest → ⊥)
      → NoEvent d (opened (retract_word d) bytes)
  no_retraction none = no_fields d (retract_word d) bytes by
    where
      by : (e : Event) (rest : List ℕ) → IsEvent e → retract_word d ≡ word d e → BeginsAll 61 bytes (fields e) rest → ⊥
      by (Assert v h) rest good is b = absurd (omega (arith, same_kind d d (Retract 0) (Assert v h) is))
      by (Retract h) rest good is b = none h rest good b
      by (Message v) rest good is b = absurd (omega (arith, same_kind d d (Retract 0) (Message v) is))
      by (Sync v) rest good is b = absurd (omega (arith, same_kind d d (Retract 0) (Sync v) is))

  pub no_message : NoOne bytes (λ v. is_wired v ≡ true) → NoEvent d (opened (message_word d) bytes)
  no_message none = no_fields d (message_word d) bytes by
    where
      by : (e : Event) (rest : List ℕ) → IsEvent e → message_word d ≡ word d e → BeginsAll 61 bytes (fields e) rest → ⊥
      by (Assert v h) rest good is b = absurd (omega (arith, same_kind d d (Message v) (Assert v h) is))
      by (Retract h) rest good is b = absurd (omega (arith, same_kind d d (Message (number 0)) (Retract h) is))
      by (Message v) rest good is b = none v rest good b
      by (Sync v) rest good is b = absurd (omega (arith, same_kind d d (Message v) (Sync v) is))

  pub no_sync : NoOne bytes (λ v. is_peer v ≡ true) → NoEvent d (opened (sync_word d) bytes)
  no_sync none = no_fields d (sync_word d) bytes by
    where
      by : (e : Event) (rest : List ℕ) → IsEvent e → sync_word d ≡ word d e → BeginsAll 61 bytes (fields e) rest → ⊥
      by (Assert v h) rest good is b = absurd (omega (arith, same_kind d d (Sync v) (Assert v h) is))
      by (Retract h) rest good is b = absurd (omega (arith, same_kind d d (Sync (number 0)) (Retract h) is))
      by (Message v) rest good is b = absurd (omega (arith, same_kind d d (Sync v) (Message v) is))
      by (Sync v) rest good is b = none v rest good b

  pub no_word : ((label more : List ℕ) → bytes ≡ opened label more → ⊥) → NoEvent d bytes
  no_word none e rest good b =
      let c : Begins 62 bytes (labelled (word d e) (fields e)) rest =
      subst (λ v. Begins 62 bytes v rest) (value_is d e) b in
      let r = in_record 61 (word d e) bytes (fields e) rest (word_short d e) c in
      none (word d e) r.0 r.1

  pub no_such_word : (label : List ℕ) → (label ≡ assert_word d → ⊥) → (label ≡ retract_word d → ⊥)
      → (label ≡ message_word d → ⊥) → (label ≡ sync_word d → ⊥) → NoEvent d (opened label bytes)
  no_such_word label a r m s = no_fields d label bytes by
    where
      by : (e : Event) (rest : List ℕ) → IsEvent e → label ≡ word d e → BeginsAll 61 bytes (fields e) rest → ⊥
      by (Assert v h) rest good is b = a is
      by (Retract h) rest good is b = r is
      by (Message v) rest good is b = m is
      by (Sync v) rest good is b = s is

-- an assertion's fields: no value, no number behind it, no end, an unwired value
module _ (bytes : List ℕ) where
  pub two_missing : ((v : Plain) (more : List ℕ) → LeadsWithin 61 bytes v more → ⊥) → NoTwo bytes
  two_missing none v h rest good b =
      let f = two_fields 61 bytes v (number h) rest b in
      none v f.0 (begins_within 61 bytes v f.0 f.2)

  module _ (w : Plain) (count : List ℕ) (found : LeadsWithin 61 bytes w count) where
    pub two_uncounted : NoNumber count → NoTwo bytes
    two_uncounted none v h rest good b =
        let f = two_fields 61 bytes v (number h) rest b in
        let same = same_begins 61 61 bytes v w f.0 count f.2 (within_begins 61 bytes w count found) in
        none h f.1 good.1 (subst (λ m. Begins 0 m (number h) f.1) same.1 (flat 61 f.0 h f.1 f.3))

    pub two_unended : (n : ℕ) (end : List ℕ) → Begins 0 count (number n) end
        → ((rest : List ℕ) → end ≡ 0x84 ∷ rest → ⊥) → NoTwo bytes
    two_unended n end number_found none v h rest good b =
        let f = two_fields 61 bytes v (number h) rest b in
        let same = same_begins 61 61 bytes v w f.0 count f.2 (within_begins 61 bytes w count found) in
        let here : Begins 61 count (number h) f.1 = subst (λ m. Begins 61 m (number h) f.1) same.1 f.3 in
        none rest ((same_begins 0 61 count (number n) (number h) end f.1 number_found here).1 ∙ f.4)

    pub two_unwired : (is_wired w ≡ false) → NoTwo bytes
    two_unwired unwired v h rest good b =
        let f = two_fields 61 bytes v (number h) rest b in
        let same = same_begins 61 61 bytes v w f.0 count f.2 (within_begins 61 bytes w count found) in
        let is = sym good.0 ∙ ap is_wired same.0 ∙ unwired in
        cc

-- a retraction's field: no number, no end
pub handle_missing : (bytes : List ℕ) → NoNumber bytes → (h : ℕ) (rest : List ℕ) → h < 2 ^ 63
    → BeginsAll 61 bytes (number h ∷ []) rest → ⊥
handle_missing bytes none h rest l b =
    let f = first 61 bytes (number h) [] rest b in
    none h f.0 l (flat 61 bytes h f.0 f.1)

pub handle_unended : (bytes : List ℕ) (n : ℕ) (end : List ℕ) → Begins 0 bytes (number n) end
    → ((rest : List ℕ) → end ≡ 0x84 ∷ rest → ⊥) → (h : ℕ) (rest : List ℕ) → h < 2 ^ 63
    → BeginsAll 61 bytes (number h ∷ []) rest → ⊥
handle_unended bytes n end found none h rest l b =
    let f = first 61 bytes (number h) [] rest b in
    none rest ((same_begins 0 61 bytes (number n) (number h) end f.0 found f.1).1 ∙ ended 61 f.0 rest f.2)

-- ---- events at objects

no_tag : (bytes : List ℕ) → ((more : List ℕ) → bytes ≡ 0xb5 ∷ more → ⊥) → (d : ℕ) (xs : List Plain) (rest : List ℕ)
    → Begins (suc d) bytes (sequence (plains xs)) rest → ⊥
no_tag bytes none d xs rest b = let f = in_sequence d bytes xs rest b in none f.0 f.1

pub no_aim : (d : Dialect) (bytes : List ℕ) → ((more : List ℕ) → bytes ≡ 0xb5 ∷ more → ⊥) → NoAimed d bytes
no_aim d bytes none e rest good b = no_tag bytes none 62 (number e.oid ∷ event_value d e.event ∷ []) rest b

-- what a sequence holds, behind its first byte
behind_tag : (d : ℕ) (bytes more : List ℕ) (xs : List Plain) (rest : List ℕ) → bytes ≡ 0xb5 ∷ more
    → Begins (suc d) bytes (sequence (plains xs)) rest → BeginsAll d more xs rest
behind_tag d bytes more xs rest e b =
    let f = in_sequence d bytes xs rest b in
    let is : 0xb5 ∷ f.0 ≡ 0xb5 ∷ more = sym f.1 ∙ e in
    let same : f.0 ≡ more = cc in
    subst (λ m. BeginsAll d m xs rest) same f.2

module _ (d : Dialect) (bytes aim : List ℕ) (is : bytes ≡ 0xb5 ∷ aim) where
  pub no_oid : NoNumber aim → NoAimed d bytes
  no_oid none e rest good b =
      let f = two_fields 62 aim (number e.oid) (event_value d e.event) rest (behind_tag 62 bytes aim _ rest is b) in
      none e.oid f.0 good.0 (flat 62 aim e.oid f.0 f.2)

  module _ (n : ℕ) (more : List ℕ) (found : Begins 0 aim (number n) more) where
    event_behind : (e : TurnEvent) (rest : List ℕ) → Begins 63 bytes (aimed_value d e) rest
        → (end : List ℕ) × Begins 62 more (event_value d e.event) end × (end ≡ 0x84 ∷ rest)
    event_behind e rest b =
        let f = two_fields 62 aim (number e.oid) (event_value d e.event) rest (behind_tag 62 bytes aim _ rest is b) in
        let same = same_begins 62 0 aim (number e.oid) (number n) f.0 more f.2 found in
        (f.1, subst (λ m. Begins 62 m (event_value d e.event) f.1) same.1 f.3, f.4)

    pub no_event : NoEvent d more → NoAimed d bytes
    no_event none e rest good b = let f = event_behind e rest b in none e.event f.0 good.1 f.1

    pub no_end : (v : Plain) (end : List ℕ) → Begins 62 more v end → ((rest : List ℕ) → end ≡ 0x84 ∷ rest → ⊥)
        → NoAimed d bytes
    no_end v end event none e rest good b =
        let f = event_behind e rest b in
        none rest ((same_begins 62 62 more v (event_value d e.event) end f.0 event f.1).1 ∙ f.2)

-- ---- turns

-- what events begin the bytes, others begin what is left
abbrev pub Leave : Dialect → List ℕ → List ℕ → Type 0
Leave d bytes rest =
    (es : List TurnEvent) (r : List ℕ) → AllByRecursion IsTurnEvent es → BeginsAll 63 bytes (map (aimed_value d) es) r
    → (fs : List TurnEvent) × AllByRecursion IsTurnEvent fs × BeginsAll 63 rest (map (aimed_value d) fs) r

pub leave_all : (d : Dialect) (bytes : List ℕ) → Leave d bytes bytes
leave_all d bytes es r good b = (es, good, b)

pub leave_step : (d : Dialect) (bytes rest after : List ℕ) (v : Plain) → ((r : List ℕ) → rest ≡ 0x84 ∷ r → ⊥)
    → Begins 63 rest v after → Leave d bytes rest → Leave d bytes after
leave_step d bytes rest after v none found leave es r good b =
    let f = leave es r good b in by f.0 f.1 f.2
  where
    by : (fs : List TurnEvent) → AllByRecursion IsTurnEvent fs → BeginsAll 63 rest (map (aimed_value d) fs) r
        → (gs : List TurnEvent) × AllByRecursion IsTurnEvent gs × BeginsAll 63 after (map (aimed_value d) gs) r
    by [] all c = absurd (none r (ended 63 rest r c))
    by (g ∷ gs) all c =
        let f = first 63 rest (aimed_value d g) (map (aimed_value d) gs) r c in
        let same = same_begins 63 63 rest (aimed_value d g) v f.0 after f.1 found in
        (gs, all.1, subst (λ m. BeginsAll 63 m (map (aimed_value d) gs) r) same.1 f.2)

pub no_more_events : (d : Dialect) (bytes rest : List ℕ) → ((r : List ℕ) → rest ≡ 0x84 ∷ r → ⊥) → NoAimed d rest
    → Leave d bytes rest → NoEvents d bytes
no_more_events d bytes rest none no_next leave es r good b =
    let f = leave es r good b in by f.0 f.1 f.2
  where
    by : (fs : List TurnEvent) → AllByRecursion IsTurnEvent fs → BeginsAll 63 rest (map (aimed_value d) fs) r → ⊥
    by [] all c = none r (ended 63 rest r c)
    by (g ∷ gs) all c =
        let f = first 63 rest (aimed_value d g) (map (aimed_value d) gs) r c in
        no_next g f.0 all.0 f.1

nothing_begins : (d : ℕ) (xs : List Plain) (r : List ℕ) → BeginsAll d [] xs r → ⊥
nothing_begins d xs r b =
    let l = ap (λ (x : List ℕ). length x) b.is in
    absurd (omega (arith, length-append (concat b.pieces) (0x84 ∷ r)))

pub nothing_left : (d : Dialect) (bytes rest : List ℕ) → length rest ≤ 0 → Leave d bytes rest → NoEvents d bytes
nothing_left d bytes [] l leave es r good b =
    let f = leave es r good b in nothing_begins 63 (map (aimed_value d) f.0) r f.2
nothing_left d bytes (x ∷ xs) l leave es r good b = absurd (omega arith)

pub aimed_shorter : (d : Dialect) (bytes : List ℕ) (e : TurnEvent) (rest : List ℕ)
    → Begins 63 bytes (aimed_value d e) rest → length rest < length bytes
aimed_shorter d bytes e rest b =
    let l = ap (λ (x : List ℕ). length x) b.is in
    let k = length-append b.front rest in
    let f = ap (λ (x : List ℕ). length x) b.spells.2 in
    omega arith

pub no_sequence : (d : Dialect) (bytes : List ℕ) → ((more : List ℕ) → bytes ≡ 0xb5 ∷ more → ⊥) → NoTurn d bytes
no_sequence d bytes none es n good b =
    let xs : List Plain = map (aimed_value d) es in
    no_tag bytes none 63 xs (drop n bytes) (with_begins bytes n (sequence (plains xs)) b)

pub no_turn_begins : (d : Dialect) (bytes more : List ℕ) → bytes ≡ 0xb5 ∷ more → NoEvents d more → NoTurn d bytes
no_turn_begins d bytes more is none es n good b =
    let xs : List Plain = map (aimed_value d) es in
    none es (drop n bytes) good
    (behind_tag 63 bytes more xs (drop n bytes) is (with_begins bytes n (sequence (plains xs)) b))
