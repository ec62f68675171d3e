-- The bytes of a load read back: they are the values of the load.
use Rattle.std.proofs.Common.{◌≡◌, ℕ, zero, suc, ◌*◌, ◌^◌, ◌<◌, ◌≤◌, List, [], ◌∷◌, ◌++◌, length, take, drop, codes}
use Rattle.std.proofs.Common.{true, refl, sym, ap, subst, arith, length-append}
use Rattle.std.specs.List.{AllByRecursion, flat_map}
use Rattle.pv_value.specs.Plain.{Plain, byte_string, symbol}
use Rattle.pv_value.specs.Depth.{depth}
use Rattle.pv_value.specs.WellFormed.{IsWellFormed}
use Rattle.pv_words.specs.Words.{labelled, number}
use Rattle.pv_read.specs.Leading.{LeadsOver}
use Rattle.pv_read.specs.Limits.{read_depth}
use Rattle.pv_binary.specs.Written.{written}
use Rattle.pv_binary.specs.Spells.{Spells}
use Rattle.pv_binary.specs.Reads.{Leads}
use Rattle.pv_binary.proofs.Written.{spelled}
use Rattle.rl_packet.specs.Packets.{packet_value}
use Rattle.rl_packet.specs.declared.packets.TurnEvent.{TurnEvent}
use Rattle.sc_events.specs.Inputs.{AreRead}
use Rattle.sc_events.specs.Limits.{most_input}
use Rattle.sc_load.specs.Limits.{most_items}
use Rattle.sc_load.specs.Loads.{rounded_up, observes, loads, newer_packet, sent_by, connection_of, turn_of}
use Rattle.sc_load.specs.Loads.{turns_of, all_turns, opens, load_events, load_bytes}
use Rattle.load_laws.specs.LoadEvents.{connections_of}
use Rattle.load_laws.proofs.LoadEvents.{both, few_connections, own_turn}
use Rattle.load_laws.proofs.Spelled.{all_small, small_text}

-- ---- what is written leads

-- what is written of a value that isn't too long spells it, and it nests no deeper than is read
pub record IsReadable (v : Plain) : Type 0 where
  pub spells : length (written v) ≤ most_input → Spells (written v) v
  pub shallow : depth v ≤ read_depth

-- of two lists one behind the other the first is the front, and the second the rest
whole_front : (xs ys : List ℕ) → take (length xs) (xs ++ ys) ≡ xs
whole_front [] ys = refl
whole_front (x ∷ xs) ys = ap (λ zs. x ∷ zs) (whole_front xs ys)

whole_rest : (xs ys : List ℕ) → drop (length xs) (xs ++ ys) ≡ ys
whole_rest [] ys = refl
whole_rest (x ∷ xs) ys = whole_rest xs ys

-- what is written of a value leads to it, whatever follows
leads_written : (v : Plain) (more : List ℕ) → Spells (written v) v → depth v ≤ read_depth
    → Leads (written v ++ more) v more
leads_written v more spells shallow = (
  length (written v),
  (
    omega (arith, length-append (written v) more),
    subst (λ b. Spells b v) (sym (whole_front (written v) more)) spells,
    shallow,
  ),
  sym (whole_rest (written v) more),
)

-- so values one behind another are read back to the last
pub values_read : (vs : List Plain) → AllByRecursion IsReadable vs → length (flat_map written vs) ≤ most_input
    → LeadsOver Leads (flat_map written vs) vs []
values_read [] all few = refl
values_read (v ∷ vs) all few =
    let long = length-append (written v) (flat_map written vs) in (
      flat_map written vs,
      leads_written v (flat_map written vs) (all.0.spells (omega (arith, long, few))) all.0.shallow,
      values_read vs all.1 (omega (arith, long, few)),
    )

-- ---- words and numbers

-- a number of 32 bits may be written
small_number : (j : ℕ) → j < 2 ^ 32 → IsWellFormed (number j)
small_number j small = omega (arith, small)

-- ---- the values of a load

module _ (word : List ℕ) (small : all_small word ≡ true) (short : length word < 100) where
  label : IsWellFormed (symbol word)
  label = (small_text word small, omega (arith, short))

  -- a record with this word and a number
  number_readable : (j : ℕ) → j < 2 ^ 32 → IsReadable (labelled word (number j ∷ []))
  number_readable j own = record {
    spells = λ few. spelled (labelled word (number j ∷ [])) (label, (small_number j own, tt));
    shallow = omega arith;
  }

  -- bytes are no longer than what is written of them
  within : (s : List ℕ) (x : Plain) → length s ≤ length (written (labelled word (x ∷ byte_string s ∷ [])))
  within s x = simp length-append (omega arith)

  -- a record with this word, a number and bytes
  sending_readable : (j : ℕ) (s : List ℕ) → j < 2 ^ 32
      → IsReadable (labelled word (number j ∷ byte_string s ∷ []))
  sending_readable j s own = record {
    spells = λ few. (
      written (symbol word),
      written (number j) ∷ written (byte_string s) ∷ [],
      spelled (symbol word) label,
      (spelled (number j) (small_number j own), ((omega (arith, within s (number j), few), refl), tt)),
      refl,
    );
    shallow = omega arith;
  }

-- connections that come, one turn, and turns one behind another
opens_readable : (k : ℕ) → AllByRecursion IsReadable (opens k)
opens_readable zero = tt
opens_readable (suc k) =
    both IsReadable (opens k) _ (opens_readable k)
    (number_readable (codes "open") refl (omega arith) 1 (omega arith), tt)

turn_readable : (j : ℕ) (es : List TurnEvent) → j < 2 ^ 32 → AllByRecursion IsReadable (sent_by j es)
turn_readable j es own = (
  sending_readable (codes "bytes") refl (omega arith) j (written (packet_value (newer_packet es))) own,
  (number_readable (codes "drain") refl (omega arith) 10000 (omega arith), tt),
)

turns_readable : (event : ℕ → TurnEvent) (n t : ℕ) → n ≤ most_items → t ≤ rounded_up n 500
    → AllByRecursion IsReadable (turns_of event n t)
turns_readable event n zero few there = tt
turns_readable event n (suc t) few there =
    let own : connection_of (500 * t) ≤ connections_of n = own_turn n t (omega (arith, there)) in
    let small : connection_of (500 * t) < 2 ^ 32 = omega (arith, own, few_connections n few) in
    both IsReadable (turns_of event n t) (turn_of event n t) (turns_readable event n t few (omega (arith, there)))
    (turn_readable (connection_of (500 * t)) _ small)

-- all values of a load
load_readable : (start n : ℕ) → n ≤ most_items → AllByRecursion IsReadable (load_events start n)
load_readable start n few =
    both IsReadable (opens (connections_of n) ++ all_turns observes n) (all_turns (loads start) n)
    (both IsReadable (opens (connections_of n)) (all_turns observes n) (opens_readable (connections_of n))
    (turns_readable observes n (rounded_up n 500) few (omega arith)))
    (turns_readable (loads start) n (rounded_up n 500) few (omega arith))

-- what isn't too long is read whole
pub load_read : (start n : ℕ) → n ≤ most_items → length (load_bytes start n) ≤ most_input
    → AreRead (load_bytes start n) (load_events start n) true
load_read start n few short = values_read (load_events start n) (load_readable start n few) short
