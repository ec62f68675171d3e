-- What bytes begin with: a value, or values up to the end of a compound, and what stands behind them; and that no
-- part of a turn begins them.
use Rattle.std.specs.Prelude.{◌≡◌, ℕ, ◌≤◌, ◌<◌, ◌^◌, List, ◌∷◌, ◌++◌, length, map}
use Rattle.std.specs.List.{concat, AllByRecursion}
use Rattle.pv_value.specs.Plain.{Plain, sequence, plains}
use Rattle.pv_value.specs.Depth.{depth, deepest}
use Rattle.pv_words.specs.Words.{number}
use Rattle.pv_binary.specs.Reads.{BeginsWith}
use Rattle.pv_binary.specs.Spells.{Spells, Pieces}
use Rattle.rl_packet.specs.Packets.{Dialect, Event, TurnEvent, event_value, aimed_value}
use Rattle.rl_packet.specs.Packets.{assert_word, retract_word, message_word, sync_word}
pub use Rattle.rl_packet.specs.declared.spelled.Kind.{Kind}
use Rattle.rl_packet.specs.declared.spelled.Kind.TheVariants as kind
use Rattle.rl_packet.specs.Wired.{IsEvent, IsTurnEvent}

-- a front of the bytes spells v, which nests at most d deep, and the rest stands behind it
pub record Begins (d : ℕ) (bytes : List ℕ) (v : Plain) (rest : List ℕ) : Type 0 where
  pub front : List ℕ
  pub is : bytes ≡ front ++ rest
  pub spells : Spells front v
  pub shallow : depth v ≤ d

-- the same of values one behind another, and of the end behind them
pub record BeginsAll (d : ℕ) (bytes : List ℕ) (xs : List Plain) (rest : List ℕ) : Type 0 where
  pub pieces : List (List ℕ)
  pub is : bytes ≡ concat pieces ++ 0x84 ∷ rest
  pub spells : Pieces pieces (plains xs)
  pub shallow : deepest (plains xs) ≤ d

-- the bytes of a record's fields, with what stands before them: its label is the symbol of a word of below 128 bytes
abbrev pub opened : List ℕ → List ℕ → List ℕ
opened word bytes = 0xb4 ∷ 0xb3 ∷ length word ∷ (word ++ bytes)

-- the label of an event of a kind
abbrev pub label_of : Dialect → Kind → List ℕ
label_of d kind.Assertion = assert_word d
label_of d kind.Retraction = retract_word d
label_of d kind.Message = message_word d
label_of d kind.Sync = sync_word d

-- no number below 2 ^ 63 begins the bytes
abbrev pub NoNumber : List ℕ → Type 0
NoNumber bytes = (n : ℕ) (rest : List ℕ) → n < 2 ^ 63 → Begins 0 bytes (number n) rest → ⊥

-- no event that a turn of the dialect may have begins them
abbrev pub NoEvent : Dialect → List ℕ → Type 0
NoEvent d bytes = (e : Event) (rest : List ℕ) → IsEvent e → Begins 62 bytes (event_value d e) rest → ⊥

-- no such event at an object
abbrev pub NoAimed : Dialect → List ℕ → Type 0
NoAimed d bytes = (e : TurnEvent) (rest : List ℕ) → IsTurnEvent e → Begins 63 bytes (aimed_value d e) rest → ⊥

-- no such events at objects, with the end behind them
abbrev pub NoEvents : Dialect → List ℕ → Type 0
NoEvents d bytes =
    (es : List TurnEvent) (rest : List ℕ) → AllByRecursion IsTurnEvent es
    → BeginsAll 63 bytes (map (aimed_value d) es) rest → ⊥

-- no turn of such events
abbrev pub NoTurn : Dialect → List ℕ → Type 0
NoTurn d bytes =
    (es : List TurnEvent) (n : ℕ) → AllByRecursion IsTurnEvent es
    → BeginsWith bytes n (sequence (plains (map (aimed_value d) es))) → ⊥
