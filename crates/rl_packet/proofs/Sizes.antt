-- How long the canonical forms of events are.
use Rattle.std.proofs.Common.{◌≡◌, ℕ, ◌+◌, ◌<◌, List, ◌∷◌, length, map, drop, get_or, refl, sym, ap, ◌∙◌, arith}
use Rattle.std.specs.Prelude.{unwrap_or}
use Rattle.std.proofs.lemmas.List.{drop_more}
use Rattle.pv_value.specs.Plain.{Plain, plains}
use Rattle.pv_value.specs.Weight.{canonical_size, sizes_with}
use Rattle.pv_value.specs.Lemmas.WeightLaws.{count_size_small}
use Rattle.pv_words.specs.Words.{number}
use Rattle.rl_packet.specs.Packets.{Dialect, Newer, Assert, Retract, Message, Sync, TurnEvent, TurnRecord, Error, Nop}
use Rattle.rl_packet.specs.Packets.{assert_word, retract_word, message_word, sync_word, event_value, aimed_value}
use Rattle.rl_packet.specs.Packets.{turn_value, packet_value}
use Rattle.rl_packet.proofs.Words.{word_short}

pub asserted_size : (d : Dialect) (v : Plain) (h : ℕ) → canonical_size (event_value d (Assert v h))
    ≡ canonical_size v + canonical_size (number h) + (length (assert_word d) + 4)
unfolding canonical_size
asserted_size d v h = omega (arith, count_size_small (length (assert_word d)) (word_short d (Assert v h)))

pub retracted_size : (d : Dialect) (h : ℕ) → canonical_size (event_value d (Retract h))
    ≡ canonical_size (number h) + (length (retract_word d) + 4)
unfolding canonical_size
retracted_size d h = omega (arith, count_size_small (length (retract_word d)) (word_short d (Retract h)))

pub said_size : (d : Dialect) (v : Plain) → canonical_size (event_value d (Message v))
    ≡ canonical_size v + (length (message_word d) + 4)
unfolding canonical_size
said_size d v = omega (arith, count_size_small (length (message_word d)) (word_short d (Message v)))

pub synced_size : (d : Dialect) (v : Plain) → canonical_size (event_value d (Sync v))
    ≡ canonical_size v + (length (sync_word d) + 4)
unfolding canonical_size
synced_size d v = omega (arith, count_size_small (length (sync_word d)) (word_short d (Sync v)))

pub error_size : (m d : Plain) → canonical_size (packet_value (Error m d)) ≡ canonical_size m + canonical_size d + 9
unfolding canonical_size
error_size m d = omega (arith, count_size_small 5 (omega arith))

-- ---- events at their objects, and turns

pub aimed_size : (d : Dialect) (e : TurnEvent) → canonical_size (aimed_value d e)
    ≡ canonical_size (number e.oid) + canonical_size (event_value d e.event) + 2
unfolding canonical_size
aimed_size d e = omega arith

pub turn_size : (t : TurnRecord) → canonical_size (turn_value t)
    ≡ sizes_with 0 (plains (map (aimed_value (unwrap_or t.dialect Newer)) t.events)) + 2
unfolding canonical_size
turn_size t = omega arith

pub nop_size : canonical_size (packet_value Nop) ≡ 1
unfolding canonical_size
nop_size = refl

-- one event more, where the sum stops at its most
pub one_more : (d : Dialect) (es : List TurnEvent) (i : ℕ) (e : TurnEvent) → i < length es → e ≡ get_or es i e
    → sizes_with 0 (plains (map (aimed_value d) (drop i es)))
    ≡ canonical_size (aimed_value d e) + sizes_with 0 (plains (map (aimed_value d) (drop (i + 1) es)))
unfolding canonical_size
one_more d es i e l at =
    ap (λ (ds : List TurnEvent). sizes_with 0 (plains (map (aimed_value d) ds)))
    (drop_more es i e l ∙ ap (λ (f : TurnEvent). f ∷ drop (i + 1) es) (sym at))
