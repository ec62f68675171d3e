-- The values of packets keep what is true of all values.
use Rattle.std.proofs.Common.{◌≡◌, ℕ, ◌+◌, ◌<◌, List, [], ◌∷◌, length, map, drop, get_or, refl, sym, ap, ◌∙◌, subst}
use Rattle.std.proofs.Common.{arith}
use Rattle.std.proofs.lemmas.List.{drop_more}
use Rattle.std.specs.Str.{IsUtf8}
use Rattle.pv_value.specs.Plain.{Plain, plains}
use Rattle.pv_value.specs.WellFormed.{IsWellFormed, AreWellFormed}
use Rattle.pv_words.specs.Words.{number}
use Rattle.rl_packet.specs.Packets.{Dialect, Event, TurnEvent, event_value, aimed_value, packet_value, Error}
use Rattle.rl_packet.proofs.Words.{fields, value_is, word_text, word_short}

pub event_sound : (d : Dialect) (e : Event) → AreWellFormed (plains (fields e)) → IsWellFormed (event_value d e)
event_sound d e sound =
    subst IsWellFormed (sym (value_is d e))
    ((word_text d e, let short = word_short d e in omega arith), sound)

error_text : IsUtf8 (101 ∷ 114 ∷ 114 ∷ 111 ∷ 114 ∷ [])
unfolding lib.Utf8.encode
error_text = (101 ∷ 114 ∷ 114 ∷ 111 ∷ 114 ∷ [], (refl, refl))

pub error_sound : (m d : Plain) → IsWellFormed m → IsWellFormed d → IsWellFormed (packet_value (Error m d))
error_sound m d message detail = ((error_text, omega arith), (message, (detail, tt)))

-- one event more, in front of others
pub one_more_sound : (d : Dialect) (es : List TurnEvent) (i : ℕ) (e : TurnEvent) → i < length es → e ≡ get_or es i e
    → IsWellFormed (number e.oid) → IsWellFormed (event_value d e.event)
    → AreWellFormed (plains (map (aimed_value d) (drop (i + 1) es)))
    → AreWellFormed (plains (map (aimed_value d) (drop i es)))
one_more_sound d es i e l at oid event others =
    subst (λ (ds : List TurnEvent). AreWellFormed (plains (map (aimed_value d) ds)))
    (sym (drop_more es i e l ∙ ap (λ (f : TurnEvent). f ∷ drop (i + 1) es) (sym at)))
    ((oid, (event, tt)), others)
