-- Turns in a dialect.
use Rattle.std.proofs.Common.{◌≡◌, ℕ, List, [], ◌∷◌, Bool, true, false, cond, Option, Some, None, map, refl, sym}
use Rattle.std.proofs.Common.{Result, Ok, Err, IfOk, ap, ◌∙◌}
use Rattle.std.specs.Prelude.{is_none, unwrap_or, IfNone}
use Rattle.std.specs.List.{AllByRecursion}
use Rattle.pv_value.specs.Plain.{Plain, sequence, plains}
use Rattle.pv_binary.specs.Reads.{BeginsWith}
use Rattle.rl_packet.specs.Packets.{Dialect, Newer, Older, TurnEvent, TurnRecord, is_empty, aimed_value, turn_value}
use Rattle.rl_packet.specs.Packets.{spoken, other}
use Rattle.rl_packet.specs.Grammar.{IsTurnEvent, IsTurn, IsTurnOf, AreEventsOf, NoneIs}
use Rattle.rl_packet.specs.Spelled.{NoTurn}
use Rattle.rl_packet.specs.declared.reading.PacketFault.{PacketFault}
use Rattle.rl_packet.specs.declared.reading.PacketFault.TheVariants.{BadPacket, NoMemory}
use Rattle.rl_packet.proofs.Events.{same_items}

none_where : (d : Dialect) (b : Bool) → is_none (cond {A = Option Dialect} b None (Some d)) ≡ b
none_where d true = refl
none_where d false = refl

pub spoken_turn : (d : Dialect) (es : List TurnEvent) → AllByRecursion IsTurnEvent es → IsTurn (spoken d es)
spoken_turn d es good = (good, none_where d (is_empty es))

pub spoken_value : (d : Dialect) (es : List TurnEvent) → turn_value (spoken d es)
    ≡ sequence (plains (map (aimed_value d) es))
spoken_value d [] = refl
spoken_value d (e ∷ es) = refl

pub spoken_of : (d : Dialect) (items : List Plain) (es : List TurnEvent) → AreEventsOf d items es
    → IsTurnOf (sequence (plains items)) (spoken d es)
spoken_of d items es are = (
  spoken_turn d es are.0,
  ap (λ (xs : List Plain). sequence (plains xs)) are.1 ∙ sym (spoken_value d es),
)

-- what is no turn in either dialect is none
in_neither : (P : Dialect → List TurnEvent → Type 0) → ((es : List TurnEvent) → P Newer es → ⊥)
    → ((es : List TurnEvent) → P Older es → ⊥) → (x : Option Dialect) (es : List TurnEvent) → P (unwrap_or x Newer) es
    → ⊥
in_neither P newer older None es p = newer es p
in_neither P newer older (Some Newer) es p = newer es p
in_neither P newer older (Some Older) es p = older es p

pub no_turn_of : (items : List Plain) (f : PacketFault) → NoneIs (AreEventsOf Newer items) BadPacket
    → NoneIs (AreEventsOf Older items) f → NoneIs (IsTurnOf (sequence (plains items))) f
no_turn_of items BadPacket newer older =
    λ t is.
    in_neither (λ d es. AreEventsOf d items es) newer older t.dialect t.events
    (is.0.0, same_items items (map (aimed_value (unwrap_or t.dialect Newer)) t.events) is.1)
no_turn_of items NoMemory newer older = tt

-- no turn begins the bytes
abbrev NoneBegins : List ℕ → Type 0
NoneBegins bytes = (t : TurnRecord) (n : ℕ) → IsTurn t → BeginsWith bytes n (turn_value t) → ⊥

none_begins : (bytes : List ℕ) → NoTurn Newer bytes → NoTurn Older bytes → NoneBegins bytes
none_begins bytes newer older t n is b =
    in_neither
    (λ d es. AllByRecursion IsTurnEvent es × BeginsWith bytes n (sequence (plains (map (aimed_value d) es))))
    (λ es p. newer es n p.0 p.1) (λ es p. older es n p.0 p.1) t.dialect t.events (is.0, b)

none_in : (bytes : List ℕ) (d : Dialect) → NoTurn d bytes → NoTurn (other d) bytes → NoneBegins bytes
none_in bytes Newer first second = none_begins bytes first second
none_in bytes Older first second = none_begins bytes second first

pub no_turn_in : {X E : Type 0} (bytes : List ℕ) (d : Dialect) (r : Result (Option X) E) → NoTurn d bytes
    → IfOk r (λ o. IfNone o (NoTurn (other d) bytes)) → IfOk r (λ o. IfNone o (NoneBegins bytes))
no_turn_in bytes d (Ok None) first second = none_in bytes d first second
no_turn_in bytes d (Ok (Some x)) first second = tt
no_turn_in bytes d (Err e) first second = tt
