-- Each value is a packet's, or no packet's.
use Rattle.std.proofs.Common.{◌≡◌, ℕ, Bool, true, false, cond, List, [], ◌∷◌, map, codes, Option, Some, None}
use Rattle.std.proofs.Common.{is_some, refl, sym, ap, ◌∙◌, ◌⊎◌, inl, inr}
use Rattle.std.specs.Prelude.{is_none, unwrap_or}
use Rattle.std.specs.List.{AllByRecursion}
use Rattle.std.specs.Str.{bytes_eq}
use Rattle.std.proofs.lemmas.Slice.Eq.{bytes_eq-Decides}
use Rattle.pv_value.specs.Plain.{Plain, boolean, string, symbol, record_of, sequence}
use Rattle.pv_value.specs.Plain.{Plains, plains, no_more, then_more}
use Rattle.rl_packet.specs.declared.packets.Dialect.{Dialect}
use Rattle.rl_packet.specs.declared.packets.Dialect.TheVariants.{Newer, Older}
use Rattle.rl_packet.specs.declared.packets.Turn.{Turn as TurnRecord}
use Rattle.rl_packet.specs.declared.packets.Packet.{Packet}
use Rattle.rl_packet.specs.declared.packets.Packet.TheVariants.{Turn, Error, Nop, Extension}
use Rattle.rl_packet.specs.declared.packets.TurnEvent.{TurnEvent}
use Rattle.rl_packet.specs.Packets.{aimed_value, turn_value, packet_value, spoken, is_empty}
use Rattle.rl_packet.specs.Grammar.{is_string, is_record, IsTurnEvent, IsTurnOf, IsPacket, IsPacketOf, IsErrorOf}
use Rattle.rl_stream.proofs.Finding.{when, then_find, then_some, or_find, first_some, second_some}
use Rattle.rl_stream.proofs.EventFinding.{turn_of, turn_some}

-- ---- errors and extensions

is_error : (s t : List ℕ) (d : Plain) → bytes_eq s (codes "error") ≡ true
    → record_of (symbol s) (then_more (string t) (then_more d no_more)) ≡ packet_value (Error (string t) d)
is_error s t d p =
    ap (λ w. record_of (symbol w) (then_more (string t) (then_more d no_more)))
    ((bytes_eq-Decides s (codes "error")).0 p)

abbrev error_of : (v : Plain) → Option ((m : Plain) × (d : Plain) × IsErrorOf v m d)
error_of (record_of (symbol s) (then_more (string t) (then_more d no_more))) =
    when (bytes_eq s (codes "error")) (λ p. Some (string t, d, (refl, is_error s t d p)))
error_of v = None

error_some : (m d : Plain) → is_string m ≡ true → is_some (error_of (packet_value (Error m d))) ≡ true
error_some (string t) d p = refl
error_some m d p = absurd cc

record_packet : (v : Plain) → is_record v ≡ true → (o : Option ((m : Plain) × (d : Plain) × IsErrorOf v m d))
    → error_of v ≡ o → (p : Packet) × IsPacketOf v p
record_packet v r (Some x) e = (Error x.0 x.1, x.2)
record_packet v r None e =
    let other : (m d : Plain) → is_string m ≡ true → v ≡ packet_value (Error m d) → ⊥ =
    λ m d s is. cc (sym (ap is_some e) ∙ ap (λ w. is_some (error_of w)) is ∙ error_some m d s) in
    (Extension v, ((r, other), refl))

-- ---- turns

none_where : (d : Dialect) (b : Bool) → is_none (cond {A = Option Dialect} b None (Some d)) ≡ b
none_where d true = refl
none_where d false = refl

spoken_value : (d : Dialect) (es : List TurnEvent)
    → turn_value (spoken d es) ≡ sequence (plains (map (aimed_value d) es))
spoken_value d [] = refl
spoken_value d (e ∷ es) = refl

abbrev FoundTurn : Plains → Type 0
FoundTurn xs = Option ((t : TurnRecord) × IsTurnOf (sequence xs) t)

abbrev turn_in : (d : Dialect) (xs : Plains) → FoundTurn xs
turn_in d xs = then_find (turn_of d xs) (λ es.
    Some (spoken d es.0, ((es.1.0, none_where d (is_empty es.0)), ap sequence es.1.1 ∙ sym (spoken_value d es.0))))

-- in the newer dialect, or else in the older one
abbrev any_turn : (xs : Plains) → FoundTurn xs
any_turn xs = or_find (turn_in Newer xs) (turn_in Older xs)

turn_in_some : (d : Dialect) (es : List TurnEvent) → AllByRecursion IsTurnEvent es
    → is_some (turn_in d (plains (map (aimed_value d) es))) ≡ true
turn_in_some d es all = then_some (turn_of d (plains (map (aimed_value d) es))) _ (turn_some d es all) (λ x. refl)

any_turn_some : (d : Dialect) (es : List TurnEvent) → AllByRecursion IsTurnEvent es
    → is_some (any_turn (plains (map (aimed_value d) es))) ≡ true
any_turn_some Newer es all = first_some _ _ (turn_in_some Newer es all)
any_turn_some Older es all = second_some _ _ (turn_in_some Older es all)

-- ---- packets

abbrev packet_of : (v : Plain) → Option ((p : Packet) × IsPacketOf v p)
packet_of (sequence xs) = then_find (any_turn xs) (λ t. Some (Turn t.0, t.1))
packet_of (boolean false) = Some (Nop, (tt, refl))
packet_of (record_of l fs) = Some (record_packet (record_of l fs) refl (error_of (record_of l fs)) refl)
packet_of v = None

extension_some : (v : Plain) → is_record v ≡ true → is_some (packet_of v) ≡ true
extension_some (record_of l fs) r = refl
extension_some v r = absurd cc

packet_some : (p : Packet) → IsPacket p → is_some (packet_of (packet_value p)) ≡ true
packet_some (Turn t) h =
    let d : Dialect = unwrap_or t.dialect Newer in
    then_some (any_turn (plains (map (aimed_value d) t.events))) _ (any_turn_some d t.events h.0) (λ x. refl)
packet_some (Error m d) h = refl
packet_some Nop h = refl
packet_some (Extension v) h = extension_some v h.0

by_finding : (v : Plain) (o : Option ((p : Packet) × IsPacketOf v p)) → packet_of v ≡ o
    → ((p : Packet) × IsPacketOf v p) ⊎ ((p : Packet) → IsPacketOf v p → ⊥)
by_finding v (Some x) e = inl x
by_finding v None e =
    inr (λ p h. cc (sym (ap is_some e) ∙ ap (λ w. is_some (packet_of w)) h.1 ∙ packet_some p h.0))

pub packet_or_none : (v : Plain) → ((p : Packet) × IsPacketOf v p) ⊎ ((p : Packet) → IsPacketOf v p → ⊥)
packet_or_none v = by_finding v (packet_of v) refl
