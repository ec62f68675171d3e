-- A value is that of one packet.
use Rattle.std.proofs.Common.{◌≡◌, ℕ, List, [], ◌∷◌, Option, Some, None, map, refl, sym, ap, ◌∙◌, arith}
use Rattle.std.specs.Prelude.{is_none, unwrap_or}
use Rattle.pv_value.specs.Plain.{Plain, sequence, plains, listed}
use Rattle.pv_value.specs.Lemmas.Listed.{listed-plains}
use Rattle.pv_words.specs.Words.{labelled}
use Rattle.rl_packet.specs.Packets.{Dialect, Newer, Event, Assert, Retract, Message, Sync, TurnEvent, TurnRecord}
use Rattle.rl_packet.specs.Packets.{is_empty, event_value, aimed_value, turn_value, Turn, Error, Nop, Extension}
use Rattle.rl_packet.specs.Grammar.{HasDialect, OnePacket}
use Rattle.rl_packet.proofs.Words.{word, fields, value_is, kind, same_dialect, same_kind}

-- two lists that are one as data
pub same_list : (xs ys : List Plain) → plains xs ≡ plains ys → xs ≡ ys
same_list xs ys e = sym (listed-plains xs) ∙ ap listed e ∙ listed-plains ys

pub same_items : (xs ys : List Plain) → sequence (plains xs) ≡ sequence (plains ys) → xs ≡ ys
same_items xs ys e = let p : plains xs ≡ plains ys = cc in same_list xs ys p

pub same_record : (s t : List ℕ) (xs ys : List Plain) → labelled s xs ≡ labelled t ys → (s ≡ t) × (xs ≡ ys)
same_record s t xs ys e =
    let a : s ≡ t = cc in
    let b : plains xs ≡ plains ys = cc in
    (a, same_list xs ys b)

-- the word and the fields of a record that is an event
pub event_parts : (d : Dialect) (s : List ℕ) (fs : List Plain) (e : Event) → labelled s fs ≡ event_value d e
    → (s ≡ word d e) × (fs ≡ fields e)
event_parts d s fs e is = same_record s (word d e) fs (fields e) (is ∙ value_is d e)

by_parts : (e d : Event) → kind e ≡ kind d → fields e ≡ fields d → e ≡ d
by_parts (Assert v h) (Assert w k) m p = cc
by_parts (Assert v h) (Retract k) m p = cc
by_parts (Assert v h) (Message w) m p = cc
by_parts (Assert v h) (Sync w) m p = cc
by_parts (Retract h) (Assert w k) m p = cc
by_parts (Retract h) (Retract k) m p = cc
by_parts (Retract h) (Message w) m p = absurd (omega arith)
by_parts (Retract h) (Sync w) m p = absurd (omega arith)
by_parts (Message v) (Assert w k) m p = cc
by_parts (Message v) (Retract k) m p = absurd (omega arith)
by_parts (Message v) (Message w) m p = cc
by_parts (Message v) (Sync w) m p = absurd (omega arith)
by_parts (Sync v) (Assert w k) m p = cc
by_parts (Sync v) (Retract k) m p = absurd (omega arith)
by_parts (Sync v) (Message w) m p = absurd (omega arith)
by_parts (Sync v) (Sync w) m p = cc

-- ---- one value writes one turn, in one dialect

one_event : (a b : Dialect) (e d : Event) → event_value a e ≡ event_value b d → (a ≡ b) × (e ≡ d)
one_event a b e d is =
    let p = event_parts b (word a e) (fields e) d (sym (value_is a e) ∙ is) in
    (same_dialect a b e d p.0, by_parts e d (same_kind a b e d p.0) p.1)

one_aimed : (a b : Dialect) (e d : TurnEvent) → aimed_value a e ≡ aimed_value b d → (a ≡ b) × (e ≡ d)
one_aimed a b e d is =
    let o : e.oid ≡ d.oid = cc in
    let v : event_value a e.event ≡ event_value b d.event = cc in
    let q = one_event a b e.event d.event v in
    (q.0, λ i. record { oid = o i; event = q.1 i })

one_list : (a b : Dialect) (es ds : List TurnEvent)
    → plains (map (aimed_value a) es) ≡ plains (map (aimed_value b) ds) → es ≡ ds
one_list a b [] [] is = refl
one_list a b [] (d ∷ ds) is = cc
one_list a b (e ∷ es) [] is = cc
one_list a b (e ∷ es) (d ∷ ds) is =
    let p : aimed_value a e ≡ aimed_value b d = cc in
    let s : plains (map (aimed_value a) es) ≡ plains (map (aimed_value b) ds) = cc in
    let q = (one_aimed a b e d p).1 in
    let r = one_list a b es ds s in
    cc

one_dialect : (x y : Option Dialect) (es ds : List TurnEvent) → is_none x ≡ is_empty es → is_none y ≡ is_empty ds
    → plains (map (aimed_value (unwrap_or x Newer)) es) ≡ plains (map (aimed_value (unwrap_or y Newer)) ds) → x ≡ y
one_dialect None None es ds h k is = refl
one_dialect None (Some b) [] [] h k is = cc
one_dialect None (Some b) [] (d ∷ ds) h k is = cc
one_dialect None (Some b) (e ∷ es) ds h k is = cc
one_dialect (Some a) y [] ds h k is = cc
one_dialect (Some a) y (e ∷ es) [] h k is = cc
one_dialect (Some a) None (e ∷ es) (d ∷ ds) h k is = cc
one_dialect (Some a) (Some b) (e ∷ es) (d ∷ ds) h k is =
    let p : aimed_value a e ≡ aimed_value b d = cc in
    ap Some (one_aimed a b e d p).0

one_turn : (s t : TurnRecord) → HasDialect s → HasDialect t → turn_value s ≡ turn_value t → s ≡ t
one_turn s t h k is =
    let a : Dialect = unwrap_or s.dialect Newer in
    let b : Dialect = unwrap_or t.dialect Newer in
    let p : plains (map (aimed_value a) s.events) ≡ plains (map (aimed_value b) t.events) = cc in
    let x = one_dialect s.dialect t.dialect s.events t.events h k p in
    let es = one_list a b s.events t.events p in
    λ i. record { dialect = x i; events = es i }

-- ---- one value writes one packet

pub one_packet : OnePacket
one_packet (Turn s) (Turn t) p q is = ap Turn (one_turn s t p.1 q.1 is)
one_packet (Turn s) (Error m d) p q is = cc
one_packet (Turn s) Nop p q is = cc
one_packet (Turn s) (Extension v) p q is = let r = q.0 in cc
one_packet (Error m d) (Turn t) p q is = cc
one_packet (Error m d) (Error n c) p q is = cc
one_packet (Error m d) Nop p q is = cc
one_packet (Error m d) (Extension v) p q is = absurd (q.1 m d p (sym is))
one_packet Nop (Turn t) p q is = cc
one_packet Nop (Error m d) p q is = cc
one_packet Nop Nop p q is = refl
one_packet Nop (Extension v) p q is = let r = q.0 in cc
one_packet (Extension v) (Turn t) p q is = let r = p.0 in cc
one_packet (Extension v) (Error m d) p q is = absurd (p.1 m d q is)
one_packet (Extension v) Nop p q is = let r = p.0 in cc
one_packet (Extension v) (Extension w) p q is = ap Extension is
