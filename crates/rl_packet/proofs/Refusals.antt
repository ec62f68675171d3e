-- Which values are packets, by what was found in them.
use Rattle.std.proofs.Common.{◌≡◌, ℕ, zero, suc, ◌<◌, nat_eq, true, cond, List, [], ◌∷◌, length}
use Rattle.std.proofs.Common.{codes, get_or, map, Result, Ok, Err, IfErr, IsErrAnd, refl, sym, ap, subst, ◌∙◌, arith}
use Rattle.std.specs.List.{AllByRecursion}
use Rattle.std.proofs.lemmas.Slice.Eq.{bytes_eq-Decides}
use Rattle.pv_value.specs.Plain.{Plain, sequence, plains}
use Rattle.pv_words.specs.Words.{is_word, labelled, number}
use Rattle.rl_packet.specs.Packets.{Dialect, Event, Assert, Retract, Message, Sync, TurnEvent}
use Rattle.rl_packet.specs.Packets.{event_value, aimed_value}
use Rattle.rl_packet.specs.Grammar.{IsTurnEvent, AreEventsOf, IsTurnEventOf, IsEventOf, IsErrorOf, NoneIs}
use Rattle.rl_packet.specs.declared.reading.PacketFault.{PacketFault}
use Rattle.rl_packet.specs.declared.reading.PacketFault.TheVariants.{BadPacket, NoMemory}
use Rattle.rl_packet.proofs.Events.{event_parts, same_items, same_record}
use Rattle.rl_packet.proofs.Words.{word, fields, kind, same_kind}

-- ---- events

-- how many fields an event of a kind has
count : ℕ → ℕ
count k = cond (nat_eq k 1) 2 1

count_is : (e : Event) → length (fields e) ≡ count (kind e)
unfolding count
count_is (Assert v h) = refl
count_is (Retract h) = refl
count_is (Message v) = refl
count_is (Sync peer) = refl

-- a record with the label of an event and another number of fields is no event
pub other_count : (d : Dialect) (e : Event) (fs : List Plain) → (length fs ≡ length (fields e) → ⊥) → (f : Event)
    → IsEventOf d (labelled (word d e) fs) f → ⊥
other_count d e fs other f is =
    let p = event_parts d (word d e) fs f is.1 in
    other (ap length p.1 ∙ (count_is f ∙ (ap count (sym (same_kind d d e f p.0)) ∙ sym (count_is e))))

-- a record whose label is a word, by that word
pub labelled_by : (v : Plain) (s word label : List ℕ) (fs : List Plain) → v ≡ labelled s fs → is_word s word ≡ true
    → word ≡ label → v ≡ labelled label fs
labelled_by v s word label fs is same e =
    is ∙ ap (λ (t : List ℕ). labelled t fs) ((bytes_eq-Decides s word).0 same ∙ e)

-- ---- turns

pub not_two_parts : (d : Dialect) (xs : List Plain) → (length xs ≡ 2 → ⊥) → (e : TurnEvent)
    → IsTurnEventOf d (sequence (plains xs)) e → ⊥
not_two_parts d xs h e is = h (ap length (same_items xs (number e.oid ∷ event_value d e.event ∷ []) is.1))

no_list : (d : Dialect) (xs : List Plain) (i : ℕ) (x : Plain) → i < length xs → x ≡ get_or xs i x
    → ((e : TurnEvent) → IsTurnEventOf d x e → ⊥) → (es : List TurnEvent) → AllByRecursion IsTurnEvent es
    → xs ≡ map (aimed_value d) es → ⊥
no_list d [] i x h is n es good e = absurd (omega arith)
no_list d (y ∷ ys) i x h is n [] good e = cc
no_list d (y ∷ ys) zero x h is n (f ∷ fs) good e =
    let p : y ≡ aimed_value d f = cc in
    n f (good.0, is ∙ p)
no_list d (y ∷ ys) (suc i) x h is n (f ∷ fs) good e =
    let p : ys ≡ map (aimed_value d) fs = cc in
    no_list d ys i x (omega arith) is n fs good.1 p

-- where an item is no event, the items are no events
pub no_events : (d : Dialect) (xs : List Plain) (i : ℕ) (x : Plain) → i < length xs → x ≡ get_or xs i x
    → (f : PacketFault) → NoneIs (IsTurnEventOf d x) f → NoneIs (AreEventsOf d xs) f
no_events d xs i x h is BadPacket n = λ es are. no_list d xs i x h is n es are.0 are.1
no_events d xs i x h is NoMemory n = tt

-- ---- errors

pub no_two_parts : (v : Plain) (s : List ℕ) (fs : List Plain) → v ≡ labelled s fs → (length fs ≡ 2 → ⊥) → (m d : Plain)
    → IsErrorOf v m d → ⊥
no_two_parts v s fs is h m d e =
    h (ap length (same_record s (codes "error") fs (m ∷ d ∷ []) (sym is ∙ e.1)).1)

two_list : (fs : List Plain) (m d : Plain) → length fs ≡ 2 → m ≡ get_or fs 0 m → d ≡ get_or fs 1 d
    → fs ≡ m ∷ d ∷ []
two_list [] m d h p q = absurd (omega arith)
two_list (x ∷ []) m d h p q = absurd (omega arith)
two_list (x ∷ y ∷ []) m d h p q = λ i. sym p i ∷ sym q i ∷ []
two_list (x ∷ y ∷ z ∷ zs) m d h p q = absurd (omega arith)

pub is_error : (v m d : Plain) (s : List ℕ) (fs : List Plain) → v ≡ labelled s fs → is_word s (codes "error") ≡ true
    → length fs ≡ 2 → m ≡ get_or fs 0 m → d ≡ get_or fs 1 d → v ≡ labelled (codes "error") (m ∷ d ∷ [])
is_error v m d s fs is word two first second =
    let letters : s ≡ codes "error" = (bytes_eq-Decides s (codes "error")).0 word in
    let all : fs ≡ m ∷ d ∷ [] = two_list fs m d two first second in
    is ∙ (λ i. labelled (letters i) (all i))

-- ---- faults that are handed on

pub weaker : {T : Type 0} (P Q : PacketFault → Type 0) (r : Result T PacketFault)
    → ((f : PacketFault) → P f → Q f) → IfErr r P → IfErr r Q
weaker P Q (Ok t) by h = tt
weaker P Q (Err e) by h = by e h

pub handed_on : {T : Type 0} (P : PacketFault → Type 0) (r : Result T PacketFault) (f : PacketFault)
    → IsErrAnd r (λ e. e ≡ f) → P f → IfErr r P
handed_on P (Ok t) f h k = tt
handed_on P (Err e) f h k = subst P (sym h) k
