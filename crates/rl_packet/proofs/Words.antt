-- The labels of events: no two are one.
use Rattle.std.proofs.Common.{◌≡◌, ℕ, ◌%◌, ◌<◌, List, [], ◌∷◌, cond, nat_lt, length, codes, refl, sym, ap, ◌∙◌, arith}
use Rattle.std.specs.Str.{IsUtf8}
use Rattle.pv_value.specs.Plain.{Plain}
use Rattle.pv_words.specs.Words.{labelled, number}
use Rattle.rl_packet.specs.Packets.{Dialect, Newer, Older, Event, Assert, Retract, Message, Sync, event_value}
use Rattle.rl_packet.specs.Packets.{assert_word, retract_word, message_word, sync_word}

abbrev pub word : Dialect → Event → List ℕ
word d (Assert v h) = assert_word d
word d (Retract h) = retract_word d
word d (Message v) = message_word d
word d (Sync peer) = sync_word d

abbrev pub fields : Event → List Plain
fields (Assert v h) = v ∷ number h ∷ []
fields (Retract h) = number h ∷ []
fields (Message v) = v ∷ []
fields (Sync peer) = peer ∷ []

pub value_is : (d : Dialect) (e : Event) → event_value d e ≡ labelled (word d e) (fields e)
value_is d (Assert v h) = refl
value_is d (Retract h) = refl
value_is d (Message v) = refl
value_is d (Sync peer) = refl

-- ---- each is a text of below 128 bytes

assert_text : (d : Dialect) → IsUtf8 (assert_word d)
unfolding lib.Utf8.encode
assert_text Newer = (codes "A", (refl, refl))
assert_text Older = (codes "assert", (refl, refl))

retract_text : (d : Dialect) → IsUtf8 (retract_word d)
unfolding lib.Utf8.encode
retract_text Newer = (codes "R", (refl, refl))
retract_text Older = (codes "retract", (refl, refl))

message_text : (d : Dialect) → IsUtf8 (message_word d)
unfolding lib.Utf8.encode
message_text Newer = (codes "M", (refl, refl))
message_text Older = (codes "message", (refl, refl))

sync_text : (d : Dialect) → IsUtf8 (sync_word d)
unfolding lib.Utf8.encode
sync_text Newer = (codes "S", (refl, refl))
sync_text Older = (codes "sync", (refl, refl))

pub word_text : (d : Dialect) (e : Event) → IsUtf8 (word d e)
word_text d (Assert v h) = assert_text d
word_text d (Retract h) = retract_text d
word_text d (Message v) = message_text d
word_text d (Sync peer) = sync_text d

pub word_short : (d : Dialect) (e : Event) → length (word d e) < 128
word_short Newer (Assert v h) = omega arith
word_short Newer (Retract h) = omega arith
word_short Newer (Message v) = omega arith
word_short Newer (Sync peer) = omega arith
word_short Older (Assert v h) = omega arith
word_short Older (Retract h) = omega arith
word_short Older (Message v) = omega arith
word_short Older (Sync peer) = omega arith

-- ---- the first letter tells the dialect and the kind

first : List ℕ → ℕ
first [] = 0
first (b ∷ bs) = b

-- small letters are the older dialect's
dialect_of : List ℕ → Dialect
dialect_of w = cond (nat_lt 96 (first w)) Older Newer

dialect_is : (d : Dialect) (e : Event) → dialect_of (word d e) ≡ d
unfolding dialect_of first
dialect_is Newer (Assert v h) = refl
dialect_is Newer (Retract h) = refl
dialect_is Newer (Message v) = refl
dialect_is Newer (Sync peer) = refl
dialect_is Older (Assert v h) = refl
dialect_is Older (Retract h) = refl
dialect_is Older (Message v) = refl
dialect_is Older (Sync peer) = refl

-- the place of the letter in the alphabet
place : List ℕ → ℕ
place w = first w % 32

abbrev pub kind : Event → ℕ
kind (Assert v h) = 1
kind (Retract h) = 18
kind (Message v) = 13
kind (Sync peer) = 19

kind_is : (d : Dialect) (e : Event) → place (word d e) ≡ kind e
unfolding place first
kind_is Newer (Assert v h) = refl
kind_is Newer (Retract h) = refl
kind_is Newer (Message v) = refl
kind_is Newer (Sync peer) = refl
kind_is Older (Assert v h) = refl
kind_is Older (Retract h) = refl
kind_is Older (Message v) = refl
kind_is Older (Sync peer) = refl

pub same_dialect : (a b : Dialect) (e d : Event) → word a e ≡ word b d → a ≡ b
same_dialect a b e d is = sym (dialect_is a e) ∙ (ap dialect_of is ∙ dialect_is b d)

pub same_kind : (a b : Dialect) (e d : Event) → word a e ≡ word b d → kind e ≡ kind d
same_kind a b e d is = sym (kind_is a e) ∙ (ap place is ∙ kind_is b d)
