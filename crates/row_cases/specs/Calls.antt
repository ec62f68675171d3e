-- What each call of the codecs and the hash answers.
use Rattle.std.specs.Prelude.{◌≡◌, ℕ, zero, suc, ◌-◌, false, ◌++◌, ◌∷◌, [], List, length, take, drop, replicate}
use Rattle.std.specs.Prelude.{slice_index, codes, ◌⊎◌}
use Rattle.std.specs.Prelude.{string_bytes}
use Rattle.std.specs.Fmt.{decimal}
use Rattle.pv_value.specs.Plain.{Plain, plains}
use Rattle.pv_lex.specs.Gaps.{IsLastGap}
use Rattle.pv_lex.specs.Tokens.{AreTokensOf, TokensStand}
use Rattle.pv_lex.specs.declared.kinds.Token.{Token}
use Rattle.pv_text.specs.Reads.{BeginsWith, AreValuesOf, ValuesStand, LeadsTo, NextStops}
use Rattle.pv_text.specs.Stops.{TextStands}
use Rattle.pv_binary.specs.Reads.{BeginsWith as BytesBeginWith, Stops as BytesStop}
use Rattle.pv_binary.specs.Written.{written_all}
use Rattle.pv_canon.specs.Canonical.{canonical}
use Rattle.pv_print.specs.Printed.{printed}
use Rattle.b2s_mac.specs.Blake2s.{blake2s}
use Rattle.b2s_mac.specs.Hmac.{hmac}
use Rattle.row_cases.specs.Names.{text_fault_name, binary_fault_name}
use Rattle.row_cases.specs.Told.{BytesOrStop, TextOrStop, TellsFault, told_up_to, told_before, tokens_told}
use Rattle.row_cases.specs.Told.{said, IsWithout}
use Rattle.row_cases.specs.Shown.{behind_first}
use Rattle.row_cases.specs.declared.codecs.Answer.{Answer}
use Rattle.row_cases.specs.declared.codecs.Answer.TheVariants.{Bytes, Text, Stops}

-- ---- texts

-- the text begins with a value, of which and of whose end this holds
abbrev pub BeginsSo : (Plain → ℕ → Type 0) → List ℕ → Type 0
BeginsSo Holds text = (v : Plain) × (n : ℕ) × BeginsWith text n v × Holds v n

-- the written spellings of the values of a text
abbrev pub AreWritten : List ℕ → List ℕ → Type 0
AreWritten text bytes = (vs : List Plain) × AreValuesOf text vs × (bytes ≡ written_all (plains vs))

-- why all values of a text, or its first, can't be read
abbrev pub TellsStop : List ℕ → List ℕ → Type 0
TellsStop text s = TellsFault text_fault_name (ValuesStand text) s

abbrev pub TellsFirstStop : List ℕ → List ℕ → Type 0
TellsFirstStop text s = TellsFault text_fault_name (TextStands text) s

-- the values of a text, each in its written spelling
abbrev pub GivesWritten : List ℕ → Answer → Type 0
GivesWritten text a = BytesOrStop (AreWritten text) (TellsStop text) a

-- the first value of a text, printed, and where it ends
abbrev pub GivesFirst : List ℕ → Answer → Type 0
GivesFirst text a = TextOrStop (λ s. BeginsSo (λ v n. s ≡ told_up_to v n) text) (TellsFirstStop text) a

-- the first value of a text, printed
abbrev pub GivesPrinted : List ℕ → Answer → Type 0
GivesPrinted text a = TextOrStop (λ s. BeginsSo (λ v n. s ≡ printed v) text) (TellsFirstStop text) a

-- the first value of a text, in its canonical form
abbrev pub GivesCanonical : List ℕ → Answer → Type 0
GivesCanonical text a = BytesOrStop (λ b. BeginsSo (λ v n. b ≡ canonical v) text) (TellsFirstStop text) a

-- where the first value of a text ends
abbrev pub GivesFirstEnd : List ℕ → Answer → Type 0
GivesFirstEnd text a =
    TextOrStop (λ s. BeginsSo (λ v n. s ≡ codes "a value up to " ++ decimal n) text) (TellsFirstStop text) a

-- all values of a text that begins with one, as their written spellings or where they stop; or why it begins with none
abbrev pub GivesLaterStop : List ℕ → Answer → Type 0
GivesLaterStop text (Bytes b) = BeginsSo (λ v n. AreWritten text b.items) text
GivesLaterStop text (Text s) =
    (told : List ℕ) × TellsFirstStop text told × (string_bytes s ≡ codes "no first value: " ++ told)
GivesLaterStop text (Stops s) = BeginsSo (λ v n. TellsStop text (string_bytes s)) text

-- the next value of the last bytes of a text of 100 bytes, printed, and how many bytes are left; or none
abbrev pub TellsNext : List ℕ → List ℕ → Type 0
TellsNext bytes s =
    (IsLastGap false bytes × (s ≡ codes "none"))
    ⊎ ((v : Plain) × (rest : List ℕ) × LeadsTo bytes v rest × (s ≡ told_before v (length rest)))

abbrev pub GivesNext : List ℕ → Answer → Type 0
GivesNext bytes a = TextOrStop (TellsNext bytes) (TellsFault text_fault_name (NextStops 100 bytes)) a

-- the tokens of a text
abbrev pub GivesTokens : List ℕ → Answer → Type 0
GivesTokens text a =
    TextOrStop (λ s. (ts : List Token) × AreTokensOf text ts × (s ≡ tokens_told ts))
    (TellsFault text_fault_name (TokensStand text)) a

-- ---- bytes

-- the value that the bytes begin with, printed
abbrev pub GivesRead : List ℕ → Answer → Type 0
GivesRead bytes a =
    TextOrStop (λ s. (v : Plain) × (n : ℕ) × BytesBeginWith bytes n v × (s ≡ printed v))
    (TellsFault binary_fault_name (BytesStop bytes)) a

-- the value that so many bytes spell, printed
abbrev pub GivesReadUpTo : List ℕ → ℕ → Answer → Type 0
GivesReadUpTo bytes end a =
    TextOrStop (λ s. (v : Plain) × BytesBeginWith bytes end v × (s ≡ printed v))
    (TellsFault binary_fault_name (BytesStop bytes)) a

-- the value that all of the bytes spell, printed; one byte more follows them, and is left
abbrev pub GivesSpelled : List ℕ → Answer → Type 0
GivesSpelled bytes a = GivesReadUpTo (bytes ++ 132 ∷ []) (length bytes) a

-- ---- fronts

-- what a call says of each front of at most n bytes, of one byte and more, without this beginning
abbrev pub TellFronts : (List ℕ → Answer → Type 0) → List ℕ → List ℕ → ℕ → List ℕ → Type 0
TellFronts Gives beginning bytes zero s = s ≡ []
TellFronts Gives beginning bytes (suc n) s =
    (shorter : List ℕ) × (a : Answer) × (rest : List ℕ) × TellFronts Gives beginning bytes n shorter
    × Gives (take (suc n) bytes) a × IsWithout beginning (said a) rest × (s
    ≡ shorter ++ (behind_first n (codes ", ") ++ rest))

-- a text that tells so of all fronts but the whole
abbrev pub GivesFronts : (List ℕ → Answer → Type 0) → List ℕ → List ℕ → Answer → Type 0
GivesFronts Gives beginning bytes (Text s) = TellFronts Gives beginning bytes (length bytes - 1) (string_bytes s)
GivesFronts Gives beginning bytes (Bytes b) = ⊥
GivesFronts Gives beginning bytes (Stops s) = ⊥

-- ---- the hash

-- behind the first n bytes stands a key, as long as the first byte says, and then a message
abbrev pub key_behind : ℕ → List ℕ → List ℕ
key_behind n given = take (slice_index given 0) (drop n given)

abbrev pub message_behind : ℕ → List ℕ → List ℕ
message_behind n given = drop (slice_index given 0) (drop n given)

-- the digest of the message under the key, as long as the second byte says, with zeros behind it; the third byte, where
-- the message is cut, makes no difference
abbrev pub GivesDigest : List ℕ → Answer → Type 0
GivesDigest given (Bytes b) =
    b.items
    ≡ blake2s (key_behind 3 given) (slice_index given 1) (message_behind 3 given) ++ replicate
    (32 - slice_index given 1) 0
GivesDigest given a = ⊥

-- the code of the message under the key
abbrev pub GivesMac : List ℕ → Answer → Type 0
GivesMac given (Bytes b) = b.items ≡ hmac (key_behind 1 given) (message_behind 1 given)
GivesMac given a = ⊥
