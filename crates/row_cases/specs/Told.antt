-- How answers tell what a call of the codecs gives.
use Rattle.std.specs.Prelude.{◌≡◌, ℕ, ◌++◌, List, codes, ◌⊎◌, string_bytes}
use Rattle.std.specs.Fmt.{decimal}
use Rattle.std.specs.List.{join_by}
use Rattle.pv_value.specs.Plain.{Plain}
use Rattle.pv_read.specs.Results.{Fault}
use Rattle.pv_read.specs.declared.ReadFault.{ReadFault}
use Rattle.pv_read.specs.declared.ReadFault.TheVariants.{Bad, NoMemory}
use Rattle.pv_lex.specs.declared.kinds.Token.{Token}
use Rattle.pv_print.specs.Printed.{printed}
use Rattle.row_cases.specs.Names.{token_name}
use Rattle.row_cases.specs.declared.codecs.Answer.{Answer}
use Rattle.row_cases.specs.declared.codecs.Answer.TheVariants.{Bytes, Text, Stops}

-- ---- texts

-- a fault: its kind by its name, and its place
abbrev pub fault_told : {K : Type 0} → (K → List ℕ) → Fault K → List ℕ
fault_told name f = name f.kind ++ (codes " at " ++ decimal f.place)

-- a value printed, and where it ends
abbrev pub told_up_to : Plain → ℕ → List ℕ
told_up_to v end = printed v ++ (codes " up to " ++ decimal end)

-- a value printed, and how many bytes are left behind it
abbrev pub told_before : Plain → ℕ → List ℕ
told_before v left = printed v ++ (codes ", " ++ (decimal left ++ codes " left"))

-- a token: its kind by its name, its beginning and its end
abbrev pub token_told : Token → List ℕ
token_told t = token_name t.kind ++ (codes " " ++ (decimal t.start ++ (codes " " ++ decimal t.end)))

-- tokens, with a comma and a blank between two
abbrev pub tokens_told : List Token → List ℕ
tokens_told ts = join_by token_told (codes ", ") ts

-- ---- answers

-- bytes, of which this holds; or the call stops, and of what is told of that this holds
abbrev pub BytesOrStop : (List ℕ → Type 0) → (List ℕ → Type 0) → Answer → Type 0
BytesOrStop Are Stop (Bytes b) = Are b.items
BytesOrStop Are Stop (Text s) = ⊥
BytesOrStop Are Stop (Stops s) = Stop (string_bytes s)

-- the same with a text
abbrev pub TextOrStop : (List ℕ → Type 0) → (List ℕ → Type 0) → Answer → Type 0
TextOrStop Is Stop (Bytes b) = ⊥
TextOrStop Is Stop (Text s) = Is (string_bytes s)
TextOrStop Is Stop (Stops s) = Stop (string_bytes s)

-- the text tells a fault that stands
abbrev pub TellsFault : {K : Type 0} → (K → List ℕ) → (Fault K → Type 0) → List ℕ → Type 0
TellsFault {K} name Stands s = (f : Fault K) × Stands f × (s ≡ fault_told name f)

-- what is told of this fault, which is no want of memory
abbrev pub IsTold : {K : Type 0} → (K → List ℕ) → ReadFault K → List ℕ → Type 0
IsTold name (Bad kind place) s = s ≡ fault_told name (record { kind = kind; place = place })
IsTold name NoMemory s = ⊥

-- ---- fronts

-- what an answer says
abbrev pub said : Answer → List ℕ
said (Bytes b) = codes "bytes"
said (Text s) = string_bytes s
said (Stops s) = string_bytes s

-- the text without this beginning, or all of it where it begins otherwise
abbrev pub IsWithout : List ℕ → List ℕ → List ℕ → Type 0
IsWithout beginning text rest =
    (text ≡ beginning ++ rest) ⊎ (((r : List ℕ) → text ≡ beginning ++ r → ⊥) × (rest ≡ text))
