-- What reading gives: a value and the bytes after it, or the first fault from the left and its place.
use Rattle.std.specs.Prelude.{ℕ, zero, suc, ◌-◌, Bool, true, false, ◌==◌, List, [], ◌∷◌, length, if◌then◌else◌}
use Rattle.std.specs.Prelude.{Option, Some, None, Result, Ok, Err}
use Rattle.std.specs.Str.{is_utf8}
use Rattle.pv_value.specs.Plain.{Plain, record_of, sequence, embedded, plains}
use Rattle.pv_value.specs.Sets.{set_from, dictionary_from}
use Rattle.pv_read.specs.Limits.{read_depth}
use Rattle.pv_read.specs.Results.{Fault, ◌>>=◌, within}
use Rattle.pv_read.specs.Elements.{elements_at}
use Rattle.pv_lex.specs.declared.faults.TextKind.{TextKind}
use Rattle.pv_lex.specs.declared.faults.TextKind.TheVariants.{Unexpected, Unclosed, TooDeep, Duplicate, BadUtf8}
use Rattle.pv_lex.specs.declared.kinds.Mark.{Mark}
use Rattle.pv_lex.specs.declared.kinds.Mark.TheVariants as mark
use Rattle.pv_lex.specs.declared.kinds.Lexeme.{Lexeme}
use Rattle.pv_lex.specs.declared.kinds.Lexeme.TheVariants as lexeme
use Rattle.pv_lex.specs.Lexing.{lexeme_at}
use Rattle.pv_lex.specs.Gaps.{after_blank}

-- what is read of bytes, and the bytes after it
abbrev pub Reader : Type 0 → Type 0
Reader A = List ℕ → Result (A × List ℕ) (Fault TextKind)

-- a fault of this kind, where these bytes are the last of total bytes
abbrev pub fault_at : ℕ → TextKind → List ℕ → Fault TextKind
fault_at total k bytes = record { kind = k; place = total - length bytes }

-- what the end of the text is, inside what begins with these bytes
abbrev pub unclosed : ℕ → List ℕ → Fault TextKind
unclosed total bytes = fault_at total Unclosed bytes

-- ---- what stands in a compound; at_end is what the end of the text is there

-- elements up to the close
abbrev pub closed_at : {A : Type 0} → Bool → ℕ → Fault TextKind → Reader A → List ℕ
    → Result (List A × List ℕ) (Fault TextKind)
closed_at commas close at_end element bytes =
    elements_at (after_blank commas) close at_end element (length bytes) bytes

-- what follows the colon
abbrev pub colon_at : ℕ → Fault TextKind → List ℕ → Result (List ℕ) (Fault TextKind)
colon_at total at_end bytes = elim (after_blank true bytes) [
  | [] ↦ Err at_end
  | b ∷ bs ↦ if b == 58 then Ok bs else Err (fault_at total Unexpected (b ∷ bs))
]

-- a key, a colon and a value
unfoldable pub entry_at : ℕ → Reader Plain → Fault TextKind → Reader (Plain × Plain)
entry_at total inner at_end bytes =
    inner bytes >>= λ x. colon_at total at_end x.1 >>= λ r. inner r >>= λ y. Ok ((x.0, y.0), y.1)

-- ---- compounds; inner also takes whether a comma counts as white space, and what the end of the text is

-- what begins at this place, where two of its elements or keys may be equal
abbrev pub or_duplicate : ℕ → Option Plain → Result Plain (Fault TextKind)
or_duplicate place (Some v) = Ok v
or_duplicate place None = Err (record { kind = Duplicate; place = place })

-- what stands behind a mark that begins with the bytes from `whole` on
unfoldable pub compound_at : ℕ → (Bool → Fault TextKind → Reader Plain) → Bool → List ℕ → Mark → Reader Plain
compound_at total inner commas whole mark.Embedded bytes =
    inner commas (unclosed total whole) bytes >>= λ x. Ok (embedded x.0, x.1)
compound_at total inner commas whole mark.RecordOpen bytes =
    inner false (unclosed total whole) bytes >>= λ l.
    closed_at false 62 (unclosed total whole) (inner false (unclosed total whole)) l.1 >>= λ fs.
    Ok (record_of l.0 (plains fs.0), fs.1)
compound_at total inner commas whole mark.SequenceOpen bytes =
    closed_at true 93 (unclosed total whole) (inner true (unclosed total whole)) bytes >>= λ xs.
    Ok (sequence (plains xs.0), xs.1)
compound_at total inner commas whole mark.SetOpen bytes =
    closed_at true 125 (unclosed total whole) (inner true (unclosed total whole)) bytes >>= λ xs.
    or_duplicate (total - length whole) (set_from xs.0) >>= λ v. Ok (v, xs.1)
compound_at total inner commas whole mark.DictionaryOpen bytes =
    closed_at true 125 (unclosed total whole)
    (entry_at total (inner true (unclosed total whole)) (unclosed total whole)) bytes >>= λ ps.
    or_duplicate (total - length whole) (dictionary_from ps.0) >>= λ v. Ok (v, ps.1)
compound_at total inner commas whole m bytes = Err (fault_at total Unexpected whole)

-- whether a mark opens a level of nesting
abbrev pub opens : Mark → Bool
opens mark.Embedded = true
opens mark.RecordOpen = true
opens mark.SequenceOpen = true
opens mark.SetOpen = true
opens mark.DictionaryOpen = true
opens m = false

-- an atom, or what a mark opens, by deeper
unfoldable pub behind : ℕ → (Mark → Reader Plain) → List ℕ → Lexeme × List ℕ → Result (Plain × List ℕ) (Fault TextKind)
behind total deeper whole (lexeme.Atom form v, bytes) = Ok (v, bytes)
behind total deeper whole (lexeme.Mark m, bytes) =
    if opens m then deeper m bytes else Err (fault_at total Unexpected whole)

-- the value, without annotations, that the bytes begin with
unfoldable pub core_at : ℕ → (List ℕ → Mark → Reader Plain) → Reader Plain
core_at total deeper whole =
    within (total - length whole) (lexeme_at whole) >>= λ x. behind total (deeper whole) whole x

-- ---- annotations

-- the value that is due, and behind it those that are due to what opened at these places: the last of them counts.
-- No gap stands before it; k is the number of bytes
abbrev pub due_at : ℕ → Reader Plain → Bool → ℕ → Fault TextKind → List ℕ → Reader Plain
due_at total core commas zero at_end pending bytes = Err at_end
due_at total core commas (suc k) at_end pending [] = Err at_end
due_at total core commas (suc k) at_end pending (b ∷ bs) =
    if b == 64 then
    due_at total core commas k (unclosed total (b ∷ bs)) ((total - length (b ∷ bs)) ∷ pending) (after_blank commas bs)
    else (core (b ∷ bs) >>= λ x. elim pending [
      | [] ↦ Ok x
      | p ∷ ps ↦ due_at total core commas k (record { kind = Unclosed; place = p }) ps (after_blank commas x.1)
    ])

-- the value behind the longest gap
abbrev pub behind_gap_at : ℕ → Reader Plain → Bool → Fault TextKind → Reader Plain
behind_gap_at total core commas at_end bytes =
    due_at total core commas (length (after_blank commas bytes)) at_end [] (after_blank commas bytes)

-- ---- values

-- a mark is met where no more levels may be opened
abbrev pub too_deep : ℕ → List ℕ → Mark → Reader Plain
too_deep total whole m bytes = Err (fault_at total TooDeep whole)

-- the value behind a gap that nests at most d deep, where the bytes are the last of total bytes
unfoldable pub value_at : ℕ → ℕ → Bool → Fault TextKind → Reader Plain
value_at total zero commas at_end bytes = behind_gap_at total (core_at total (too_deep total)) commas at_end bytes
value_at total (suc d) commas at_end bytes =
    behind_gap_at total (core_at total (compound_at total (value_at total d) commas)) commas at_end bytes

-- what a mark opens where d more levels may be opened
abbrev pub deeper_at : ℕ → ℕ → Bool → List ℕ → Mark → Reader Plain
deeper_at total zero commas = too_deep total
deeper_at total (suc d) commas = compound_at total (value_at total d) commas

-- ---- whole texts

-- the end of the text, where no value was begun
abbrev pub no_value : ℕ → Fault TextKind
no_value total = record { kind = Unexpected; place = total }

-- the first value of the last bytes of a text
abbrev pub first_at : ℕ → Reader Plain
first_at total bytes = value_at total read_depth false (no_value total) bytes

-- the next value, and the bytes after it; none where only a gap is left
unfoldable pub next_at : ℕ → List ℕ → Result (Option (Plain × List ℕ)) (Fault TextKind)
next_at total bytes = elim (after_blank false bytes) [
  | [] ↦ Ok None
  | b ∷ bs ↦ (first_at total bytes >>= λ x. Ok (Some x))
]

-- all values to the end; k is the number of bytes
abbrev pub values_in : ℕ → ℕ → List ℕ → Result (List Plain) (Fault TextKind)
values_in total zero bytes = Ok []
values_in total (suc k) bytes = next_at total bytes >>= λ n. elim n [
  | None ↦ Ok []
  | Some x ↦ (values_in total k x.1 >>= λ vs. Ok (x.0 ∷ vs))
]

-- a text that isn't UTF-8 gives nothing else
abbrev pub checked : {A : Type 0} → List ℕ → Result A (Fault TextKind) → Result A (Fault TextKind)
checked text r = if is_utf8 text then r else Err (record { kind = BadUtf8; place = 0 })

unfoldable pub text_value : Reader Plain
text_value text = checked text (first_at (length text) text)

unfoldable pub text_values : List ℕ → Result (List Plain) (Fault TextKind)
text_values text = checked text (values_in (length text) (length text) text)
