-- The tables of cases by their names, and the call that each tries: how what it is given is written, what it has to
-- answer, and what it answers.
use Rattle.std.specs.Prelude.{◌≡◌, ℕ, List, Option, Some, None, if◌then◌else◌, codes, string_bytes}
use Rattle.std.specs.Str.{bytes_eq}
use Rattle.row_cases.specs.Calls.{GivesWritten, GivesFirst, GivesPrinted, GivesCanonical, GivesFirstEnd}
use Rattle.row_cases.specs.Calls.{GivesLaterStop, GivesNext, GivesTokens, GivesRead, GivesSpelled, GivesFronts}
use Rattle.row_cases.specs.Calls.{GivesDigest, GivesMac}
use Rattle.row_cases.specs.Forms.{IsIn}
use Rattle.row_cases.specs.declared.codecs.Answer.{Answer}
use Rattle.row_cases.specs.declared.codecs.Answer.TheVariants as answer
use Rattle.row_cases.specs.declared.spelling.Form.{Form}
use Rattle.row_cases.specs.declared.spelling.Form.TheVariants as form
use Rattle.row_cases.specs.declared.tables.Table.{Table}
use Rattle.row_cases.specs.declared.tables.Table.TheVariants.{TextFaults, LaterTextFaults}
use Rattle.row_cases.specs.declared.tables.Table.TheVariants.{Texts, FirstValues, NextValues}
use Rattle.row_cases.specs.declared.tables.Table.TheVariants.{NextFaults, BinaryFaults, Binary, Printed, Canonical}
use Rattle.row_cases.specs.declared.tables.Table.TheVariants.{Tokens, TokenFaults, TextFronts, BinaryFronts, Digests}
use Rattle.row_cases.specs.declared.tables.Table.TheVariants.{Macs}

-- the table of a file's name
abbrev pub table_named : List ℕ → Option Table
table_named name =
    if bytes_eq name (codes "text_faults") then Some TextFaults
    else (if bytes_eq name (codes "later_text_faults") then Some LaterTextFaults
    else (if bytes_eq name (codes "texts") then Some Texts
    else (if bytes_eq name (codes "first_values") then Some FirstValues
    else (if bytes_eq name (codes "next_values") then Some NextValues
    else (if bytes_eq name (codes "next_faults") then Some NextFaults
    else (if bytes_eq name (codes "binary_faults") then Some BinaryFaults
    else (if bytes_eq name (codes "binary") then Some Binary
    else (if bytes_eq name (codes "printed") then Some Printed
    else (if bytes_eq name (codes "canonical") then Some Canonical
    else (if bytes_eq name (codes "tokens") then Some Tokens
    else (if bytes_eq name (codes "token_faults") then Some TokenFaults
    else (if bytes_eq name (codes "text_fronts") then Some TextFronts
    else (if bytes_eq name (codes "binary_fronts") then Some BinaryFronts
    else (if bytes_eq name (codes "blake2s") then Some Digests
    else (if bytes_eq name (codes "hmac") then Some Macs
    else None)))))))))))))))

-- how what is given to the call is written
abbrev pub given_form : Table → Form
given_form BinaryFaults = form.Hex
given_form Binary = form.Hex
given_form BinaryFronts = form.Hex
given_form Digests = form.Hex
given_form Macs = form.Hex
given_form table = form.Text

-- ---- what has to be answered, of what stands behind the arrow

-- bytes in hexadecimal
abbrev pub WantsBytes : List ℕ → Answer → Type 0
WantsBytes text (answer.Bytes b) = IsIn form.Hex text b.items
WantsBytes text a = ⊥

-- a fault and its place, as they stand
abbrev pub WantsStop : List ℕ → Answer → Type 0
WantsStop text (answer.Stops s) = string_bytes s ≡ text
WantsStop text a = ⊥

-- a text
abbrev pub WantsText : List ℕ → Answer → Type 0
WantsText text (answer.Text s) = IsIn form.Text text (string_bytes s)
WantsText text a = ⊥

abbrev pub IsWanted : Table → List ℕ → Answer → Type 0
IsWanted Texts text a = WantsBytes text a
IsWanted Canonical text a = WantsBytes text a
IsWanted Digests text a = WantsBytes text a
IsWanted Macs text a = WantsBytes text a
IsWanted TextFaults text a = WantsStop text a
IsWanted LaterTextFaults text a = WantsStop text a
IsWanted NextFaults text a = WantsStop text a
IsWanted BinaryFaults text a = WantsStop text a
IsWanted TokenFaults text a = WantsStop text a
IsWanted table text a = WantsText text a

-- ---- what the call answers

abbrev pub Gives : Table → List ℕ → Answer → Type 0
Gives TextFaults given a = GivesFirstEnd given a
Gives LaterTextFaults given a = GivesLaterStop given a
Gives Texts given a = GivesWritten given a
Gives FirstValues given a = GivesFirst given a
Gives NextValues given a = GivesNext given a
Gives NextFaults given a = GivesNext given a
Gives BinaryFaults given a = GivesRead given a
Gives Binary given a = GivesSpelled given a
Gives Printed given a = GivesPrinted given a
Gives Canonical given a = GivesCanonical given a
Gives Tokens given a = GivesTokens given a
Gives TokenFaults given a = GivesTokens given a
Gives TextFronts given a = GivesFronts GivesFirstEnd (codes "Unclosed at ") given a
Gives BinaryFronts given a = GivesFronts GivesRead (codes "Truncated at ") given a
Gives Digests given a = GivesDigest given a
Gives Macs given a = GivesMac given a
