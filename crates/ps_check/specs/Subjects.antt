-- What is held against a pattern, and what is inside.
use Rattle.std.specs.Prelude.{ℕ, Bool, false, Option, Some, None, if◌then◌else◌}
use Rattle.pv_value.specs.Plain.{Plain, record_of, sequence}
use Rattle.pv_value.specs.Plain.{set_of, dictionary, embedded, Plains, PlainPairs, no_more}
use Rattle.pv_value.specs.Weight.{node_count, node_counts, pair_node_counts}
use Rattle.ps_schema.specs.Conforms.{is_value}
use Rattle.ps_check.specs.declared.subjects.Subject.{Subject}
use Rattle.ps_check.specs.declared.subjects.Subject.TheVariants.{Whole, Fields}

-- the sequence of a record's fields; no other value has any
abbrev pub in_fields : Plain → Plain
in_fields (record_of l fs) = sequence fs
in_fields v = sequence no_more

abbrev pub seen : Subject → Plain
seen (Whole v) = v.now
seen (Fields v) = in_fields v.now

-- what is inside an embedded value
abbrev pub inside_of : Plain → Option Plain
inside_of (embedded x) = Some x
inside_of v = None

abbrev pub label_of : Plain → Option Plain
label_of (record_of l fs) = Some l
label_of v = None

-- a record's fields, as a sequence
abbrev pub fields_of : Plain → Option Plain
fields_of (record_of l fs) = Some (sequence fs)
fields_of v = None

-- the fields of a record of this label
abbrev pub fields_under : Plain → Plain → Option Plains
fields_under label (record_of l fs) = if is_value label l then Some fs else None
fields_under label v = None

abbrev pub items_of : Plain → Option Plains
items_of (sequence xs) = Some xs
items_of v = None

abbrev pub elements_of : Plain → Option Plains
elements_of (set_of xs) = Some xs
elements_of v = None

abbrev pub entries_of : Plain → Option PlainPairs
entries_of (dictionary ps) = Some ps
entries_of v = None

-- whether it is there, and passes the test
abbrev pub held : {A : Type 0} → (A → Bool) → Option A → Bool
held test (Some x) = test x
held test None = false

-- ---- how many nodes are there

abbrev pub counted : Option Plain → ℕ
counted (Some v) = node_count v
counted None = 0

abbrev pub items_counted : Option Plains → ℕ
items_counted (Some xs) = node_counts xs
items_counted None = 0

abbrev pub entries_counted : Option PlainPairs → ℕ
entries_counted (Some ps) = pair_node_counts ps
entries_counted None = 0
