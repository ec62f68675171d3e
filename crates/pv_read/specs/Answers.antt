-- What a reader answers, against what reading gives and against what stands of the bytes.
use Rattle.std.specs.Prelude.{◌≡◌, ℕ, Result, Ok, Err}
use Rattle.pv_read.specs.Results.{Fault}
use Rattle.pv_read.specs.declared.ReadFault.{ReadFault}
use Rattle.pv_read.specs.declared.ReadFault.TheVariants.{Bad, NoMemory}

-- ---- against what reading gives

-- a fault, against what is given: where memory ran out, nothing is said
abbrev pub Fails : {K Y : Type 0} → ReadFault K → Result Y (Fault K) → Type 0
Fails NoMemory given = Unit {0}
Fails (Bad kind place) given = given ≡ Err (record { kind = kind; place = place })

-- unless memory ran out, the answer, seen by view, is what is given
abbrev pub Gives : {K X Y : Type 0} → (X → Y) → Result X (ReadFault K) → Result Y (Fault K) → Type 0
Gives view (Ok x) given = given ≡ Ok (view x)
Gives view (Err e) given = Fails e given

-- the same of a reader that takes no memory and knows no place
abbrev pub Answers : {K X Y : Type 0} → (X → Y) → Result X K → Result Y K → Type 0
Answers view (Ok x) given = given ≡ Ok (view x)
Answers view (Err k) given = given ≡ Err k

-- the answer of such a reader, for what stands at this place
abbrev pub placed : {K X : Type 0} → ℕ → Result X K → Result X (ReadFault K)
placed place (Ok x) = Ok x
placed place (Err k) = Err (Bad k place)

-- ---- against what stands of the bytes

-- unless memory ran out, the answer, seen by view, is this
abbrev pub IsAnswer : {K X Y : Type 0} → (X → Y) → Result X (ReadFault K) → Y → Type 0
IsAnswer view (Ok x) y = view x ≡ y
IsAnswer view (Err NoMemory) y = Unit {0}
IsAnswer view (Err (Bad kind place)) y = ⊥

-- unless memory ran out, the answer is this fault at this place
abbrev pub IsFault : {K X : Type 0} → Result X (ReadFault K) → Fault K → Type 0
IsFault (Ok x) f = ⊥
IsFault (Err NoMemory) f = Unit {0}
IsFault (Err (Bad kind place)) f = record { kind = kind; place = place } ≡ f

-- a fault that is named stands so
abbrev pub IsExact : {K X : Type 0} → Result X (ReadFault K) → (Fault K → Type 0) → Type 0
IsExact (Ok x) Stands = Unit {0}
IsExact (Err NoMemory) Stands = Unit {0}
IsExact (Err (Bad kind place)) Stands = Stands (record { kind = kind; place = place })
