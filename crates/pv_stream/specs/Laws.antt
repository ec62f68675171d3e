-- Laws of the values of a stream.
use Rattle.std.specs.Prelude.{◌≡◌, ◌⊎◌, ℕ, List, ◌++◌, true, false, Result, Ok, Err}
use Rattle.pv_value.specs.Plain.{Plain}
use Rattle.pv_read.specs.Leading.{LeadsOver}
use Rattle.pv_read.specs.Results.{Fault}
use Rattle.pv_binary.specs.Reading.{value_at}
use Rattle.pv_binary.specs.declared.faults.BinKind.{BinKind}
use Rattle.pv_binary.specs.declared.faults.BinKind.TheVariants as kind
use Rattle.pv_binary.specs.Reads.{Leads, BeginsWith}
use Rattle.pv_binary.specs.Fronts.{Stands}
use Rattle.pv_binary.specs.OneOfThree.{AreBytes, IsFront}
use Rattle.pv_stream.specs.Feeds.{FeedState, no_bytes, with_bytes}
use Rattle.pv_stream.specs.Nexts.{IsNext, is_value, is_end}
use Rattle.pv_stream.specs.Courses.{Course, AreValuesOf, Deed, AreDone, pieces_of, values_of}
use Rattle.pv_stream.specs.Scans.{Behind, past_value, scan_of}
use Rattle.pv_stream.specs.declared.stops.Scan.TheVariants as scan
use Rattle.pv_stream.specs.declared.nexts.Next.{Next}

-- the values of a stream are one course
abbrev pub OneCourse : Type 0
OneCourse = (f : FeedState) (c d : Course) → AreBytes f.left → AreValuesOf f c → AreValuesOf f d → c ≡ d

-- whatever pieces are pushed, and whenever it is asked what is next: the values that came are spelled by what was
-- pushed, one behind another from its first byte on, and what they leave is left
abbrev pub ValuesAreAPrefix : Type 0
ValuesAreAPrefix = (ds : List Deed) (g : FeedState) → AreDone ds no_bytes g
    → LeadsOver Leads (pieces_of ds) (values_of ds) g.left

-- and where no value is next, they are all the values of what was pushed
abbrev pub ValuesAreAll : Type 0
ValuesAreAll = (ds : List Deed) (g : FeedState) (x : Next) → AreDone ds no_bytes g → IsNext g x g
    → is_value x ≡ false
    → AreValuesOf (with_bytes (pieces_of ds) no_bytes) (record { values = values_of ds; left = g; ends = x })

-- a fault, or a value that is too long, is the end of the whole stream, whatever comes behind what was pushed
abbrev pub EndsAreOfTheWhole : Type 0
EndsAreOfTheWhole = (ds : List Deed) (g : FeedState) (x : Next) (more : List ℕ) → AreDone ds no_bytes g
    → IsNext g x g → is_end x ≡ true
    → AreValuesOf (with_bytes (pieces_of ds ++ more) no_bytes)
    (record { values = values_of ds; left = with_bytes more g; ends = x })

-- and it is told again at each later time
abbrev pub EndsStay : Type 0
EndsStay = (f : FeedState) (x : Next) (g : FeedState) (more : List ℕ) → IsNext f x g → is_end x ≡ true
    → (g ≡ f) × IsNext (with_bytes more f) x (with_bytes more f)

-- ---- what is passed, against what is read

-- the same bytes are left, or the same fault stands; where elements repeat, nothing is said
abbrev pub IsPassedAlike : Result (Plain × List ℕ) (Fault BinKind) → Behind → Type 0
IsPassedAlike (Ok x) behind = behind ≡ Ok x.1
IsPassedAlike (Err f) behind = (f.kind ≡ kind.Duplicate → ⊥) → behind ≡ Err f

-- a scan passes what reading reads, and stops where it stops, but for what repeats
abbrev pub ScanIsReading : Type 0
ScanIsReading = (total deep : ℕ) (bytes : List ℕ)
    → IsPassedAlike (value_at total deep bytes) (past_value total deep bytes)

-- and it tells of nothing that repeats
abbrev pub ScanTellsNoRepeat : Type 0
ScanTellsNoRepeat = (total deep : ℕ) (bytes : List ℕ) (f : Fault BinKind) → past_value total deep bytes ≡ Err f
    → f.kind ≡ kind.Duplicate → ⊥

-- ---- what a scan tells, by what stands in the bytes

-- elements repeat, at the end of their set or dictionary
abbrev pub HasRepeat : List ℕ → Type 0
HasRepeat bytes = (place : ℕ) × Stands bytes (record { kind = kind.Duplicate; place = place })

-- a value, a front and a fault are told as what they are, and what is told is so but where elements repeat
pub record ScanIsExact (bytes : List ℕ) : Type 0 where
  pub value : (n : ℕ) (v : Plain) → BeginsWith bytes n v → scan_of bytes ≡ scan.Whole n
  pub front : IsFront bytes → scan_of bytes ≡ scan.Part
  pub fault : (f : Fault BinKind) → Stands bytes f → (f.kind ≡ kind.Duplicate → ⊥)
      → scan_of bytes ≡ scan.Fault f.kind f.place
  pub is_value : (n : ℕ) → scan_of bytes ≡ scan.Whole n → ((v : Plain) × BeginsWith bytes n v) ⊎ HasRepeat bytes
  pub is_front : scan_of bytes ≡ scan.Part → IsFront bytes ⊎ HasRepeat bytes
  pub is_fault : (k : BinKind) (place : ℕ) → scan_of bytes ≡ scan.Fault k place
      → Stands bytes (record { kind = k; place = place }) ⊎ HasRepeat bytes
