-- What the calls on the outside world do: taking from a source, putting into a sink, accepting links, reading files,
-- starting jobs.
use Rattle.std.specs.Prelude.{◌≡◌, ℕ, ◌+◌, ◌-◌, ◌^◌, ◌<◌, ◌≤◌, min, Bool, true, false, ⊤, if◌then◌else◌}
use Rattle.std.specs.Prelude.{List, [], ◌∷◌, ◌++◌, length, take, drop, Option, None, Some, IfSome}
use Rattle.std.specs.Str.{bytes_eq}
use Rattle.std.specs.Option.{option_map}
use Rattle.out_ports.specs.Limits.{most_read}
use Rattle.out_ports.specs.declared.ports.Took.{Took}
use Rattle.out_ports.specs.declared.ports.Took.TheVariants as took
use Rattle.out_ports.specs.declared.ports.Put.{Put}
use Rattle.out_ports.specs.declared.ports.Put.TheVariants as put
use Rattle.out_ports.specs.declared.ports.Offered.{Offered}
use Rattle.out_ports.specs.declared.ports.Offered.TheVariants as offered
use Rattle.out_ports.specs.declared.ports.Accepted.{Accepted}
use Rattle.out_ports.specs.declared.ports.Accepted.TheVariants as accepted

-- Counts

-- a count after n more: it stops at the greatest u64
abbrev pub raised : ℕ → ℕ → ℕ
raised n before = min (before + n) (2 ^ 64 - 1)

-- the count has risen, or stands at its end
abbrev pub Rose : ℕ → ℕ → Type 0
Rose before now = min (before + 1) (2 ^ 64 - 1) ≤ now

-- the count has risen by n, or stands at its end
abbrev pub RoseBy : ℕ → ℕ → ℕ → Type 0
RoseBy n before now = now < 2 ^ 64 - 1 → now ≡ before + n

-- Taking from a source

-- a piece that is given has a byte at least, and fits in the buffer
abbrev pub FitsBuffer : Took → ℕ → Type 0
FitsBuffer (took.Some n) room = (1 ≤ n) × (n ≤ room)
FitsBuffer took.End room = ⊤
FitsBuffer took.Failed room = ⊤

-- the first n bytes of what was left begin the buffer, and the rest of them is left
pub record IsFront (n : ℕ) (buf before : List ℕ) (now : Option (List ℕ)) : Type 0 where
  pub there : n ≤ length before
  pub given : take n buf ≡ take n before
  pub rest : now ≡ Some (drop n before)

-- what a take does to what is left, where that is told: a piece is its front, the end comes where nothing is left, and
-- a failed take changes nothing
abbrev pub IsTaken : Took → List ℕ → Option (List ℕ) → Option (List ℕ) → Type 0
IsTaken (took.Some n) buf before now = IfSome before (λ bytes. IsFront n buf bytes now)
IsTaken took.End buf before now = IfSome before (λ bytes. (bytes ≡ []) × (now ≡ Some []))
IsTaken took.Failed buf before now = now ≡ before

-- the count of bytes given, after a take
abbrev pub given_after : Took → ℕ → ℕ
given_after (took.Some n) before = raised n before
given_after took.End before = before
given_after took.Failed before = before

-- whether a take has answered the end, after one more take
abbrev pub ended_after : Took → Bool → Bool
ended_after (took.Some n) before = before
ended_after took.End before = true
ended_after took.Failed before = before

-- Putting into a sink

-- a piece is taken by a byte at least, and not past its end
abbrev pub FitsPiece : Put → ℕ → Type 0
FitsPiece (put.Some n) len = (1 ≤ n) × (n ≤ len)
FitsPiece put.Failed len = ⊤

-- the bytes are appended to what the sink held, where that is told
abbrev pub Appends : Option (List ℕ) → Option (List ℕ) → List ℕ → Type 0
Appends before now bytes = IfSome before (λ held. now ≡ Some (held ++ bytes))

-- a front of the bytes is appended
abbrev pub AppendsFront : Option (List ℕ) → Option (List ℕ) → List ℕ → Type 0
AppendsFront before now bytes = (n : ℕ) × (n ≤ length bytes) × Appends before now (take n bytes)

-- what a put does to what the sink holds, where that is told: the front of the piece is appended, or nothing
abbrev pub IsPut : Put → List ℕ → Option (List ℕ) → Option (List ℕ) → Type 0
IsPut (put.Some n) piece before now = Appends before now (take n piece)
IsPut put.Failed piece before now = now ≡ before

-- Offering to a link

-- a piece is taken by a byte at least, and not past its end
abbrev pub FitsOffer : Offered → ℕ → Type 0
FitsOffer (offered.Some n) len = (1 ≤ n) × (n ≤ len)
FitsOffer offered.Waits len = ⊤
FitsOffer offered.Failed len = ⊤

-- what an offer does to what the link holds, where that is told: the front of the piece is appended, or nothing
abbrev pub IsOffered : Offered → List ℕ → Option (List ℕ) → Option (List ℕ) → Type 0
IsOffered (offered.Some n) piece before now = Appends before now (take n piece)
IsOffered offered.Waits piece before now = now ≡ before
IsOffered offered.Failed piece before now = now ≡ before

-- Accepting links

-- the count of links given, after an accept
abbrev pub gave_after : {R W : Type 0} → Accepted R W → ℕ → ℕ
gave_after (accepted.Link r w) before = raised 1 before
gave_after accepted.Stopped before = before
gave_after accepted.Nobody before = before
gave_after accepted.Failed before = before
gave_after accepted.NoMemory before = before

-- the count of stops, after an accept
abbrev pub stops_after : {R W : Type 0} → Accepted R W → ℕ → ℕ
stops_after (accepted.Link r w) before = before
stops_after accepted.Stopped before = raised 1 before
stops_after accepted.Nobody before = before
stops_after accepted.Failed before = before
stops_after accepted.NoMemory before = before

-- Files

-- the contents of the first file of a name
abbrev pub contents_of : List ℕ → List (List ℕ × List ℕ) → Option (List ℕ)
contents_of name [] = None
contents_of name (file ∷ files) = if bytes_eq file.0 name then Some file.1 else contents_of name files

-- the bytes of a file that a host gives: all, or the first 1,048,577
unfoldable pub file_front : List ℕ → List ℕ
file_front bytes = take most_read bytes

-- the bytes are the front of the file of that name, where the files are told
abbrev pub IsFile : Option (List (List ℕ × List ℕ)) → List ℕ → List ℕ → Type 0
IsFile files name bytes =
    IfSome files (λ told. option_map file_front (contents_of name told) ≡ Some bytes)

-- Starting jobs

-- the count of jobs taken, after a start
abbrev pub took_after : Bool → ℕ → ℕ
took_after true before = raised 1 before
took_after false before = before

-- what a start does to the jobs that were taken, where they are told: the job comes last, or it isn't taken
abbrev pub IsStarted : {J : Type 0} → Bool → J → Option (List J) → Option (List J) → Type 0
IsStarted true job before now = IfSome before (λ jobs. now ≡ Some (jobs ++ job ∷ []))
IsStarted false job before now = now ≡ before
