-- What is next in a stream: each value is decided on the first 262,144 bytes of what is left, a whole value before all
-- else, then a fault that stands there, and else it is too long or more is to come.
use Rattle.std.specs.Prelude.{◌≡◌, ℕ, ◌+◌, ◌<◌, ◌≤◌, Bool, true, false, List, take, length}
use Rattle.pv_binary.specs.Reads.{BeginsWith}
use Rattle.pv_binary.specs.Fronts.{Stands}
use Rattle.pv_binary.specs.OneOfThree.{AreBytes, IsFront}
use Rattle.pv_binary.specs.declared.faults.BinKind.{BinKind}
use Rattle.pv_binary.specs.declared.faults.BinKind.TheVariants as kind
use Rattle.pv_stream.specs.Feeds.{FeedState, given}
use Rattle.pv_stream.specs.Limits.{most_bytes}
use Rattle.pv_stream.specs.declared.nexts.Next.{Next}
use Rattle.pv_stream.specs.declared.nexts.Next.TheVariants as next

-- the bytes on which the first value is decided
abbrev pub front_of : List ℕ → List ℕ
front_of left = take most_bytes left

-- this is next, and then the stream stands so
abbrev pub IsNext : FeedState → Next → FeedState → Type 0
IsNext f (next.Value v) g = (n : ℕ) × BeginsWith (front_of f.left) n v × (g ≡ given n f)
IsNext f next.More g = IsFront (front_of f.left) × (length f.left < most_bytes) × (g ≡ f)
IsNext f (next.Fault k at) g =
    (place : ℕ) × Stands (front_of f.left) (record { kind = k; place = place }) × (f.before + place ≡ at) × (g ≡ f)
IsNext f next.TooLong g = IsFront (front_of f.left) × (most_bytes ≤ length f.left) × (g ≡ f)

-- nothing else is next, and the stream can stand no other way
abbrev pub IsOnlyNext : FeedState → Next → FeedState → Type 0
IsOnlyNext f x g = (y : Next) (h : FeedState) → IsNext f y h → (y ≡ x) × (h ≡ g)

abbrev pub is_value : Next → Bool
is_value (next.Value v) = true
is_value x = false

-- no value comes behind it: a fault, or a value that is too long
abbrev pub is_end : Next → Bool
is_end (next.Fault k at) = true
is_end next.TooLong = true
is_end x = false

-- of bytes there is something that is next, and one thing alone
abbrev pub SomeNext : Type 0
SomeNext = (f : FeedState) → AreBytes f.left → (x : Next) × (g : FeedState) × IsNext f x g

abbrev pub OneNext : Type 0
OneNext = (f : FeedState) (x : Next) (g : FeedState) → AreBytes f.left → IsNext f x g → IsOnlyNext f x g

-- that the bytes end is told as that more is to come, or as too long, and never as a fault
abbrev pub NeverTruncated : Type 0
NeverTruncated = (f : FeedState) (k : BinKind) (at : ℕ) (g : FeedState) → IsNext f (next.Fault k at) g
    → k ≡ kind.Truncated → ⊥
