-- The links that an accept loop hands on: what a desk and a spawner do with them.
use Rattle.std.specs.Prelude.{◌≡◌, ℕ, nat_eq, Bool, false, not, List, [], ◌∷◌, ◌++◌, length, take, map, filter}
use Rattle.std.specs.Prelude.{flat_map, Option, None, Some, IfSome}
use Rattle.std.specs.Prelude.{◌⊎◌}
use Rattle.std.specs.List.{AllByRecursion}
use Rattle.out_ports.specs.Ports.{raised, RoseBy}

-- A desk

-- what a desk has done: the numbers of the links that it opened, in order, how many it didn't open, and the numbers of
-- those that it dismissed, in order; and whether it is spent, so that it opens and dismisses no more
pub record Deeds : Type 0 where
  pub opened : List ℕ
  pub full : ℕ
  pub dismissed : List ℕ
  pub spent : Bool

-- the links opened, after a welcome: the link's number comes last
abbrev pub opened_after : {J : Type 0} → Option (ℕ × J × J) → List ℕ → List ℕ
opened_after None before = before
opened_after (Some link) before = before ++ link.0 ∷ []

-- how many links weren't opened, after a welcome
abbrev pub full_after : {J : Type 0} → Option (ℕ × J × J) → ℕ → ℕ
full_after None before = raised 1 before
full_after (Some link) before = before

-- what was there stands, and maybe more behind it
abbrev pub Begins : List ℕ → List ℕ → Type 0
Begins before now = (more : List ℕ) × (now ≡ before ++ more)

-- these are some of the numbers, in their order
abbrev pub ArePart : List ℕ → List ℕ → Type 0
ArePart some [] = some ≡ []
ArePart some (n ∷ numbers) = ArePart some numbers ⊎ ((more : List ℕ) × (some ≡ n ∷ more) × ArePart more numbers)

-- these numbers are dismissed, each once and in their order; a desk that is spent may have left some out
pub record AreDismissed (numbers : List ℕ) (before now : Deeds) : Type 0 where
  pub kept : List ℕ
  pub now_is : now.dismissed ≡ before.dismissed ++ kept
  pub part : ArePart kept numbers
  pub all : now.spent ≡ false → kept ≡ numbers

-- A link

-- a link that was opened: its number, and those of its jobs that the spawner took
pub record Opened (J : Type 0) : Type 0 where
  pub number : ℕ
  pub taken : List J

-- a link's jobs are started in order, and the second only where the first was taken: those taken are none of the two,
-- the first, or both
pub record IsStarted {J : Type 0} (is_first is_second : ℕ → J → Type 0) (link : Opened J) : Type 0 where
  pub first : J
  pub second : J
  pub first_is : is_first link.number first
  pub second_is : is_second link.number second
  pub count : ℕ
  pub taken_is : link.taken ≡ take count (first ∷ second ∷ [])

-- a link is served where the spawner took both of its jobs
abbrev pub is_served : {J : Type 0} → Opened J → Bool
is_served link = nat_eq (length link.taken) 2

-- the spawner took these jobs and no others: which it tells, or doesn't, and how many
pub record AreTaken {J : Type 0} (jobs : List J) (before now : Option (List J)) (count_before count_now : ℕ)
    : Type 0 where
  pub told : IfSome before (λ held. now ≡ Some (held ++ jobs))
  pub count : RoseBy (length jobs) count_before count_now

-- Many links

abbrev pub numbers : {J : Type 0} → List (Opened J) → List ℕ
numbers links = map (λ link. link.number) links

abbrev pub jobs_of : {J : Type 0} → List (Opened J) → List J
jobs_of links = flat_map (λ link. link.taken) links

abbrev pub served : {J : Type 0} → List (Opened J) → List (Opened J)
served links = filter is_served links

abbrev pub unserved : {J : Type 0} → List (Opened J) → List (Opened J)
unserved links = filter (λ link. not (is_served link)) links

-- what became of the links that a desk opened, in order: what it had done before and has done now
pub record AreLed {J : Type 0} (is_first is_second : ℕ → J → Type 0) (links : List (Opened J)) (before now : Deeds)
    : Type 0 where
  -- the jobs of each were started in order
  pub started : AllByRecursion (IsStarted is_first is_second) links
  -- the desk opened these and no others
  pub opened : now.opened ≡ before.opened ++ numbers links
  -- it dismissed those that aren't served, each once, and no others
  pub dismissed : AreDismissed (numbers (unserved links)) before now

-- nothing that was done is taken back
pub record OnlyGrew {J : Type 0} (before now : Deeds) (jobs_before jobs_now : Option (List J)) : Type 0 where
  pub opened : Begins before.opened now.opened
  pub dismissed : Begins before.dismissed now.dismissed
  pub jobs : IfSome jobs_before (λ held. (more : List J) × (jobs_now ≡ Some (held ++ more)))
