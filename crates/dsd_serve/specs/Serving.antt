-- The words that ask to serve, by a configuration or by kept bindings, and what is told of it.
use Rattle.std.specs.Prelude.{◌≡◌, ℕ, ◌+◌, ◌≤◌, ◌⊎◌, List, [], ◌∷◌, ◌++◌, codes, decimal, true, Option}
use Rattle.out_ports.specs.Ports.{raised, RoseBy}
use Rattle.srv_loop.specs.declared.tally.Tally.{Tally}
use Rattle.srv_loop.specs.Tallies.{HasEnded}
use Rattle.dsd_top.specs.Commands.{is_serve, AreOfTable}
use Rattle.dsd_serve.specs.Limits.{most_workers, most_links}

-- at an address, by a file that holds a configuration or keeps bindings, with so many workers, for so many connections
pub record Serving : Type 0 where
  pub address : List ℕ
  pub file : List ℕ
  pub workers : ℕ
  pub connections : ℕ

-- the words for it, behind the first one
abbrev pub words_for : List ℕ → Serving → List (List ℕ)
words_for first s = first ∷ s.address ∷ s.file ∷ decimal s.workers ∷ decimal s.connections ∷ []

-- the words ask by the first one to serve so, with 1 to 16 workers and for 1 to 1,000 connections
pub record IsServingBy (first : List ℕ) (words : List (List ℕ)) (s : Serving) : Type 0 where
  pub words_are : words ≡ words_for first s
  pub workers : (1 ≤ s.workers) × (s.workers ≤ most_workers)
  pub connections : (1 ≤ s.connections) × (s.connections ≤ most_links)

abbrev pub AskToServeBy : List ℕ → List (List ℕ) → Type 0
AskToServeBy first words = (s : Serving) × IsServingBy first words s

-- by a configuration
abbrev pub IsServing : List (List ℕ) → Serving → Type 0
IsServing words s = IsServingBy (codes "serve") words s

abbrev pub AskToServe : List (List ℕ) → Type 0
AskToServe words = AskToServeBy (codes "serve") words

-- by kept bindings
abbrev pub IsServingKept : List (List ℕ) → Serving → Type 0
IsServingKept words s = IsServingBy (codes "serve-kept") words s

abbrev pub AskToServeKept : List (List ℕ) → Type 0
AskToServeKept words = AskToServeBy (codes "serve-kept") words

-- the words ask for something
abbrev pub AskForSomething : List (List ℕ) → Type 0
AskForSomething words = AreOfTable words ⊎ AskToServe words

-- of words that begin with "serve": they ask to serve so
abbrev pub IfServing : List (List ℕ) → (Serving → Type 0) → Type 0
IfServing words Is = is_serve words ≡ true → (s : Serving) × IsServing words s × Is s

-- the words ask to serve so by kept bindings
abbrev pub IfServingKept : List (List ℕ) → (Serving → Type 0) → Type 0
IfServingKept words Is = (s : Serving) × IsServingKept words s × Is s

-- ---- how it went

-- `a` links were served, and `f` weren't or accepting them failed
abbrev pub served_line : ℕ → ℕ → List ℕ
served_line a f = codes "<served " ++ decimal a ++ codes " " ++ decimal f ++ codes ">" ++ 10 ∷ []

-- links that weren't served, and accepts that failed
abbrev pub rest_in : Tally → ℕ
rest_in tally = tally.full + tally.failed + tally.unserved

-- Both numbers together are the links that were given and the accepts that failed: as many as were asked for, or fewer
-- and no more came. The counts are those of the host, before and now.
pub record AreAccepts (connections a f gave_before gave_now stops_before stops_now faults_before faults_now : ℕ)
    : Type 0 where
  pub links : ℕ
  pub failed : ℕ
  pub both : a + f ≡ links + failed
  pub given : RoseBy links gave_before gave_now
  pub failures : raised failed faults_before ≤ faults_now
  pub ended : HasEnded (a + f) connections stops_before stops_now

-- the line of two such numbers was written, all of it or a front
abbrev pub IsServed : (Option (List ℕ) → Option (List ℕ) → List ℕ → Type 0) → (ℕ → ℕ → Type 0) → Option (List ℕ)
    → Option (List ℕ) → Type 0
IsServed Grows Are before now = (a : ℕ) × (f : ℕ) × Are a f × Grows before now (served_line a f)
