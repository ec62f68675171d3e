-- How the links of an accept loop fared.
use Rattle.std.specs.Prelude.{◌≡◌, ℕ, ◌+◌, ◌<◌, ◌⊎◌, List, length}
use Rattle.srv_loop.specs.declared.tally.Tally.{Tally}
use Rattle.srv_loop.specs.Links.{Opened, served, unserved}
use Rattle.out_ports.specs.Ports.{raised}

-- how many links were given
abbrev pub links_of : Tally → ℕ
links_of tally = tally.served + tally.full + tally.unserved

-- how many accepts there were, but for one that was answered by a stop
abbrev pub accepts_of : Tally → ℕ
accepts_of tally = links_of tally + tally.failed

-- the tally counts the links that were opened
pub record Counts {J : Type 0} (links : List (Opened J)) (tally : Tally) : Type 0 where
  pub served : tally.served ≡ length (served links)
  pub unserved : tally.unserved ≡ length (unserved links)

-- a loop ends after `count` accepts, without a stop, or at the first stop
abbrev pub HasEnded : ℕ → ℕ → ℕ → ℕ → Type 0
HasEnded accepts count stops_before stops_now =
    ((accepts ≡ count) × (stops_now ≡ stops_before)) ⊎ ((accepts < count) × (stops_now ≡ raised 1 stops_before))
