-- What became of one link.
use Rattle.std.specs.Prelude.{◌≡◌, ℕ, List, length}
use Rattle.srv_loop.specs.declared.tally.Fate.{Fate}
use Rattle.srv_loop.specs.declared.tally.Fate.TheVariants as fate
use Rattle.srv_loop.specs.Links.{Opened, served, unserved}

-- how many links a fate adds to those served, to those not opened, and to those opened and not served
abbrev pub served_in : Fate → ℕ
served_in fate.Served = 1
served_in fate.Full = 0
served_in fate.Unserved = 0

abbrev pub full_in : Fate → ℕ
full_in fate.Served = 0
full_in fate.Full = 1
full_in fate.Unserved = 0

abbrev pub unserved_in : Fate → ℕ
unserved_in fate.Served = 0
unserved_in fate.Full = 0
unserved_in fate.Unserved = 1

-- these are the links opened, none or one, of which the fate tells
pub record IsFateOf {J : Type 0} (links : List (Opened J)) (fate : Fate) : Type 0 where
  pub served : served_in fate ≡ length (served links)
  pub unserved : unserved_in fate ≡ length (unserved links)
