-- Why a binding, a watcher or an arrival is barred. The limits are this server's own.
use Rattle.std.specs.Prelude.{◌≡◌, ◌⊎◌, ℕ, ◌^◌, ◌<◌, ◌≤◌, true, List, [], ◌∷◌, codes, length, None}
use Rattle.pv_value.specs.Plain.{Plain}
use Rattle.sr_caveat.specs.Embedded.{has_embedded}
use Rattle.sr_caveat.specs.Caps.{Cap, cap_value}
use Rattle.dp_pattern.specs.Written.{pattern_of}
use Rattle.gk_sturdy.specs.declared.bound.Binding.{Binding}
use Rattle.ac_world.specs.declared.watched.Watched.{Watched}
use Rattle.hub_machine.specs.State.{State}
use Rattle.hub_machine.specs.declared.steps.Step.{Step}
use Rattle.hub_machine.specs.declared.steps.Step.TheVariants.{Bind, Watch, Arrive, Packet, Bad, Close, Turn, Work, Stop}

-- ---- what is spoken of

-- actors 1 to 8 are the dataspaces
abbrev pub IsSpaceNumber : ℕ → Type 0
IsSpaceNumber a = (1 ≤ a) × (a ≤ 8)

-- behaviours have the names `each`, `tuple` and `size`
abbrev pub IsBehaviour : List ℕ → Type 0
IsBehaviour name = (name ≡ codes "each") ⊎ ((name ≡ codes "tuple") ⊎ (name ≡ codes "size"))

-- a connection has come
abbrev pub HasBegun : State → Type 0
HasBegun s = 1 ≤ s.world.opened

-- the oid has a binding
abbrev pub IsBoundIn : Plain → List Binding → Type 0
IsBoundIn oid [] = ⊥
IsBoundIn oid (b ∷ bs) = (b.oid ≡ oid) ⊎ IsBoundIn oid bs

-- a reference to a dataspace itself, which is its object 0
abbrev pub IsToSpace : Cap → Type 0
IsToSpace c = IsSpaceNumber c.actor × (c.entity ≡ 0)

-- one of the two watches where the other asserts
abbrev pub AreJoined : Watched → Watched → Type 0
AreJoined x y = (y.to ≡ x.from) ⊎ (y.from ≡ x.to)

-- with one of these
abbrev pub IsJoinedTo : Watched → List Watched → Type 0
IsJoinedTo x [] = ⊥
IsJoinedTo x (y ∷ ys) = AreJoined x y ⊎ IsJoinedTo x ys

-- ---- causes

-- why no reference is bound
pub data BarsBinding (b : Binding) (s : State) : Type 0 where
  begun : HasBegun s → BarsBinding b s
  bound_already : IsBoundIn b.oid s.world.bindings → BarsBinding b s
  to_no_space : (IsToSpace b.cap → ⊥) → BarsBinding b s
  embedded_in_oid : has_embedded b.oid ≡ true → BarsBinding b s
  embedded_in_caveat : has_embedded (cap_value b.cap) ≡ true → BarsBinding b s

-- why no watcher begins
pub data BarsWatcher (x : Watched) (s : State) : Type 0 where
  begun_before : HasBegun s → BarsWatcher x s
  as_many_as_may_be : 8 ≤ length s.world.watches → BarsWatcher x s
  watches_no_space : (IsSpaceNumber x.from → ⊥) → BarsWatcher x s
  asserts_at_no_space : (IsSpaceNumber x.to → ⊥) → BarsWatcher x s
  no_behaviour : (IsBehaviour x.name → ⊥) → BarsWatcher x s
  embedded_in_pattern : has_embedded x.pattern ≡ true → BarsWatcher x s
  no_pattern : pattern_of x.pattern ≡ None → BarsWatcher x s
  -- with itself, or with one that was made
  joins : IsJoinedTo x (x ∷ s.world.watches) → BarsWatcher x s

-- the first object of a connection that comes is the gatekeeper or a dataspace
abbrev pub HasCause : State → Step → Type 0
HasCause s (Bind b) = BarsBinding b s
HasCause s (Watch x) = BarsWatcher x s
HasCause s (Arrive space) = 8 < space
HasCause s (Packet k t) = ⊥
HasCause s (Bad k f) = ⊥
HasCause s (Close k) = ⊥
HasCause s (Turn a) = ⊥
HasCause s Work = ⊥
HasCause s Stop = ⊥

-- no numbers are used up: handles, or for an arrival those of connections
abbrev pub HasNumbers : State → Step → Type 0
HasNumbers s (Arrive space) = (s.world.table.next < 2 ^ 62) × (s.world.opened < 2 ^ 31)
HasNumbers s e = s.world.table.next < 2 ^ 62
