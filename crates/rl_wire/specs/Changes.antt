-- What the code answers where something may be the same afterwards: the new one, or nothing where it is the same.
use Rattle.std.specs.Prelude.{◌≡◌, ◌≤◌, ℕ, List, filter, nat_lt, Option, Some, None, MatchOption, unwrap_or}
use Rattle.std.specs.Global.{Global}
use Rattle.std.specs.declared.vec.Vec.{Vec}
use Rattle.pv_value.specs.Plain.{Plain, record_of, plains}
use Rattle.pv_value.specs.declared.Entry.{Entry}
use Rattle.std.specs.List.{flat_map}
use Rattle.ds_space.specs.References.{reference_of}
use Rattle.rl_ports.specs.Ports.{PortsState, with_exports}
use Rattle.rl_wire.specs.Crossing.{crossed, foreign_of}
use Rattle.rl_wire.specs.declared.inward.Crossed.{Crossed}
use Rattle.rl_wire.specs.declared.inward.Crossed.TheVariants.{Whole, Stale}

abbrev pub IsChange : {A : Type 0} → A → A → Option A → Type 0
IsChange old new None = new ≡ old
IsChange old new (Some x) = x ≡ new

-- the same of lists
abbrev pub AreChanged : {A : Type 0} → List A → List A → Option (Vec A Global) → Type 0
AreChanged old new xs = MatchOption xs (new ≡ old) (λ vs. vs.items ≡ new)

abbrev pub entry_crossed : (Plain → Plain) → Entry → Entry
entry_crossed f e = record { key = crossed f e.key; value = crossed f e.value }

-- the record with what is new in the place of its label and of its fields
abbrev pub record_or : Plain → List Plain → Option Plain → Option (List Plain) → Plain
record_or l fs new news = record_of (unwrap_or new l) (plains (unwrap_or news fs))

-- the references of others, among what embedded values hold: all but those to the actor's own objects without caveats
abbrev pub others_in : ℕ → List Plain → List Plain
others_in actor xs = flat_map (λ x. foreign_of actor x (reference_of x)) xs

-- what stands for a value that came in
abbrev pub whole_of : Crossed → Option Plain
whole_of (Whole v) = Some v
whole_of Stale = None

-- without the exports that came since, the new is as the old
pub record HasGrown (old new : PortsState) : Type 0 where
  pub back : with_exports (record {
    in_force = filter (λ e. nat_lt e.0 old.exports.next) new.exports.in_force;
    next = old.exports.next;
  }) new ≡ old
  pub next : old.exports.next ≤ new.exports.next
