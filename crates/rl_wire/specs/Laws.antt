-- Laws of the definitions.
use Rattle.std.specs.Prelude.{◌≡◌, ℕ, zero, suc, pos, List, map, true, false, is_some, Some}
use Rattle.std.specs.List.{AllByRecursion}
use Rattle.pv_value.specs.Plain.{Plain, integer, sequence, then_more, embedded}
use Rattle.pv_words.specs.Words.{number}
use Rattle.ds_space.specs.References.{reference_of}
use Rattle.sr_caveat.specs.Written.{caveat_of}
use Rattle.sr_caveat.specs.Caps.{cap_of, attenuated}
use Rattle.sr_caveat.specs.declared.caps.Cap.{Cap}
use Rattle.rl_ports.specs.Ports.{ExportTable, AreNumbered, place_of}
use Rattle.rl_wire.specs.Crossing.{with_caveats, crossed, held_in, foreign_of, actor_at, exports_with}
use Rattle.rl_wire.specs.Crossing.{crossed_in, crossed_out}

-- a reference with caveats from the wire behind its own is a reference with what was read of these behind its own
abbrev pub AttenuatedReferencesAreCaps : Type 0
AttenuatedReferencesAreCaps = (x : Plain) (c : Cap) (ws : List Plain)
    → cap_of x ≡ Some c → cap_of (with_caveats ws x) ≡ Some (attenuated (map (caveat_of false) ws) c)

-- ---- references tell objects apart

-- what an embedded value holds is a reference
abbrev pub IsReference : Plain → Type 0
IsReference x = is_some (reference_of x) ≡ true

abbrev pub IsAmong : ExportTable → Plain → Type 0
IsAmong exports x = is_some (place_of x exports.in_force) ≡ true

-- a reference is one to an object of the connection's own, or among the exports, as each is that went out there
pub record HasGoneOut (exports : ExportTable) (k : ℕ) (x : Plain) : Type 0 where
  pub reference : IsReference x
  pub exported : AllByRecursion (IsAmong exports) (foreign_of (actor_at k) x (reference_of x))

-- a wire reference as its peer writes it: what is the one's own is the other's, so `[0 ..]` and `[1 ..]` change places
abbrev pub turned : Plain → Plain
turned (sequence (then_more (integer (pos zero)) more)) = sequence (then_more (number 1) more)
turned (sequence (then_more (integer (pos (suc zero))) more)) = sequence (then_more (number 0) more)
turned x = x

-- a value as a peer writes it that was told of it
abbrev pub written_back : Plain → Plain
written_back v = crossed turned v

-- what goes out leaves each of its references among the exports
abbrev pub WhatGoesOutIsExported : Type 0
WhatGoesOutIsExported = (exports : ExportTable) (k : ℕ) (v : Plain) → AllByRecursion IsReference (held_in v)
    → AllByRecursion (HasGoneOut (exports_with exports k v) k) (held_in v)

-- a reference that went out and is written back is that reference again
abbrev pub ReferencesComeBack : Type 0
ReferencesComeBack = (exports : ExportTable) (k : ℕ) (x : Plain) → AreNumbered exports → HasGoneOut exports k x
    → crossed_in exports k (written_back (crossed_out exports k (embedded x))) ≡ embedded x

-- so no two are called alike on the wire
abbrev pub ReferencesStayApart : Type 0
ReferencesStayApart = (exports : ExportTable) (k : ℕ) (x y : Plain) → AreNumbered exports
    → HasGoneOut exports k x → HasGoneOut exports k y
    → crossed_out exports k (embedded x) ≡ crossed_out exports k (embedded y) → x ≡ y
