-- References as a connection writes them and as the server keeps them. Syndicate Protocol, "wire references".
-- Inside the server an embedded value holds a reference's `[actor entity caveat ..]`. At connection k, whose actor is
-- 16 + k, `[0 e]` that comes in is its own object e, and `[1 n caveat ..]` its export n with these caveats behind the
-- export's own; `[1 e]` that goes out is its own object e without caveats, and `[0 n]` any other reference, by the
-- number of the export that it is or becomes. A value that names a released export is stale: nothing stands for it in
-- the server. Values are gone through in the order of their written spelling.
use Rattle.std.specs.Prelude.{◌≡◌, ℕ, zero, suc, pos, ◌+◌, ◌-◌, ◌^◌, ◌==◌, ◌&&◌, min, nat_lt, List, [], ◌∷◌, ◌++◌}
use Rattle.std.specs.Prelude.{Bool, true, false, length, map, Option, Some, None, option_map, unwrap_or}
use Rattle.std.specs.Prelude.{if◌then◌else◌}
use Rattle.std.specs.List.{flat_map, list_any}
use Rattle.std.specs.Option.{option_or}
use Rattle.std.specs.BTreeMap.{insert_entry}
use Rattle.std.specs.Ordering.{nat_cmp}
use Rattle.pv_value.specs.Plain.{Plain, integer, record_of, sequence, set_of, dictionary, embedded}
use Rattle.pv_value.specs.Plain.{Plains, no_more, then_more, PlainPairs, no_pairs, then_pair}
use Rattle.pv_value.specs.Plain.{plains, listed, pairs, paired}
use Rattle.pv_value.specs.Order.{order}
use Rattle.pv_value.specs.Sets.{ascending_by}
use Rattle.pv_value.specs.Weight.{weight}
use Rattle.pv_value.specs.Depth.{depth}
use Rattle.pv_words.specs.Words.{number, number_in}
use Rattle.ds_space.specs.declared.references.Reference.{Reference}
use Rattle.ds_space.specs.References.{reference_of, reference_value}
use Rattle.sr_caveat.specs.Limits.{value_weight, value_depth, reference_caveats, reference_weight}
use Rattle.sr_caveat.specs.Spelled.{caveat_value}
use Rattle.sr_caveat.specs.Written.{caveat_of}
use Rattle.rl_ports.specs.declared.ports.PortsFault.{PortsFault}
use Rattle.rl_ports.specs.Ports.{ExportTable, Standing, current, released, never, standing, export_of}
use Rattle.rl_ports.specs.Ports.{exported, number_of, fault_at, told}
pub use Rattle.rl_wire.specs.declared.wires.Wire.{Wire}
pub use Rattle.rl_wire.specs.declared.wires.Wire.TheVariants.{Own, ExportedAs}
pub use Rattle.rl_wire.specs.declared.faults.WireFault.{WireFault}
pub use Rattle.rl_wire.specs.declared.faults.WireFault.TheVariants.{UnknownOid, Limit, NoMemory}

-- ---- values with each embedded value in them changed, and each set and dictionary in order again

-- pairs ascending by their keys; of equal keys the first stands
abbrev pub by_keys : List (Plain × Plain) → List (Plain × Plain)
by_keys [] = []
by_keys (p ∷ ps) = insert_entry order (by_keys ps) p.0 p.1

abbrev mutual
  pub crossed : (Plain → Plain) → Plain → Plain
  crossed f (embedded x) = embedded (f x)
  crossed f (record_of l fs) = record_of (crossed f l) (all_crossed f fs)
  crossed f (sequence xs) = sequence (all_crossed f xs)
  crossed f (set_of xs) = set_of (plains (ascending_by order (listed (all_crossed f xs))))
  crossed f (dictionary ps) = dictionary (pairs (by_keys (paired (all_pairs_crossed f ps))))
  crossed f v = v

  pub all_crossed : (Plain → Plain) → Plains → Plains
  all_crossed f no_more = no_more
  all_crossed f (then_more x xs) = then_more (crossed f x) (all_crossed f xs)

  pub all_pairs_crossed : (Plain → Plain) → PlainPairs → PlainPairs
  all_pairs_crossed f no_pairs = no_pairs
  all_pairs_crossed f (then_pair k v ps) = then_pair (crossed f k) (crossed f v) (all_pairs_crossed f ps)

-- ---- what stands in values, in the order of the written spelling

-- what each embedded value holds, those inside others excepted
abbrev mutual
  pub held_in : Plain → List Plain
  held_in (embedded x) = x ∷ []
  held_in (record_of l fs) = held_in l ++ all_held_in fs
  held_in (sequence xs) = all_held_in xs
  held_in (set_of xs) = all_held_in xs
  held_in (dictionary ps) = all_pairs_held_in ps
  held_in v = []

  pub all_held_in : Plains → List Plain
  all_held_in no_more = []
  all_held_in (then_more x xs) = held_in x ++ all_held_in xs

  pub all_pairs_held_in : PlainPairs → List Plain
  all_pairs_held_in no_pairs = []
  all_pairs_held_in (then_pair k v ps) = (held_in k ++ held_in v) ++ all_pairs_held_in ps

-- how deep a value nests, as it is told
abbrev pub nested : Plain → ℕ
nested v = min (depth v) (2 ^ 32 - 1)

-- ---- in

abbrev pub wire_where : (ℕ → Wire) → Option ℕ → Option Wire
wire_where f None = None
wire_where f (Some n) = Some (f n)

-- `[0 e]` is an object of its sender's own, and `[1 n caveat ..]` a reference by the number of an export
abbrev pub wire_of : Plain → Option Wire
wire_of (sequence (then_more (integer (pos zero)) (then_more n no_more))) = wire_where Own (number_in n)
wire_of (sequence (then_more (integer (pos (suc zero))) (then_more n caveats))) = wire_where ExportedAs (number_in n)
wire_of v = None

-- what stands behind the two numbers of a reference, on the wire or in the server
abbrev pub caveats_in : Plain → List Plain
caveats_in (sequence (then_more whose (then_more n caveats))) = listed caveats
caveats_in v = []

-- the actor of connection k
abbrev pub actor_at : ℕ → ℕ
actor_at k = 16 + k

-- what stands for a caveat that came over the wire: a malformed or unknown one refuses all
abbrev pub caveat_kept : Plain → Plain
caveat_kept w = caveat_value (caveat_of false w)

-- a reference with these caveats behind its own
abbrev pub with_caveats : List Plain → Plain → Plain
with_caveats ws (sequence xs) = sequence (plains (listed xs ++ map caveat_kept ws))
with_caveats ws v = v

-- the reference that an actor's wire reference with these caveats names, where there is one
abbrev pub named_by : ExportTable → ℕ → List Plain → Wire → Option Plain
named_by exports actor ws (Own e) = Some (reference_value (record { actor = actor; entity = e }))
named_by exports actor ws (ExportedAs n) = option_map (with_caveats ws) (export_of n exports)

abbrev pub reference_in : ExportTable → ℕ → Plain → Option Wire → Plain
reference_in exports actor x None = x
reference_in exports actor x (Some w) = unwrap_or (named_by exports actor (caveats_in x) w) x

-- a value that comes in at connection k
abbrev pub crossed_in : ExportTable → ℕ → Plain → Plain
crossed_in exports k v = crossed (λ x. reference_in exports (actor_at k) x (wire_of x)) v

-- ---- values that name what was released

abbrev pub is_released : Standing → Bool
is_released (current r) = false
is_released released = true
is_released never = false

abbrev pub names_released : ExportTable → Option Wire → Bool
names_released exports None = false
names_released exports (Some (Own e)) = false
names_released exports (Some (ExportedAs n)) = is_released (standing n exports)

-- whether one of these is a reference by the number of a released export
abbrev pub any_stale : ExportTable → List Plain → Bool
any_stale exports xs = list_any (λ x. names_released exports (wire_of x)) xs

abbrev pub is_stale : ExportTable → Plain → Bool
is_stale exports v = any_stale exports (held_in v)

-- what stands for a value that comes in at connection k; nothing where it is stale
abbrev pub whole_in : ExportTable → ℕ → Plain → Option Plain
whole_in exports k v = if is_stale exports v then None else Some (crossed_in exports k v)

-- ---- faults

-- a reference may have so many caveats, and weigh so much
abbrev pub reference_fault : Plain → Option WireFault
reference_fault r =
    if nat_lt reference_caveats (length (caveats_in r)) then Some (Limit 8 (length (caveats_in r)))
    else if nat_lt reference_weight (told (weight r)) then Some (Limit 9 (told (weight r))) else None

-- why what stands under number n, with these caveats, isn't taken: the number was never given, or the reference has too
-- many caveats or is too heavy with them; of a released one nothing more is looked at
abbrev pub export_fault_in : ℕ → List Plain → Standing → Option WireFault
export_fault_in n ws (current r) = reference_fault (with_caveats ws r)
export_fault_in n ws released = None
export_fault_in n ws never = Some (UnknownOid n)

abbrev pub wire_fault : ExportTable → Plain → Option Wire → Option WireFault
wire_fault exports x None = None
wire_fault exports x (Some (Own e)) = None
wire_fault exports x (Some (ExportedAs n)) = export_fault_in n (caveats_in x) (standing n exports)

-- the first of these faults
abbrev pub first_fault : ExportTable → List Plain → Option WireFault
first_fault exports [] = None
first_fault exports (x ∷ xs) = option_or (wire_fault exports x (wire_of x)) (first_fault exports xs)

-- a value may weigh so much and nest so deep, as the server keeps it
abbrev pub size_fault : Plain → Option WireFault
size_fault v =
    if nat_lt value_weight (told (weight v)) then Some (Limit 6 (told (weight v)))
    else if nat_lt value_depth (nested v) then Some (Limit 7 (nested v)) else None

-- the same of what stands for a value, where something does
abbrev pub size_fault_of : Option Plain → Option WireFault
size_fault_of None = None
size_fault_of (Some v) = size_fault v

-- why the references in a value can't come in
abbrev pub references_fault : ExportTable → Plain → Option WireFault
references_fault exports v = first_fault exports (held_in v)

-- why a value can't come in: a reference in it, before all else
abbrev pub fault_in : ExportTable → ℕ → Plain → Option WireFault
fault_in exports k v = option_or (references_fault exports v) (size_fault_of (whole_in exports k v))

-- the fault is why; where memory ran out, nothing is said
abbrev pub IsWhyNotIn : Option WireFault → WireFault → Type 0
IsWhyNotIn why NoMemory = Unit {0}
IsWhyNotIn why f = why ≡ Some f

-- ---- out

-- whether a reference is to an object of the actor's own, without caveats
abbrev pub is_own : ℕ → Plain → Reference → Bool
is_own actor x r = r.actor == actor && length (caveats_in x) == 0

-- the reference, where it isn't one to the actor's own object
abbrev pub foreign_of : ℕ → Plain → Option Reference → List Plain
foreign_of actor x None = []
foreign_of actor x (Some r) = if is_own actor x r then [] else x ∷ []

-- the references in a value that goes out at connection k, those to its own objects excepted
abbrev pub foreign_in : ℕ → Plain → List Plain
foreign_in k v = flat_map (λ x. foreign_of (actor_at k) x (reference_of x)) (held_in v)

-- each is exported where it isn't, in order of first use
abbrev pub all_exported : ExportTable → List Plain → ExportTable
all_exported exports [] = exports
all_exported exports (r ∷ rs) = all_exported (exported r exports) rs

-- why they can't all be: the first fault
abbrev pub fault_out : ExportTable → List Plain → Option PortsFault
fault_out exports [] = None
fault_out exports (r ∷ rs) = option_or (fault_at r exports) (fault_out (exported r exports) rs)

-- the exports after a value went out
abbrev pub exports_with : ExportTable → ℕ → Plain → ExportTable
exports_with exports k v = all_exported exports (foreign_in k v)

-- the numbers by which the references in a value go out at connection k, ascending, each once
abbrev pub numbers_out : ExportTable → ℕ → Plain → List ℕ
numbers_out exports k v = ascending_by nat_cmp (map (λ r. number_of r exports) (foreign_in k v))

abbrev pub wire_value : ℕ → ℕ → Plain
wire_value whose n = sequence (plains (number whose ∷ number n ∷ []))

abbrev pub reference_out : ExportTable → ℕ → Plain → Option Reference → Plain
reference_out exports actor x None = x
reference_out exports actor x (Some r) =
    if is_own actor x r then wire_value 1 r.entity else wire_value 0 (number_of x exports)

-- a value that goes out at connection k, where these are the exports by then
abbrev pub crossed_out : ExportTable → ℕ → Plain → Plain
crossed_out exports k v = crossed (λ x. reference_out exports (actor_at k) x (reference_of x)) v
