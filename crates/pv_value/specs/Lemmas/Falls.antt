-- Each value inside a value is smaller.
use Rattle.std.specs.Prelude.{◌+◌, ◌≤◌, max, List, [], ◌∷◌, map}
use Rattle.std.proofs.Common.{arith}
use denote.Param.Weighed.{most}
use Rattle.pv_value.specs.Plain.{Plain, plains, pairs}
use Rattle.pv_value.specs.Lemmas.Measures.{measure, measure_all, measure_pairs}
use Rattle.pv_value.specs.View.{view_node, key_and_value}
use Rattle.pv_value.specs.declared.Entry.{Entry}
use Rattle.pv_value.specs.declared.Node.{Node}
use Rattle.pv_value.specs.declared.Node.TheVariants.{Bool, Double, Int, Str, Bytes, Sym, Rec, Seq, Set, Dict, Emb}
use Rattle.pv_value.specs.declared.Entries.TheDeep.{deep-Node, deep-Entry}

pub most-items : (xs : List Plain) → most (λ y. measure y + 1) xs ≤ measure_all (plains xs)
most-items [] = omega arith
most-items (x ∷ xs) = omega (arith, most-items xs)

pub most-entries : (es : List Entry) → most deep-Entry es ≤ measure_pairs (pairs (map key_and_value es))
most-entries [] = omega arith
most-entries (e ∷ es) = omega (arith, most-entries es)

pub falls : (n : Node) → max (deep-Node n) 0 ≤ measure (view_node n)
falls (Bool b) = omega arith
falls (Double b) = omega arith
falls (Int b) = omega arith
falls (Str b) = omega arith
falls (Bytes b) = omega arith
falls (Sym b) = omega arith
falls (Rec r) = omega (arith, most-items r.value.fields.items)
falls (Seq v) = omega arith
falls (Set v) = omega arith
falls (Dict v) = omega arith
falls (Emb x) = omega arith
