use Rattle.std.proofs.Common.{◌≡◌, sym, ap, ◌∙◌, true, is_some, unwrap_or, List, [], ◌∷◌, ◌++◌, Option, Some}
use Rattle.std.proofs.Common.{Result, Ok, Err, OnErr}
use Rattle.std.proofs.lemmas.Map.Steps.{set_value_same}
use Rattle.std.specs.BTreeMap.{is_at}
use Rattle.std.specs.Ordering.{nat_cmp}
use Rattle.ac_world.specs.Worlds.{entry_of, with_entry}
use Rattle.rl_packet.specs.declared.packets.Packet.{Packet}
use Rattle.hub_outs.specs.Outs.{sent_of, with_sent}
use Rattle.hub_outs.proofs.Writing.{set_with}
use Rattle.hub_outs.proofs.outs.Outs.add.Goals as goal

on_err : {T E P : Type 0} (r : Result T E) → P → OnErr r P
on_err (Ok x) p = tt
on_err (Err y) p = p

pub returns-in_err-push-clause-undone : goal.returns-in_err-push-clause-undone
returns-in_err-push-clause-undone c =
    let k = c.args.connection in
    let es = c.self.inside.lists.entries in
    let list = c.push.new.self.items in
    let same : list ≡ c.in-Some.packets.now = c.in_err-push.ensures.items ∙ c.packets.view_is in
    let found : entry_of k es ≡ Some list = sym c.in-Some.ensures.value ∙ ap Some (sym same) in
    on_err _ ((c.get_mut.follows.holds list).0 ∙ set_value_same (is_at (nat_cmp k)) es list found ∙ c.self.view_is)

pub returns-in-Some-clause-kept : goal.returns-in-Some-clause-kept
returns-in-Some-clause-kept c =
    let k = c.args.connection in
    let p = c.args.packet in
    let es = c.self.inside.lists.entries in
    let list = c.push.new.self.items in
    let so_far : c.in-Some.packets.now ≡ sent_of k es =
    ap (λ (o : Option (List Packet)). unwrap_or o []) c.in-Some.ensures.value in
    let more : list ≡ sent_of k es ++ p ∷ [] =
    c.in_ok-push.ensures.items ∙ ap (λ (l : List Packet). l ++ p ∷ []) (c.packets.view_is ∙ so_far) in
    let there : is_some (entry_of k es) ≡ true = ap is_some (sym c.in-Some.ensures.value) in
    (c.get_mut.follows.holds list).0 ∙ set_with k list es c.self.invariant there
    ∙ ap (λ (l : List Packet). with_entry k l es) more ∙ ap (with_sent k p) c.self.view_is
