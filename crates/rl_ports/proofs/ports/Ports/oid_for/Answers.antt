-- The new export is mentioned by no note, and is known as one that may be idle.
use Rattle.std.proofs.Common.{◌≡◌, Result, Ok, Err, OnErr, sym, subst}
use Rattle.std.specs.Prelude.{OnOk, vec_capacity}
use Rattle.rl_ports.specs.Kept.{Listed, AreCounted}
use Rattle.rl_ports.proofs.Counts.{counted_new}
use Rattle.rl_ports.proofs.ports.Ports.oid_for.Goals as goal

-- what holds of what is there after success, and of what was there
either : {A E : Type 0} (P : Listed → Type 0) (new more old : Listed) (r : Result A E) → OnOk r (new ≡ more)
    → OnErr r (new ≡ old) → P more → P old → P new
either P new more old (Ok x) done undone then before = subst P (sym done) then
either P new more old (Err e) done undone then before = subst P (sym undone) before

pub invariant_of-self : goal.invariant_of-self
invariant_of-self c =
    let i = c.self.inside in
    either (λ l. AreCounted l i.notes.entries i.settled i.dropped.items (vec_capacity i.dropped)) c.add.new.self _
    i.exports c.add.result c.add.ensures.done c.add.ensures.undone
    (counted_new i.exports i.notes.entries i.settled i.dropped.items (vec_capacity i.dropped) c.args.cap.now
    c.self.invariant) c.self.invariant
