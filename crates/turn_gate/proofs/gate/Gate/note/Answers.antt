use Rattle.std.proofs.Common.{rules, ℕ, ◌≡◌, ◌<◌, ◌≤◌, ◌^◌, length, ap, ◌∙◌, arith}
use Rattle.turn_gate.specs.Table.{seeing}
use Rattle.turn_gate.proofs.Moves.{looks, notes, touches}
use Rattle.turn_gate.proofs.Passing.{told, is_full, is_noted, is_lost}
use Rattle.turn_gate.proofs.gate.Gate.note.Goals as goal

pub load-n-requires : goal.load-n-requires
load-n-requires g c = (search rules, search rules, looks g.T.Replayed.next _ _ _ _)

pub returns-then-n-ge-MOST-clause-noted : goal.returns-then-n-ge-MOST-clause-noted
returns-then-n-ge-MOST-clause-noted g c = let h = c.requires.holds in let n : ℕ = c.load-n.result in
    let a : n ≤ 2 ^ 62 = c.load-n.ensures.2.3 in let b : 2 ^ 62 ≤ n = c.if-n-ge-MOST.true in
    is_full g.T.Replayed.next _ c.args.pass.now.me c.load-n.new.seat.me c.args.t n h.out c.load-n.ensures.2.0
    (c.load-n.ensures.2.4 h.out.has) (omega arith)

pub fetch_add-requires : goal.fetch_add-requires
fetch_add-requires g c = let h = c.requires.holds in let v = c.args.pass.now.me.0 in let n : ℕ = c.load-n.result in
    let e = c.load-n.ensures.2.0 in let same : n ≡ length v.base = c.load-n.ensures.2.4 h.out.has in
    let low : n < 2 ^ 62 = c.if-n-ge-MOST.false in let long : length c.load-n.new.seat.me.0.base ≡ length v.base =
    ap (λ m. length m.0.base) e in (
      search rules,
      search rules,
      notes g.T.Replayed.next _ _ _ _ c.args.s (ap (λ m. m.0.has) e
          ∙ h.out.has) (ap (λ m. m.0.ask) e ∙ h.ask) (omega arith) (ap (λ m. m.0.named) e ∙ h.out.named),
    )

pub returns-in-Ok-clause-noted : goal.returns-in-Ok-clause-noted
returns-in-Ok-clause-noted g c = let h = c.requires.holds in let v = c.args.pass.now.me.0 in
    let key = c.args.self.now.table.shared.key.value in let n : ℕ = c.load-n.result in
    is_noted g.T.Replayed.next key c.args.pass.now.me c.fetch_add.new.seat.me c.args.t c.in-Ok.t c.args.s c.in-Ok.reply
    n h.out (told g.T.Replayed.next key c.load-n.new.seat.me c.fetch_add.new.seat.me (seeing v n) _ c.args.s
    c.load-n.ensures.2.0 h.out.opened h.ask c.fetch_add.ensures.2) c.in-Ok.ensures (c.load-n.ensures.2.4 h.out.has)
    c.if-n-ge-MOST.false

pub store-requires : goal.store-requires
store-requires g c = (search rules, search rules, touches g.T.Replayed.next _ _ _ _ 15 (λ _. 1))

pub returns-in-Err-clause-noted : goal.returns-in-Err-clause-noted
returns-in-Err-clause-noted g c = is_lost g.T.Replayed.next _ c.args.pass.now.me c.store.new.seat.me c.args.t
    c.load-n.result c.requires.holds.out (c.store.ensures.2 ∙ c.load-n.ensures.2.0) c.load-n.ensures.2.1
