use Rattle.std.proofs.Common.{rules, subst, ℕ, Err, ◌<◌, ◌-◌, vec_len, vec_capacity, arith}
use mathlib.Core.Option.{some}
use Rattle.turn_gate.specs.declared.gate.GateFault.TheVariants as fault
use Rattle.turn_gate.specs.declared.view.Held.TheVariants as held
use Rattle.turn_gate.specs.Rows.{HasDone}
use Rattle.turn_gate.proofs.Passing.{like, took_slot, took_value, took_mark, mark_found, mark_given}
use Rattle.turn_gate.proofs.Passing.{seen_value, heard_still}
use Rattle.turn_gate.proofs.Going.{row_before, not_begun, owns}
use Rattle.turn_gate.proofs.gate.Gate.row_at.Goals as goal

pub exchange-requires : goal.exchange-requires
exchange-requires g c = (
  search rules,
  took_slot g.T.Replayed.next c.args.self.now.table.shared.key.value c.args.pass.now.me c.take-s.new.pass.me
      (some (held.Ask c.args.s)) c.take-s.ensures.took,
)

pub returns-in-Value-clause-row : goal.returns-in-Value-clause-row
returns-in-Value-clause-row g c = let m = c.args.pass.now.me in let key = c.args.self.now.table.shared.key.value in
    let further = g.C.Course.further c.args.course.now in let rs = c.args.replies.now in
    let r = c.go_on.ensures.row in let w = c.go_on.new.pass.me.0 in
    let k = took_value g.T.Replayed.next key m c.take-s.new.pass.me (some (held.Ask c.args.s)) c.in-Value.t
    c.take-s.ensures.took c.in-Value.ensures.2 in
    let l = like g.T.Replayed.next key m c.take-s.new.pass.me c.exchange.new.seat.me (some (held.Ask c.args.s))
    c.in-Value.t k c.exchange.ensures.3 in
    let room : vec_len rs < vec_capacity rs = c.requires.room in
    let d = row_before g.T.Replayed.next key further m.0 (vec_capacity rs - vec_len rs) c.args.s rs.items
    c.exchange.new.seat.me.0 w c.go_on.result r.0 (omega arith) l
    (subst (λ (s : g.row.T-Step.Denot). HasDone g.T.Replayed.next key further (vec_capacity rs - vec_len rs)
    c.exchange.new.seat.me.0 s c.go_on.result r.0 w) c.take-s.ensures.same r.1) in
    let o = owns g.T.Replayed.next key further (vec_capacity rs - vec_len rs) m.0 w c.args.s c.go_on.result r.0
    c.requires.own d in
    (r.0, d, r.2, o.pairs)

pub returns-in-Value-clause-same : goal.returns-in-Value-clause-same
returns-in-Value-clause-same g c = let m = c.args.pass.now.me in let key = c.args.self.now.table.shared.key.value in
    let further = g.C.Course.further c.args.course.now in let rs = c.args.replies.now in
    let r = c.go_on.ensures.row in let w = c.go_on.new.pass.me.0 in
    let k = took_value g.T.Replayed.next key m c.take-s.new.pass.me (some (held.Ask c.args.s)) c.in-Value.t
    c.take-s.ensures.took c.in-Value.ensures.2 in
    let l = like g.T.Replayed.next key m c.take-s.new.pass.me c.exchange.new.seat.me (some (held.Ask c.args.s))
    c.in-Value.t k c.exchange.ensures.3 in
    let room : vec_len rs < vec_capacity rs = c.requires.room in
    let d = row_before g.T.Replayed.next key further m.0 (vec_capacity rs - vec_len rs) c.args.s rs.items
    c.exchange.new.seat.me.0 w c.go_on.result r.0 (omega arith) l
    (subst (λ (s : g.row.T-Step.Denot). HasDone g.T.Replayed.next key further (vec_capacity rs - vec_len rs)
    c.exchange.new.seat.me.0 s c.go_on.result r.0 w) c.take-s.ensures.same r.1) in
    (owns g.T.Replayed.next key further (vec_capacity rs - vec_len rs) m.0 w c.args.s c.go_on.result r.0
    c.requires.own d).same

pub returns-in-Value-clause-own : goal.returns-in-Value-clause-own
returns-in-Value-clause-own g c = let m = c.args.pass.now.me in let key = c.args.self.now.table.shared.key.value in
    let further = g.C.Course.further c.args.course.now in let rs = c.args.replies.now in
    let r = c.go_on.ensures.row in let w = c.go_on.new.pass.me.0 in
    let k = took_value g.T.Replayed.next key m c.take-s.new.pass.me (some (held.Ask c.args.s)) c.in-Value.t
    c.take-s.ensures.took c.in-Value.ensures.2 in
    let l = like g.T.Replayed.next key m c.take-s.new.pass.me c.exchange.new.seat.me (some (held.Ask c.args.s))
    c.in-Value.t k c.exchange.ensures.3 in
    let room : vec_len rs < vec_capacity rs = c.requires.room in
    let d = row_before g.T.Replayed.next key further m.0 (vec_capacity rs - vec_len rs) c.args.s rs.items
    c.exchange.new.seat.me.0 w c.go_on.result r.0 (omega arith) l
    (subst (λ (s : g.row.T-Step.Denot). HasDone g.T.Replayed.next key further (vec_capacity rs - vec_len rs)
    c.exchange.new.seat.me.0 s c.go_on.result r.0 w) c.take-s.ensures.same r.1) in
    (owns g.T.Replayed.next key further (vec_capacity rs - vec_len rs) m.0 w c.args.s c.go_on.result r.0
    c.requires.own d).mine

pub give_up-requires-clause-mark : goal.give_up-requires-clause-mark
give_up-requires-clause-mark g c = let m = c.args.pass.now.me in let key = c.args.self.now.table.shared.key.value in
    mark_found g.T.Replayed.next key m c.take-s.new.pass.me c.exchange.new.seat.me (some (held.Ask c.args.s))
    (took_mark g.T.Replayed.next key m c.take-s.new.pass.me (some (held.Ask c.args.s)) c.take-s.ensures.took
    c.in-Mark.ensures.2) c.exchange.ensures.3 c.requires.gate.1.named c.requires.gate.1.opened

pub returns-in-Mark-clause-row : goal.returns-in-Mark-clause-row
returns-in-Mark-clause-row g c = let m = c.args.pass.now.me in let key = c.args.self.now.table.shared.key.value in
    let further = g.C.Course.further c.args.course.now in let rs = c.args.replies.now in
    let w = c.give_up.new.pass.me.0 in
    let f = mark_given g.T.Replayed.next key m c.take-s.new.pass.me c.exchange.new.seat.me c.give_up.new.pass.me
    (some (held.Ask c.args.s)) (took_mark g.T.Replayed.next key m c.take-s.new.pass.me (some (held.Ask c.args.s))
    c.take-s.ensures.took c.in-Mark.ensures.2) c.exchange.ensures.3 c.give_up.ensures.lost in
    let room : vec_len rs < vec_capacity rs = c.requires.room in
    let n = vec_capacity rs - vec_len rs in
    let d = not_begun g.T.Replayed.next key further m.0 n c.args.s rs.items ℕ fault.NoMemory w (omega arith) f in (
      d.0,
      d.1,
      d.2,
      (owns g.T.Replayed.next key {X = ℕ} further n m.0 w c.args.s (Err fault.NoMemory) d.0
          c.requires.own d.1).pairs,
    )

pub returns-in-Mark-clause-same : goal.returns-in-Mark-clause-same
returns-in-Mark-clause-same g c = let m = c.args.pass.now.me in let key = c.args.self.now.table.shared.key.value in
    (mark_given g.T.Replayed.next key m c.take-s.new.pass.me c.exchange.new.seat.me c.give_up.new.pass.me
    (some (held.Ask c.args.s)) (took_mark g.T.Replayed.next key m c.take-s.new.pass.me (some (held.Ask c.args.s))
    c.take-s.ensures.took c.in-Mark.ensures.2) c.exchange.ensures.3 c.give_up.ensures.lost).stood.same

pub go_on-requires-clause-heard : goal.go_on-requires-clause-heard
go_on-requires-clause-heard g c = let m = c.args.pass.now.me in let key = c.args.self.now.table.shared.key.value in
    seen_value g.T.Replayed.next key m c.take-s.new.pass.me c.exchange.new.seat.me (some (held.Ask c.args.s))
    c.in-Value.t c.args.heard.now (took_value g.T.Replayed.next key m c.take-s.new.pass.me (some (held.Ask c.args.s))
    c.in-Value.t c.take-s.ensures.took c.in-Value.ensures.2) c.exchange.ensures.3 c.requires.heard

pub returns-in-Mark-clause-heard : goal.returns-in-Mark-clause-heard
returns-in-Mark-clause-heard g c = let m = c.args.pass.now.me in let key = c.args.self.now.table.shared.key.value in
    heard_still m.0 c.give_up.new.pass.me.0 fault.NoMemory c.args.heard.now
    (mark_given g.T.Replayed.next key m c.take-s.new.pass.me c.exchange.new.seat.me c.give_up.new.pass.me
    (some (held.Ask c.args.s)) (took_mark g.T.Replayed.next key m c.take-s.new.pass.me (some (held.Ask c.args.s))
    c.take-s.ensures.took c.in-Mark.ensures.2) c.exchange.ensures.3 c.give_up.ensures.lost) c.requires.heard
