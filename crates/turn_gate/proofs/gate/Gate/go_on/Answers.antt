use Rattle.std.proofs.Common.{rules, ℕ, ◌≡◌, ◌<◌, ◌+◌, ◌-◌, suc, ap, sym, ◌∙◌, arith, length}
use Rattle.std.proofs.Common.{vec_len, vec_capacity}
use Rattle.turn_gate.specs.declared.gate.GateFault.TheVariants as fault
use Rattle.turn_gate.proofs.Passing.{failed_given, lost_given, heard_still}
use Rattle.turn_gate.proofs.Going.{going_first, going_on, going_through, going_fails, no_more}
use Rattle.turn_gate.proofs.gate.Gate.go_on.Goals as goal

pub row-init : goal.row-init
row-init g c = (
  search rules,
  c.requires.holds,
  going_first g.T.Replayed.next c.args.self.now.table.shared.key.value (g.C.Course.further c.args.course.now)
      c.args.pass.now.me.0 _ c.args.first.1 c.args.replies.now.items,
  c.requires.room,
  search rules,
  c.requires.heard,
)

pub row-preserved : goal.row-preserved
row-preserved g c =
    let next = g.T.Replayed.next in let key = c.args.self.now.table.shared.key.value in
    let further = g.C.Course.further c.args.course.now in let inv = c.row.invariant in let rs = c.row.replies in
    let rs0 = c.args.replies.now in let room : vec_len rs < vec_capacity rs = inv.3 in
    let n : ℕ = vec_capacity rs0 - vec_len rs0 in let k : ℕ = vec_capacity rs - vec_len rs in
    let new = c.go_behind.new.replies in let k' : ℕ = vec_capacity new - vec_len new in
    let len : vec_len new ≡ vec_len rs + 1 = c.go_behind.ensures.len in
    let cap : vec_capacity new ≡ vec_capacity rs = c.go_behind.ensures.capacity in
    let e : k ≡ suc k' = omega arith in
    let f = c.in-Some.ensures.further in (
      search rules,
      f.0,
      going_on next key further c.args.pass.now.me.0 n c.args.first.1 rs0.items k k' c.row.s c.in-Some.next
          c.in-Done.reply rs.items new.items c.row.pass.me.0 c.note.new.pass.me.0 c.go_behind.new.pass.me.0 inv.2 e
          c.in-Done.ensures.noted.0 f.2 f.1 c.go_behind.ensures.items,
      f.3,
      search rules,
      c.in-Done.ensures.noted.2 ∙ ap (λ v. length v.seen) (sym f.1),
    )

pub returns-in-None-clause-row : goal.returns-in-None-clause-row
returns-in-None-clause-row g c =
    let next = g.T.Replayed.next in let key = c.args.self.now.table.shared.key.value in
    let further = g.C.Course.further c.args.course.now in let inv = c.row.invariant in let rs = c.row.replies in
    let rs0 = c.args.replies.now in let room : vec_len rs < vec_capacity rs = inv.3 in
    let n : ℕ = vec_capacity rs0 - vec_len rs0 in let k : ℕ = vec_capacity rs - vec_len rs in
    let new = c.go_behind.new.replies in let k' : ℕ = vec_capacity new - vec_len new in
    let len : vec_len new ≡ vec_len rs + 1 = c.go_behind.ensures.len in
    let cap : vec_capacity new ≡ vec_capacity rs = c.go_behind.ensures.capacity in
    let e : k ≡ suc k' = omega arith in
    let f = c.in-None.ensures.end in
    going_through next key further c.args.pass.now.me.0 n c.args.first.1 rs0.items n k k' c.row.s c.in-Done.reply
    rs.items new.items c.row.pass.me.0 c.note.new.pass.me.0 c.go_behind.new.pass.me.0 inv.2 e
    c.in-Done.ensures.noted.0 f.1
    (no_more (further c.in-Done.reply) (vec_len new) (vec_capacity new) f.2) c.go_behind.ensures.items

pub returns-in-Full-clause-row : goal.returns-in-Full-clause-row
returns-in-Full-clause-row g c =
    let next = g.T.Replayed.next in let key = c.args.self.now.table.shared.key.value in
    let further = g.C.Course.further c.args.course.now in let inv = c.row.invariant in let rs = c.row.replies in
    let rs0 = c.args.replies.now in let room : vec_len rs < vec_capacity rs = inv.3 in
    let n : ℕ = vec_capacity rs0 - vec_len rs0 in let k : ℕ = vec_capacity rs - vec_len rs in
    let e : k ≡ suc (k - 1) = omega arith in
    let f = failed_given next key c.row.pass.me.0 c.note.new.pass.me.0 c.put_back.new.pass.me.0
    c.in-Full.ensures.noted.0 (ap (λ m. m.0) c.put_back.ensures.same) in
    going_fails next key further c.args.pass.now.me.0 n c.args.first.1 rs0.items ℕ fault.Spent k (k - 1) c.row.s
    rs.items c.row.pass.me.0 c.put_back.new.pass.me.0 inv.2 e f

pub returns-in-Lost-clause-row : goal.returns-in-Lost-clause-row
returns-in-Lost-clause-row g c =
    let next = g.T.Replayed.next in let key = c.args.self.now.table.shared.key.value in
    let further = g.C.Course.further c.args.course.now in let inv = c.row.invariant in let rs = c.row.replies in
    let rs0 = c.args.replies.now in let room : vec_len rs < vec_capacity rs = inv.3 in
    let n : ℕ = vec_capacity rs0 - vec_len rs0 in let k : ℕ = vec_capacity rs - vec_len rs in
    let e : k ≡ suc (k - 1) = omega arith in
    let f = lost_given next key c.row.pass.me.0 c.note.new.pass.me.0 c.give_up.new.pass.me.0 c.in-Lost.ensures.noted.0
    c.in-Lost.ensures.noted.1 (ap (λ m. m.0) c.give_up.ensures.lost) in
    going_fails next key further c.args.pass.now.me.0 n c.args.first.1 rs0.items ℕ fault.NoMemory k (k - 1) c.row.s
    rs.items c.row.pass.me.0 c.give_up.new.pass.me.0 inv.2 e f

pub returns-in-None-clause-heard : goal.returns-in-None-clause-heard
returns-in-None-clause-heard g c =
    c.in-Done.ensures.noted.2 ∙ ap (λ v. length v.seen) (sym c.in-None.ensures.end.1)

pub returns-in-Full-clause-heard : goal.returns-in-Full-clause-heard
returns-in-Full-clause-heard g c =
    let next = g.T.Replayed.next in let key = c.args.self.now.table.shared.key.value in
    heard_still c.row.pass.me.0 c.put_back.new.pass.me.0 fault.Spent c.row.heard
    (failed_given next key c.row.pass.me.0 c.note.new.pass.me.0 c.put_back.new.pass.me.0
    c.in-Full.ensures.noted.0 (ap (λ m. m.0) c.put_back.ensures.same)) c.row.invariant.5

pub returns-in-Lost-clause-heard : goal.returns-in-Lost-clause-heard
returns-in-Lost-clause-heard g c =
    let next = g.T.Replayed.next in let key = c.args.self.now.table.shared.key.value in
    heard_still c.row.pass.me.0 c.give_up.new.pass.me.0 fault.NoMemory c.row.heard
    (lost_given next key c.row.pass.me.0 c.note.new.pass.me.0 c.give_up.new.pass.me.0 c.in-Lost.ensures.noted.0
    c.in-Lost.ensures.noted.1 (ap (λ m. m.0) c.give_up.ensures.lost)) c.row.invariant.5
