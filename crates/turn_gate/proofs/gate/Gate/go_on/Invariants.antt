use Rattle.std.proofs.Common.{◌≡◌, ◌<◌, ◌-◌, length, vec_len, vec_capacity}
use Rattle.turn_gate.specs.Places.{Holds}
use Rattle.turn_gate.proofs.Going.{Going}
use Rattle.turn_gate.proofs.gate.Gate.go_on.Given as goal

abbrev pub invariant-row : goal.invariant-row
invariant-row g l = (l.pass.table_id ≡ l.initial.pass.table_id)
    × Holds g.T.Replayed.next l.self.table.shared.key.value l.pass.me l.t l.s
    × Going g.T.Replayed.next l.self.table.shared.key.value (g.C.Course.further l.course) l.initial.pass.me.0
    (vec_capacity l.initial.replies - vec_len l.initial.replies) l.initial.s l.initial.replies.items
    (vec_capacity l.replies - vec_len l.replies) l.s l.replies.items l.pass.me.0
    × (vec_len l.replies < vec_capacity l.replies) × (vec_capacity l.replies ≡ vec_capacity l.initial.replies)
    × (l.heard ≡ length l.pass.me.0.seen)

abbrev pub decreases-row : goal.decreases-row
decreases-row g l = vec_capacity l.replies - vec_len l.replies
