use Rattle.std.proofs.Common.{◌≡◌, ◌-◌, vec_len, vec_capacity, arith}
use Rattle.srv_turns.proofs.Following.{whole_room}
use Rattle.srv_turns.proofs.rows.Row.commit.Goals as goal

pub returns-clause-row : goal.returns-clause-row
returns-clause-row g c =
    let d = c.commit_row.ensures.row in
    let room : vec_capacity c.clear.new.self - vec_len c.clear.new.self ≡ 33 =
    omega (arith, c.clear.ensures.capacity, c.clear.ensures.len, c.args.self.now.room) in
    let w = whole_room _ _ _ _ d.0 _ _ _ _ room c.clear.ensures.items d.1 d.2 in
    (d.0, w.0, w.1)
