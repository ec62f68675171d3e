-- The place's number is that of the holdings so far.
use Rattle.std.proofs.Common.{refl, subst}
use Rattle.rl_packet.specs.Kept.{IsPut}
use Rattle.rl_packet.proofs.Putting.{is_put}
use Rattle.rl_packet.proofs.holding.put.Goals as goal

pub returns : goal.returns
returns c = λ are.
    subst
    (λ v. IsPut (record { oid = c.args.oid; handle = c.args.handle; value = v }) c.args.holdings.now.entries
    c.insert.new.self.entries)
    c.in_ok-copy.ensures
    (is_put _ (record { oid = c.args.oid; handle = c.args.handle; number = c.len.result })
    c.in_ok-copy.field-0 c.args.holdings.now.entries c.insert.new.self.entries
    c.in_ok-insert.ensures.entries c.len.ensures.len (λ x y. refl) are)
