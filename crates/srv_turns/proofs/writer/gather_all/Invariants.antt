use Rattle.std.proofs.Common.{◌≡◌, ◌++◌, take}
use Rattle.srv_turns.specs.Writing.{spelled_in}
use Rattle.srv_turns.proofs.writer.gather_all.Given as goal

-- the packets of the replies so far are written
abbrev pub invariant-loop-reply : goal.invariant-loop-reply
invariant-loop-reply l = l.gathered.items ≡ l.initial.gathered.items ++ spelled_in (take l.reply-index l.replies)
