use Rattle.std.proofs.Common.{◌≡◌, ◌≤◌, ◌+◌, ap, ◌∙◌, min}
use Rattle.hub_outs.specs.Outs.{kept}
use Rattle.sc_script.specs.Limits.{most_sent}
use Rattle.sc_script.specs.Keeping.{size_of}
use Rattle.sc_script.proofs.Notes.{noted_by, sum_of}
use Rattle.sc_script.proofs.runs.Run.note.Goals as goal

pub returns-clause-run : goal.returns-clause-run
returns-clause-run g c =
    let p = c.args.packet in
    let before = c.args.self.outs in
    let same : c.self.inside.outs ≡ before = ap (λ s. s.outs) c.self.view_is in
    let size : c.self.inside.size ≡ c.args.self.size = ap (λ s. s.size) c.self.view_is in
    let one : c.size_of.result ≡ min (size_of p) 18446744073709551615 = c.size_of.ensures in
    let n = c.saturating_add-size.result in
    let few : n ≤ most_sent = c.if-size-gt-SENT_BYTES.false in
    let sum : n ≡ min (c.self.inside.size + c.size_of.result) 18446744073709551615 =
    c.saturating_add-size.ensures in
    let all : n ≡ c.args.self.size + size_of p = sum_of (size_of p) size one sum few in (
      noted_by c.args.actor p c.args.self _ (ap (λ s. s.state) c.self.view_is)
          (c.in_ok-keep.ensures.kept ∙ ap (kept c.args.actor p) same)
          all (ap (λ s. s.streams) c.self.view_is),
      few,
    )
