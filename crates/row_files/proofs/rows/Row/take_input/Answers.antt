use Rattle.std.proofs.Common.{◌≡◌, ◌∙◌, ◌++◌, inl, inr, codes, ap, sym}
use Rattle.row_files.specs.Rows.{row_told}
use Rattle.row_files.proofs.rows.Row.take_input.Goals as goal

pub returns-in-Some-strip_prefix-2-clause-taken : goal.returns-in-Some-strip_prefix-2-clause-taken
returns-in-Some-strip_prefix-2-clause-taken c =
    let times = c.in-Some-strip_prefix-2.times.now in
    let begins = c.in-Some-strip_prefix-2.ensures.cases in
    let is : c.args.rest.now ≡ codes "times " ++ times = begins.1.1 ∙ ap (λ t. codes "times " ++ t) (sym begins.2) in
    let input = c.args.self.now.input.items in
    let more = c.in_ok-extend_from_slice.ensures.items ∙ ap (λ t. input ++ t) c.deref.ensures.value in
    let row = row_told c.args.self.now in
    inr (inr (inl (
      times,
      c.in_ok-bytes.bytes.items,
      is,
      c.in_ok-bytes.ensures,
      ap (λ i. record row { input = i })
          more,
    )))
