use Rattle.std.proofs.Common.{ap, ◌∙◌}
use Rattle.std.specs.List.{list_any}
use Rattle.std.specs.Map.{values_of}
use Rattle.pv_words.specs.Parts.{same}
use Rattle.ds_rows.proofs.Counted.{Rows, counted_among}
use Rattle.ds_rows.proofs.rows.Rows.stands.Goals as goal

pub returns : goal.returns
returns c =
    let v = c.args.value.now in
    c.contains_key.ensures
    ∙ counted_among c.self.inside.by_handle.entries c.self.inside.by_value.entries c.self.invariant v
    ∙ ap (λ (rs : Rows). list_any (same v) (values_of rs)) c.self.view_is
