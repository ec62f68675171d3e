use Rattle.std.proofs.Common.{◌≡◌, ◌++◌, ap, ◌∙◌}
use Rattle.gk_sturdy.specs.Lemmas.Sound.{sound_more}
use Rattle.gk_sturdy.proofs.answering.attenuated.Goals as goal

pub invariant_of-result : goal.invariant_of-result
invariant_of-result c =
    let i = c.cap.inside in
    let copied : c.add_copies.new.all.items ≡ i.caveats =
    c.in_ok-add_copies.ensures ∙ ap (λ l. l ++ c.as_slice.result.now) c.new-all.ensures.items ∙ c.as_slice.ensures in
    sound_more (record { actor = i.actor; entity = i.entity; caveats = i.caveats }) c.args.behind.now
    c.in_ok-from_vec.field-0 c.cap.invariant c.requires
    (c.in_ok-from_vec.ensures ∙ c.in_ok-add_copies-2.ensures ∙ ap (λ l. l ++ c.args.behind.now) copied)
