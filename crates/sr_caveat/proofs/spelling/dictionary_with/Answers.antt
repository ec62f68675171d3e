-- The goals of `dictionary_with` that the check leaves.
use Rattle.std.proofs.Common.{map, ap, ◌∙◌}
use Rattle.pv_value.specs.Plain.{dictionary}
use Rattle.pv_value.specs.View.{key_and_value}
use Rattle.sr_caveat.proofs.Keys.{dictionary_made}
use Rattle.sr_caveat.proofs.spelling.dictionary_with.Goals as goal

pub returns-in-Ok : goal.returns-in-Ok
returns-in-Ok c =
    dictionary_made (map key_and_value c.in_ok-entries.entries.items) c.in-Ok.dictionary
    c.in_ok-entries.ensures.ascending c.in-Ok.ensures.made
    ∙ ap dictionary c.in_ok-entries.ensures.same
