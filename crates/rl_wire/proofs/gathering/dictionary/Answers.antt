-- What ascends by its keys makes the dictionary of itself.
use Rattle.std.proofs.Common.{◌∙◌, ap, map}
use Rattle.pv_value.specs.Plain.{dictionary, pairs}
use Rattle.pv_value.specs.View.{key_and_value}
use Rattle.rl_wire.proofs.Gathers.{dictionary_made}
use Rattle.rl_wire.proofs.gathering.dictionary.Goals as goal

pub returns-in-Ok : goal.returns-in-Ok
returns-in-Ok c =
    dictionary_made (map key_and_value c.in_ok-entries.entries.items) c.in-Ok.dictionary
    c.in_ok-entries.ensures.ascending c.in-Ok.ensures.made
    ∙ ap (λ ps. dictionary (pairs ps)) c.in_ok-entries.ensures.same
