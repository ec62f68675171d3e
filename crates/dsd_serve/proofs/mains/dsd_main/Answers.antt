-- Words that serve, and all others, which are handed on.
use Rattle.std.proofs.Common.{arith, inl, inr, refl}
use Rattle.dsd_serve.proofs.Choosing.{of_both, also}
use Rattle.dsd_serve.proofs.mains.dsd_main.Goals as goal

pub returns-then-is_serve-clause-known : goal.returns-then-is_serve-clause-known
returns-then-is_serve-clause-known g c = of_both _ c.serve_words.ensures.known

pub returns-then-is_serve-clause-read_failed : goal.returns-then-is_serve-clause-read_failed
returns-then-is_serve-clause-read_failed g c = λ e.
    inr (inr (c.serve_words.ensures.found (λ two. omega (arith, e, two))), refl, c.serve_words.ensures.read_failed e)

pub returns-clause-other_words : goal.returns-clause-other_words
returns-clause-other_words g c = λ none. c.dsd_once.ensures.other_words (λ there. none (inl there))

pub returns-clause-read_failed : goal.returns-clause-read_failed
returns-clause-read_failed g c = λ e. also _ (c.dsd_once.ensures.read_failed e)
