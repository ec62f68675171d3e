use Rattle.std.proofs.Common.{ℕ, [], ◌∷◌, Contains, sym, subst}
use Rattle.dsd_top.proofs.Causes.{told_otherwise}
use Rattle.dsd_top.proofs.once.show.Goals as goal

pub returns-in-Err-clause-other_words : goal.returns-in-Err-clause-other_words
returns-in-Err-clause-other_words g c = λ none.
    let Is : ℕ → Type 0 = λ k. Contains (2 ∷ 5 ∷ []) k in
    subst Is (sym c.refuse.ensures.status)
    (told_otherwise c.args.notice.now c.in-Err.fault c.in-Err.ensures.cause none)

pub returns-in-Err-clause-untold : goal.returns-in-Err-clause-untold
returns-in-Err-clause-untold g c = λ e.
    (c.in-Err.fault, sym c.refuse.ensures.status, c.in-Err.ensures.cause)
