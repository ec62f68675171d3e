use Rattle.std.proofs.Common.{length, suc, inl, inr, arith}
use Rattle.pv_read.specs.Lemmas.Answering.{ok_so, only_so, exact_so, fault_so}
use Rattle.pv_read.specs.Lemmas.Binds.{told_ok, told_err}
use Rattle.pv_lex.specs.Tokens.{AreTokens, TokensStop, AreInOrder, AreTokensOf, TokensStand}
use Rattle.pv_lex.proofs.Listed.{tokens_told, tokens_read, stop_read, in_order}
use Rattle.pv_lex.proofs.listing.tokens.Goals as goal

pub returns-in-Ok-clause-found : goal.returns-in-Ok-clause-found
returns-in-Ok-clause-found c =
    let text = c.args.text.now in
    let n = length text in
    ok_so (λ t. t) _ c.all_tokens.result c.all_tokens.ensures (AreTokensOf text)
    (λ ts e. (
      c.in-Ok.ensures.cases.1,
      told_ok (AreTokens n text) (TokensStop n text) _ ts
          (tokens_told n (suc n) text (omega arith) (omega arith)) e,
    ))

pub returns-in-Ok-clause-only : goal.returns-in-Ok-clause-only
returns-in-Ok-clause-only c = λ ts h.
    let text = c.args.text.now in
    let n = length text in
    only_so (λ t. t) _ c.all_tokens.result c.all_tokens.ensures ts (tokens_read n (suc n) text ts (omega arith) h.1)

pub returns-in-Ok-clause-exact : goal.returns-in-Ok-clause-exact
returns-in-Ok-clause-exact c =
    let text = c.args.text.now in
    let n = length text in
    exact_so (λ t. t) _ c.all_tokens.result c.all_tokens.ensures (TokensStand text)
    (λ f e. inr (
      c.in-Ok.ensures.cases.1,
      told_err (AreTokens n text) (TokensStop n text) _ f
          (tokens_told n (suc n) text (omega arith) (omega arith)) e,
    ))

pub returns-in-Ok-clause-only_fault : goal.returns-in-Ok-clause-only_fault
returns-in-Ok-clause-only_fault c = λ f h.
    let text = c.args.text.now in
    let n = length text in
    elim h [
      | inl w ↦ absurd (w.0 c.in-Ok.ensures.cases.1)
      | inr w ↦ fault_so (λ t. t) _ c.all_tokens.result c.all_tokens.ensures f
          (stop_read n (suc n) text f (omega arith) w.1)
    ]

pub returns-in-Ok-clause-in_order : goal.returns-in-Ok-clause-in_order
returns-in-Ok-clause-in_order c =
    let text = c.args.text.now in
    let n = length text in
    ok_so (λ t. t) _ c.all_tokens.result c.all_tokens.ensures (AreInOrder n 0) (λ ts e.
    let a =
    told_ok (AreTokens n text) (TokensStop n text) _ ts
    (tokens_told n (suc n) text (omega arith) (omega arith)) e in
    in_order n 0 text ts a.0 a.1 (omega arith))
