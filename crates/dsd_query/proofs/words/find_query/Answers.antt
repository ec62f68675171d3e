-- The five words are a question, or none of theirs is.
use Rattle.std.proofs.Common.{◌≡◌, length, codes, rules}
use Rattle.std.specs.String.{string_bytes}
use Rattle.dsd_top.specs.Asked.{texts}
use Rattle.dsd_top.proofs.Minted.{refuted}
use Rattle.dsd_query.specs.Queries.{IsQuestion, IsQuery}
use Rattle.dsd_query.proofs.Asking.{five_words, words_are, asked, unasked}
use Rattle.dsd_query.proofs.words.find_query.Goals as goal

pub returns-in_err-question : goal.returns-in_err-question
returns-in_err-question c =
    let five : length c.args.words.now ≡ 5 = search rules in
    let ws = five_words _ five _ _ _ _ _ c.index-words-0.is c.index-words-1.is c.index-words-2.is c.index-words-3.is
    c.index-words-4.is in
    let are = words_are _ _ _ _ _ _ _ _ _ _ ws c.as_str-address.ensures.value c.as_str-reference.ensures.value
    c.as_str-pattern.ensures.value c.as_str-lines.ensures.value in
    refuted (λ q. q) (IsQuestion c.as_str-reference.result.now c.as_str-pattern.result.now c.as_str-lines.result.now)
    (λ x. record { address = x.0.now; question = x.1 }) (IsQuery (texts c.args.words.now)) c.from_residual.result
    c.in_err-question.field-0.0 c.from_residual.ensures.1 (unasked _ _ _ _ _ _ are) c.in_err-question.ensures

pub returns : goal.returns
returns c =
    let five : length c.args.words.now ≡ 5 = search rules in
    let first : string_bytes c.index-words-0.result ≡ codes "query" = search rules in
    let ws = five_words _ five _ _ _ _ _ c.index-words-0.is c.index-words-1.is c.index-words-2.is c.index-words-3.is
    c.index-words-4.is in
    let are = words_are _ _ _ _ _ _ _ _ _ _ ws c.as_str-address.ensures.value c.as_str-reference.ensures.value
    c.as_str-pattern.ensures.value c.as_str-lines.ensures.value in
    asked _ _ _ _ _ _ are first c.in_ok-question.question c.in_ok-question.ensures
