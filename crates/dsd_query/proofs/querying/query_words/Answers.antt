-- What is asked for right words, and what is said of others.
use Rattle.std.proofs.Common.{◌≡◌, lit<, arith, inl, inr, refl, sym}
use Rattle.out_ports.specs.Ports.{Appends, AppendsFront}
use Rattle.dsd_query.proofs.Ending.{says_bad_words, says_no_memory, all_stays, none_falls}
use Rattle.dsd_query.proofs.querying.query_words.Goals as goal

pub returns-in-Ok-clause-words : goal.returns-in-Ok-clause-words
returns-in-Ok-clause-words g c = λ two. absurd (c.ask.ensures.right two)

pub returns-in-Ok-clause-other_words : goal.returns-in-Ok-clause-other_words
returns-in-Ok-clause-other_words g c = λ none. absurd (none (_, c.in-Ok.ensures))

pub returns-in-Ok-clause-asked : goal.returns-in-Ok-clause-asked
returns-in-Ok-clause-asked g c = λ two five. (_, c.in-Ok.ensures, c.ask.ensures.asked)

pub returns-in-Ok-clause-cut_short : goal.returns-in-Ok-clause-cut_short
returns-in-Ok-clause-cut_short g c = λ five. inr (_, c.in-Ok.ensures, c.ask.ensures.asked)

pub returns-in-Ok-clause-place : goal.returns-in-Ok-clause-place
returns-in-Ok-clause-place g c = λ two five eleven. (_, c.in-Ok.ensures, c.ask.ensures.place five eleven)

pub returns-in-Ok-clause-unasked : goal.returns-in-Ok-clause-unasked
returns-in-Ok-clause-unasked g c = λ two. absurd (c.ask.ensures.right two)

pub returns-in-Err-Bad-clause-known : goal.returns-in-Err-Bad-clause-known
returns-in-Err-Bad-clause-known g c =
    let is : c.refuse.result ≡ 2 = c.refuse.ensures.status in (1, lit< tt, sym is)

pub returns-in-Err-Bad-clause-words : goal.returns-in-Err-Bad-clause-words
returns-in-Err-Bad-clause-words g c =
    let is : c.refuse.result ≡ 2 = c.refuse.ensures.status in λ two q.
    (rw c.in-Err-Bad.field-0-is at c.in-Err-Bad.ensures) q.0 q.1

pub returns-in-Err-Bad-clause-other_words : goal.returns-in-Err-Bad-clause-other_words
returns-in-Err-Bad-clause-other_words g c =
    let is : c.refuse.result ≡ 2 = c.refuse.ensures.status in λ none. (0, lit< tt, sym is)

pub returns-in-Err-Bad-clause-asked : goal.returns-in-Err-Bad-clause-asked
returns-in-Err-Bad-clause-asked g c =
    let is : c.refuse.result ≡ 2 = c.refuse.ensures.status in λ two five. absurd (two is)

pub returns-in-Err-Bad-clause-cut_short : goal.returns-in-Err-Bad-clause-cut_short
returns-in-Err-Bad-clause-cut_short g c =
    let is : c.refuse.result ≡ 2 = c.refuse.ensures.status in λ five. absurd (omega (arith, five, is))

pub returns-in-Err-Bad-clause-place : goal.returns-in-Err-Bad-clause-place
returns-in-Err-Bad-clause-place g c =
    let is : c.refuse.result ≡ 2 = c.refuse.ensures.status in λ two five eleven. absurd (two is)

pub returns-in-Err-Bad-clause-unasked : goal.returns-in-Err-Bad-clause-unasked
returns-in-Err-Bad-clause-unasked g c = λ two. (refl, refl)

pub returns-in-Err-Bad-clause-read_failed : goal.returns-in-Err-Bad-clause-read_failed
returns-in-Err-Bad-clause-read_failed g c =
    let is : c.refuse.result ≡ 2 = c.refuse.ensures.status in λ three. absurd (omega (arith, three, is))

pub returns-in-Err-Bad-clause-write_failed : goal.returns-in-Err-Bad-clause-write_failed
returns-in-Err-Bad-clause-write_failed g c =
    let is : c.refuse.result ≡ 2 = c.refuse.ensures.status in λ four. absurd (omega (arith, four, is))

pub returns-in-Err-Bad-clause-connect_failed : goal.returns-in-Err-Bad-clause-connect_failed
returns-in-Err-Bad-clause-connect_failed g c =
    let is : c.refuse.result ≡ 2 = c.refuse.ensures.status in λ eleven. absurd (omega (arith, eleven, is))

pub returns-in-Err-Bad-clause-lasting : goal.returns-in-Err-Bad-clause-lasting
returns-in-Err-Bad-clause-lasting g c = none_falls _ _

pub returns-in-Err-Bad-clause-rest : goal.returns-in-Err-Bad-clause-rest
returns-in-Err-Bad-clause-rest g c = all_stays _

pub returns-in-Err-Bad-clause-silent : goal.returns-in-Err-Bad-clause-silent
returns-in-Err-Bad-clause-silent g c =
    let is : c.refuse.result ≡ 2 = c.refuse.ensures.status in λ zero. absurd (omega (arith, zero, is))

pub returns-in-Err-Bad-clause-said : goal.returns-in-Err-Bad-clause-said
returns-in-Err-Bad-clause-said g c =
    let is : c.refuse.result ≡ 2 = c.refuse.ensures.status in λ not.
    says_bad_words AppendsFront _ _ _ is c.refuse.ensures.said

pub returns-in-Err-Bad-clause-said_all : goal.returns-in-Err-Bad-clause-said_all
returns-in-Err-Bad-clause-said_all g c =
    let is : c.refuse.result ≡ 2 = c.refuse.ensures.status in λ not quiet.
    says_bad_words Appends _ _ _ is (c.refuse.ensures.said_all quiet)

pub returns-in-Err-NoMemory-clause-known : goal.returns-in-Err-NoMemory-clause-known
returns-in-Err-NoMemory-clause-known g c =
    let is : c.refuse-in-Err-NoMemory.result ≡ 5 = c.refuse-in-Err-NoMemory.ensures.status in (4, lit< tt, sym is)

pub returns-in-Err-NoMemory-clause-words : goal.returns-in-Err-NoMemory-clause-words
returns-in-Err-NoMemory-clause-words g c =
    let is : c.refuse-in-Err-NoMemory.result ≡ 5 = c.refuse-in-Err-NoMemory.ensures.status in
    λ two. absurd (omega (arith, two, is))

pub returns-in-Err-NoMemory-clause-other_words : goal.returns-in-Err-NoMemory-clause-other_words
returns-in-Err-NoMemory-clause-other_words g c =
    let is : c.refuse-in-Err-NoMemory.result ≡ 5 = c.refuse-in-Err-NoMemory.ensures.status in
    λ none. (1, lit< tt, sym is)

pub returns-in-Err-NoMemory-clause-asked : goal.returns-in-Err-NoMemory-clause-asked
returns-in-Err-NoMemory-clause-asked g c =
    let is : c.refuse-in-Err-NoMemory.result ≡ 5 = c.refuse-in-Err-NoMemory.ensures.status in
    λ two five. absurd (five is)

pub returns-in-Err-NoMemory-clause-cut_short : goal.returns-in-Err-NoMemory-clause-cut_short
returns-in-Err-NoMemory-clause-cut_short g c = λ five. inl (refl, refl)

pub returns-in-Err-NoMemory-clause-place : goal.returns-in-Err-NoMemory-clause-place
returns-in-Err-NoMemory-clause-place g c =
    let is : c.refuse-in-Err-NoMemory.result ≡ 5 = c.refuse-in-Err-NoMemory.ensures.status in
    λ two five eleven. absurd (five is)

pub returns-in-Err-NoMemory-clause-unasked : goal.returns-in-Err-NoMemory-clause-unasked
returns-in-Err-NoMemory-clause-unasked g c =
    let is : c.refuse-in-Err-NoMemory.result ≡ 5 = c.refuse-in-Err-NoMemory.ensures.status in
    λ two. absurd (omega (arith, two, is))

pub returns-in-Err-NoMemory-clause-read_failed : goal.returns-in-Err-NoMemory-clause-read_failed
returns-in-Err-NoMemory-clause-read_failed g c =
    let is : c.refuse-in-Err-NoMemory.result ≡ 5 = c.refuse-in-Err-NoMemory.ensures.status in
    λ three. absurd (omega (arith, three, is))

pub returns-in-Err-NoMemory-clause-write_failed : goal.returns-in-Err-NoMemory-clause-write_failed
returns-in-Err-NoMemory-clause-write_failed g c =
    let is : c.refuse-in-Err-NoMemory.result ≡ 5 = c.refuse-in-Err-NoMemory.ensures.status in
    λ four. absurd (omega (arith, four, is))

pub returns-in-Err-NoMemory-clause-connect_failed : goal.returns-in-Err-NoMemory-clause-connect_failed
returns-in-Err-NoMemory-clause-connect_failed g c =
    let is : c.refuse-in-Err-NoMemory.result ≡ 5 = c.refuse-in-Err-NoMemory.ensures.status in
    λ eleven. absurd (omega (arith, eleven, is))

pub returns-in-Err-NoMemory-clause-lasting : goal.returns-in-Err-NoMemory-clause-lasting
returns-in-Err-NoMemory-clause-lasting g c = none_falls _ _

pub returns-in-Err-NoMemory-clause-rest : goal.returns-in-Err-NoMemory-clause-rest
returns-in-Err-NoMemory-clause-rest g c = all_stays _

pub returns-in-Err-NoMemory-clause-silent : goal.returns-in-Err-NoMemory-clause-silent
returns-in-Err-NoMemory-clause-silent g c =
    let is : c.refuse-in-Err-NoMemory.result ≡ 5 = c.refuse-in-Err-NoMemory.ensures.status in
    λ zero. absurd (omega (arith, zero, is))

pub returns-in-Err-NoMemory-clause-said : goal.returns-in-Err-NoMemory-clause-said
returns-in-Err-NoMemory-clause-said g c =
    let is : c.refuse-in-Err-NoMemory.result ≡ 5 = c.refuse-in-Err-NoMemory.ensures.status in
    λ not.
    says_no_memory AppendsFront _ _ _ is c.refuse-in-Err-NoMemory.ensures.said

pub returns-in-Err-NoMemory-clause-said_all : goal.returns-in-Err-NoMemory-clause-said_all
returns-in-Err-NoMemory-clause-said_all g c =
    let is : c.refuse-in-Err-NoMemory.result ≡ 5 = c.refuse-in-Err-NoMemory.ensures.status in
    λ not quiet.
    says_no_memory Appends _ _ _ is (c.refuse-in-Err-NoMemory.ensures.said_all quiet)
