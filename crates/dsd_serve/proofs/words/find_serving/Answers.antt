-- The five words are those for what is found.
use Rattle.std.proofs.Common.{◌≡◌, length, sym, rules}
use Rattle.std.specs.String.{string_bytes}
use Rattle.dsd_serve.proofs.Asking.{five_words, words_are, never_five, never_other}
use Rattle.dsd_serve.proofs.words.find_serving.Goals as goal
use Rattle.dsd_serve.proofs.words.find_serving.Goals.{then-words-ne5-via-then-words-ne5}
use Rattle.dsd_serve.proofs.words.find_serving.Goals.{then-words-ne5-via-else-words-ne5+then-ne}

pub returns-then-words-ne5 : goal.returns-then-words-ne5
returns-then-words-ne5 c =
    elim c.then-words-ne5.branch [
      | then-words-ne5-via-then-words-ne5 w ↦
          (let others : length c.args.words.now ≡ 5 → ⊥ = search rules in
          never_five c.args.words.now c.args.first.now others)
      | then-words-ne5-via-else-words-ne5+then-ne w ↦
          (let other : string_bytes w.index-words-0.result ≡ c.args.first.now → ⊥ = search rules in
          never_other c.args.words.now c.args.first.now _ w.index-words-0.is other)
    ]

pub returns : goal.returns
returns c =
    let five : length c.args.words.now ≡ 5 = search rules in
    let first : string_bytes c.index-words-0.result ≡ c.args.first.now = search rules in
    let ws = five_words _ five _ _ _ _ _ c.index-words-0.is c.index-words-1.is c.index-words-2.is c.index-words-3.is
    c.index-words-4.is in
    record {
      words_are = words_are _ _ _ _ _ _ _ _ ws first (sym c.as_str-4.ensures.value) (sym c.as_str-5.ensures.value)
          (search rules) (search rules);
      workers = search rules;
      connections = search rules;
    }
