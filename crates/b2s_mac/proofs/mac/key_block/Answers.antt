use Rattle.std.proofs.Common.{◌≡◌, ◌∙◌, [], length, ap, nat_lt, true, false, arith}
use Rattle.std.proofs.lemmas.List.{append-nil}
use Rattle.std.proofs.lemmas.Bool.Decides.{nat_tests}
use Rattle.b2s_mac.specs.Blake2s.{blake2s, padded}
use Rattle.b2s_mac.specs.Hmac.{key_block}
use Rattle.b2s_mac.proofs.mac.key_block.Goals as goal

pub returns-then-key-gt-BLOCK_LEN : goal.returns-then-key-gt-BLOCK_LEN
unfolding key_block
returns-then-key-gt-BLOCK_LEN c =
    let long : nat_lt 64 (length c.args.key.now) ≡ true = grind (arith, nat_tests) in
    rw long (c.padded.ensures ∙ ap padded (c.digest_of_two.ensures ∙ ap (blake2s [] 32) (append-nil c.args.key.now)))

pub returns-else-key-gt-BLOCK_LEN : goal.returns-else-key-gt-BLOCK_LEN
unfolding key_block
returns-else-key-gt-BLOCK_LEN c =
    let short : nat_lt 64 (length c.args.key.now) ≡ false = grind (arith, nat_tests) in
    rw short c.padded-else-key-gt-BLOCK_LEN.ensures
