-- The byte that each tag stands for.
use Rattle.std.proofs.Common.{◌≡◌, ℕ, Bool, true, false, cond, eqb, refl}
use Rattle.std.proofs.lemmas.Bool.{eqb-true}
use Rattle.pv_binary.specs.Tags.{tag_of}
use Rattle.pv_binary.specs.declared.tag.Tag.{Tag}
use Rattle.pv_binary.specs.declared.tag.Tag.TheVariants.{False, True, Embedded, Double, Integer, String, ByteString}
use Rattle.pv_binary.specs.declared.tag.Tag.TheVariants.{Symbol, Record, Sequence, Set, Dictionary, Other}

-- the byte is the tag's
abbrev pub IsByteOf : Tag → ℕ → Type 0
IsByteOf False b = b ≡ 0x80
IsByteOf True b = b ≡ 0x81
IsByteOf Embedded b = b ≡ 0x86
IsByteOf Double b = b ≡ 0x87
IsByteOf Integer b = b ≡ 0xb0
IsByteOf String b = b ≡ 0xb1
IsByteOf ByteString b = b ≡ 0xb2
IsByteOf Symbol b = b ≡ 0xb3
IsByteOf Record b = b ≡ 0xb4
IsByteOf Sequence b = b ≡ 0xb5
IsByteOf Set b = b ≡ 0xb6
IsByteOf Dictionary b = b ≡ 0xb7
IsByteOf Other b = Unit {0}

-- one test of the chain
test : (b n : ℕ) (t u : Tag) → (b ≡ n → IsByteOf t b) → IsByteOf u b → IsByteOf (cond (eqb b n) t u) b
test b n t u here later = by (eqb b n) refl
  where
    by : (c : Bool) → eqb b n ≡ c → IsByteOf (cond c t u) b
    by true e = here (eqb-true b n e)
    by false e = later

pub tag_byte : (b : ℕ) → IsByteOf (tag_of b) b
tag_byte b =
    test b 0x80 False _ (λ e. e) (
    test b 0x81 True _ (λ e. e) (
    test b 0x86 Embedded _ (λ e. e) (
    test b 0x87 Double _ (λ e. e) (
    test b 0xb0 Integer _ (λ e. e) (
    test b 0xb1 String _ (λ e. e) (
    test b 0xb2 ByteString _ (λ e. e) (
    test b 0xb3 Symbol _ (λ e. e) (
    test b 0xb4 Record _ (λ e. e) (
    test b 0xb5 Sequence _ (λ e. e) (
    test b 0xb6 Set _ (λ e. e) (
    test b 0xb7 Dictionary Other (λ e. e) tt)))))))))))
