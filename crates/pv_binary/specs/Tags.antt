-- What the first byte of a value announces: Preserves binary specification, the table of tags.
use Rattle.std.specs.Prelude.{ℕ, ◌==◌, if◌then◌else◌}
use Rattle.pv_binary.specs.declared.tag.Tag.{Tag}
use Rattle.pv_binary.specs.declared.tag.Tag.TheVariants.{False, True, Embedded, Double, Integer, String, ByteString}
use Rattle.pv_binary.specs.declared.tag.Tag.TheVariants.{Symbol, Record, Sequence, Set, Dictionary, Other}

abbrev pub tag_of : ℕ → Tag
tag_of b =
    if b == 0x80 then False else (
    if b == 0x81 then True else (
    if b == 0x86 then Embedded else (
    if b == 0x87 then Double else (
    if b == 0xb0 then Integer else (
    if b == 0xb1 then String else (
    if b == 0xb2 then ByteString else (
    if b == 0xb3 then Symbol else (
    if b == 0xb4 then Record else (
    if b == 0xb5 then Sequence else (
    if b == 0xb6 then Set else (
    if b == 0xb7 then Dictionary else Other)))))))))))
