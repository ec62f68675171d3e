-- The bytes of one item of a text: a raw byte as it is, a character in UTF-8.
use Rattle.std.specs.Prelude.{ℕ, List, [], ◌∷◌, encode_utf8}
use Rattle.pv_lex.specs.declared.quoted.Piece.{Piece}
use Rattle.pv_lex.specs.declared.quoted.Piece.TheVariants.{Byte, Character}

abbrev pub piece_bytes : Piece → List ℕ
piece_bytes (Byte b) = b ∷ []
piece_bytes (Character c) = encode_utf8 c
