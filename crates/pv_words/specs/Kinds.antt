-- The kinds of atoms. Preserves, section "Values".
use Rattle.std.specs.Prelude.{Bool, true, false}
use Rattle.pv_value.specs.Plain.{Plain, boolean, double, integer, string, byte_string, symbol}
pub use Rattle.pv_words.specs.declared.kinds.AtomKind.{AtomKind}
pub use Rattle.pv_words.specs.declared.kinds.AtomKind.TheVariants.{Boolean, Double, SignedInteger, String, ByteString}
pub use Rattle.pv_words.specs.declared.kinds.AtomKind.TheVariants.{Symbol}

abbrev pub is_of_kind : AtomKind → Plain → Bool
is_of_kind Boolean (boolean b) = true
is_of_kind Double (double n) = true
is_of_kind SignedInteger (integer z) = true
is_of_kind String (string s) = true
is_of_kind ByteString (byte_string s) = true
is_of_kind Symbol (symbol s) = true
is_of_kind k v = false
