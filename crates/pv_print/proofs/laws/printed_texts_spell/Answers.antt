use Rattle.pv_print.proofs.Spelled.{printed_spells, printed_nests}
use Rattle.pv_print.proofs.laws.printed_texts_spell.Goals as goal

pub returns : goal.returns
returns c = record { spells = printed_spells; nesting = printed_nests }
