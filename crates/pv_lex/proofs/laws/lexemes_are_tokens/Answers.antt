use Rattle.pv_lex.specs.Lemmas.Lexemes.{atom_of_read, atom_of_found, mark_read, mark_found}
use Rattle.pv_lex.specs.Lemmas.Lexemes.{fault_read, fault_found}
use Rattle.pv_lex.specs.Lemmas.JudgedTokens.{tokens_judged}
use Rattle.pv_lex.proofs.laws.lexemes_are_tokens.Goals as goal

pub returns : goal.returns
returns c = record {
  atom_read = atom_of_read;
  atom_found = atom_of_found;
  mark_read = mark_read;
  mark_found = mark_found;
  fault_read = fault_read;
  fault_found = fault_found;
  judged = tokens_judged;
}
