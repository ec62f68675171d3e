use Rattle.pv_canon.proofs.Lengths.{length-canonical, canonical_sized}
use Rattle.pv_canon.proofs.Spelling.{canonical_spells, canonical_exact}
use Rattle.pv_canon.proofs.laws.canonical_is_exact.Goals as goal

pub returns : goal.returns
returns c =
    let told = c.spellings_are_unique.ensures in
    record {
      spells = canonical_spells told.written;
      exact = canonical_exact told.written told.unique;
      length =
          length-canonical;
      size = canonical_sized;
    }
