use Rattle.std.proofs.Common.{◌≡◌, ℕ, Bool, true, false, List, subst, arith, refl, cond}
use Rattle.std.specs.BTreeMap.{is_at}
use Rattle.std.specs.Ordering.{nat_cmp}
use Rattle.ac_table.specs.Maps.{is_key, SetChangesAt}
use Rattle.ac_table.specs.Lemmas.Entries.{is_at_same}
use Rattle.ac_table.proofs.keeping.push_busy.Goals as goal

set_unchanged : (a : ℕ) (w : Bool) (ks : List ℕ) → is_key a ks ≡ w → SetChangesAt a w ks ks
set_unchanged a w ks is q = split (is_at (nat_cmp a) q) refl
  where
    split : (b : Bool) → is_at (nat_cmp a) q ≡ b → is_key q ks ≡ cond b w (is_key q ks)
    split true same =
        let number : a ≡ q = grind (arith, is_at_same a q, same) in
        subst (λ (n : ℕ). is_key n ks ≡ w) number is
    split false other = refl

pub returns-in_default-clause-busy : goal.returns-in_default-clause-busy
returns-in_default-clause-busy c = set_unchanged _ _ _ c.requires
