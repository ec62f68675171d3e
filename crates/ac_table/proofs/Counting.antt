-- How many batches wait.
use Rattle.std.proofs.Common.{◌≡◌, ℕ, ◌+◌, ◌≤◌, Bool, true, false, List, [], ◌∷◌, length, refl, ap, arith, sym}
use Rattle.std.proofs.Common.{◌∙◌, Some, None, map}
use Rattle.std.specs.BTreeMap.{is_at, insert_entry}
use Rattle.std.specs.Map.{remove_entry, set_value}
use Rattle.std.specs.Ordering.{nat_cmp}
use Rattle.ac_table.specs.Inboxes.{CountsOn}
use Rattle.ac_table.specs.Kept.{seen, value_at, waiting_at}
use Rattle.ac_table.specs.Tables.{waiting_in}
use Rattle.ac_table.specs.declared.table.LiveActor.{LiveActor}
use Rattle.ac_table.specs.Lemmas.Entries.{is_at_same}

pub waiting-seen : (actors : List (ℕ × LiveActor)) → waiting_at actors ≡ waiting_in (map seen actors)
waiting-seen [] = refl
waiting-seen (e ∷ es) = ap (λ (n : ℕ). length e.1.inbox + n) (waiting-seen es)

-- one live actor changes
waiting-set : (a : ℕ) (s t : LiveActor) (es : List (ℕ × LiveActor)) → value_at a es ≡ Some s
    → waiting_at (set_value (is_at (nat_cmp a)) es t) + length s.inbox ≡ waiting_at es + length t.inbox
waiting-set a s t [] at = absurd cc
waiting-set a s t (e ∷ es) at = split (is_at (nat_cmp a) e.0) refl (waiting-set a s t es)
  where
    split : (b : Bool) → is_at (nat_cmp a) e.0 ≡ b
        → (value_at a es ≡ Some s
        → waiting_at (set_value (is_at (nat_cmp a)) es t) + length s.inbox ≡ waiting_at es + length t.inbox)
        → waiting_at (set_value (is_at (nat_cmp a)) (e ∷ es) t) + length s.inbox
        ≡ waiting_at (e ∷ es) + length t.inbox
    split true here later =
        let e_is : Some e.1 ≡ Some s = sym (rw here refl) ∙ at in
        let same : e.1 ≡ s = grind (arith, e_is) in
        rw here (rw same (omega arith))
    split false other later =
        let rest = later (rw other at at) in
        rw other (omega (arith, rest))

pub counted_set : (a n m : ℕ) (s t : LiveActor) (actors new : List (ℕ × LiveActor)) → n ≡ waiting_at actors
    → value_at a actors ≡ Some s → new ≡ set_value (is_at (nat_cmp a)) actors t → CountsOn s.inbox t.inbox n m
    → m ≡ waiting_at new
counted_set a n m s t actors new k was is counts =
    let all = waiting-set a s t actors was in
    rw is (omega (arith, k, all, counts))

pub counted_same : (a n : ℕ) (s t : LiveActor) (actors new : List (ℕ × LiveActor)) → n ≡ waiting_at actors
    → value_at a actors ≡ Some s → new ≡ set_value (is_at (nat_cmp a)) actors t → t.inbox ≡ s.inbox
    → n ≡ waiting_at new
counted_same a n s t actors new k was is same =
    counted_set a n n s t actors new k was is (rw same refl)

-- one comes, for which none waits
pub waiting-insert : (a : ℕ) (s : LiveActor) (es : List (ℕ × LiveActor)) → value_at a es ≡ None → s.inbox ≡ []
    → waiting_at (insert_entry nat_cmp es a s) ≡ waiting_at es
waiting-insert a s [] none empty = rw empty refl
waiting-insert a s (e ∷ es) none empty = grind (arith, empty, is_at_same a e.0, waiting-insert a s es)

-- one goes
waiting-remove : (a : ℕ) (s : LiveActor) (es : List (ℕ × LiveActor)) → value_at a es ≡ Some s
    → waiting_at (remove_entry (is_at (nat_cmp a)) es) + length s.inbox ≡ waiting_at es
waiting-remove a s [] at = absurd cc
waiting-remove a s (e ∷ es) at = split (is_at (nat_cmp a) e.0) refl (waiting-remove a s es)
  where
    split : (b : Bool) → is_at (nat_cmp a) e.0 ≡ b
        → (value_at a es ≡ Some s
        → waiting_at (remove_entry (is_at (nat_cmp a)) es) + length s.inbox ≡ waiting_at es)
        → waiting_at (remove_entry (is_at (nat_cmp a)) (e ∷ es)) + length s.inbox ≡ waiting_at (e ∷ es)
    split true here later =
        let e_is : Some e.1 ≡ Some s = sym (rw here refl) ∙ at in
        let same : e.1 ≡ s = grind (arith, e_is) in
        rw here (rw same (omega arith))
    split false other later =
        let rest = later (rw other at at) in
        rw other (omega (arith, rest))

pub counted_ended : (a n m : ℕ) (s : LiveActor) (actors new : List (ℕ × LiveActor)) → n ≡ waiting_at actors
    → value_at a actors ≡ Some s → new ≡ remove_entry (is_at (nat_cmp a)) actors → m + length s.inbox ≡ n
    → m ≡ waiting_at new
counted_ended a n m s actors new k was is less =
    let all = waiting-remove a s actors was in
    rw is (omega (arith, k, all, less))

-- no inbox has more than all have
pub counted_within : (a n : ℕ) (s : LiveActor) (es : List (ℕ × LiveActor)) → n ≡ waiting_at es → value_at a es ≡ Some s
    → length s.inbox ≤ n
counted_within a n s es is at = omega (arith, is, waiting-remove a s es at)
