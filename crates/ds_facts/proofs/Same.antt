-- Entries that compare alike are one.
use Rattle.std.proofs.Common.{◌≡◌, true, refl, ap}
use Rattle.std.specs.declared.cmp.Ordering.{Ordering}
use Rattle.std.specs.declared.cmp.Ordering.TheVariants.{Less, Equal, Greater}
use Rattle.std.specs.Ordering.{is_eq, ordering_then}
use Rattle.std.specs.Cmp.{eq_by_cmp_equiv}
use Rattle.std.proofs.lemmas.Cmp.{tied_itself}
use Rattle.pv_value.specs.Plain.{Plain}
use Rattle.pv_value.specs.Order.{order}
use Rattle.pv_value.specs.Lemmas.OrderLaws.{order_same}
use Rattle.pv_value.specs.Lemmas.EntryOrderLaws.{entry_order_total}
use Rattle.ds_facts.specs.Atoms.{Entry, same_entry}

both_equal : (r s : Ordering) → is_eq (ordering_then r s) ≡ true → (r ≡ Equal) × (s ≡ Equal)
both_equal Less s e = absurd cc
both_equal Equal Less e = absurd cc
both_equal Equal Equal e = (refl, refl)
both_equal Equal Greater e = absurd cc
both_equal Greater s e = absurd cc

of_parts : (a b c d : Plain) → a ≡ b → c ≡ d → let e : Entry = record { key = a; value = c } in
    let f : Entry = record { key = b; value = d } in e ≡ f
of_parts a b c d k v = cc

pub entry_is : (e f : Entry) → same_entry e f ≡ true → e ≡ f
entry_is e f h =
    let both = both_equal (order e.key f.key) (order e.value f.value) h in
    of_parts e.key f.key e.value f.value (order_same e.key f.key both.0) (order_same e.value f.value both.1)

pub entry_self : (e : Entry) → same_entry e e ≡ true
entry_self e = ap is_eq (tied_itself entry_order_total e)

pub entry_turns : (e f : Entry) → same_entry e f ≡ same_entry f e
entry_turns e f = (eq_by_cmp_equiv entry_order_total).symm e f
