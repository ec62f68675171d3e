-- There is one way to read the last bytes of a text.
use Rattle.std.proofs.Common.{◌≡◌, ℕ, List, Option, Some, None, Result, Ok, Err, refl, sym, ◌∙◌, inl, inr}
use Rattle.pv_value.specs.Plain.{Plain}
use Rattle.pv_read.specs.Results.{Fault}
use Rattle.pv_read.specs.Lemmas.Binds.{parts, err_same}
use Rattle.pv_lex.specs.declared.faults.TextKind.{TextKind}
use Rattle.pv_text.specs.Reading.{next_at}
use Rattle.pv_text.specs.OneWay.{IsOneOfThree, ExcludeOneAnother, AreUnique, OneWayHolds}
use Rattle.pv_text.specs.Lemmas.Begins.{leads_on}
use Rattle.pv_text.proofs.Whole.{first_read, next_read, next_found, next_stands, next_fails}

one_of_three : (total : ℕ) (bytes : List ℕ) (o : Result (Option (Plain × List ℕ)) (Fault TextKind))
    → next_at total bytes ≡ o
    → IsOneOfThree total bytes
one_of_three total bytes (Ok None) e = inl (next_found total bytes None e)
one_of_three total bytes (Ok (Some x)) e = inr (inl (x.0, x.1, next_found total bytes (Some x) e))
one_of_three total bytes (Err f) e = inr (inr (f, next_stands total bytes f e))

apart : (total : ℕ) (bytes : List ℕ) → ExcludeOneAnother total bytes
apart total bytes = record {
  end_and_value = λ l h. leads_on bytes h.0 h.1 h.2 l;
  end_and_fault = λ l h. h.1.0 l;
  value_and_fault = λ v f. cc (sym (next_read total bytes v.0 v.1 v.2) ∙ next_fails total bytes f.0 f.1);
}

unique : (total : ℕ) (bytes : List ℕ) → AreUnique total bytes
unique total bytes = record {
  value = λ v w r s p q. parts {E = Fault TextKind} v w r s (sym (first_read total bytes v r p)
      ∙ first_read total bytes w s q);
  fault = λ f g p q. err_same {A = Option (Plain × List ℕ)} f g (sym (next_fails total bytes f p)
      ∙ next_fails total bytes g q);
}

pub one_way : (total : ℕ) (bytes : List ℕ) → OneWayHolds total bytes
one_way total bytes = (one_of_three total bytes (next_at total bytes) refl, apart total bytes, unique total bytes)
