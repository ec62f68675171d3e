use Rattle.std.proofs.Common.{ℕ, length, drop, arith}
use Rattle.pv_value.specs.Plain.{Plain}
use Rattle.std.proofs.lemmas.Result.{err_from_is_err_and}
use Rattle.pv_read.specs.Lemmas.Answering.{fault_only, fault_exact, fault_is}
use Rattle.pv_binary.specs.Fronts.{truncated}
use Rattle.pv_binary.specs.Reading.{value_at}
use Rattle.pv_binary.proofs.Whole.{are_bytes, found_law, only_law, same_read, none_begins}
use Rattle.pv_binary.proofs.Exact.{exact_law}
use Rattle.pv_binary.proofs.Stops.{front_answered, fault_answered}
use Rattle.pv_binary.proofs.reading.read.Goals as goal

-- ---- a fault was answered

pub returns-in_err-value-clause-only : goal.returns-in_err-value-clause-only
returns-in_err-value-clause-only c =
    let p = err_from_is_err_and c.from_residual.result c.from_residual.ensures.1 in
    let bytes = c.args.bytes.now in
    rw (p.1, p.2) (λ n v b.
    fault_only {X = Plain × ℕ} (λ x. (x.0, x.1)) (value_at (length bytes) 64 bytes) _ c.in_err-value.ensures
    (v, drop n bytes)
    (only_law (length bytes) 64 bytes n v b.1 b.2) (v, n))

pub returns-in_err-value-clause-bad : goal.returns-in_err-value-clause-bad
returns-in_err-value-clause-bad c =
    let p = err_from_is_err_and c.from_residual.result c.from_residual.ensures.1 in
    let bytes = c.args.bytes.now in
    rw (p.1, p.2) (fault_exact (value_at (length bytes) 64 bytes) (Plain × ℕ) _ c.in_err-value.ensures _
    (λ f h. none_begins bytes f h))

pub returns-in_err-value-clause-exact : goal.returns-in_err-value-clause-exact
returns-in_err-value-clause-exact c =
    let p = err_from_is_err_and c.from_residual.result c.from_residual.ensures.1 in
    let bytes = c.args.bytes.now in
    let all = are_bytes bytes (λ i. omega (arith, c.type_inv.bytes i)) in
    rw (p.1, p.2) (fault_exact (value_at (length bytes) 64 bytes) (Plain × ℕ) _ c.in_err-value.ensures _
    (λ f h. exact_law bytes f all h))

pub returns-in_err-value-clause-only_fault : goal.returns-in_err-value-clause-only_fault
returns-in_err-value-clause-only_fault c =
    let p = err_from_is_err_and c.from_residual.result c.from_residual.ensures.1 in
    let bytes = c.args.bytes.now in
    let all = are_bytes bytes (λ i. omega (arith, c.type_inv.bytes i)) in
    rw (p.1, p.2) (λ f s.
    fault_is (value_at (length bytes) 64 bytes) (Plain × ℕ) _ c.in_err-value.ensures f (fault_answered bytes f all s))

pub returns-in_err-value-clause-only_front : goal.returns-in_err-value-clause-only_front
returns-in_err-value-clause-only_front c =
    let p = err_from_is_err_and c.from_residual.result c.from_residual.ensures.1 in
    let bytes = c.args.bytes.now in
    let all = are_bytes bytes (λ i. omega (arith, c.type_inv.bytes i)) in
    rw (p.1, p.2) (λ path s.
    fault_is (value_at (length bytes) 64 bytes) (Plain × ℕ) _ c.in_err-value.ensures (truncated bytes path)
    (front_answered bytes path all s))

-- ---- a value was read

pub overflow_sub-result : goal.overflow_sub-result
overflow_sub-result c =
    let bytes = c.args.bytes.now in
    let all = are_bytes bytes (λ i. omega (arith, c.type_inv.bytes i)) in
    (found_law (length bytes) 64 bytes c.in_ok-value.value c.read_value.new.input.now all c.in_ok-value.ensures).0

pub returns-clause-found : goal.returns-clause-found
returns-clause-found c =
    let bytes = c.args.bytes.now in
    let all = are_bytes bytes (λ i. omega (arith, c.type_inv.bytes i)) in
    let f = found_law (length bytes) 64 bytes c.in_ok-value.value c.read_value.new.input.now all c.in_ok-value.ensures in
    (omega arith, f.1, f.2)

pub returns-clause-only : goal.returns-clause-only
returns-clause-only c = λ n v b.
    let bytes = c.args.bytes.now in
    let same = same_read (length bytes) 64 bytes n v c.in_ok-value.value c.read_value.new.input.now b.0 b.1 b.2
    c.in_ok-value.ensures in
    λ i. (same.0 i, same.1 i)

pub returns-clause-only_fault : goal.returns-clause-only_fault
returns-clause-only_fault c = λ f s.
    let bytes = c.args.bytes.now in
    let all = are_bytes bytes (λ i. omega (arith, c.type_inv.bytes i)) in
    let answer = fault_answered bytes f all s in
    cc (answer, c.in_ok-value.ensures)

pub returns-clause-only_front : goal.returns-clause-only_front
returns-clause-only_front c = λ path s.
    let bytes = c.args.bytes.now in
    let all = are_bytes bytes (λ i. omega (arith, c.type_inv.bytes i)) in
    let answer = front_answered bytes path all s in
    cc (answer, c.in_ok-value.ensures)
