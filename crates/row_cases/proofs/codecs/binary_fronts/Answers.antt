use Rattle.std.proofs.Common.{ℕ, ◌≡◌, ◌+◌, ◌-◌, ◌≤◌, take, codes, length, string_bytes, subst, arith}
use Rattle.row_cases.specs.Calls.{TellFronts, GivesRead}
use Rattle.row_cases.proofs.Fronting.{front_more}
use Rattle.row_cases.proofs.codecs.binary_fronts.Goals as goal

pub loop-count-preserved : goal.loop-count-preserved
loop-count-preserved c =
    let count = c.loop-count.count in
    let text = c.args.bytes.now in
    let gives : GivesRead (take count text) c.in_ok-stop.stop = c.in_ok-stop.ensures in
    let told = c.in_ok-push_stop.ensures in
    let more : TellFronts GivesRead (codes "Truncated at ") text (count + 1 - 1) (string_bytes c.push_stop.new.line) =
    front_more GivesRead (codes "Truncated at ") text (string_bytes c.loop-count.line) (string_bytes
    c.push_stop.new.line) (count - 1) count
    (count + 1 - 1) c.in_ok-stop.stop told.0 (omega arith) (omega arith) c.loop-count.invariant.0 gives told.1 told.2 in
    (more, omega arith)

pub returns : goal.returns
returns c =
    let text = c.args.bytes.now in
    let Told : ℕ → Type 0 = λ n. TellFronts GivesRead (codes "Truncated at ") text n (string_bytes c.loop-count.line) in
    let most : c.loop-count.count - 1 ≤ length text - 1 = c.loop-count.invariant.1 in
    let same : c.loop-count.count - 1 ≡ length text - 1 = omega arith in
    subst Told same c.loop-count.invariant.0
