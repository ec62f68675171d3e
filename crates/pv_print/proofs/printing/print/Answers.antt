use Rattle.std.proofs.Common.{◌≡◌, ℕ, sym, subst, ap, ◌≤◌, length, IsUtf8, Vec, Global}
use Rattle.std.specs.String.{string_vec}
use Rattle.pv_value.specs.WellFormed.{IsWellFormed}
use Rattle.pv_print.specs.Printed.{printed}
use Rattle.pv_text.specs.Spells.{TextSpells}
use Rattle.pv_value.specs.Depth.{depth}
use Rattle.pv_text.specs.Reads.{BeginsWith}
use Rattle.pv_print.proofs.ReadBack.{reads_back}
use Rattle.pv_print.proofs.Spelled.{printed_spells}
use Rattle.pv_print.proofs.Utf8.{utf8_printed}
use Rattle.pv_print.proofs.printing.print.Goals as goal

pub unwrap-requires : goal.unwrap-requires
unwrap-requires c =
    let whole : IsWellFormed c.args.v.now = subst IsWellFormed c.v.view_is c.v.invariant in
    let same : c.print_into.new.out.items ≡ printed c.args.v.now =
    cc (c.in_ok-print_into.ensures.exact, c.new-out.ensures.items) in
    c.from_utf8.ensures.succeeds (subst IsUtf8 (sym same) (utf8_printed c.args.v.now whole))

pub returns-clause-spells : goal.returns-clause-spells
returns-clause-spells c =
    let whole : IsWellFormed c.args.v.now = subst IsWellFormed c.v.view_is c.v.invariant in
    let kept : string_vec c.unwrap.result ≡ c.print_into.new.out = rw c.unwrap.ensures at c.from_utf8.ensures.ok in
    let same : c.in_ok-text.text ≡ printed c.args.v.now =
    cc (
      c.in_ok-text.ensures,
      ap (λ (v : Vec ℕ Global). v.items) kept,
      c.in_ok-print_into.ensures.exact,
      c.new-out.ensures.items,
    ) in
    subst (λ t. TextSpells t c.args.v.now) (sym same) (printed_spells c.args.v.now whole)

pub returns-clause-reads_back : goal.returns-clause-reads_back
returns-clause-reads_back c =
    let whole : IsWellFormed c.args.v.now = subst IsWellFormed c.v.view_is c.v.invariant in
    let kept : string_vec c.unwrap.result ≡ c.print_into.new.out = rw c.unwrap.ensures at c.from_utf8.ensures.ok in
    let same : c.in_ok-text.text ≡ printed c.args.v.now =
    cc (
      c.in_ok-text.ensures,
      ap (λ (v : Vec ℕ Global). v.items) kept,
      c.in_ok-print_into.ensures.exact,
      c.new-out.ensures.items,
    ) in
    subst (λ t. depth c.args.v.now ≤ 64 → BeginsWith t (length t) c.args.v.now) (sym same)
    (reads_back c.args.v.now whole)
