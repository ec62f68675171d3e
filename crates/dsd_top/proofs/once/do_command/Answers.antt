use Rattle.std.proofs.Common.{Some, Contains, rules}
use Rattle.dsd_top.specs.Statuses.{statuses_by, status_of, Stands}
use Rattle.dsd_top.specs.declared.words.Request.TheVariants.{Do}
use Rattle.dsd_top.proofs.Causes.{read_known, write_known, said_err}
use Rattle.dsd_top.proofs.Readiness.{unready_known, cause_known, stands, answered_all, answered_front}
use Rattle.dsd_top.proofs.once.do_command.Goals as goal

pub returns-in_err-work-clause-known : goal.returns-in_err-work-clause-known
returns-in_err-work-clause-known g c =
    let command = c.args.command.now in
    said_err (λ f. Contains (statuses_by command) (status_of f)) _ _ c.from_residual.ensures.1
    (unready_known (g.H.Listen.files c.args.host.now) command c.in_err-work.field-0.0 c.in_err-work.ensures.cause)

pub returns-in_err-bytes-clause-known : goal.returns-in_err-bytes-clause-known
returns-in_err-bytes-clause-known g c =
    let command = c.args.command.now in
    said_err (λ f. Contains (statuses_by command) (status_of f)) _ _ c.from_residual-in_err-bytes.ensures.1
    (read_known command c.in_err-bytes.field-0.0)

pub returns-in_err-answer-clause-known : goal.returns-in_err-answer-clause-known
returns-in_err-answer-clause-known g c =
    let command = c.args.command.now in
    said_err (λ f. Contains (statuses_by command) (status_of f)) _ _ c.from_residual-in_err-answer.ensures.1
    (cause_known (g.H.Listen.files c.args.host.now) command _ _ c.in_err-answer.field-0.0 c.in_ok-work.ensures.ready
    c.in_err-answer.ensures.cause)

pub returns-in_err-answer-clause-cause : goal.returns-in_err-answer-clause-cause
returns-in_err-answer-clause-cause g c =
    let command = c.args.command.now in
    let files = g.H.Listen.files c.args.host.now in
    let left = g.I.Source.left c.args.input.now in
    said_err (Stands (Some (Do command)) files left) _ _ c.from_residual-in_err-answer.ensures.1
    (stands files command c.in_ok-work.work left c.in_ok-bytes.bytes.items c.in_err-answer.field-0.0
    c.in_ok-bytes.ensures.content c.in_ok-work.ensures.ready
    (rw c.deref.ensures.value at c.in_err-answer.ensures.cause))

pub returns-in_err-write_all-clause-known : goal.returns-in_err-write_all-clause-known
returns-in_err-write_all-clause-known g c =
    let command = c.args.command.now in
    said_err (λ f. Contains (statuses_by command) (status_of f)) _ _ c.from_residual-in_err-write_all.ensures.1
    (write_known command)

pub returns-in_err-write_all-clause-cut : goal.returns-in_err-write_all-clause-cut
returns-in_err-write_all-clause-cut g c = λ e.
    let command = c.args.command.now in
    let files = g.H.Listen.files c.args.host.now in
    let left = g.I.Source.left c.args.input.now in
    answered_front files command c.in_ok-work.work c.in_ok-work.ensures.ready left c.in_ok-bytes.bytes.items
    c.in_ok-bytes.ensures.content c.in_ok-answer.answer.items
    (rw c.deref.ensures.value at c.in_ok-answer.ensures.answer) _ _ _ (search rules)
    c.in_err-write_all.ensures.front

pub returns-clause-done : goal.returns-clause-done
returns-clause-done g c =
    let command = c.args.command.now in
    let files = g.H.Listen.files c.args.host.now in
    let left = g.I.Source.left c.args.input.now in
    answered_all files command c.in_ok-work.work c.in_ok-work.ensures.ready left c.in_ok-bytes.bytes.items
    c.in_ok-bytes.ensures.content c.in_ok-answer.answer.items
    (rw c.deref.ensures.value at c.in_ok-answer.ensures.answer) _ _ _ (search rules)
    c.in_ok-write_all.ensures.written
