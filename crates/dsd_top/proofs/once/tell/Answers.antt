-- A notice that is one of the two with always the same text, a reference, or a load.
use Rattle.std.proofs.Common.{ℕ, Vec, Global, Contains, refl, sym, subst, ◌∙◌}
use Rattle.dsd_top.specs.Commands.{usage, version, HasText}
use Rattle.dsd_top.specs.Statuses.{statuses_told, status_of, IsToldFault}
use Rattle.dsd_top.specs.declared.words.Notice.TheVariants.{Usage, Version, Load}
use Rattle.dsd_top.proofs.Causes.{said_err, told_write}
use Rattle.dsd_top.proofs.Telling.{usage_told, version_told, shown_as, front_as, words_told, load_told, load_known}
use Rattle.dsd_top.proofs.once.tell.Goals as goal

pub returns-in_err-write_all-in-Usage-clause-known : goal.returns-in_err-write_all-in-Usage-clause-known
returns-in_err-write_all-in-Usage-clause-known g c =
    said_err (λ f. Contains (statuses_told c.args.notice.now) (status_of f)) _ _ c.from_residual.ensures.1
    (told_write c.args.notice.now)

pub returns-in_err-write_all-in-Usage-clause-cause : goal.returns-in_err-write_all-in-Usage-clause-cause
returns-in_err-write_all-in-Usage-clause-cause g c =
    said_err (IsToldFault c.args.notice.now) _ _ c.from_residual.ensures.1
    (usage_told c.args.notice.now c.in-Usage.is)

pub returns-in_err-write_all-in-Usage-clause-cut : goal.returns-in_err-write_all-in-Usage-clause-cut
returns-in_err-write_all-in-Usage-clause-cut g c = λ e.
    front_as c.args.notice.now Usage c.in-Usage.is usage _ refl (c.as_bytes.ensures.value ∙ c.usage.ensures) _ _
    c.in_err-write_all-in-Usage.ensures.front

pub returns-in_err-write_all-in-Version-clause-cause : goal.returns-in_err-write_all-in-Version-clause-cause
returns-in_err-write_all-in-Version-clause-cause g c =
    said_err (IsToldFault c.args.notice.now) _ _ c.from_residual-in_err-write_all-in-Version.ensures.1
    (version_told c.args.notice.now c.in-Version.is)

pub returns-in_err-write_all-in-Version-clause-cut : goal.returns-in_err-write_all-in-Version-clause-cut
returns-in_err-write_all-in-Version-clause-cut g c = λ e.
    front_as c.args.notice.now Version c.in-Version.is version _ refl
    (c.as_bytes-in-Version.ensures.value ∙ c.version.ensures) _ _ c.in_err-write_all-in-Version.ensures.front

pub returns-in_err-line-in-Reference-clause-cause : goal.returns-in_err-line-in-Reference-clause-cause
returns-in_err-line-in-Reference-clause-cause g c =
    said_err (IsToldFault c.args.notice.now) _ _ c.from_residual-in_err-line-in-Reference.ensures.1
    (words_told c.args.notice.now c.in-Reference.minting c.in-Reference.is (λ (line : Vec ℕ Global). line.items)
    c.in_err-line-in-Reference.field-0.0 c.in_err-line-in-Reference.ensures)

pub returns-in_err-write_all-in-Reference-clause-known : goal.returns-in_err-write_all-in-Reference-clause-known
returns-in_err-write_all-in-Reference-clause-known g c =
    said_err (λ f. Contains (statuses_told c.args.notice.now) (status_of f)) _ _
    c.from_residual-in_err-write_all-in-Reference.ensures.1 (told_write c.args.notice.now)

pub returns-in_err-write_all-in-Reference-clause-cause : goal.returns-in_err-write_all-in-Reference-clause-cause
returns-in_err-write_all-in-Reference-clause-cause g c =
    said_err (IsToldFault c.args.notice.now) _ _ c.from_residual-in_err-write_all-in-Reference.ensures.1
    (subst HasText (sym c.in-Reference.is) (c.in_ok-line-in-Reference.line.items, c.in_ok-line-in-Reference.ensures))

pub returns-in_err-line-in-Load-clause-known : goal.returns-in_err-line-in-Load-clause-known
returns-in_err-line-in-Load-clause-known g c =
    said_err (λ f. Contains (statuses_told c.args.notice.now) (status_of f)) _ _
    c.from_residual-in_err-line-in-Load.ensures.1
    (load_known c.args.notice.now c.in-Load.loading c.in-Load.is c.in_err-line-in-Load.field-0.0
    c.in_err-line-in-Load.ensures.memory)

pub returns-in_err-line-in-Load-clause-cause : goal.returns-in_err-line-in-Load-clause-cause
returns-in_err-line-in-Load-clause-cause g c =
    said_err (IsToldFault c.args.notice.now) _ _ c.from_residual-in_err-line-in-Load.ensures.1
    (load_told c.args.notice.now c.in-Load.loading c.in-Load.is c.in_err-line-in-Load.field-0.0
    c.in_err-line-in-Load.ensures.stop)

pub returns-in_err-write_all-in-Load-clause-known : goal.returns-in_err-write_all-in-Load-clause-known
returns-in_err-write_all-in-Load-clause-known g c =
    said_err (λ f. Contains (statuses_told c.args.notice.now) (status_of f)) _ _
    c.from_residual-in_err-write_all-in-Load.ensures.1 (told_write c.args.notice.now)

pub returns-in_err-write_all-in-Load-clause-cause : goal.returns-in_err-write_all-in-Load-clause-cause
returns-in_err-write_all-in-Load-clause-cause g c =
    said_err (IsToldFault c.args.notice.now) _ _ c.from_residual-in_err-write_all-in-Load.ensures.1
    (subst HasText (sym c.in-Load.is) (c.in_ok-line-in-Load.line.items, c.in_ok-line-in-Load.ensures.line))

pub returns-in_ok-write_all-in-Usage-clause-done : goal.returns-in_ok-write_all-in-Usage-clause-done
returns-in_ok-write_all-in-Usage-clause-done g c =
    shown_as c.args.notice.now Usage c.in-Usage.is usage _ refl (c.as_bytes.ensures.value ∙ c.usage.ensures) _ _
    c.in_ok-write_all-in-Usage.ensures.written

pub returns-in_ok-write_all-in-Version-clause-done : goal.returns-in_ok-write_all-in-Version-clause-done
returns-in_ok-write_all-in-Version-clause-done g c =
    shown_as c.args.notice.now Version c.in-Version.is version _ refl
    (c.as_bytes-in-Version.ensures.value ∙ c.version.ensures) _ _ c.in_ok-write_all-in-Version.ensures.written

pub returns-in_err-write_all-in-Load-clause-cut : goal.returns-in_err-write_all-in-Load-clause-cut
returns-in_err-write_all-in-Load-clause-cut g c = λ e.
    front_as c.args.notice.now (Load c.in-Load.loading) c.in-Load.is c.in_ok-line-in-Load.line.items _
    c.in_ok-line-in-Load.ensures.line c.deref-in-Load.ensures.value _ _ c.in_err-write_all-in-Load.ensures.front

pub returns-in_ok-write_all-in-Load-clause-done : goal.returns-in_ok-write_all-in-Load-clause-done
returns-in_ok-write_all-in-Load-clause-done g c =
    shown_as c.args.notice.now (Load c.in-Load.loading) c.in-Load.is c.in_ok-line-in-Load.line.items _
    c.in_ok-line-in-Load.ensures.line c.deref-in-Load.ensures.value _ _ c.in_ok-write_all-in-Load.ensures.written
