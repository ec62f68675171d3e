use Rattle.std.proofs.Common.{◌≡◌, Some, None, sym, subst, rules}
use Rattle.dsd_top.specs.Commands.{texts, request_of, IsOfTable}
use Rattle.dsd_top.specs.Statuses.{IsStatus}
use Rattle.dsd_top.specs.declared.words.Request.TheVariants.{Tell}
use Rattle.dsd_top.proofs.Causes.{is_status, told_status, notice_known, notice_untold}
use Rattle.dsd_top.proofs.Saying.{told_front, told_whole, refused_front, refused_whole}
use Rattle.dsd_top.proofs.once.dsd_once.Goals as goal

pub returns-in-Err-clause-known : goal.returns-in-Err-clause-known
returns-in-Err-clause-known g c = subst IsStatus (sym c.refuse-in-Err.ensures.status) (is_status c.in-Err.fault)

pub returns-in-Some-Tell-clause-known : goal.returns-in-Some-Tell-clause-known
returns-in-Some-Tell-clause-known g c = told_status c.in-Some-Tell.notice _ c.show.ensures.known

pub returns-in-Some-Tell-clause-other_words : goal.returns-in-Some-Tell-clause-other_words
returns-in-Some-Tell-clause-other_words g c =
    let is : Some (Tell c.in-Some-Tell.notice) ≡ request_of (texts c.args.words.now) =
    cc (c.in-Some-Tell.ensures, c.in-Some-Tell.field-0-is) in
    λ none. c.show.ensures.other_words (λ h. none (subst IsOfTable is h))

pub returns-in-Some-Tell-clause-of_request : goal.returns-in-Some-Tell-clause-of_request
returns-in-Some-Tell-clause-of_request g c =
    let is : Some (Tell c.in-Some-Tell.notice) ≡ request_of (texts c.args.words.now) =
    cc (c.in-Some-Tell.ensures, c.in-Some-Tell.field-0-is) in
    notice_known _ c.in-Some-Tell.notice _ is c.show.ensures.known

pub returns-in-Some-Tell-clause-untold : goal.returns-in-Some-Tell-clause-untold
returns-in-Some-Tell-clause-untold g c =
    let is : Some (Tell c.in-Some-Tell.notice) ≡ request_of (texts c.args.words.now) =
    cc (c.in-Some-Tell.ensures, c.in-Some-Tell.field-0-is) in
    λ e. notice_untold _ c.in-Some-Tell.notice _ is (c.show.ensures.untold e)

pub returns-in-Some-Tell-clause-said : goal.returns-in-Some-Tell-clause-said
returns-in-Some-Tell-clause-said g c =
    let is : Some (Tell c.in-Some-Tell.notice) ≡ request_of (texts c.args.words.now) =
    cc (c.in-Some-Tell.ensures, c.in-Some-Tell.field-0-is) in
    λ e. told_front _ _ _ _ _ _ c.in-Some-Tell.notice is (c.show.ensures.said e)

pub returns-in-Some-Tell-clause-said_all : goal.returns-in-Some-Tell-clause-said_all
returns-in-Some-Tell-clause-said_all g c =
    let is : Some (Tell c.in-Some-Tell.notice) ≡ request_of (texts c.args.words.now) =
    cc (c.in-Some-Tell.ensures, c.in-Some-Tell.field-0-is) in
    λ e quiet. told_whole _ _ _ _ _ _ c.in-Some-Tell.notice is (c.show.ensures.said_all e quiet)

pub returns-in-None-clause-said : goal.returns-in-None-clause-said
returns-in-None-clause-said g c =
    let none : request_of (texts c.args.words.now) ≡ None = search rules in
    λ e. refused_front _ _ _ _ _ _ none c.refuse.ensures.status c.refuse.ensures.said

pub returns-in-None-clause-said_all : goal.returns-in-None-clause-said_all
returns-in-None-clause-said_all g c =
    let none : request_of (texts c.args.words.now) ≡ None = search rules in
    λ e quiet. refused_whole _ _ _ _ _ _ none c.refuse.ensures.status (c.refuse.ensures.said_all quiet)
