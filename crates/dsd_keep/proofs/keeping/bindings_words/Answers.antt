-- What is done for words that ask for something, and what is said of others.
use Rattle.std.proofs.Common.{◌≡◌, List, [], ◌∷◌, Contains, ap, sym, subst, ◌∙◌}
use Rattle.out_ports.specs.Ports.{Appends, AppendsFront}
use Rattle.dsd_top.specs.Asked.{texts}
use Rattle.dsd_top.specs.Lines.{line_of}
use Rattle.dsd_top.specs.Statuses.{status_of, from_words}
use Rattle.dsd_top.specs.declared.faults.Fault.{Fault}
use Rattle.dsd_keep.specs.Undone.{bindings_statuses, action_statuses}
use Rattle.dsd_keep.specs.declared.undone.Undone.TheVariants.{Of}
use Rattle.dsd_keep.proofs.Ended.{stands}
use Rattle.dsd_keep.proofs.Refused.{behind_first, refused_known, refused_few, refused_words, refused_stands}
use Rattle.dsd_keep.proofs.keeping.bindings_words.Goals as goal

pub returns-in-Ok-clause-known : goal.returns-in-Ok-clause-known
returns-in-Ok-clause-known g c = behind_first 2 action_statuses c.obey.result c.obey.ensures.known

pub returns-in-Ok-clause-said : goal.returns-in-Ok-clause-said
returns-in-Ok-clause-said g c = λ e.
    let kept = g.K.Keeper.kept c.args.keeper.now in
    let why = c.obey.ensures.said e in
    (why.0, why.1, stands kept (texts c.args.words.now) c.in-Ok.request c.in-Ok.ensures why.0 why.2, why.3)

pub returns-in-Ok-clause-said_all : goal.returns-in-Ok-clause-said_all
returns-in-Ok-clause-said_all g c = λ e quiet.
    let kept = g.K.Keeper.kept c.args.keeper.now in
    let why = c.obey.ensures.said_all e quiet in
    (why.0, why.1, stands kept (texts c.args.words.now) c.in-Ok.request c.in-Ok.ensures why.0 why.2, why.3)

pub returns-in-Err-clause-known : goal.returns-in-Err-clause-known
returns-in-Err-clause-known g c =
    let status : c.refuse.result ≡ status_of (from_words c.in-Err.fault)
    = c.refuse.ensures.status ∙ ap status_of c.from.ensures in
    subst (Contains bindings_statuses) (sym status) (refused_known c.in-Err.fault)

pub returns-in-Err-clause-words : goal.returns-in-Err-clause-words
returns-in-Err-clause-words g c =
    let status : c.refuse.result ≡ status_of (from_words c.in-Err.fault)
    = c.refuse.ensures.status ∙ ap status_of c.from.ensures in
    λ two. refused_words (texts c.args.words.now) c.in-Err.fault c.in-Err.ensures (sym status ∙ two)

pub returns-in-Err-clause-other_words : goal.returns-in-Err-clause-other_words
returns-in-Err-clause-other_words g c =
    let status : c.refuse.result ≡ status_of (from_words c.in-Err.fault)
    = c.refuse.ensures.status ∙ ap status_of c.from.ensures in
    λ none. subst (Contains (2 ∷ 5 ∷ [])) (sym status) (refused_few c.in-Err.fault)

pub returns-in-Err-clause-cause : goal.returns-in-Err-clause-cause
returns-in-Err-clause-cause g c = λ e.
    let kept = g.K.Keeper.kept c.args.keeper.now in
    let status : c.refuse.result ≡ status_of (from_words c.in-Err.fault)
    = c.refuse.ensures.status ∙ ap status_of c.from.ensures in (
      Of (from_words c.in-Err.fault),
      sym status,
      refused_stands (texts c.args.words.now) kept c.in-Err.fault c.in-Err.ensures,
    )

pub returns-in-Err-clause-said : goal.returns-in-Err-clause-said
returns-in-Err-clause-said g c = λ e.
    let kept = g.K.Keeper.kept c.args.keeper.now in
    let status : c.refuse.result ≡ status_of (from_words c.in-Err.fault)
    = c.refuse.ensures.status ∙ ap status_of c.from.ensures in
    let Said : Fault → Type 0 = λ f.
    AppendsFront (g.E.Sink.held c.args.diag.now) (g.E.Sink.held c.refuse.new.diag) (line_of f) in (
      Of (from_words c.in-Err.fault),
      sym status,
      refused_stands (texts c.args.words.now) kept c.in-Err.fault c.in-Err.ensures,
      subst Said c.from.ensures c.refuse.ensures.said,
    )

pub returns-in-Err-clause-said_all : goal.returns-in-Err-clause-said_all
returns-in-Err-clause-said_all g c = λ e quiet.
    let kept = g.K.Keeper.kept c.args.keeper.now in
    let status : c.refuse.result ≡ status_of (from_words c.in-Err.fault)
    = c.refuse.ensures.status ∙ ap status_of c.from.ensures in
    let Said : Fault → Type 0 = λ f.
    Appends (g.E.Sink.held c.args.diag.now) (g.E.Sink.held c.refuse.new.diag) (line_of f) in (
      Of (from_words c.in-Err.fault),
      sym status,
      refused_stands (texts c.args.words.now) kept c.in-Err.fault c.in-Err.ensures,
      subst Said c.from.ensures (c.refuse.ensures.said_all quiet),
    )
