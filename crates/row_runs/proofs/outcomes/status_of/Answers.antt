use Rattle.std.proofs.Common.{◌≡◌, ℕ, List, Option, Some, [], unwrap_or, ap, ◌∙◌, subst, refl}
use Rattle.dsd_top.specs.Commands.{texts, request_of, command_of, notice_of, IsTextOf}
use Rattle.dsd_top.specs.Lines.{Says, SaysFront}
use Rattle.dsd_top.specs.Schemas.{Files}
use Rattle.dsd_top.specs.Statuses.{IsAnswerOf, IsAnswered, IsCut, IsShown, IsShownFront, Stands}
use Rattle.dsd_top.specs.declared.words.Command.{Command}
use Rattle.dsd_top.specs.declared.words.Notice.{Notice}
use Rattle.out_ports.specs.Ports.{Rose}
use Rattle.out_ports.specs.MemHost.{ToldHost}
use Rattle.out_ports.specs.MemSink.{ToldSink}
use Rattle.out_ports.specs.MemSource.{ToldSource}
use Rattle.row_files.specs.Rows.{row_told}
use Rattle.row_runs.specs.Outcomes.{IsFrontOfAnswer, IsFrontOfText, IsRun, Streams, streams_of}
use Rattle.row_runs.proofs.Written.{if_some, answer_held, cut_held, text_held, text_front_held, rose}
use Rattle.row_runs.proofs.outcomes.status_of.Goals as goal

pub returns : goal.returns
returns c =
    let words = texts c.deref.result.now in
    let given = streams_of (row_told c.args.row.now) in
    let over : ToldSource → ToldHost → Streams = λ input host.
    record { input = input; out = given.out; diag = given.diag; host = host } in
    let files : Files = Some c.args.host.files in
    let input = c.args.input.left in
    let old = c.args.out.now.held in
    let new = c.dsd_once.new.out.held in
    let empty = ap (λ (s : ToldSink). s.held) c.requires.out in
    let line = c.dsd_once.new.diag in
    let IsCause = Stands (request_of words) files (Some input) in
    let told = c.dsd_once.ensures in
    let now : Streams = record {
      input = c.dsd_once.new.input;
      out = c.dsd_once.new.out;
      diag = c.dsd_once.new.diag;
      host = c.dsd_once.new.host;
    } in
    let same : words ≡ texts c.args.row.now.words.items = ap texts c.deref.ensures.value in
    let run : IsRun words (over c.args.input c.args.host) now c.dsd_once.result = record {
      of_request = told.of_request;
      bad_words = told.words;
      other_words = told.other_words;
      done = λ e. if_some (λ (k : Command). IsAnswered files k input (Some old) (Some new))
          (λ k. IsAnswerOf files k input new)
          (command_of words) (λ k. answer_held old new empty files k input) (told.done e);
      shown = λ e. if_some (λ (n : Notice). IsShown n (Some old) (Some new)) (λ n. IsTextOf n new)
          (notice_of words) (λ n. text_held old new empty n) (told.shown e);
      bad_input = told.bad_input;
      limit = told.limit;
      bad_config = told.bad_config;
      cut = λ e. if_some (λ (k : Command). IsCut files k input (Some old) (Some new))
          (λ k. IsFrontOfAnswer files k input new)
          (command_of words) (λ k. cut_held old new empty files k input) (told.cut e);
      shown_front = λ e. if_some (λ (n : Notice). IsShownFront n (Some old) (Some new)) (λ n. IsFrontOfText n new)
          (notice_of words) (λ n. text_front_held old new empty n) (told.shown_front e);
      untold = told.untold;
      unwritten = λ e f. ap (λ (o : Option (List ℕ)). unwrap_or o []) (told.unwritten e f) ∙ empty;
      ended = told.ended;
      unread = told.unread;
      unread_yet = told.unread_yet;
      read_failed = told.read_failed;
      write_failed = λ e. rose c.args.out.now.calls.faults c.dsd_once.new.out.calls.faults
          (ap (λ (s : ToldSink). s.calls.faults) c.requires.out) (told.write_failed e);
      unasked = told.unasked;
      same_files = ap (λ (o : Files). unwrap_or o []) told.same_host.0;
      silent = λ e. ap (λ (o : Option (List ℕ)). unwrap_or o []) (told.silent e)
          ∙ ap (λ (s : ToldSink). s.held) c.requires.diag;
      said = λ e. subst (λ (s : ToldSink). SaysFront IsCause c.dsd_once.result (Some s.held) (Some line.held))
          c.requires.diag (told.said e);
      said_all = λ e n. subst (λ (s : ToldSink). Says IsCause c.dsd_once.result (Some s.held) (Some line.held))
          c.requires.diag
          (told.said_all e (λ r. n (subst (λ (s : ToldSink). Rose s.calls.faults line.calls.faults) c.requires.diag r)));
    } in
    let Over : ToldSource → Type 0 = λ i. IsRun words (over i c.args.host) now c.dsd_once.result in
    let On : ToldHost → Type 0 = λ h. IsRun words (over given.input h) now c.dsd_once.result in
    let Is : List (List ℕ) → Type 0 = λ ws. IsRun ws given now c.dsd_once.result in
    (now, subst Is same (subst On c.requires.host (subst Over c.requires.input run)), refl, refl)
