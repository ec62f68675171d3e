-- Each call, by the word that picks it.
use Rattle.std.proofs.Common.{ap, refl}
use Rattle.dsd_program.proofs.Picking.{done_by, on_left, on_right, same_source, same_sink, same_rest, same_keeper}
use Rattle.dsd_program.proofs.running.run_words.Goals as goal

pub returns-in-Query : goal.returns-in-Query
returns-in-Query g c =
    let e = c.query_words.ensures in
    let sink = same_sink g.O.Sink.held g.O.Sink.finishes g.O.Sink.faults in
    let rest =
    same_rest g.H.Listen.files g.H.Listen.address g.H.Listen.closed g.H.Listen.gave g.H.Listen.stops
    g.H.Listen.file_faults g.H.Listen.port_faults g.H.Listen.faults in
    record {
      does = done_by _ _ _ _ _ _ c.word_of.ensures c.in-Query.is (record {
        known = e.known;
        bad_words = e.words;
        other_words = e.other_words;
        asked = e.asked;
        cut_short = λ five. on_left (λ x. (sink _ _ x.0, ap g.H.Listen.link x.1)) (e.cut_short five);
        place = e.place;
        read_failed = e.read_failed;
        write_failed = e.write_failed;
        connect_failed = e.connect_failed;
        unread = refl;
        unkept = refl;
        unasked = λ two.
            let x = e.unasked two in (sink _ _ x.0, ap g.H.Listen.link x.1, rest _ _ x.1);
        unfinished = e.unfinished;
        lasting = e.lasting;
        stays = e.rest;
        silent = e.silent;
        said = e.said;
        said_all = e.said_all;
      });
    }

pub returns-in-Bindings : goal.returns-in-Bindings
returns-in-Bindings g c =
    let e = c.bindings_words.ensures in
    let sink = same_sink g.O.Sink.held g.O.Sink.finishes g.O.Sink.faults in
    let keeper = same_keeper g.K.Keeper.kept g.K.Keeper.file g.K.Keeper.faults in
    record {
      does = done_by _ _ _ _ _ _ c.word_of.ensures c.in-Bindings.is (record {
        known = e.known;
        bad_words = e.words;
        other_words = e.other_words;
        cause = e.cause;
        keeper_failed = e.keeper_failed;
        write_failed = e.write_failed;
        done = e.done;
        cut = e.cut;
        unwritten = e.unwritten;
        left = e.left;
        place = e.place;
        unread = refl;
        unhosted = (refl, refl);
        unasked = λ two. let x = e.unasked two in (sink _ _ x.0, keeper _ _ x.1);
        unfinished = e.unfinished;
        lasting = e.lasting;
        silent = e.silent;
        said = e.said;
        said_all = e.said_all;
      });
    }

pub returns-in-ServeKept : goal.returns-in-ServeKept
returns-in-ServeKept g c =
    let e = c.serve_kept_words.ensures in
    let rest =
    same_rest g.H.Listen.files g.H.Listen.address g.H.Listen.closed g.H.Listen.gave g.H.Listen.stops
    g.H.Listen.file_faults g.H.Listen.port_faults g.H.Listen.faults in
    let keeper = same_keeper g.K.Keeper.kept g.K.Keeper.file g.K.Keeper.faults in
    record {
      does = done_by _ _ _ _ _ _ c.word_of.ensures c.in-ServeKept.is (record {
        known = e.known;
        bad_words = e.words;
        other_words = e.other_words;
        cause = e.cause;
        keeper_failed = e.keeper_failed;
        listen_failed = e.listen_failed;
        write_failed = e.write_failed;
        served = e.served;
        served_front = e.served_front;
        place = e.place;
        unread = refl;
        unasked = λ two.
            let x = e.unasked two in (ap g.H.Listen.link x.0, rest _ _ x.0, keeper _ _ x.1);
        unopened = e.unopened;
        same_files = e.same_files;
        same_kept = e.same_kept;
        lasting = e.lasting;
        unwritten = e.unwritten;
        unfinished = e.unfinished;
        silent = e.silent;
        said = e.said;
        said_all = e.said_all;
      });
    }

pub returns-in-Main : goal.returns-in-Main
returns-in-Main g c =
    let e = c.dsd_main.ensures in
    let source = same_source g.I.Source.left g.I.Source.ended g.I.Source.faults in
    let rest =
    same_rest g.H.Listen.files g.H.Listen.address g.H.Listen.closed g.H.Listen.gave g.H.Listen.stops
    g.H.Listen.file_faults g.H.Listen.port_faults g.H.Listen.faults in
    record {
      does = done_by _ _ _ _ _ _ c.word_of.ensures c.in-Main.is (record {
        known = e.known;
        of_request = e.of_request;
        of_serving = e.of_serving;
        bad_words = e.words;
        other_words = e.other_words;
        done = e.done;
        bad_input = e.bad_input;
        limit = e.limit;
        bad_config = e.bad_config;
        read_failed = λ three. on_right (λ x. (x.0, source _ _ x.1, x.2)) (e.read_failed three);
        write_failed = e.write_failed;
        ended = e.ended;
        unread = λ none. source _ _ (e.unread none);
        unread_yet = λ seven file. source _ _ (e.unread_yet seven file);
        shown = e.shown;
        shown_front = e.shown_front;
        untold = e.untold;
        served = e.served;
        served_front = e.served_front;
        place = e.place;
        bad_server = e.bad_server;
        listen_failed = e.listen_failed;
        unopened = e.unopened;
        cut = e.cut;
        unwritten = e.unwritten;
        unfinished = e.unfinished;
        unasked = λ other none. let x = e.unasked other none in (ap g.H.Listen.link x, rest _ _ x);
        same_host = e.same_host;
        same_files = e.same_files;
        unkept = refl;
        lasting = e.lasting;
        silent = e.silent;
        said = e.said;
        said_all = e.said_all;
        said_why = e.said_why;
        said_all_why = e.said_all_why;
      });
    }
