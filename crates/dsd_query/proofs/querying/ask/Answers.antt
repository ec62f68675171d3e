-- What the query's end says is said of its status.
use Rattle.std.proofs.Common.{sym}
use Rattle.out_ports.specs.Ports.{Appends, AppendsFront}
use Rattle.dsd_query.proofs.Ending.{known, never_2, is_dialled, hearing_rose, writing_rose, dialling_rose, says_end}
use Rattle.dsd_query.proofs.querying.ask.Goals as goal

pub returns-clause-known : goal.returns-clause-known
returns-clause-known g c = known c.query-end.result c.tell_end.result c.tell_end.ensures.status

pub returns-clause-right : goal.returns-clause-right
returns-clause-right g c = never_2 c.query-end.result c.tell_end.result c.tell_end.ensures.status

pub returns-clause-asked : goal.returns-clause-asked
returns-clause-asked g c =
    let heard = c.query-end.ensures.asked in
    (c.query-end.result, sym c.tell_end.ensures.status, heard.0, heard.1, heard.2)

pub returns-clause-place : goal.returns-clause-place
returns-clause-place g c = λ five eleven.
    c.query-end.ensures.dialled (is_dialled c.query-end.result c.tell_end.result c.tell_end.ensures.status five eleven)

pub returns-clause-read_failed : goal.returns-clause-read_failed
returns-clause-read_failed g c = λ three.
    hearing_rose _ _ _ _ c.query-end.result c.tell_end.result c.tell_end.ensures.status c.query-end.ensures.cause three

pub returns-clause-write_failed : goal.returns-clause-write_failed
returns-clause-write_failed g c = λ four.
    writing_rose _ _ _ _ c.query-end.result c.tell_end.result c.tell_end.ensures.status c.query-end.ensures.cause four

pub returns-clause-connect_failed : goal.returns-clause-connect_failed
returns-clause-connect_failed g c = λ eleven.
    dialling_rose _ _ _ _ c.query-end.result c.tell_end.result c.tell_end.ensures.status c.query-end.ensures.cause eleven

pub returns-clause-said : goal.returns-clause-said
returns-clause-said g c = λ not.
    says_end AppendsFront _ _ c.query-end.result c.tell_end.result c.tell_end.ensures.status not
    (c.tell_end.ensures.said not)

pub returns-clause-said_all : goal.returns-clause-said_all
returns-clause-said_all g c = λ not quiet.
    says_end Appends _ _ c.query-end.result c.tell_end.result c.tell_end.ensures.status not
    (c.tell_end.ensures.said_all not quiet)
