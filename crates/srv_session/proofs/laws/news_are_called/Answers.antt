use Rattle.srv_session.proofs.Called as called
use Rattle.srv_session.proofs.laws.news_are_called.Goals as goal

pub returns : goal.returns
returns c = called.news_are_called c.the_live_have_names.ensures c.news_are_seen.ensures.connections
    c.news_are_seen.ensures.workers
