use Rattle.srv_session.proofs.News.{connections_are_seen, work_is_seen}
use Rattle.srv_session.proofs.laws.news_are_seen.Goals as goal

pub returns-clause-connections : goal.returns-clause-connections
returns-clause-connections c = connections_are_seen

pub returns-clause-workers : goal.returns-clause-workers
returns-clause-workers c = work_is_seen
