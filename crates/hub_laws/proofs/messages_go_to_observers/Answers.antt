use Rattle.hub_laws.proofs.Said.{says_messages, answers_syncs, messages_arrive}
use Rattle.hub_laws.proofs.messages_go_to_observers.Goals as goal

pub returns-clause-messages : goal.returns-clause-messages
returns-clause-messages c = says_messages

pub returns-clause-syncs : goal.returns-clause-syncs
returns-clause-syncs c = answers_syncs

pub returns-clause-arrive : goal.returns-clause-arrive
returns-clause-arrive c = messages_arrive
