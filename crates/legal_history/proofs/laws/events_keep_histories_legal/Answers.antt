use Rattle.legal_history.proofs.Events.{doubt_is_noted, events_legal, events_reopened}
use Rattle.legal_history.proofs.laws.events_keep_histories_legal.Goals as goal

pub returns-clause-legal : goal.returns-clause-legal
returns-clause-legal c = events_legal

pub returns-clause-reopened : goal.returns-clause-reopened
returns-clause-reopened c = events_reopened

pub returns-clause-named : goal.returns-clause-named
returns-clause-named c = doubt_is_noted
