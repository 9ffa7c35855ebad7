use Rattle.legal_history.proofs.Durables.{durable_heard, durable_is_legal, durable_replays}
use Rattle.legal_history.proofs.laws.durable_parts_are_legal.Goals as goal

pub returns-clause-legal : goal.returns-clause-legal
returns-clause-legal c = durable_is_legal

pub returns-clause-replays : goal.returns-clause-replays
returns-clause-replays c = durable_replays

pub returns-clause-heard : goal.returns-clause-heard
returns-clause-heard c = durable_heard
