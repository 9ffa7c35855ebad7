use Rattle.turn_lock.proofs.tests.threads.+fn-take_turns_in_threads-join+arg2+fn-take_turns_in_threads-join+arg3+take_turns_in_threads.Given as goal

-- each half has fewer shares
abbrev pub decreases-join+arg2 : goal.decreases-join+arg2
decreases-join+arg2 g l = l.rest

abbrev pub decreases-join+arg3 : goal.decreases-join+arg3
decreases-join+arg3 g l = l.half

abbrev pub decreases-take_turns_in_threads : goal.decreases-take_turns_in_threads
decreases-take_turns_in_threads g l = l.share
