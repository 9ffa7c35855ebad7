use Rattle.commit_graph.proofs.tests.ten_more_commits_take_few_steps.Given as goal

abbrev pub ghosts-looks : goal.ghosts-looks
ghosts-looks g a = record { name = a.blank.name; parts = a.blank.parts }
