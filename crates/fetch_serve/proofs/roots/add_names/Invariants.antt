use Rattle.std.proofs.Common.{◌≡◌, take}
use Rattle.fetch_serve.specs.Good.{line_root}
use Rattle.fetch_serve.specs.Parts.{Adds}
use Rattle.fetch_serve.specs.Replies.{Among}
use Rattle.fetch_serve.proofs.roots.add_names.Given as goal

abbrev pub invariant-loop-line : goal.invariant-loop-line
invariant-loop-line l = Adds (Among (take l.line-index l.refs) (λ line root. root ≡ line_root line)) l.initial.roots.items l.roots.items
