use Rattle.std.proofs.Common.{◌∙◌, sym, subst}
use Rattle.commit_graph.specs.Marking.{RisesByName}
use Rattle.commit_graph.proofs.RisingNames.{rises_by_name}
use Rattle.commit_graph.proofs.many.marks_to.Goals as goal

pub marks_of-requires : goal.marks_of-requires
marks_of-requires c =
    subst RisesByName (sym (c.as_slice.ensures.value ∙ c.in_ok-sources.ensures.keys)) (rises_by_name _ c.in_ok-sources.ensures.ordered)
