use Rattle.std.proofs.lemmas.Slice.Eq.{slice_eq-Decides}
use Rattle.object_store.proofs.Remotes.{same_pair}
use Rattle.object_store.proofs.install.are_same.Goals as goal

pub returns : goal.returns
returns c =
    let told = slice_eq-Decides same_pair c.as_slice.result.now c.as_slice-2.result.now c.eq.result c.eq.ensures in
    rw (c.as_slice.ensures.items, c.as_slice-2.ensures.items) at told
