-- Steps of iterators that show the list of what is left.
use Rattle.std.proofs.Common.{◌≡◌, List, [], Option, None}
use Rattle.std.specs.Iterator.{YieldsFirst, YieldsFirstBy}

-- nothing was left, and `None` came
pub none_left : {S A : Type 0} (rest : S → List A) (s : S) (o : Option A) → o ≡ None → rest s ≡ [] → YieldsFirst rest s o s
none_left rest s o e h = rw e (h, h)

-- the same, where a view reads the items
pub none_left_by : {S A B : Type 0} (view : A → B) (rest : S → List B) (s : S) (o : Option A) → o ≡ None → rest s ≡ [] → YieldsFirstBy view rest s o s
none_left_by view rest s o e h = rw e (h, h)
