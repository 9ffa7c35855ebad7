-- How objects that come one after the other are put.
use Rattle.std.specs.Prelude.{◌≡◌, ◌⊎◌, ℕ, List, [], ◌∷◌, ◌++◌, map}
use Rattle.rad_base.specs.declared.names.Rid.{Rid}
use Rattle.commit_graph.specs.Objects.{Object}
use Rattle.repo_entries.specs.Batches.{IsWithin}
use Rattle.repo_entries.specs.Items.{Item, put}
use Rattle.repo_slice.specs.Keeps.{HasSlice, Held, Makes, StopsIn, put_told}
use Rattle.repo_slice.specs.declared.keep_fault.KeepFault.{KeepFault}
use Rattle.fetch_stages.specs.Batches.{IsCut, IsOpenCut, all_in}

-- a put of each batch
abbrev pub puts_of : Rid → ℕ → List (List Object) → List Item
puts_of rid caller batches = map (λ batch. put rid batch caller) batches

-- an object finds its place behind the waiting ones
abbrev pub FindsPlace : List Object → Object → Type 0
FindsPlace waiting object = (waiting ≡ []) ⊎ IsWithin (waiting ++ object ∷ [])

-- place is made for an object: it is there, or the waiting objects are put
abbrev pub MakesPlace : List Object → Object → List (List Object) → List Object → Type 0
MakesPlace waiting object puts next =
    ((puts ≡ []) × (next ≡ waiting) × FindsPlace waiting object)
    ⊎ ((puts ≡ waiting ∷ []) × (next ≡ []) × (FindsPlace waiting object → ⊥))

-- batches are put: each has its entry, and their objects are held behind those from before
pub record PutsBatches {K O : Type 0} (made : K → O → List Item → Type 0) (held : K → Rid → Held)
    (rid : Rid) (caller : ℕ) (old new : K) (batches : List (List Object)) : Type 0 where
  pub entered : Makes made old new (puts_of rid caller batches)
  pub slice : HasSlice (held old rid).state (put_told (held old rid).objects (all_in batches))
      (held new rid)

-- place is made for an object, and those are put that make it
abbrev pub PutsForPlace : {K O : Type 0} → (K → O → List Item → Type 0) → (K → Rid → Held) → Rid → ℕ → K → K
    → List Object → Object → List Object → Type 0
PutsForPlace made held rid caller old new waiting object next = (puts : List (List Object))
    × MakesPlace waiting object puts next × PutsBatches made held rid caller old new puts

-- objects joined the waiting ones: some batches more of those from before and these are put, and
-- others wait
abbrev pub Joins : {K O : Type 0} → (K → O → List Item → Type 0) → (K → Rid → Held) → Rid → ℕ → K → K
    → List Object → List Object → List Object → Type 0
Joins made held rid caller old new waiting objects next =
    (before : List Object) (puts : List (List Object)) → IsOpenCut before puts waiting
    → (more : List (List Object)) × IsOpenCut (before ++ objects) (puts ++ more) next
    × PutsBatches made held rid caller old new more

-- a call was refused while the first of these objects joined
abbrev pub StopsJoining : {K O : Type 0} → (K → O → List Item → Type 0) → Rid → ℕ → ℕ → K → K
    → List Object → List Object → KeepFault → Type 0
StopsJoining made rid caller end old new waiting objects why =
    (before : List Object) (puts : List (List Object)) → IsOpenCut before puts waiting
    → (shown : List Object) × (rest : List Object) × (objects ≡ shown ++ rest)
    × (more : List (List Object)) × (next : List Object)
    × IsOpenCut (before ++ shown) (puts ++ more) next
    × StopsIn made rid caller end old new (puts_of rid caller more) why

-- all objects are put
abbrev pub PutsAll : {K O : Type 0} → (K → O → List Item → Type 0) → (K → Rid → Held) → Rid → ℕ → K → K
    → List Object → Type 0
PutsAll made held rid caller old new waiting =
    (before : List Object) (puts : List (List Object)) → IsOpenCut before puts waiting
    → (more : List (List Object)) × IsCut before (puts ++ more)
    × PutsBatches made held rid caller old new more

-- a call was refused while all objects were put
abbrev pub StopsPutting : {K O : Type 0} → (K → O → List Item → Type 0) → Rid → ℕ → ℕ → K → K
    → List Object → KeepFault → Type 0
StopsPutting made rid caller end old new waiting why =
    (before : List Object) (puts : List (List Object)) → IsOpenCut before puts waiting
    → (more : List (List Object)) × IsCut before (puts ++ more)
    × StopsIn made rid caller end old new (puts_of rid caller more) why
