-- Batches of some objects go on with more objects.
use Rattle.std.proofs.Common.{◌≡◌, ◌⊎◌, List, [], ◌∷◌, ◌++◌, length, refl, subst, inl, inr, arith, append_assoc}
use Rattle.std.proofs.lemmas.List.{append-nil}
use Rattle.std.proofs.lemmas.Bool.{cases_lt}
use Rattle.commit_graph.specs.Objects.{Object}
use Rattle.repo_entries.specs.Batches.{IsWithin, content_size}
use Rattle.fetch_stages.specs.Batches.{IsCut, IsOpenCut}
use Rattle.fetch_stages.specs.Puts.{MakesPlace}
use Rattle.fetch_stages.proofs.Cuts.{joined, nothing_came}

-- objects are within the limits or not
within_or_not : (objects : List Object) → IsWithin objects ⊎ (IsWithin objects → ⊥)
within_or_not objects = elim (cases_lt 1024 (length objects)) [
  | inl many ↦ inr (λ within. let few = within.few in omega (arith, few, many))
  | inr few ↦ elim (cases_lt 4194304 (content_size objects)) [
    | inl large ↦ inr (λ within. let small = within.small in omega (arith, small, large))
    | inr small ↦ inl (record { few = few; small = small })
  ]
]

not_nothing : (w : Object) (ws : List Object) → w ∷ ws ≡ [] → ⊥
not_nothing w ws e = cc e

-- place can be made for an object
makes_place : (waiting : List Object) (o : Object)
    → (puts : List (List Object)) × (kept : List Object) × MakesPlace waiting o puts kept
makes_place [] o = ([], [], inl (refl, refl, inl refl))
makes_place (w ∷ ws) o = elim (within_or_not ((w ∷ ws) ++ o ∷ [])) [
  | inl within ↦ ([], w ∷ ws, inl (refl, refl, inr within))
  | inr past ↦ (
    (w ∷ ws) ∷ [],
    [],
    inr (
      refl,
      refl,
      λ place. elim place [
        | inl none ↦ not_nothing w ws none
        | inr within ↦ past within
      ],
    ),
  )
]

-- more objects join
pub cut_on : (rest before : List Object) (puts : List (List Object)) (waiting : List Object) → IsOpenCut before puts waiting
    → (more : List (List Object)) × (next : List Object) × IsOpenCut (before ++ rest) (puts ++ more) next
cut_on [] before puts waiting cut = ([], waiting, rw (append-nil before, append-nil puts) cut)
cut_on (o ∷ rest) before puts waiting cut =
    let p = makes_place waiting o in
    let r = cut_on rest (before ++ o ∷ []) (puts ++ p.0) (p.1 ++ o ∷ []) (joined before puts waiting o p.0 p.1 cut p.2) in (
      p.0 ++ r.0,
      r.1,
      subst (λ (l : List (List Object)). IsOpenCut (before ++ o ∷ rest) l r.1) (append_assoc puts p.0 r.0)
          (subst (λ (l : List Object). IsOpenCut l ((puts ++ p.0) ++ r.0) r.1) (append_assoc before (o ∷ []) rest) r.2),
    )

-- no more objects join
pub cut_ended : (before : List Object) (puts : List (List Object)) (waiting : List Object) → IsOpenCut before puts waiting
    → (more : List (List Object)) × IsCut before (puts ++ more)
cut_ended before puts [] cut = ([], nothing_came before puts [] cut refl)
cut_ended before puts (w ∷ ws) cut = ((w ∷ ws) ∷ [], cut)
