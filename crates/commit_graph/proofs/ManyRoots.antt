-- The closures of a list of roots, over the parts of the list.
use Rattle.std.proofs.Common.{◌≡◌, ℕ, suc, zero, ◌+◌, ◌-◌, ◌<◌, List, [], ◌∷◌, ◌++◌, length, take, drop, get_or, refl, sym, ap, subst}
use Rattle.std.specs.Prelude.{slice_range}
use Rattle.std.proofs.lemmas.List.{take_more}
use Rattle.commit_graph.specs.declared.root.Root.{Root}
use Rattle.commit_graph.specs.declared.answer.Closure.{Closure}
use Rattle.commit_graph.specs.Objects.{ObjectMap}
use Rattle.commit_graph.specs.Closures.{IsClosure}
use Rattle.commit_graph.specs.Many.{AreClosures}

module _ (m : ObjectMap) where
  -- there is one answer for each root
  pub closures_many : (roots : List Root) (answers : List Closure) → AreClosures m roots answers
      → length answers ≡ length roots
  closures_many [] [] h = refl
  closures_many [] (answer ∷ answers) h = absurd h
  closures_many (root ∷ roots) [] h = absurd h
  closures_many (root ∷ roots) (answer ∷ answers) h = ap suc (closures_many roots answers h.1)

  -- the answers for two lists are answers for both
  pub closures_append : (roots : List Root) (answers : List Closure) (more : List Root) (others : List Closure)
      → AreClosures m roots answers → AreClosures m more others
      → AreClosures m (roots ++ more) (answers ++ others)
  closures_append [] [] more others h k = k
  closures_append [] (answer ∷ answers) more others h k = absurd h
  closures_append (root ∷ roots) [] more others h k = absurd h
  closures_append (root ∷ roots) (answer ∷ answers) more others h k =
      (h.0, closures_append roots answers more others h.1 k)

  -- and the other way round
  pub closures_split : (roots : List Root) (answers : List Closure) (more : List Root) (others : List Closure)
      → length answers ≡ length roots → AreClosures m (roots ++ more) (answers ++ others)
      → AreClosures m roots answers × AreClosures m more others
  closures_split [] [] more others e h = (tt, h)
  closures_split [] (answer ∷ answers) more others e h = cc e
  closures_split (root ∷ roots) [] more others e h = cc e
  closures_split (root ∷ roots) (answer ∷ answers) more others e h =
      let both = closures_split roots answers more others (cc e) h.1 in
      ((h.0, both.0), both.1)

  -- one more root
  pub closures_push : (roots : List Root) (answers : List Closure) (root : Root) (answer : Closure)
      → AreClosures m roots answers → IsClosure m (root ∷ []) answer
      → AreClosures m (roots ++ root ∷ []) (answers ++ answer ∷ [])
  closures_push roots answers root answer h k =
      closures_append roots answers (root ∷ []) (answer ∷ []) h (k, tt)

  -- the first answers are those for the first roots
  pub closures_take : (n : ℕ) (roots : List Root) (answers : List Closure) → AreClosures m roots answers
      → AreClosures m (take n roots) (take n answers)
  closures_take zero roots answers h = tt
  closures_take (suc n) [] [] h = tt
  closures_take (suc n) [] (answer ∷ answers) h = absurd h
  closures_take (suc n) (root ∷ roots) [] h = absurd h
  closures_take (suc n) (root ∷ roots) (answer ∷ answers) h = (h.0, closures_take n roots answers h.1)

  -- and the others those for the others
  pub closures_drop : (n : ℕ) (roots : List Root) (answers : List Closure) → AreClosures m roots answers
      → AreClosures m (drop n roots) (drop n answers)
  closures_drop zero roots answers h = h
  closures_drop (suc n) [] [] h = tt
  closures_drop (suc n) [] (answer ∷ answers) h = absurd h
  closures_drop (suc n) (root ∷ roots) [] h = absurd h
  closures_drop (suc n) (root ∷ roots) (answer ∷ answers) h = closures_drop n roots answers h.1

  -- so the answers of a range are those for the roots of that range
  pub closures_range : (roots : List Root) (answers : List Closure) (from to : ℕ) → AreClosures m roots answers
      → AreClosures m (slice_range roots from to) (slice_range answers from to)
  closures_range roots answers from to h =
      closures_take (to - from) (drop from roots) (drop from answers) (closures_drop from roots answers h)

  -- one turn of a loop over the roots
  pub closures_more : (roots : List Root) (answers answers' : List Closure) (i : ℕ) (d : Root) (answer : Closure)
      → i < length roots → answers' ≡ answers ++ answer ∷ [] → AreClosures m (take i roots) answers
      → IsClosure m (get_or roots i d ∷ []) answer → AreClosures m (take (i + 1) roots) answers'
  closures_more roots answers answers' i d answer l e h k =
      subst (AreClosures m (take (i + 1) roots)) (sym e)
      (subst (λ (taken : List Root). AreClosures m taken (answers ++ answer ∷ [])) (sym (take_more roots i d l))
      (closures_push (take i roots) answers (get_or roots i d) answer h k))
