-- One more link, kept backwards.
use Rattle.std.proofs.Common.{◌≡◌, Bool, true, false, cond, Option, Some, None, List, [], ◌∷◌, ◌++◌, Vec, Global, option_map, sym, ap, subst, inl, inr, ◌⊎◌, ⊎_elim, ◌∙◌, ◌↔◌}
use Rattle.std.specs.Prelude.{Contains}
use Rattle.std.specs.Option.{unwrap_or}
use Rattle.std.specs.BTreeMap.{get, is_at}
use Rattle.std.proofs.lemmas.Bool.{cases_Bool, false≢true}
use Rattle.std.proofs.lemmas.Cmp.{eq_by_cmp_equiv}
use Rattle.std.proofs.lemmas.List.Elements.{Contains-push, Contains-push_cases, Contains-append_left}
use Rattle.std.proofs.lemmas.Map.Views.{tells_apart}
use Rattle.rad_base.proofs.Members.{contains_nothing}
use Rattle.commit_graph.specs.declared.root.Root.{Root}
use Rattle.commit_graph.specs.declared.backward.Backward.{Backward}
use Rattle.commit_graph.specs.Backward.{LinksTo, before_in}
use Rattle.commit_graph.proofs.PairOrder.{pair_cmp, pair_exact, pair_total}

module _ (old mid new : Backward) (from to : Root) (list : Vec Root Global)
    (items : list.items ≡ before_in old to ++ from ∷ [])
    (taken : (q : Root) → get pair_cmp mid.from q ≡ cond (is_at (pair_cmp to) q) None (get pair_cmp old.from q))
    (put : (q : Root) → get pair_cmp new.from q ≡ cond (is_at (pair_cmp to) q) (Some list) (get pair_cmp mid.from q)) where
  at_to : (q : Root) → is_at (pair_cmp to) q ≡ true → before_in new q ≡ before_in old q ++ from ∷ []
  at_to q b =
      ap (λ (o : Option (Vec Root Global)). unwrap_or (option_map (λ v. v.items) o) [])
      (put q ∙ ap (λ (t : Bool). cond t (Some list) (get pair_cmp mid.from q)) b)
      ∙ items ∙ ap (λ (x : Root). before_in old x ++ from ∷ []) (tells_apart pair_exact to q b)

  off_to : (q : Root) → is_at (pair_cmp to) q ≡ false → before_in new q ≡ before_in old q
  off_to q b =
      ap (λ (o : Option (Vec Root Global)). unwrap_or (option_map (λ v. v.items) o) [])
      (put q ∙ ap (λ (t : Bool). cond t (Some list) (get pair_cmp mid.from q)) b
      ∙ taken q ∙ ap (λ (t : Bool). cond t None (get pair_cmp old.from q)) b)

  apart_to : (q : Root) → is_at (pair_cmp to) q ≡ false → q ≡ to → ⊥
  apart_to q b e =
      false≢true (sym (subst (λ (x : Root). is_at (pair_cmp to) x ≡ false) e b) ∙ (eq_by_cmp_equiv pair_total).refl to)

  -- the link is kept, and the others stay
  pub back_added : (p q : Root) → LinksTo new p q ↔ (LinksTo old p q ⊎ ((p ≡ from) × (q ≡ to)))
  back_added p q = ⊎_elim
      (λ b. (
        λ c. ⊎_elim (λ a. inl a) (λ a. inr (sym a, sym (tells_apart pair_exact to q b)))
            (Contains-push_cases (before_in old q) from p (subst (λ (ys : List Root). Contains ys p) (at_to q b) c)),
        λ s. subst (λ (ys : List Root). Contains ys p) (sym (at_to q b))
            (⊎_elim (λ a. Contains-append_left (before_in old q) (from ∷ []) p a)
            (λ a. subst (λ (x : Root). Contains (before_in old q ++ from ∷ []) x) (sym a.0) (Contains-push (before_in old q) from)) s),
      ))
      (λ b. (
        λ c. inl (subst (λ (ys : List Root). Contains ys p) (off_to q b) c),
        λ s. ⊎_elim (λ a. subst (λ (ys : List Root). Contains ys p) (sym (off_to q b)) a) (λ a. absurd (apart_to q b a.1)) s,
      ))
      (cases_Bool (is_at (pair_cmp to) q))

-- links from one pair are added
abbrev pub LinksAdded : Backward → Root → List Root → Backward → Type 0
LinksAdded old from links new = (p q : Root) → LinksTo new p q ↔ (LinksTo old p q ⊎ ((p ≡ from) × Contains links q))

-- none are
pub links_none : (old : Backward) (from : Root) → LinksAdded old from [] old
links_none old from p q = (λ c. inl c, λ s. ⊎_elim (λ a. a) (λ a. absurd (contains_nothing q a.1)) s)

-- one more is
pub links_push : (old cur new : Backward) (from : Root) (links links' : List Root) (to : Root)
    → links' ≡ links ++ to ∷ [] → LinksAdded old from links cur
    → ((p q : Root) → LinksTo new p q ↔ (LinksTo cur p q ⊎ ((p ≡ from) × (q ≡ to))))
    → LinksAdded old from links' new
links_push old cur new from links links' to e h g p q =
    let here = λ (c : Contains (links ++ to ∷ []) q). subst (λ (ys : List Root). Contains ys q) (sym e) c in (
      λ c. ⊎_elim
          (λ a. ⊎_elim (λ b. inl b) (λ b. inr (b.0, here (Contains-append_left links (to ∷ []) q b.1))) ((h p q).0 a))
          (λ a. inr (a.0, here (subst (λ (x : Root). Contains (links ++ to ∷ []) x) (sym a.1) (Contains-push links to))))
          ((g p q).0 c),
      λ s. (g p q).1 (⊎_elim (λ a. inl ((h p q).1 (inl a)))
          (λ a. ⊎_elim (λ b. inl ((h p q).1 (inr (a.0, b)))) (λ b. inr (a.0, sym b))
          (Contains-push_cases links to q (subst (λ (ys : List Root). Contains ys q) e a.1))) s),
    )
