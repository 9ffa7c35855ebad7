-- Which tips stored commits name.
use Rattle.std.proofs.Common.{◌≡◌, ℕ, List, [], ◌∷◌, ◌++◌, Option, None, Some, refl, sym, ap, subst, inl, inr}
use Rattle.std.specs.Prelude.{Contains}
use Rattle.rad_base.specs.declared.names.Nid.{Nid}
use Rattle.rad_base.specs.declared.names.Oid.{Oid}
use Rattle.rad_base.specs.Order.{commit_of}
use Rattle.rad_base.proofs.Options.{not_nothing, one_value}
use Rattle.commit_graph.specs.Objects.{ObjectMap}
use Rattle.signed_refs.specs.Lines.{Line}
use Rattle.signed_refs.specs.Said.{Says}
use Rattle.signed_refs.proofs.Saying.{one_said}
use Rattle.repo_slice.specs.Heads.{AreTips, FindsTip, FindsTipOf, HasTip, IsCommitAt, IsTipOf, if_some}

-- no tip where no line has the name
pub no_line : (m : ObjectMap) (commit : Oid) (name : List ℕ) (refs : List Line) → Says m commit refs → ((tip : Oid) → Contains refs (name, tip) → ⊥) → FindsTip m commit name None
no_line m commit name refs says none = λ tip h.
    none tip (subst (λ (l : List Line). Contains l (name, tip)) (one_said m commit h.refs refs h.says says) h.line)

-- nor where the line names no commit
pub no_commit : (m : ObjectMap) (commit : Oid) (name : List ℕ) (refs : List Line) (oid : Oid) → Says m commit refs → ((tip : Oid) → Contains refs (name, tip) → oid ≡ tip)
    → (IsCommitAt m oid → ⊥) → FindsTip m commit name None
no_commit m commit name refs oid says one none = λ tip h.
    let line = subst (λ (l : List Line). Contains l (name, tip)) (one_said m commit h.refs refs h.says says) h.line in
    none (subst (IsCommitAt m) (sym (one tip line)) h.is)

module _ (m : ObjectMap) (remotes : List (Nid × Oid)) (name : List ℕ) where
  -- no tip without a remote
  pub no_remote_no_tip : (node : Nid) → commit_of remotes node ≡ None → FindsTipOf m remotes name node None
  no_remote_no_tip node none = λ tip h. not_nothing h.1 none

  -- the tip of the stored commit
  pub tip_of_commit : (node : Nid) (commit : Oid) (tip : Option Oid) → commit_of remotes node ≡ Some commit → FindsTip m commit name tip → FindsTipOf m remotes name node tip
  tip_of_commit node commit None is none = λ tip h.
      none tip (subst (λ (o : Oid). HasTip m o name tip) (one_value h.1 is) h.2)
  tip_of_commit node commit (Some tip) is has = (commit, is, has)

  tips_push : (nodes : List Nid) (tips : List Oid) (node : Nid) (tip : Oid) → AreTips m remotes name nodes tips → IsTipOf m remotes name node tip
      → AreTips m remotes name (nodes ++ node ∷ []) (tips ++ tip ∷ [])
  tips_push [] tips node tip are is = inl (tip, is, ([], ap (λ (l : List Oid). l ++ tip ∷ []) are, refl))
  tips_push (n ∷ nodes) tips node tip (inl h) is =
      inl (h.0, h.1, (h.2.0 ++ tip ∷ [], ap (λ (l : List Oid). l ++ tip ∷ []) h.2.1, tips_push nodes h.2.0 node tip h.2.2 is))
  tips_push (n ∷ nodes) tips node tip (inr h) is = inr (h.0, tips_push nodes tips node tip h.1 is)

  tips_skip : (nodes : List Nid) (tips : List Oid) (node : Nid) → AreTips m remotes name nodes tips → ((tip : Oid) → IsTipOf m remotes name node tip → ⊥)
      → AreTips m remotes name (nodes ++ node ∷ []) tips
  tips_skip [] tips node are none = inr (none, are)
  tips_skip (n ∷ nodes) tips node (inl h) none = inl (h.0, h.1, (h.2.0, h.2.1, tips_skip nodes h.2.0 node h.2.2 none))
  tips_skip (n ∷ nodes) tips node (inr h) none = inr (h.0, tips_skip nodes tips node h.1 none)

  nothing_more : (tips : List Oid) → tips ++ [] ≡ tips
  nothing_more [] = refl
  nothing_more (t ∷ tips) = ap (λ (l : List Oid). t ∷ l) (nothing_more tips)

  -- one node more
  pub tips_turn : (nodes : List Nid) (tips : List Oid) (node : Nid) (found : Option Oid) → AreTips m remotes name nodes tips → FindsTipOf m remotes name node found
      → AreTips m remotes name (nodes ++ node ∷ []) (tips ++ if_some found)
  tips_turn nodes tips node None are none =
      subst (λ (l : List Oid). AreTips m remotes name (nodes ++ node ∷ []) l) (sym (nothing_more tips)) (tips_skip nodes tips node are none)
  tips_turn nodes tips node (Some tip) are is = tips_push nodes tips node tip are is
