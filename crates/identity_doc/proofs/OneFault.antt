-- A tip is refused for one reason.
use Rattle.std.proofs.Common.{◌≡◌, List, [], ◌∷◌, ◌++◌, reverse, refl, sym, ap, subst, ⊎_elim, ◌∙◌}
use Rattle.rad_base.specs.declared.names.Oid.{Oid}
use Rattle.rad_base.specs.declared.names.Rid.{Rid}
use Rattle.rad_base.proofs.Members.{contains_head}
use Rattle.keyring.specs.Contents.{Contents}
use Rattle.commit_graph.specs.Objects.{ObjectMap}
use Rattle.commit_graph.specs.Pairs.{as_commit}
use Rattle.commit_graph.specs.Walks.{Walk}
use Rattle.commit_graph.specs.Closures.{HasNone, IsClosedCommit, IsLeast, IsMissingName, IsUnfitName}
use Rattle.commit_graph.specs.Chains.{IsChain, IsFork, IsLine, IsReturn, HasParents}
use Rattle.commit_graph.proofs.ChainLines.{line_reached}
use Rattle.commit_graph.proofs.OneAnswer.{none_missing, none_unfit, one_chain, one_least, walk_back}
use Rattle.commit_graph.proofs.Walked.{reached_root}
use Rattle.tree_entry.proofs.Reaching.{embedded_there}
use Rattle.identity_doc.specs.declared.doc.Doc.{Doc}
use Rattle.identity_doc.specs.declared.id_fault.IdFault.{IdFault}
use Rattle.identity_doc.specs.declared.id_fault.IdFault.TheVariants.{Missing, BadObject, TwoParents, NoRoot, NoDocument, WrongRoot, NotJson, BadDocument, BadSignatures, TooFew, Get}
use Rattle.identity_doc.specs.IdentityChains.{HasDocument, IsIdentityChange, IsIdentityLine}
use Rattle.identity_doc.specs.IdentityFaults.{FailsChange, FailsFirst, IsFaultAtRoot, IsFaultInChain, IsFaultLater, IsGet, IsIdFault}
use Rattle.identity_doc.proofs.FirstFaults.{EmbedsBlobs, one_first, one_of_change}
use Rattle.identity_doc.proofs.NotRefused.{change_holds, first_holds, line_behind}
use Rattle.identity_doc.proofs.OneIdentity.{one_document_at}
use Rattle.identity_doc.proofs.TipLines.{fork_ends, no_fork, no_return, one_end, one_return, root_ends}

-- where one list is another with a next item, and more, they go on alike
data Splits (xs : List Oid) (x : Oid) (ys : List Oid) (y : Oid) : Type 0 where
  same : xs ≡ ys → x ≡ y → Splits xs x ys y
  shorter : (rest : List Oid) → ys ≡ xs ++ x ∷ rest → Splits xs x ys y
  longer : (rest : List Oid) → xs ≡ ys ++ y ∷ rest → Splits xs x ys y

-- the first of a list, and what stands behind it
first_of : {X : Type 0} (x y : X) (xs ys : List X) → x ∷ xs ≡ y ∷ ys → (x ≡ y) × (xs ≡ ys)
first_of x y xs ys e = (cc e, cc e)

splits : (xs : List Oid) (x : Oid) (more : List Oid) (ys : List Oid) (y : Oid) (others : List Oid) → xs ++ x ∷ more ≡ ys ++ y ∷ others → Splits xs x ys y
splits [] x more [] y others e = same refl (first_of x y more others e).0
splits [] x more (z ∷ ys) y others e = shorter ys (ap (λ (o : Oid). o ∷ ys) (sym (first_of x z more (ys ++ y ∷ others) e).0))
splits (z ∷ xs) x more [] y others e = longer xs (ap (λ (o : Oid). o ∷ xs) (first_of z y (xs ++ x ∷ more) others e).0)
splits (z ∷ xs) x more (w ∷ ys) y others e =
    let parts = first_of z w (xs ++ x ∷ more) (ys ++ y ∷ others) e in
    by_rest parts.0 (splits xs x more ys y others parts.1)
  where
    by_rest : z ≡ w → Splits xs x ys y → Splits (z ∷ xs) x (w ∷ ys) y
    by_rest here (same f g) = same (ap (λ (o : Oid). o ∷ xs) here ∙ ap (λ (l : List Oid). w ∷ l) f) g
    by_rest here (shorter rest f) = shorter rest (ap (λ (o : Oid). o ∷ ys) (sym here) ∙ ap (λ (l : List Oid). z ∷ l) f)
    by_rest here (longer rest f) = longer rest (ap (λ (o : Oid). o ∷ xs) here ∙ ap (λ (l : List Oid). w ∷ l) f)

-- an identity line has one end
line_end : (m : ObjectMap) (keyring : Contents) (rid : Rid) (good : List Oid) (a b : Oid) → IsIdentityLine m keyring rid good a
    → IsIdentityLine m keyring rid good b → a ≡ b
line_end m keyring rid [] a b h k = absurd h
line_end m keyring rid (root ∷ later) a b h k = walk_ends root later h.1 k.1
  where
    walk_ends : (p : Oid) (path : List Oid) → Walk (IsIdentityChange m keyring) p path a → Walk (IsIdentityChange m keyring) p path b → a ≡ b
    walk_ends p [] v w = sym v ∙ w
    walk_ends p (x ∷ path) v w = walk_ends x path v.1 w.1

-- the first of an identity line is a root of the repository
line_first : (m : ObjectMap) (keyring : Contents) (rid : Rid) (root : Oid) (good : List Oid) (parent commit : Oid) (later more : List Oid) (fault : IdFault)
    → IsIdentityLine m keyring rid good parent → root ∷ more ≡ good ++ commit ∷ later → FailsFirst m keyring rid root fault → IsGet fault
line_first m keyring rid root [] parent commit later more fault line e fails = absurd line
line_first m keyring rid root (x ∷ good) parent commit later more fault line e fails =
    let here : root ≡ x = (first_of root x more (good ++ commit ∷ later) e).0 in
    first_holds m keyring rid x line.0 fault (subst (λ (o : Oid). FailsFirst m keyring rid o fault) here fails)

module _ (m : ObjectMap) (keyring : Contents) (rid : Rid) (tip : Oid) where
  -- what the root of a closed tip embeds is there
  root_embeds : (root : Oid) (later : List Oid) → IsClosedCommit m tip → IsChain m (root ∷ later) tip → EmbedsBlobs m root
  root_embeds root later closed chain = λ blob named.
      let reached = line_reached m (as_commit tip ∷ []) tip (reverse later) root (reached_root (as_commit tip) (contains_head (as_commit tip) []))
      (walk_back m root later tip chain.1) in
      embedded_there m (as_commit tip ∷ []) root _ blob closed reached named

  -- at the root
  both_at_root : (a b : IdFault) → IsClosedCommit m tip → IsFaultAtRoot m keyring rid tip a → IsFaultAtRoot m keyring rid tip b
      → (IsGet a → ⊥) → (IsGet b → ⊥) → a ≡ b
  both_at_root a b closed h k p q =
      let here : k.root ≡ h.root = (first_of k.root h.root k.later h.later (one_chain m (k.root ∷ k.later) (h.root ∷ h.later) tip k.chain h.chain)).0 in
      one_first m keyring rid h.root (root_embeds h.root h.later closed h.chain) a b h.fails
      (subst (λ (o : Oid). FailsFirst m keyring rid o b) here k.fails) p q

  -- a root that breaks a rule has no good line behind it
  root_and_later : (a b : IdFault) → IsFaultAtRoot m keyring rid tip a → IsFaultLater m keyring rid tip b → IsGet a
  root_and_later a b h k =
      line_first m keyring rid h.root k.good k.parent k.commit k.later h.later a k.line
      (one_chain m (h.root ∷ h.later) (k.good ++ k.commit ∷ k.later) tip h.chain k.chain) h.fails

  -- a commit of a good line breaks no rule
  good_holds : (good : List Oid) (parent commit : Oid) (rest : List Oid) (end : Oid) (before : Doc) (fault : IdFault)
      → IsIdentityLine m keyring rid good parent → IsIdentityLine m keyring rid (good ++ commit ∷ rest) end → HasDocument m keyring parent before
      → FailsChange m keyring parent before commit fault → IsGet fault
  good_holds good parent commit rest end before fault line whole had fails =
      change_holds m keyring parent commit before (line_behind m keyring rid good parent commit rest end whole line) had fault fails

  -- behind the root
  both_later : (a b : IdFault) → (h : IsFaultLater m keyring rid tip a) (k : IsFaultLater m keyring rid tip b) → Splits h.good h.commit k.good k.commit
      → (IsGet a → ⊥) → (IsGet b → ⊥) → a ≡ b
  both_later a b h k (same e f) p q =
      let parent : h.parent ≡ k.parent = line_end m keyring rid k.good h.parent k.parent (subst (λ (l : List Oid). IsIdentityLine m keyring rid l h.parent) e h.line) k.line in
      let before : h.before ≡ k.before = one_document_at m keyring k.parent h.before k.before (subst (λ (o : Oid). HasDocument m keyring o h.before) parent h.had) k.had in
      let fails : FailsChange m keyring k.parent k.before k.commit a = rw (sym parent, sym before, sym f) h.fails in
      one_of_change m keyring k.parent k.before k.commit a b fails k.fails p q
  both_later a b h k (shorter rest e) p q =
      absurd (p (good_holds h.good h.parent h.commit rest k.parent h.before a h.line (subst (λ (l : List Oid). IsIdentityLine m keyring rid l k.parent) e k.line) h.had h.fails))
  both_later a b h k (longer rest e) p q =
      absurd (q (good_holds k.good k.parent k.commit rest h.parent k.before b k.line (subst (λ (l : List Oid). IsIdentityLine m keyring rid l h.parent) e h.line) k.had k.fails))

  -- one commit breaks a rule first
  one_in_chain : (a b : IdFault) → IsFaultInChain m keyring rid tip a → IsFaultInChain m keyring rid tip b → (IsGet a → ⊥) → (IsGet b → ⊥) → a ≡ b
  one_in_chain a b h k p q =
      ⊎_elim
      (λ root. ⊎_elim (λ also. both_at_root a b h.closed root also p q) (λ later. absurd (p (root_and_later a b root later))) k.first)
      (λ later. ⊎_elim (λ root. absurd (q (root_and_later b a root later)))
      (λ also. both_later a b later also
      (splits later.good later.commit later.later also.good also.commit also.later
      (one_chain m (later.good ++ later.commit ∷ later.later) (also.good ++ also.commit ∷ also.later) tip later.chain also.chain)) p q) k.first)
      h.first

  -- the chain whose commit breaks a rule
  chain_of : (fault : IdFault) → IsFaultInChain m keyring rid tip fault → (commits : List Oid) × IsChain m commits tip
  chain_of fault h = ⊎_elim (λ root. (root.root ∷ root.later, root.chain)) (λ later. (later.good ++ later.commit ∷ later.later, later.chain)) h.first

  down_chain : (commits : List Oid) → IsChain m commits tip → (line : List Oid) × ((root : Oid) × IsLine m tip line root × HasParents m root [])
  down_chain [] chain = absurd chain
  down_chain (root ∷ later) chain = (reverse later, (root, walk_back m root later tip chain.1, chain.0))

  -- a chain has no fork
  chain_or_fork : (fault : IdFault) (oid : Oid) → IsFaultInChain m keyring rid tip fault → IsFork m tip oid → ⊥
  chain_or_fork fault oid h k =
      let chain = chain_of fault h in
      let line = down_chain chain.0 chain.1 in
      no_fork m tip line.0 k.line line.1.0 oid k.parents line.1.1 line.1.2 k.walked k.has k.several

  -- and no return
  chain_or_return : (fault : IdFault) (oid : Oid) → IsFaultInChain m keyring rid tip fault → IsReturn m tip oid → ⊥
  chain_or_return fault oid h k =
      let chain = chain_of fault h in
      let line = down_chain chain.0 chain.1 in
      no_return m tip line.0 k.line line.1.0 oid line.1.1 (root_ends m line.1.0 line.1.2) k.walked k.among

  -- one commit is the first fork
  one_fork : (a b : Oid) → IsFork m tip a → IsFork m tip b → a ≡ b
  one_fork a b h k =
      (one_end m tip h.line k.line a b h.walked k.walked (fork_ends m a h.parents h.has h.several) (fork_ends m b k.parents k.has k.several)).1

  -- a line to a fork has no return
  fork_or_return : (a b : Oid) → IsFork m tip a → IsReturn m tip b → ⊥
  fork_or_return a b h k = no_return m tip h.line k.line a b h.walked (fork_ends m a h.parents h.has h.several) k.walked k.among

-- how a tip can be refused
data TipCase (m : ObjectMap) (keyring : Contents) (rid : Rid) (tip : Oid) (fault : IdFault) : Type 0 where
  missing : (oid : Oid) → fault ≡ Missing oid → IsLeast (IsMissingName m (as_commit tip ∷ [])) oid → TipCase m keyring rid tip fault
  unfit : (oid : Oid) → fault ≡ BadObject oid → HasNone (IsMissingName m (as_commit tip ∷ [])) → IsLeast (IsUnfitName m (as_commit tip ∷ [])) oid
      → TipCase m keyring rid tip fault
  fork : (oid : Oid) → fault ≡ TwoParents oid → IsClosedCommit m tip → IsFork m tip oid → TipCase m keyring rid tip fault
  returns : (oid : Oid) → fault ≡ NoRoot oid → IsClosedCommit m tip → IsReturn m tip oid → TipCase m keyring rid tip fault
  in_chain : IsFaultInChain m keyring rid tip fault → TipCase m keyring rid tip fault
  met : IsGet fault → TipCase m keyring rid tip fault

tip_case : (m : ObjectMap) (keyring : Contents) (rid : Rid) (tip : Oid) (fault : IdFault) → IsIdFault m keyring rid tip fault → TipCase m keyring rid tip fault
tip_case m keyring rid tip (Missing oid) h = missing oid refl h
tip_case m keyring rid tip (BadObject oid) h = unfit oid refl h.0 h.1
tip_case m keyring rid tip (TwoParents oid) h = fork oid refl h.0 h.1
tip_case m keyring rid tip (NoRoot oid) h = returns oid refl h.0 h.1
tip_case m keyring rid tip (Get why) h = met (why, refl)
tip_case m keyring rid tip (NoDocument oid) h = in_chain h
tip_case m keyring rid tip (WrongRoot oid) h = in_chain h
tip_case m keyring rid tip (NotJson oid) h = in_chain h
tip_case m keyring rid tip (BadDocument oid why) h = in_chain h
tip_case m keyring rid tip (BadSignatures oid n) h = in_chain h
tip_case m keyring rid tip (TooFew oid have need) h = in_chain h

module _ (m : ObjectMap) (keyring : Contents) (rid : Rid) (tip : Oid) where
  -- what is closed lacks nothing
  no_missing : (oid : Oid) → IsClosedCommit m tip → IsLeast (IsMissingName m (as_commit tip ∷ [])) oid → ⊥
  no_missing oid closed h = none_missing m (as_commit tip ∷ []) oid closed h.holds

  no_unfit : (oid : Oid) → IsClosedCommit m tip → IsLeast (IsUnfitName m (as_commit tip ∷ [])) oid → ⊥
  no_unfit oid closed h = none_unfit m (as_commit tip ∷ []) oid closed h.holds

  by_tip : (a b : IdFault) → TipCase m keyring rid tip a → TipCase m keyring rid tip b → (IsGet a → ⊥) → (IsGet b → ⊥) → a ≡ b
  by_tip a b (missing x e h) (missing y f k) p q =
      e ∙ ap (λ (o : Oid). Missing o) (one_least (IsMissingName m (as_commit tip ∷ [])) x y h k) ∙ sym f
  by_tip a b (missing x e h) (unfit y f none k) p q = absurd (none x h.holds)
  by_tip a b (missing x e h) (fork y f closed k) p q = absurd (no_missing x closed h)
  by_tip a b (missing x e h) (returns y f closed k) p q = absurd (no_missing x closed h)
  by_tip a b (missing x e h) (in_chain k) p q = absurd (no_missing x k.closed h)
  by_tip a b (unfit x e none h) (missing y f k) p q = absurd (none y k.holds)
  by_tip a b (unfit x e none h) (unfit y f also k) p q =
      e ∙ ap (λ (o : Oid). BadObject o) (one_least (IsUnfitName m (as_commit tip ∷ [])) x y h k) ∙ sym f
  by_tip a b (unfit x e none h) (fork y f closed k) p q = absurd (no_unfit x closed h)
  by_tip a b (unfit x e none h) (returns y f closed k) p q = absurd (no_unfit x closed h)
  by_tip a b (unfit x e none h) (in_chain k) p q = absurd (no_unfit x k.closed h)
  by_tip a b (fork x e closed h) (missing y f k) p q = absurd (no_missing y closed k)
  by_tip a b (fork x e closed h) (unfit y f none k) p q = absurd (no_unfit y closed k)
  by_tip a b (fork x e closed h) (fork y f also k) p q = e ∙ ap (λ (o : Oid). TwoParents o) (one_fork m keyring rid tip x y h k) ∙ sym f
  by_tip a b (fork x e closed h) (returns y f also k) p q = absurd (fork_or_return m keyring rid tip x y h k)
  by_tip a b (fork x e closed h) (in_chain k) p q = absurd (chain_or_fork m keyring rid tip b x k h)
  by_tip a b (returns x e closed h) (missing y f k) p q = absurd (no_missing y closed k)
  by_tip a b (returns x e closed h) (unfit y f none k) p q = absurd (no_unfit y closed k)
  by_tip a b (returns x e closed h) (fork y f also k) p q = absurd (fork_or_return m keyring rid tip y x k h)
  by_tip a b (returns x e closed h) (returns y f also k) p q =
      e ∙ ap (λ (o : Oid). NoRoot o) (one_return m tip h.line k.line x y h.walked k.walked h.among k.among h.once k.once) ∙ sym f
  by_tip a b (returns x e closed h) (in_chain k) p q = absurd (chain_or_return m keyring rid tip b x k h)
  by_tip a b (in_chain h) (missing y f k) p q = absurd (no_missing y h.closed k)
  by_tip a b (in_chain h) (unfit y f none k) p q = absurd (no_unfit y h.closed k)
  by_tip a b (in_chain h) (fork y f also k) p q = absurd (chain_or_fork m keyring rid tip a y h k)
  by_tip a b (in_chain h) (returns y f also k) p q = absurd (chain_or_return m keyring rid tip a y h k)
  by_tip a b (in_chain h) (in_chain k) p q = one_in_chain m keyring rid tip a b h k p q
  by_tip a b (met e) k p q = absurd (p e)
  by_tip a b (missing x e h) (met f) p q = absurd (q f)
  by_tip a b (unfit x e none h) (met f) p q = absurd (q f)
  by_tip a b (fork x e closed h) (met f) p q = absurd (q f)
  by_tip a b (returns x e closed h) (met f) p q = absurd (q f)
  by_tip a b (in_chain h) (met f) p q = absurd (q f)

  -- a tip is refused for one reason, faults apart
  pub one_fault : (a b : IdFault) → IsIdFault m keyring rid tip a → IsIdFault m keyring rid tip b → (IsGet a → ⊥) → (IsGet b → ⊥) → a ≡ b
  one_fault a b h k p q = by_tip a b (tip_case m keyring rid tip a h) (tip_case m keyring rid tip b k) p q
