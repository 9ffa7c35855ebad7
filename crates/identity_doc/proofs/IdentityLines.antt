-- Identity lines, a commit at a time, and the first commit that breaks a rule.
use Rattle.std.proofs.Common.{◌≡◌, ℕ, zero, suc, ◌+◌, ◌<◌, List, [], ◌∷◌, ◌++◌, length, get_or, take, drop, refl, sym, ap, subst, inr, ⊎_elim, ◌∙◌, arith}
use Rattle.std.proofs.lemmas.List.{take_more}
use Rattle.rad_base.specs.declared.names.Oid.{Oid}
use Rattle.rad_base.specs.declared.names.Rid.{Rid}
use Rattle.keyring.specs.Contents.{Contents}
use Rattle.commit_graph.specs.Objects.{ObjectMap}
use Rattle.commit_graph.specs.Pairs.{as_commit}
use Rattle.commit_graph.specs.Walks.{Walk}
use Rattle.commit_graph.specs.Closures.{IsClosed}
use Rattle.commit_graph.specs.Chains.{IsChain, IsOnlyParent}
use Rattle.commit_graph.proofs.Walked.{walk_push}
use Rattle.identity_doc.specs.declared.doc.Doc.{Doc}
use Rattle.identity_doc.specs.declared.id_fault.IdFault.{IdFault}
use Rattle.identity_doc.specs.declared.id_fault.IdFault.TheVariants.{Missing, BadObject, TwoParents, NoRoot, NoDocument, WrongRoot, NotJson, BadDocument, BadSignatures, TooFew, Get}
use Rattle.identity_doc.specs.IdentityChains.{EndsLine, HasDocument, HasDocumentIn, IsApproved, IsIdentityChange}
use Rattle.identity_doc.specs.IdentityFaults.{FailsChange, FailsLine, IsIdFault}

-- where a walk goes on behind what another came to by the same items
walk_next : {X : Type 0} (S T : X → X → Type 0) (p : X) (path : List X) (q : X) (i : ℕ) (r x d : X) → Walk S p path q
    → Walk T p (take i path) r → i < length path → get_or path i d ≡ x → S r x
walk_next S T p [] q i r x d w v inside e = absurd (omega arith)
walk_next {X} S T p (y ∷ path) q zero r x d w v inside e = subst (λ (z : X). S z x) v (subst (λ (z : X). S p z) e w.0)
walk_next S T p (y ∷ path) q (suc i) r x d w v inside e = walk_next S T y path q i r x d w.1 v.1 (omega arith) e

-- the items up to a place, the one at it, and the rest
split_at : {X : Type 0} (xs : List X) (i : ℕ) (d : X) → i < length xs → xs ≡ take i xs ++ get_or xs i d ∷ drop (i + 1) xs
split_at [] i d inside = absurd (omega arith)
split_at (x ∷ xs) zero d inside = refl
split_at {X} (x ∷ xs) (suc i) d inside =
    let next : suc i + 1 ≡ suc (i + 1) = omega arith in
    rw next (ap (λ (l : List X). x ∷ l) (split_at xs i d (omega arith)))

module _ (m : ObjectMap) (keyring : Contents) (rid : Rid) (root : Oid) (later : List Oid) (tip : Oid) (chain : IsChain m (root ∷ later) tip) where
  -- the root alone
  pub ends_first : (doc : Doc) → HasDocumentIn m keyring root rid.0 doc → EndsLine m keyring rid (root ∷ take 0 later) root doc
  ends_first doc has = ((record { alone = chain.0; doc = doc; has = has }, refl), (rid.0, has))

  -- one commit more
  pub ends_more : (i : ℕ) (parent : Oid) (before : Doc) (commit d : Oid) (doc : Doc) → EndsLine m keyring rid (root ∷ take i later) parent before
      → i < length later → get_or later i d ≡ commit → HasDocument m keyring commit doc → IsApproved m keyring parent before commit
      → EndsLine m keyring rid (root ∷ take (i + 1) later) commit doc
  ends_more i parent before commit d doc ends inside e has approved =
      let step : IsIdentityChange m keyring parent commit = record {
        only = walk_next (IsOnlyParent m) (IsIdentityChange m keyring) root later tip i parent commit d chain.1 ends.0.1 inside e;
        after = doc;
        has = has;
        before = before;
        had = ends.1;
        approved = approved;
      } in
      let more : take (i + 1) later ≡ take i later ++ commit ∷ [] = take_more later i d inside ∙ ap (λ (x : Oid). take i later ++ x ∷ []) e in
      ((ends.0.0, rw more (walk_push (IsIdentityChange m keyring) root (take i later) parent commit ends.0.1 step)), has)

  -- a later commit that breaks a rule first
  pub fails_later : (i : ℕ) (parent : Oid) (before : Doc) (commit d : Oid) (fault : IdFault) → EndsLine m keyring rid (root ∷ take i later) parent before
      → i < length later → get_or later i d ≡ commit → FailsChange m keyring parent before commit fault → FailsLine m keyring rid tip fault
  fails_later i parent before commit d fault ends inside e fails =
      let parts : later ≡ take i later ++ commit ∷ drop (i + 1) later = split_at later i d inside ∙ ap (λ (x : Oid). take i later ++ x ∷ drop (i + 1) later) e in
      inr (record {
        good = root ∷ take i later;
        commit = commit;
        later = drop (i + 1) later;
        chain = subst (λ (l : List Oid). IsChain m (root ∷ l) tip) parts chain;
        parent = parent;
        line = ends.0;
        before = before;
        had = ends.1;
        fails = fails;
      })

-- why a chain of commits is no identity chain
pub fault_of_line : (m : ObjectMap) (keyring : Contents) (rid : Rid) (tip : Oid) (fault : IdFault) → IsClosed m (as_commit tip ∷ [])
    → FailsLine m keyring rid tip fault → IsIdFault m keyring rid tip fault
fault_of_line m keyring rid tip (Missing oid) closed h = ⊎_elim (λ first. absurd first.fails) (λ later. absurd later.fails) h
fault_of_line m keyring rid tip (BadObject oid) closed h = ⊎_elim (λ first. absurd first.fails) (λ later. absurd later.fails) h
fault_of_line m keyring rid tip (TwoParents oid) closed h = ⊎_elim (λ first. absurd first.fails) (λ later. absurd later.fails) h
fault_of_line m keyring rid tip (NoRoot oid) closed h = ⊎_elim (λ first. absurd first.fails) (λ later. absurd later.fails) h
fault_of_line m keyring rid tip (Get why) closed h = tt
fault_of_line m keyring rid tip (NoDocument oid) closed h = record { closed = closed; first = h }
fault_of_line m keyring rid tip (WrongRoot oid) closed h = record { closed = closed; first = h }
fault_of_line m keyring rid tip (NotJson oid) closed h = record { closed = closed; first = h }
fault_of_line m keyring rid tip (BadDocument oid why) closed h = record { closed = closed; first = h }
fault_of_line m keyring rid tip (BadSignatures oid n) closed h = record { closed = closed; first = h }
fault_of_line m keyring rid tip (TooFew oid have need) closed h = record { closed = closed; first = h }

-- walks by the same items end at the same
walk_end : {X : Type 0} (S T : X → X → Type 0) (p : X) (path : List X) (q r : X) → Walk S p path q → Walk T p path r → r ≡ q
walk_end S T p [] q r w v = sym v ∙ w
walk_end S T p (x ∷ path) q r w v = walk_end S T x path q r w.1 v.1

-- where all commits are good, the line ends at the tip
pub ends_all : (m : ObjectMap) (keyring : Contents) (rid : Rid) (root : Oid) (later : List Oid) (tip : Oid) (i : ℕ) (parent : Oid) (doc : Doc)
    → IsChain m (root ∷ later) tip → EndsLine m keyring rid (root ∷ take i later) parent doc → take i later ≡ later
    → EndsLine m keyring rid (root ∷ later) tip doc
ends_all m keyring rid root later tip i parent doc chain ends all =
    let whole : EndsLine m keyring rid (root ∷ later) parent doc = subst (λ (l : List Oid). EndsLine m keyring rid (root ∷ l) parent doc) all ends in
    let same = walk_end (IsOnlyParent m) (IsIdentityChange m keyring) root later tip parent chain.1 whole.0.1 in
    subst (λ (o : Oid). EndsLine m keyring rid (root ∷ later) o doc) same whole

-- a chain has a commit
pub no_chain : (m : ObjectMap) (commits : List Oid) (tip : Oid) → IsChain m commits tip → length commits ≡ 0 → ⊥
no_chain m [] tip chain e = chain
no_chain m (x ∷ commits) tip chain e = omega (arith, e)
