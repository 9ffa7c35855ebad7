-- A remote has one outcome.
use Rattle.std.proofs.Common.{◌≡◌, ℕ, List, [], ◌∷◌, refl, sym, ap, subst, inl, inr, ◌∙◌}
use Rattle.rad_base.specs.declared.names.Nid.{Nid}
use Rattle.rad_base.specs.declared.names.Oid.{Oid}
use Rattle.rad_base.proofs.Options.{one_value}
use Rattle.commit_graph.specs.declared.answer.Closure.{Closure}
use Rattle.commit_graph.specs.declared.answer.Closure.TheVariants as closures
use Rattle.commit_graph.specs.declared.answer.Closure.TheVariants.{Closed}
use Rattle.commit_graph.specs.Objects.{ObjectMap}
use Rattle.commit_graph.specs.Closures.{IsClosed, IsClosure}
use Rattle.commit_graph.specs.Histories.{InHistory}
use Rattle.commit_graph.proofs.HistoryWalks.{history_itself}
use Rattle.commit_graph.proofs.OneAnswer.{one_closure}
use Rattle.signed_refs.specs.Lines.{Line}
use Rattle.signed_refs.specs.Refusals.{IsFault, Refuses}
use Rattle.signed_refs.specs.declared.fault.SigFault.{SigFault}
use Rattle.signed_refs.specs.declared.fault.SigFault.TheVariants as signed
use Rattle.signed_refs.proofs.Alone.{one_refusal, one_signed, refused_by_fault}
use Rattle.repo_slice.specs.declared.outcomes.Outcome.{Outcome}
use Rattle.repo_slice.specs.declared.outcomes.Outcome.TheVariants.{OutOfScope, Same, Stale, Missing, BadObject, BadSigrefs, NotAccepted, Grafted, Forked, Incomplete, Crowded, Advanced}
use Rattle.repo_slice.specs.Good.{line_roots}
use Rattle.repo_slice.specs.Outcomes.{AreOutcomes, Case, IsCrowded, IsForked, IsLater, IsNews, IsOutcome, IsStored, IsWatched, IsWhole, count_after}

-- why an outcome applies
data Reason : Type 0 where
  outside : Reason
  same : Reason
  old : Reason
  refused : SigFault → Reason
  forked : Reason
  lines : Closure → Reason
  crowded : Reason
  whole : Reason

-- the outcome for a reason
abbrev outcome_of : Reason → Outcome
outcome_of outside = OutOfScope
outcome_of same = Same
outcome_of old = Stale
outcome_of (refused (signed.Missing oid)) = Missing oid
outcome_of (refused (signed.BadObject oid)) = BadObject oid
outcome_of (refused signed.BadSigrefs) = BadSigrefs
outcome_of (refused signed.NotAccepted) = NotAccepted
outcome_of (refused signed.Grafted) = Grafted
outcome_of (refused (signed.Get why)) = Advanced
outcome_of forked = Forked
outcome_of (lines (closures.Missing oid)) = Incomplete oid
outcome_of (lines (closures.BadObject oid)) = BadObject oid
outcome_of (lines closures.Closed) = Advanced
outcome_of crowded = Crowded
outcome_of whole = Advanced

module _ (m : ObjectMap) (c : Case) (count : ℕ) (node : Nid) (commit : Oid) where
  -- the reason holds
  abbrev IsReason : Reason → Type 0
  IsReason outside = IsWatched c node → ⊥
  IsReason same = IsWatched c node × IsStored c node commit
  IsReason old = IsWatched c node × ((stored : Oid) × IsStored c node stored × (stored ≡ commit → ⊥) × InHistory m commit stored)
  IsReason (refused fault) = IsNews m c node commit × Refuses m c.keyring c.rid node commit fault × (IsFault fault → ⊥)
  IsReason forked = IsForked m c node commit
  IsReason (lines answer) = (refs : List Line) × IsLater m c node commit refs × IsClosure m (line_roots refs) answer × (answer ≡ Closed → ⊥)
  IsReason crowded = IsWhole m c node commit × IsCrowded c count node
  IsReason whole = IsWhole m c node commit × (IsCrowded c count node → ⊥)

  -- each outcome has one
  reason_of : (o : Outcome) → IsOutcome m c count node commit o → (r : Reason) × IsReason r × (outcome_of r ≡ o)
  reason_of OutOfScope h = (outside, h, refl)
  reason_of Same h = (same, h, refl)
  reason_of Stale h = (old, h, refl)
  reason_of (Missing oid) h = (refused (signed.Missing oid), (h.0, h.1, λ f. cc f.1), refl)
  reason_of (BadObject oid) (inl h) = (refused (signed.BadObject oid), (h.0, h.1, λ f. cc f.1), refl)
  reason_of (BadObject oid) (inr h) = (lines (closures.BadObject oid), (h.0, h.1, h.2, λ e. cc e), refl)
  reason_of BadSigrefs h = (refused signed.BadSigrefs, (h.0, h.1, λ f. cc f.1), refl)
  reason_of NotAccepted h = (refused signed.NotAccepted, (h.0, h.1, λ f. cc f.1), refl)
  reason_of Grafted h = (refused signed.Grafted, (h.0, h.1, λ f. cc f.1), refl)
  reason_of Forked h = (forked, h, refl)
  reason_of (Incomplete oid) h = (lines (closures.Missing oid), (h.0, h.1, h.2, λ e. cc e), refl)
  reason_of Crowded h = (crowded, h, refl)
  reason_of Advanced h = (whole, h, refl)

  -- reasons that hold have one outcome
  one_reason : (a b : Reason) → IsReason a → IsReason b → outcome_of a ≡ outcome_of b
  one_reason outside outside h k = refl
  one_reason outside same h k = absurd (h k.0)
  one_reason outside old h k = absurd (h k.0)
  one_reason outside (refused fault_b) h k = absurd (h k.0.scope)
  one_reason outside forked h k = absurd (h k.news.scope)
  one_reason outside (lines answer_b) h k = absurd (h k.1.news.scope)
  one_reason outside crowded h k = absurd (h k.0.later.news.scope)
  one_reason outside whole h k = absurd (h k.0.later.news.scope)
  one_reason same outside h k = absurd (k h.0)
  one_reason same same h k = refl
  one_reason same old h k = absurd (k.1.2 (one_value k.1.1 h.1))
  one_reason same (refused fault_b) h k = absurd (k.0.ahead commit h.1 (history_itself m commit))
  one_reason same forked h k = absurd (k.news.ahead commit h.1 (history_itself m commit))
  one_reason same (lines answer_b) h k = absurd (k.1.news.ahead commit h.1 (history_itself m commit))
  one_reason same crowded h k = absurd (k.0.later.news.ahead commit h.1 (history_itself m commit))
  one_reason same whole h k = absurd (k.0.later.news.ahead commit h.1 (history_itself m commit))
  one_reason old outside h k = absurd (k h.0)
  one_reason old same h k = absurd (h.1.2 (one_value h.1.1 k.1))
  one_reason old old h k = refl
  one_reason old (refused fault_b) h k = absurd (k.0.ahead h.1.0 h.1.1 h.1.3)
  one_reason old forked h k = absurd (k.news.ahead h.1.0 h.1.1 h.1.3)
  one_reason old (lines answer_b) h k = absurd (k.1.news.ahead h.1.0 h.1.1 h.1.3)
  one_reason old crowded h k = absurd (k.0.later.news.ahead h.1.0 h.1.1 h.1.3)
  one_reason old whole h k = absurd (k.0.later.news.ahead h.1.0 h.1.1 h.1.3)
  one_reason (refused fault_a) outside h k = absurd (k h.0.scope)
  one_reason (refused fault_a) same h k = absurd (h.0.ahead commit k.1 (history_itself m commit))
  one_reason (refused fault_a) old h k = absurd (h.0.ahead k.1.0 k.1.1 k.1.3)
  one_reason (refused fault_a) (refused fault_b) h k = ap (λ (f : SigFault). outcome_of (refused f)) (one_refusal m c.keyring c.rid node commit fault_a fault_b h.1 k.1 h.2 k.2)
  one_reason (refused fault_a) forked h k = absurd (h.2 (refused_by_fault m c.keyring c.rid node commit k.refs fault_a k.signed h.1))
  one_reason (refused fault_a) (lines answer_b) h k = absurd (h.2 (refused_by_fault m c.keyring c.rid node commit k.0 fault_a k.1.signed h.1))
  one_reason (refused fault_a) crowded h k = absurd (h.2 (refused_by_fault m c.keyring c.rid node commit k.0.refs fault_a k.0.later.signed h.1))
  one_reason (refused fault_a) whole h k = absurd (h.2 (refused_by_fault m c.keyring c.rid node commit k.0.refs fault_a k.0.later.signed h.1))
  one_reason forked outside h k = absurd (k h.news.scope)
  one_reason forked same h k = absurd (h.news.ahead commit k.1 (history_itself m commit))
  one_reason forked old h k = absurd (h.news.ahead k.1.0 k.1.1 k.1.3)
  one_reason forked (refused fault_b) h k = absurd (k.2 (refused_by_fault m c.keyring c.rid node commit h.refs fault_b h.signed k.1))
  one_reason forked forked h k = refl
  one_reason forked (lines answer_b) h k = absurd (h.apart (k.1.follows h.stored h.is))
  one_reason forked crowded h k = absurd (h.apart (k.0.later.follows h.stored h.is))
  one_reason forked whole h k = absurd (h.apart (k.0.later.follows h.stored h.is))
  one_reason (lines answer_a) outside h k = absurd (k h.1.news.scope)
  one_reason (lines answer_a) same h k = absurd (h.1.news.ahead commit k.1 (history_itself m commit))
  one_reason (lines answer_a) old h k = absurd (h.1.news.ahead k.1.0 k.1.1 k.1.3)
  one_reason (lines answer_a) (refused fault_b) h k = absurd (k.2 (refused_by_fault m c.keyring c.rid node commit h.0 fault_b h.1.signed k.1))
  one_reason (lines answer_a) forked h k = absurd (k.apart (h.1.follows k.stored k.is))
  one_reason (lines answer_a) (lines answer_b) h k = ap (λ (f : Closure). outcome_of (lines f)) (one_closure m (line_roots h.0) answer_a answer_b h.2 (subst (λ (l : List Line). IsClosure m (line_roots l) answer_b) (one_signed m c.keyring c.rid node commit k.0 h.0 k.1.signed h.1.signed) k.2))
  one_reason (lines answer_a) crowded h k = absurd (h.3 (one_closure m (line_roots h.0) answer_a Closed h.2 (subst (λ (l : List Line). IsClosed m (line_roots l)) (one_signed m c.keyring c.rid node commit k.0.refs h.0 k.0.later.signed h.1.signed) k.0.closed)))
  one_reason (lines answer_a) whole h k = absurd (h.3 (one_closure m (line_roots h.0) answer_a Closed h.2 (subst (λ (l : List Line). IsClosed m (line_roots l)) (one_signed m c.keyring c.rid node commit k.0.refs h.0 k.0.later.signed h.1.signed) k.0.closed)))
  one_reason crowded outside h k = absurd (k h.0.later.news.scope)
  one_reason crowded same h k = absurd (h.0.later.news.ahead commit k.1 (history_itself m commit))
  one_reason crowded old h k = absurd (h.0.later.news.ahead k.1.0 k.1.1 k.1.3)
  one_reason crowded (refused fault_b) h k = absurd (k.2 (refused_by_fault m c.keyring c.rid node commit h.0.refs fault_b h.0.later.signed k.1))
  one_reason crowded forked h k = absurd (k.apart (h.0.later.follows k.stored k.is))
  one_reason crowded (lines answer_b) h k = absurd (k.3 (one_closure m (line_roots k.0) answer_b Closed k.2 (subst (λ (l : List Line). IsClosed m (line_roots l)) (one_signed m c.keyring c.rid node commit h.0.refs k.0 h.0.later.signed k.1.signed) h.0.closed)))
  one_reason crowded crowded h k = refl
  one_reason crowded whole h k = absurd (k.1 h.1)
  one_reason whole outside h k = absurd (k h.0.later.news.scope)
  one_reason whole same h k = absurd (h.0.later.news.ahead commit k.1 (history_itself m commit))
  one_reason whole old h k = absurd (h.0.later.news.ahead k.1.0 k.1.1 k.1.3)
  one_reason whole (refused fault_b) h k = absurd (k.2 (refused_by_fault m c.keyring c.rid node commit h.0.refs fault_b h.0.later.signed k.1))
  one_reason whole forked h k = absurd (k.apart (h.0.later.follows k.stored k.is))
  one_reason whole (lines answer_b) h k = absurd (k.3 (one_closure m (line_roots k.0) answer_b Closed k.2 (subst (λ (l : List Line). IsClosed m (line_roots l)) (one_signed m c.keyring c.rid node commit h.0.refs k.0 h.0.later.signed k.1.signed) h.0.closed)))
  one_reason whole crowded h k = absurd (h.1 k.1)
  one_reason whole whole h k = refl

  -- so a remote has one outcome
  pub one_outcome : (a b : Outcome) → IsOutcome m c count node commit a → IsOutcome m c count node commit b → a ≡ b
  one_outcome a b h k =
      let r = reason_of a h in
      let s = reason_of b k in
      sym r.2 ∙ one_reason r.0 s.0 r.1 s.1 ∙ s.2

-- offered remotes have one list of outcomes
pub one_list : (m : ObjectMap) (c : Case) (count : ℕ) (pairs : List (Nid × Oid)) (a b : List (Nid × Outcome)) → AreOutcomes m c count pairs a → AreOutcomes m c count pairs b → a ≡ b
one_list m c count [] [] [] h k = refl
one_list m c count [] [] (y ∷ b) h k = absurd k
one_list m c count [] (x ∷ a) b h k = absurd h
one_list m c count (p ∷ pairs) [] b h k = absurd h
one_list m c count (p ∷ pairs) (x ∷ a) [] h k = absurd k
one_list m c count (p ∷ pairs) (x ∷ a) (y ∷ b) h k =
    let first : x.1 ≡ y.1 = one_outcome m c count p.0 p.1 x.1 y.1 h.1 k.1 in
    let node : x.0 ≡ y.0 = h.0 ∙ sym k.0 in
    let rest = one_list m c (count_after c.remotes count p.0 x.1) pairs a b h.2 (subst (λ (o : Outcome). AreOutcomes m c (count_after c.remotes count p.0 o) pairs b) (sym first) k.2) in
    (λ i. (node i, first i) ∷ rest i)
