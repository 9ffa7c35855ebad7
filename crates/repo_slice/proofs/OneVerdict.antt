-- An offer is judged in one way, or refused whole.
use Rattle.std.proofs.Common.{◌≡◌, ◌≤◌, ℕ, length, Some, refl, sym, ap, subst, ◌∙◌, arith}
use Rattle.std.specs.Prelude.{Result, Ok, Err}
use Rattle.rad_base.specs.declared.names.Oid.{Oid}
use Rattle.rad_base.specs.declared.offer.Offer.{Offer}
use Rattle.rad_base.proofs.Options.{not_nothing, one_value}
use Rattle.commit_graph.specs.Objects.{ObjectMap}
use Rattle.commit_graph.specs.Histories.{InHistory}
use Rattle.commit_graph.proofs.HistoryWalks.{history_itself}
use Rattle.keyring.specs.Contents.{Contents}
use Rattle.identity_doc.specs.declared.doc.Doc.{Doc}
use Rattle.identity_doc.specs.declared.id_fault.IdFault.{IdFault as Fault}
use Rattle.identity_doc.specs.IdentityChains.{HasIdentity}
use Rattle.identity_doc.specs.IdentityFaults.{IsGet, IsIdFault}
use Rattle.identity_doc.proofs.NotRefused.{not_refused}
use Rattle.identity_doc.proofs.OneFault.{one_fault}
use Rattle.identity_doc.proofs.OneIdentity.{one_identity}
use Rattle.repo_slice.specs.declared.scope.Scope.{Scope}
use Rattle.repo_slice.specs.declared.state.State.{State}
use Rattle.repo_slice.specs.declared.verdict.IdOutcome.{IdOutcome}
use Rattle.repo_slice.specs.declared.verdict.IdOutcome.TheVariants.{First, Same, Stale, Advanced}
use Rattle.repo_slice.specs.declared.verdict.Judged.{Judged}
use Rattle.repo_entries.specs.declared.whole.Whole.{Whole}
use Rattle.repo_entries.specs.declared.whole.Whole.TheVariants.{IdForked, IdFault, TooFewDelegates}
use Rattle.repo_slice.specs.Outcomes.{AreOutcomes, advanced_in}
use Rattle.repo_slice.specs.Verdicts.{AreVerdicts, IsIdForked, IsIdOutcome, IsJudged, IsNewId, IsRefusedWhole, IsTooFew, IsVerdict, case_of, have_next}
use Rattle.repo_slice.proofs.OneOutcome.{one_list}

module _ (m : ObjectMap) (keyring : Contents) (state : State) where
  -- an identity has one outcome, and one that comes next
  one_id : (id : Oid) (a b : IdOutcome) (x y : Oid) → IsIdOutcome m state id a x → IsIdOutcome m state id b y → (a ≡ b) × (x ≡ y)
  one_id id First First x y h k = (refl, h.1 ∙ sym k.1)
  one_id id First Same x y h k = absurd (not_nothing k.0 h.0)
  one_id id First Stale x y h k = absurd (not_nothing k.0 h.0)
  one_id id First Advanced x y h k = absurd (not_nothing k.1.1 h.0)
  one_id id Same First x y h k = absurd (not_nothing h.0 k.0)
  one_id id Same Same x y h k = (refl, h.1 ∙ sym k.1)
  one_id id Same Stale x y h k = absurd (k.1 (one_value k.0 h.0))
  one_id id Same Advanced x y h k = absurd (k.0 id h.0 (history_itself m id))
  one_id id Stale First x y h k = absurd (not_nothing h.0 k.0)
  one_id id Stale Same x y h k = absurd (h.1 (one_value h.0 k.0))
  one_id id Stale Stale x y h k = (refl, one_value h.0 k.0)
  one_id id Stale Advanced x y h k = absurd (k.0 x h.0 h.2)
  one_id id Advanced First x y h k = absurd (not_nothing h.1.1 k.0)
  one_id id Advanced Same x y h k = absurd (h.0 id k.0 (history_itself m id))
  one_id id Advanced Stale x y h k = absurd (h.0 y k.0 k.2)
  one_id id Advanced Advanced x y h k = (refl, h.2 ∙ sym k.2)

  -- an identity that is new is the next one
  new_next : (id : Oid) (a : IdOutcome) (x : Oid) → IsIdOutcome m state id a x → IsNewId m state id → x ≡ id
  new_next id First x h new = h.1
  new_next id Same x h new = h.1
  new_next id Stale x h new = absurd (new x h.0 h.2)
  new_next id Advanced x h new = h.2

  -- where one stands and the offered one is new, it lies in its history
  new_follows : (id stands : Oid) (a : IdOutcome) (x : Oid) → IsIdOutcome m state id a x → IsNewId m state id → state.id ≡ Some stands → InHistory m stands id
  new_follows id stands First x h new is = absurd (not_nothing is h.0)
  new_follows id stands Same x h new is = absurd (new id h.0 (history_itself m id))
  new_follows id stands Stale x h new is = absurd (new x h.0 h.2)
  new_follows id stands Advanced x h new is = subst (λ (o : Oid). InHistory m o id) (one_value h.1.1 is) h.1.2

  module _ (offer : Offer) (scope : Scope) where
    same_judged : (a b : Judged) → a.id_outcome ≡ b.id_outcome → a.outcomes ≡ b.outcomes → a.next_id ≡ b.next_id → a.advanced ≡ b.advanced → a ≡ b
    same_judged a b e f g h = (λ i. record { id_outcome = e i; outcomes = f i; next_id = g i; advanced = h i })

    -- verdicts are one, and so is the document
    one_verdicts : (a b : Judged) (doc other : Doc) → AreVerdicts m keyring state offer scope a doc → AreVerdicts m keyring state offer scope b other → (a ≡ b) × (doc ≡ other)
    one_verdicts a b doc other h k =
        let id = one_id offer.id a.id_outcome b.id_outcome a.next_id b.next_id h.identity k.identity in
        let same : doc ≡ other = one_identity m keyring state.rid b.next_id doc other (subst (λ (o : Oid). HasIdentity m keyring state.rid o doc) id.1 h.document) k.document in
        let list : a.outcomes ≡ b.outcomes = one_list m (case_of keyring state scope other) (length state.remotes) offer.remotes a.outcomes b.outcomes
        (subst (λ (d : Doc). AreOutcomes m (case_of keyring state scope d) (length state.remotes) offer.remotes a.outcomes) same h.outcomes) k.outcomes in
        let advanced : a.advanced ≡ b.advanced = h.advanced ∙ ap (advanced_in offer.remotes) list ∙ sym k.advanced in
        (same_judged a b id.0 list id.1 advanced, same)

    -- an offer is judged in one way
    pub one_judged : (a b : Judged) → IsJudged m keyring state offer scope a → IsJudged m keyring state offer scope b → a ≡ b
    one_judged a b h k = (one_verdicts a b h.0 k.0 h.1 k.1).0

    -- what is judged is not refused whole
    pub judged_or_refused : (a : Judged) (why : Whole) → IsJudged m keyring state offer scope a → IsRefusedWhole m keyring state offer scope why → ⊥
    judged_or_refused a IdForked h k = k.apart (new_follows offer.id k.stands a.id_outcome a.next_id h.1.identity k.new k.is)
    judged_or_refused a (IdFault why) h k =
        let next = new_next offer.id a.id_outcome a.next_id h.1.identity k.0 in
        k.2 (not_refused m keyring state.rid offer.id h.0 why (subst (λ (o : Oid). HasIdentity m keyring state.rid o h.0) next h.1.document) k.1)
    judged_or_refused a (TooFewDelegates have need) h k =
        let one = one_verdicts a k.judged h.0 k.doc h.1 k.are in
        let enough : k.doc.threshold ≤ have_next state k.judged k.doc = subst (λ (d : Doc). d.threshold ≤ have_next state k.judged d) one.1 (subst (λ (j : Judged). h.0.threshold ≤ have_next state j h.0) one.0 h.2) in
        omega (arith, enough, k.few, k.counted, k.threshold)

    -- too few delegates are one count and one threshold
    one_few : (a b c d : ℕ) → IsTooFew m keyring state offer scope a b → IsTooFew m keyring state offer scope c d → (a ≡ c) × (b ≡ d)
    one_few a b c d h k =
        let one = one_verdicts h.judged k.judged h.doc k.doc h.are k.are in (
          h.counted ∙ ap (λ (j : Judged). have_next state j h.doc) one.0 ∙ ap (λ (x : Doc). have_next state k.judged x) one.1 ∙ sym k.counted,
          h.threshold ∙ ap (λ (x : Doc). x.threshold) one.1 ∙ sym k.threshold,
        )

    -- too few delegates or an identity that is refused
    few_or_forked : (a b : ℕ) → IsTooFew m keyring state offer scope a b → IsIdForked m keyring state offer.id → ⊥
    few_or_forked a b h k = k.apart (new_follows offer.id k.stands h.judged.id_outcome h.judged.next_id h.are.identity k.new k.is)

    few_or_fault : (a b : ℕ) (why : Fault) → IsTooFew m keyring state offer scope a b → IsNewId m state offer.id
        → IsIdFault m keyring state.rid offer.id why → (IsGet why → ⊥) → ⊥
    few_or_fault a b why h new fault bars =
        let next = new_next offer.id h.judged.id_outcome h.judged.next_id h.are.identity new in
        bars (not_refused m keyring state.rid offer.id h.doc why (subst (λ (o : Oid). HasIdentity m keyring state.rid o h.doc) next h.are.document) fault)

    forked_or_fault : (why : Fault) → IsIdForked m keyring state offer.id → IsIdFault m keyring state.rid offer.id why → (IsGet why → ⊥) → ⊥
    forked_or_fault why h fault bars = bars (not_refused m keyring state.rid offer.id h.doc why h.identity fault)

    -- an offer is refused whole for one reason
    pub one_refusal : (a b : Whole) → IsRefusedWhole m keyring state offer scope a → IsRefusedWhole m keyring state offer scope b → a ≡ b
    one_refusal IdForked IdForked h k = refl
    one_refusal IdForked (IdFault why) h k = absurd (forked_or_fault why h k.1 k.2)
    one_refusal IdForked (TooFewDelegates have need) h k = absurd (few_or_forked have need k h)
    one_refusal (IdFault why) IdForked h k = absurd (forked_or_fault why k h.1 h.2)
    one_refusal (IdFault why) (IdFault other) h k = ap (λ (x : Fault). IdFault x) (one_fault m keyring state.rid offer.id why other h.1 k.1 h.2 k.2)
    one_refusal (IdFault why) (TooFewDelegates have need) h k = absurd (few_or_fault have need why k h.0 h.1 h.2)
    one_refusal (TooFewDelegates have need) IdForked h k = absurd (few_or_forked have need h k)
    one_refusal (TooFewDelegates have need) (IdFault why) h k = absurd (few_or_fault have need why h k.0 k.1 k.2)
    one_refusal (TooFewDelegates have need) (TooFewDelegates other least) h k =
        let one = one_few have need other least h k in
        ap (λ (x : ℕ). TooFewDelegates x need) one.0 ∙ ap (λ (x : ℕ). TooFewDelegates other x) one.1

    -- an offer has one verdict
    pub one_verdict : (a b : Result Judged Whole) → IsVerdict m keyring state offer scope a → IsVerdict m keyring state offer scope b → a ≡ b
    one_verdict (Ok a) (Ok b) h k = ap (λ (x : Judged). Ok x) (one_judged a b h k)
    one_verdict (Ok a) (Err b) h k = absurd (judged_or_refused a b h k)
    one_verdict (Err a) (Ok b) h k = absurd (judged_or_refused b a k h)
    one_verdict (Err a) (Err b) h k = ap (λ (x : Whole). Err x) (one_refusal a b h k)
