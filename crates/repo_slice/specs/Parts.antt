-- What the parts of judging answer.
use Rattle.std.specs.Prelude.{ℕ, List, [], ◌∷◌, Option, None, Some}
use Rattle.rad_base.specs.declared.names.Nid.{Nid}
use Rattle.rad_base.specs.declared.names.Oid.{Oid}
use Rattle.rad_base.specs.declared.names.Rid.{Rid}
use Rattle.commit_graph.specs.declared.answer.Closure.TheVariants as closures
use Rattle.commit_graph.specs.Closures.{IsClosure}
use Rattle.commit_graph.specs.declared.fault.GetFault.{GetFault}
use Rattle.commit_graph.specs.Objects.{ObjectMap}
use Rattle.commit_graph.specs.Pairs.{as_commit}
use Rattle.keyring.specs.Contents.{Contents}
use Rattle.identity_doc.specs.IdentityFaults.{IsGet, IsIdFault}
use Rattle.signed_refs.specs.declared.fault.SigFault.{SigFault}
use Rattle.signed_refs.specs.declared.fault.SigFault.TheVariants as signed
use Rattle.signed_refs.specs.Lines.{Line}
use Rattle.repo_slice.specs.declared.outcomes.Outcome.{Outcome}
use Rattle.repo_slice.specs.declared.outcomes.Outcome.TheVariants as outcomes
use Rattle.repo_slice.specs.declared.state.State.{State}
use Rattle.repo_slice.specs.declared.stop.Halt.{Halt}
use Rattle.repo_slice.specs.declared.stop.Halt.TheVariants as halts
use Rattle.repo_slice.specs.declared.stop.Stop.{Stop}
use Rattle.repo_slice.specs.declared.stop.Stop.TheVariants as stops
use Rattle.repo_slice.specs.declared.terms.Terms.{Terms}
use Rattle.repo_entries.specs.declared.whole.Whole.TheVariants.{IdForked, IdFault, TooFewDelegates}
use Rattle.repo_slice.specs.Outcomes.{Case, IsCrowded, IsLater, IsNews, IsOutcome, count_after}
use Rattle.repo_slice.specs.Verdicts.{IsChecked, IsIdRefused, case_of}

-- a refusal of signed refs, as an outcome
abbrev pub of_sig : SigFault → Halt
of_sig (signed.Missing oid) = halts.Outcome (outcomes.Missing oid)
of_sig (signed.BadObject oid) = halts.Outcome (outcomes.BadObject oid)
of_sig signed.BadSigrefs = halts.Outcome outcomes.BadSigrefs
of_sig signed.NotAccepted = halts.Outcome outcomes.NotAccepted
of_sig signed.Grafted = halts.Outcome outcomes.Grafted
of_sig (signed.Get why) = halts.Get why

-- what some terms are, as one value
abbrev pub case_in : Terms → Case
case_in terms = case_of terms.keyring.now terms.state.now terms.scope.now terms.doc.now

-- why the identity of a tip is refused
abbrev pub IsIdStop : ObjectMap → Contents → Rid → Oid → Stop → Type 0
IsIdStop objects keyring rid tip (stops.Whole IdForked) = ⊥
IsIdStop objects keyring rid tip (stops.Whole (IdFault why)) = IsIdFault objects keyring rid tip why × (IsGet why → ⊥)
IsIdStop objects keyring rid tip (stops.Whole (TooFewDelegates have need)) = ⊥
IsIdStop objects keyring rid tip (stops.Get why) = Unit {0}

-- the refusal is not for a fault of the objects
abbrev pub IsCheckedStop : Stop → Type 0
IsCheckedStop (stops.Whole why) = IsChecked why
IsCheckedStop (stops.Get why) = Unit {0}

-- why an offered identity is refused
abbrev pub IsIdRefusal : ObjectMap → Contents → State → Oid → Stop → Type 0
IsIdRefusal objects keyring state id (stops.Whole why) = IsIdRefused objects keyring state id why
IsIdRefusal objects keyring state id (stops.Get why) = Unit {0}

-- the fault of objects that a refusal is
abbrev pub stop_fault_in : Stop → Option GetFault
stop_fault_in (stops.Whole why) = None
stop_fault_in (stops.Get why) = Some why

-- the outcome of a remote, however many remotes stand before it
abbrev pub IsHalt : ObjectMap → Case → Nid → Oid → Halt → Type 0
IsHalt objects c node commit (halts.Outcome outcome) = (count : ℕ) → IsOutcome objects c count node commit outcome
IsHalt objects c node commit (halts.Get why) = Unit {0}

-- the outcome is none that depends on how many remotes stand
abbrev pub IsEarly : Halt → Type 0
IsEarly (halts.Outcome outcomes.Crowded) = ⊥
IsEarly (halts.Outcome outcomes.Advanced) = ⊥
IsEarly (halts.Outcome outcome) = Unit {0}
IsEarly (halts.Get why) = Unit {0}

-- with an outcome, one of the first three applies
abbrev pub IsNoNews : ObjectMap → Case → Nid → Oid → Halt → Type 0
IsNoNews objects c node commit (halts.Outcome outcome) = IsNews objects c node commit → ⊥
IsNoNews objects c node commit (halts.Get why) = Unit {0}

-- with an outcome, one of the first nine applies
abbrev pub IsNoLater : ObjectMap → Case → Nid → Oid → Halt → Type 0
IsNoLater objects c node commit (halts.Outcome outcome) = (refs : List Line) → IsLater objects c node commit refs → ⊥
IsNoLater objects c node commit (halts.Get why) = Unit {0}

-- the fault of objects that an outcome is not
abbrev pub halt_fault_in : Halt → Option GetFault
halt_fault_in (halts.Outcome outcome) = None
halt_fault_in (halts.Get why) = Some why

-- why what a commit reaches is not whole
abbrev pub IsReachHalt : ObjectMap → Oid → Halt → Type 0
IsReachHalt objects commit (halts.Outcome (outcomes.Missing oid)) = IsClosure objects (as_commit commit ∷ []) (closures.Missing oid)
IsReachHalt objects commit (halts.Outcome (outcomes.BadObject oid)) = IsClosure objects (as_commit commit ∷ []) (closures.BadObject oid)
IsReachHalt objects commit (halts.Outcome other) = ⊥
IsReachHalt objects commit (halts.Get why) = Unit {0}

-- the outcome of a remote that is whole
abbrev pub IsLastOutcome : Case → ℕ → Nid → Outcome → Type 0
IsLastOutcome c count node outcomes.Crowded = IsCrowded c count node
IsLastOutcome c count node outcomes.Advanced = IsCrowded c count node → ⊥
IsLastOutcome c count node other = ⊥

-- how many remotes stand once all of these have their outcomes
abbrev pub count_behind : List (Nid × Oid) → ℕ → List (Nid × Oid) → List (Nid × Outcome) → ℕ
count_behind remotes count [] outcomes = count
count_behind remotes count (p ∷ pairs) [] = count
count_behind remotes count (p ∷ pairs) (o ∷ outcomes) = count_behind remotes (count_after remotes count p.0 o.1) pairs outcomes
