-- What a commit says, and why it is refused, exclude each other.
use Rattle.std.proofs.Common.{◌≡◌, List, [], ◌∷◌, refl, sym, ap, ◌∙◌}
use Rattle.rad_base.specs.declared.names.Nid.{Nid}
use Rattle.rad_base.specs.declared.names.Oid.{Oid}
use Rattle.rad_base.specs.declared.names.Rid.{Rid}
use Rattle.commit_graph.specs.Closures.{IsMissingName, IsUnfitName}
use Rattle.commit_graph.specs.Objects.{ObjectMap}
use Rattle.commit_graph.specs.Pairs.{as_commit}
use Rattle.commit_graph.proofs.OneAnswer.{none_missing, none_unfit, one_least}
use Rattle.keyring.specs.Contents.{Contents}
use Rattle.signed_refs.specs.Lines.{Line}
use Rattle.signed_refs.specs.Refusals.{IsFault, Refuses}
use Rattle.signed_refs.specs.Signed.{Signed, Sigrefs}
use Rattle.signed_refs.specs.declared.fault.SigFault.{SigFault}
use Rattle.signed_refs.specs.declared.fault.SigFault.TheVariants.{BadObject, BadSigrefs, Get, Grafted, Missing, NotAccepted}
use Rattle.signed_refs.proofs.OneSigrefs.{one_sigrefs}

-- a commit says one list of refs
pub one_signed : (objects : ObjectMap) (keyring : Contents) (rid : Rid) (node : Nid) (commit : Oid) (a b : List Line)
    → Signed objects keyring rid node commit a → Signed objects keyring rid node commit b → a ≡ b
one_signed objects keyring rid node commit a b s t =
    s.says ∙ ap (λ (f : Sigrefs). f.refs) (one_sigrefs objects commit s.found t.found s.are.has t.are.has) ∙ sym t.says

-- a commit that says its refs is refused by a fault alone
pub refused_by_fault : (objects : ObjectMap) (keyring : Contents) (rid : Rid) (node : Nid) (commit : Oid) (refs : List Line) (fault : SigFault)
    → Signed objects keyring rid node commit refs → Refuses objects keyring rid node commit fault → IsFault fault
refused_by_fault objects keyring rid node commit refs (Missing oid) s h = absurd (none_missing objects _ oid s.closed h.holds)
refused_by_fault objects keyring rid node commit refs (BadObject oid) s h = absurd (none_unfit objects _ oid s.closed h.1.holds)
refused_by_fault objects keyring rid node commit refs BadSigrefs s h = absurd (h.none s.found s.are.has)
refused_by_fault objects keyring rid node commit refs NotAccepted s h = absurd (h.none s.found s.are)
refused_by_fault objects keyring rid node commit refs Grafted s h = absurd (h.none refs s)
refused_by_fault objects keyring rid node commit refs (Get why) s h = (why, refl)

-- a commit is refused for one reason, faults apart
pub one_refusal : (objects : ObjectMap) (keyring : Contents) (rid : Rid) (node : Nid) (commit : Oid) (a b : SigFault)
    → Refuses objects keyring rid node commit a → Refuses objects keyring rid node commit b → (IsFault a → ⊥) → (IsFault b → ⊥) → a ≡ b
one_refusal objects keyring rid node commit (Missing a) (Missing b) h k p q = ap (λ (o : Oid). Missing o) (one_least (IsMissingName objects (as_commit commit ∷ [])) a b h k)
one_refusal objects keyring rid node commit (Missing a) (BadObject b) h k p q = absurd (k.0 a h.holds)
one_refusal objects keyring rid node commit (Missing a) BadSigrefs h k p q = absurd (none_missing objects _ a k.closed h.holds)
one_refusal objects keyring rid node commit (Missing a) NotAccepted h k p q = absurd (none_missing objects _ a k.closed h.holds)
one_refusal objects keyring rid node commit (Missing a) Grafted h k p q = absurd (none_missing objects _ a k.closed h.holds)
one_refusal objects keyring rid node commit (Missing a) (Get why) h k p q = absurd (q (why, refl))
one_refusal objects keyring rid node commit (BadObject a) (Missing b) h k p q = absurd (h.0 b k.holds)
one_refusal objects keyring rid node commit (BadObject a) (BadObject b) h k p q = ap (λ (o : Oid). BadObject o) (one_least (IsUnfitName objects (as_commit commit ∷ [])) a b h.1 k.1)
one_refusal objects keyring rid node commit (BadObject a) BadSigrefs h k p q = absurd (none_unfit objects _ a k.closed h.1.holds)
one_refusal objects keyring rid node commit (BadObject a) NotAccepted h k p q = absurd (none_unfit objects _ a k.closed h.1.holds)
one_refusal objects keyring rid node commit (BadObject a) Grafted h k p q = absurd (none_unfit objects _ a k.closed h.1.holds)
one_refusal objects keyring rid node commit (BadObject a) (Get why) h k p q = absurd (q (why, refl))
one_refusal objects keyring rid node commit BadSigrefs (Missing b) h k p q = absurd (none_missing objects _ b h.closed k.holds)
one_refusal objects keyring rid node commit BadSigrefs (BadObject b) h k p q = absurd (none_unfit objects _ b h.closed k.1.holds)
one_refusal objects keyring rid node commit BadSigrefs BadSigrefs h k p q = refl
one_refusal objects keyring rid node commit BadSigrefs NotAccepted h k p q = absurd (h.none k.found k.has)
one_refusal objects keyring rid node commit BadSigrefs Grafted h k p q = absurd (h.none k.found k.are.has)
one_refusal objects keyring rid node commit BadSigrefs (Get why) h k p q = absurd (q (why, refl))
one_refusal objects keyring rid node commit NotAccepted (Missing b) h k p q = absurd (none_missing objects _ b h.closed k.holds)
one_refusal objects keyring rid node commit NotAccepted (BadObject b) h k p q = absurd (none_unfit objects _ b h.closed k.1.holds)
one_refusal objects keyring rid node commit NotAccepted BadSigrefs h k p q = absurd (k.none h.found h.has)
one_refusal objects keyring rid node commit NotAccepted NotAccepted h k p q = refl
one_refusal objects keyring rid node commit NotAccepted Grafted h k p q = absurd (h.none k.found k.are)
one_refusal objects keyring rid node commit NotAccepted (Get why) h k p q = absurd (q (why, refl))
one_refusal objects keyring rid node commit Grafted (Missing b) h k p q = absurd (none_missing objects _ b h.closed k.holds)
one_refusal objects keyring rid node commit Grafted (BadObject b) h k p q = absurd (none_unfit objects _ b h.closed k.1.holds)
one_refusal objects keyring rid node commit Grafted BadSigrefs h k p q = absurd (k.none h.found h.are.has)
one_refusal objects keyring rid node commit Grafted NotAccepted h k p q = absurd (k.none h.found h.are)
one_refusal objects keyring rid node commit Grafted Grafted h k p q = refl
one_refusal objects keyring rid node commit Grafted (Get why) h k p q = absurd (q (why, refl))
one_refusal objects keyring rid node commit (Get why) b h k p q = absurd (p (why, refl))
