-- What commits say, whoever signed it.
use Rattle.std.proofs.Common.{◌≡◌, ℕ, List, Option, None, Some, Result, Ok, Err, subst}
use Rattle.std.specs.Prelude.{codes, IfOk}
use Rattle.rad_base.specs.declared.names.Nid.{Nid}
use Rattle.rad_base.specs.declared.names.Oid.{Oid}
use Rattle.rad_base.specs.declared.names.Rid.{Rid}
use Rattle.commit_graph.specs.Objects.{ObjectMap}
use Rattle.commit_graph.specs.declared.fault.GetFault.{GetFault}
use Rattle.keyring.specs.Contents.{Contents}
use Rattle.signed_refs.specs.Lines.{Line, SpellsRefs}
use Rattle.signed_refs.specs.Said.{Says, SaysRefs, SpellsIf}
use Rattle.signed_refs.specs.Signed.{HasBlob, Signed}
use Rattle.signed_refs.proofs.Compared.{one_list}
use Rattle.signed_refs.proofs.OneSigrefs.{one_blob}

-- a commit says one list of refs
pub one_said : (m : ObjectMap) (commit : Oid) (a b : List Line) → Says m commit a → Says m commit b → a ≡ b
one_said m commit a b h k =
    let text = one_blob m commit (codes "refs") h.0 k.0 h.1 k.1 in
    one_list k.0 a b (subst (λ (l : List ℕ). SpellsRefs a l) text h.2) k.2

-- what a node's commit says it says whoever signed it
pub said_by_signed : (m : ObjectMap) (keyring : Contents) (rid : Rid) (node : Nid) (commit : Oid) (refs : List Line) → Signed m keyring rid node commit refs → Says m commit refs
said_by_signed m keyring rid node commit refs s = rw s.says (s.found.text, s.are.has.refs, s.are.has.lines)

-- the refs of the blob that was found
said : (m : ObjectMap) (commit : Oid) (bytes : List ℕ) (found : Option (List Line)) → HasBlob m commit (codes "refs") bytes → SpellsIf bytes found → SaysRefs m commit found
said m commit bytes None blob h = λ refs says.
    h refs (subst (λ (l : List ℕ). SpellsRefs refs l) (one_blob m commit (codes "refs") says.0 bytes says.1 blob) says.2)
said m commit bytes (Some refs) blob h = (bytes, blob, h)

pub said_in : (m : ObjectMap) (commit : Oid) (bytes : List ℕ) (result : Result (Option (List Line)) GetFault) → HasBlob m commit (codes "refs") bytes → IfOk result (SpellsIf bytes)
    → IfOk result (SaysRefs m commit)
said_in m commit bytes (Ok found) blob h = said m commit bytes found blob h
said_in m commit bytes (Err why) blob h = tt
