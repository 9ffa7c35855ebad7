use Rattle.std.proofs.Common.{◌≡◌, ◌++◌, ◌∷◌, [], List, map, take, sym, ap, ◌∙◌, ◌+◌, arith}
use Rattle.std.proofs.lemmas.List.{take_more}
use Rattle.std.specs.List.{flat_map}
use Rattle.rad_base.specs.declared.names.Nid.{Nid}
use Rattle.rad_base.specs.declared.names.Oid.{Oid}
use Rattle.fetch_wire.specs.Sections.{Object}
use Rattle.rad_vectors.specs.Repositories.{remotes_of, signed_objects}
use Rattle.rad_vectors.specs.Signers.{signer_of}
use Rattle.rad_vectors.specs.declared.delegate.Delegate.{Delegate}
use Rattle.rad_vectors.proofs.SignedObjects.{remotes_more, signed_more}
use Rattle.rad_vectors.proofs.signing.signed_refs.Goals as goal

pub delegates-preserved : goal.delegates-preserved
delegates-preserved c =
    let i = c.delegates.delegate-index in
    let d = c.delegate-item.result in
    let more : take (i + 1) c.args.delegates.now ≡ take i c.args.delegates.now ++ d ∷ [] =
    take_more c.args.delegates.now i d (omega arith) ∙ ap (λ (x : Delegate). take i c.args.delegates.now ++ x ∷ []) (sym c.delegate-item.is) in
    record {
      objects = c.in_ok-oid.ensures.objects ∙ (ap (λ (xs : List Object). xs ++ signed_objects (signer_of d)) c.delegates.invariant.objects
          ∙ (sym (signed_more (take i c.args.delegates.now) d) ∙ ap (λ (ds : List Delegate). flat_map signed_objects (map signer_of ds)) (sym more)));
      remotes = c.in_ok-push.ensures.items ∙ (ap (λ (xs : List (Nid × Oid)). xs ++ (d.key, c.in_ok-oid.oid) ∷ []) c.delegates.invariant.remotes
          ∙ (ap (λ (o : Oid). remotes_of (map signer_of (take i c.args.delegates.now)) ++ (d.key, o) ∷ []) c.in_ok-oid.ensures.name
          ∙ (sym (remotes_more (take i c.args.delegates.now) d) ∙ ap (λ (ds : List Delegate). remotes_of (map signer_of ds)) (sym more))));
    }
