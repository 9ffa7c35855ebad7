-- One delegate more, and the parts of a bundle.
use Rattle.std.proofs.Common.{◌≡◌, ℕ, List, [], ◌∷◌, ◌++◌, map, ap, ◌∙◌, append_assoc, append-nil}
use Rattle.std.proofs.lemmas.List.{map-append}
use Rattle.std.proofs.lemmas.Grind.{flat_map-append}
use Rattle.std.specs.List.{flat_map}
use Rattle.fetch_wire.specs.Sections.{Object}
use Rattle.rad_vectors.specs.Objects.{object_name}
use Rattle.rad_vectors.specs.Repositories.{Signer, remotes_of, signed_commit, signed_objects}
use Rattle.rad_vectors.specs.Signers.{signer_of}
use Rattle.rad_vectors.specs.declared.delegate.Delegate.{Delegate}

pub signed_more : (ds : List Delegate) (d : Delegate) → flat_map signed_objects (map signer_of (ds ++ d ∷ []))
    ≡ flat_map signed_objects (map signer_of ds) ++ signed_objects (signer_of d)
signed_more ds d =
    ap (λ (xs : List Signer). flat_map signed_objects xs) (map-append signer_of ds (d ∷ []))
    ∙ (flat_map-append signed_objects (map signer_of ds) (signer_of d ∷ [])
    ∙ ap (λ (xs : List Object). flat_map signed_objects (map signer_of ds) ++ xs) (append-nil (signed_objects (signer_of d))))

pub remotes_more : (ds : List Delegate) (d : Delegate) → remotes_of (map signer_of (ds ++ d ∷ []))
    ≡ remotes_of (map signer_of ds) ++ (d.key, object_name (signed_commit (signer_of d))) ∷ []
remotes_more ds d =
    ap remotes_of (map-append signer_of ds (d ∷ []))
    ∙ map-append (λ (signer : Signer). (signer.key, object_name (signed_commit signer))) (map signer_of ds) (signer_of d ∷ [])

-- the parts of a bundle, one behind the other
pub joined : (a h f i g j k : List ℕ) → (((((a ++ h) ++ f) ++ i) ++ g) ++ j) ++ k ≡ a ++ ((h ++ f) ++ ((i ++ g) ++ (j ++ k)))
joined a h f i g j k = simp append_assoc
