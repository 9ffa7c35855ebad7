use Rattle.std.proofs.Common.{rules, ◌≡◌, [], ap, ◌∙◌}
use Rattle.std.specs.Prelude.{codes}
use Rattle.rad_base.specs.declared.names.Oid.{Oid}
use Rattle.fetch_wire.specs.Sections.{Object}
use Rattle.rad_vectors.specs.Objects.{blob, commit, object_name}
use Rattle.rad_vectors.specs.Repositories.{Signer, signature_of, signed_commit, signed_tree, signed_tree_of}
use Rattle.rad_vectors.specs.Shown.{shown}
use Rattle.rad_vectors.specs.Signers.{signer_of}
use Rattle.rad_vectors.specs.declared.object.NamedObject.{NamedObject}
use Rattle.rad_vectors.proofs.MoreObjects.{four_more, name_of_shown}
use Rattle.rad_vectors.proofs.signing.push_signed.Goals as goal

-- the tree and the commit of blobs that are known
tree_is : (signer : Signer) (refs signature tree : NamedObject) → shown refs ≡ blob signer.refs → shown signature ≡ blob (signature_of signer.key)
    → shown tree ≡ signed_tree_of refs.oid signature.oid → shown tree ≡ signed_tree signer
tree_is signer refs signature tree er es is =
    is ∙ (ap (λ (oid : Oid). signed_tree_of oid signature.oid) (name_of_shown refs (blob signer.refs) er)
    ∙ ap (λ (oid : Oid). signed_tree_of (object_name (blob signer.refs)) oid) (name_of_shown signature (blob (signature_of signer.key)) es))

commit_is : (signer : Signer) (tree made : NamedObject) → shown tree ≡ signed_tree signer → shown made ≡ commit (shown tree) [] (codes "sigrefs") → shown made ≡ signed_commit signer
commit_is signer tree made is e = e ∙ ap (λ (o : Object). commit o [] (codes "sigrefs")) is

pub returns-clause-objects : goal.returns-clause-objects
returns-clause-objects c =
    let signer : Signer = signer_of c.args.delegate.now in
    let refs : shown c.of-refs.result ≡ blob c.args.delegate.now.refs.items = search rules in
    let signature : shown c.of-signature.result ≡ blob (signature_of c.args.delegate.now.key) = search rules in
    let tree = tree_is signer c.of-refs.result c.of-signature.result c.in_ok-tree.tree refs signature c.in_ok-tree.ensures in
    four_more c.args.objects.now.items c.push-4.new.self.items c.of-refs.result c.of-signature.result c.in_ok-tree.tree c.in_ok-commit.commit
    (blob signer.refs) (blob (signature_of signer.key)) (signed_tree signer) (signed_commit signer)
    (search rules) refs signature tree (commit_is signer c.in_ok-tree.tree c.in_ok-commit.commit tree c.in_ok-commit.ensures)

pub returns-clause-name : goal.returns-clause-name
returns-clause-name c =
    let signer : Signer = signer_of c.args.delegate.now in
    let refs : shown c.of-refs.result ≡ blob c.args.delegate.now.refs.items = search rules in
    let signature : shown c.of-signature.result ≡ blob (signature_of c.args.delegate.now.key) = search rules in
    let tree = tree_is signer c.of-refs.result c.of-signature.result c.in_ok-tree.tree refs signature c.in_ok-tree.ensures in
    name_of_shown c.in_ok-commit.commit (signed_commit signer) (commit_is signer c.in_ok-tree.tree c.in_ok-commit.commit tree c.in_ok-commit.ensures)
