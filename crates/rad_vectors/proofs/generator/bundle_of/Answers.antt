use Rattle.std.proofs.Common.{◌≡◌, ℕ, suc, ◌-◌, ◌++◌, ◌∷◌, [], List, sym, ap, ◌∙◌, arith}
use Rattle.std.specs.Prelude.{Option, None, Some, codes}
use Rattle.rad_base.specs.declared.names.Oid.{Oid}
use Rattle.fetch_wire.specs.Sections.{Object}
use Rattle.rad_vectors.specs.Chains.{chain_objects, number_commit, number_objects, tip_of}
use Rattle.keyring.specs.Lines.{file_text}
use Rattle.rad_vectors.specs.Generated.{generated_signer, master_line}
use Rattle.rad_vectors.specs.Objects.{object_name}
use Rattle.rad_vectors.specs.Repositories.{accept_line_of, ref_line}
use Rattle.rad_vectors.specs.Shown.{all_shown}
use Rattle.rad_vectors.proofs.Generating.{made_of}
use Rattle.rad_vectors.proofs.generator.bundle_of.Goals as goal

pub returns : goal.returns
unfolding chain_objects tip_of
returns c =
    let m : ℕ = c.args.commits - 1 in
    let e : suc m ≡ c.args.commits = omega (arith, c.requires.some) in
    let tips : all_shown c.push_commit.new.objects.items ≡ chain_objects c.args.commits =
    c.in_ok-tip.ensures.objects ∙ (ap (λ (xs : List Object). xs ++ number_objects c.args.commits None c.in_ok-chain.chain.last) c.in_ok-chain.ensures.objects
    ∙ (ap (λ (b : Option Oid). chain_objects m ++ number_objects c.args.commits None b) c.in_ok-chain.ensures.last
    ∙ (ap (λ (n : ℕ). chain_objects m ++ number_objects n None (tip_of m)) (sym e) ∙ ap chain_objects e))) in
    let tip : Some c.in_ok-tip.tip ≡ tip_of c.args.commits =
    ap (λ (o : Oid). Some o) (c.in_ok-tip.ensures.name ∙ (ap (λ (b : Option Oid). object_name (number_commit c.args.commits None b)) c.in_ok-chain.ensures.last
    ∙ ap (λ (n : ℕ). object_name (number_commit n None (tip_of m))) (sym e))) ∙ ap tip_of e in
    let text : c.push_ref.new.bytes.items ≡ ref_line c.in_ok-tip.tip (codes "refs/heads/master") =
    c.in_ok-push_ref.ensures.text ∙ ap (λ (xs : List ℕ). xs ++ ref_line c.in_ok-tip.tip (codes "refs/heads/master")) c.new-refs.ensures.items in
    let lines : c.push_accepts.new.bytes.items ≡ file_text (accept_line_of (generated_signer c.push_ref.new.bytes.items) ∷ []) =
    c.in_ok-push_accepts.ensures ∙ ap (λ (xs : List ℕ). xs ++ file_text (accept_line_of (generated_signer c.push_ref.new.bytes.items) ∷ [])) c.new-keyring.ensures.items in
    made_of c.args.commits c.push_ref.new.bytes.items c.of-2.result c.of.result (all_shown c.push_commit.new.objects.items)
    (text ∙ ap master_line tip) tips (rw c.of-2.ensures c.in_ok-bundle.ensures) (c.of.ensures ∙ lines)
