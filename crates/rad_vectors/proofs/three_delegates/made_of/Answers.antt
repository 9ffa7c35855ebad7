use Rattle.std.proofs.Common.{◌≡◌, ◌++◌, ℕ, List, length, take, ap, ◌∙◌, arith}
use Rattle.std.specs.Prelude.{Some}
use Rattle.std.proofs.lemmas.List.{map-append}
use Rattle.rad_base.specs.declared.names.Oid.{Oid}
use Rattle.fetch_wire.specs.Sections.{Object}
use Rattle.rad_vectors.specs.Chains.{chain_commits}
use Rattle.rad_vectors.specs.Fixture.{first_lines, first_refs, fixture_document, fixture_history, fixture_tips, last_commit}
use Rattle.rad_vectors.specs.Generated.{master_line}
use Rattle.rad_vectors.specs.Objects.{object_name}
use Rattle.rad_vectors.specs.Repositories.{identity_commit}
use Rattle.rad_vectors.specs.Shown.{all_shown, shown}
use Rattle.rad_vectors.proofs.FixtureParts.{commits_of, fixture_made}
use Rattle.rad_vectors.proofs.three_delegates.made_of.Goals as goal

pub first_refs-requires : goal.first_refs-requires
first_refs-requires c = omega (arith, ap length c.in_ok-history.ensures.commits, commits_of c.args.commits, c.requires.some)

pub returns : goal.returns
returns c =
    let m : ℕ = c.args.commits in
    let history = c.in_ok-history.history in
    let identity = c.in_ok-identity.identity in
    let known = c.in_ok-history.ensures in
    let one : c.in_ok-one.one.items ≡ first_refs m =
    c.in_ok-one.ensures.text ∙ (ap (λ (os : List Oid). first_lines (take 17 os) history.last identity.commit history.tag) known.commits
    ∙ (ap (λ (o : Oid). first_lines (take 17 (chain_commits m)) o identity.commit history.tag) known.last
    ∙ (ap (λ (o : Oid). first_lines (take 17 (chain_commits m)) (object_name (last_commit m)) o history.tag) c.in_ok-identity.ensures.commit
    ∙ ap (λ (o : Oid). first_lines (take 17 (chain_commits m)) (object_name (last_commit m)) (object_name (identity_commit fixture_document)) o) known.tag))) in
    let two = c.in_ok-two.ensures.text ∙ ap (λ (o : Oid). master_line (Some o)) known.second in
    let three = c.in_ok-three.ensures.text ∙ ap master_line known.third in
    let tips : all_shown c.append.new.self.items ≡ fixture_tips m =
    ap all_shown c.in_ok-append.ensures.items ∙ (map-append shown history.objects.items identity.objects.items
    ∙ (ap (λ (xs : List Object). xs ++ all_shown identity.objects.items) known.objects
    ∙ ap (λ (xs : List Object). fixture_history m ++ xs) c.in_ok-identity.ensures.objects)) in
    fixture_made m c.in_ok-one.one.items c.in_ok-two.two.items c.in_ok-three.three.items c.of-2.result c.of.result (all_shown c.append.new.self.items)
    one two three tips (rw c.of-2.ensures c.in_ok-bundle.ensures) (c.of.ensures ∙ c.in_ok-keyring.ensures)
