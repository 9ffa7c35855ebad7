use Rattle.std.proofs.Common.{◌≡◌, ◌++◌, ◌∷◌, [], ℕ, List, ◌+◌, ap, ◌∙◌}
use Rattle.std.specs.Prelude.{Option, None, Some}
use Rattle.std.proofs.lemmas.List.{map-append}
use Rattle.rad_base.specs.declared.names.Oid.{Oid}
use Rattle.fetch_wire.specs.Sections.{Object}
use Rattle.rad_vectors.specs.Chains.{chain_objects, number_commit, number_objects, tip_of}
use Rattle.rad_vectors.specs.Fixture.{fixture_submodule, last_commit, next_to_last, tag_on}
use Rattle.rad_vectors.specs.Objects.{object_name}
use Rattle.rad_vectors.specs.Shown.{all_shown, shown}
use Rattle.rad_vectors.proofs.three_delegates.history_of.Goals as goal

pub returns-clause-objects : goal.returns-clause-objects
returns-clause-objects c =
    let m : ℕ = c.args.commits in
    let second : c.in_ok-second.second ≡ object_name (next_to_last m) =
    c.in_ok-second.ensures.name ∙ ap (λ (b : Option Oid). object_name (number_commit (m + 1) None b)) c.in_ok-chain.ensures.last in
    let last : c.in_ok-last.last ≡ object_name (last_commit m) =
    c.in_ok-last.ensures.name ∙ ap (λ (o : Oid). object_name (number_commit (m + 2) fixture_submodule (Some o))) second in
    let tag : shown c.in_ok-made.made ≡ tag_on (object_name (last_commit m)) = c.in_ok-made.ensures ∙ ap tag_on last in
    let two : all_shown c.push_commit.new.objects.items ≡ chain_objects m ++ number_objects (m + 1) None (tip_of m) =
    c.in_ok-second.ensures.objects ∙ (ap (λ (xs : List Object). xs ++ number_objects (m + 1) None c.in_ok-chain.chain.last) c.in_ok-chain.ensures.objects
    ∙ ap (λ (b : Option Oid). chain_objects m ++ number_objects (m + 1) None b) c.in_ok-chain.ensures.last) in
    let three : all_shown c.push_commit-2.new.objects.items
    ≡ (chain_objects m ++ number_objects (m + 1) None (tip_of m)) ++ number_objects (m + 2) fixture_submodule (Some (object_name (next_to_last m))) =
    c.in_ok-last.ensures.objects ∙ (ap (λ (xs : List Object). xs ++ number_objects (m + 2) fixture_submodule (Some c.in_ok-second.second)) two
    ∙ ap (λ (o : Oid). (chain_objects m ++ number_objects (m + 1) None (tip_of m)) ++ number_objects (m + 2) fixture_submodule (Some o)) second) in
    ap all_shown c.in_ok-push.ensures.items
    ∙ (map-append shown c.push_commit-2.new.objects.items (c.in_ok-made.made ∷ [])
    ∙ (ap (λ (xs : List Object). xs ++ shown c.in_ok-made.made ∷ []) three
    ∙ ap (λ (o : Object). ((chain_objects m ++ number_objects (m + 1) None (tip_of m)) ++ number_objects (m + 2) fixture_submodule (Some (object_name (next_to_last m)))) ++ o ∷ []) tag))
