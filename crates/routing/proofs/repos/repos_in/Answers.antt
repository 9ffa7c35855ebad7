use Rattle.std.proofs.Common.{◌≡◌, ◌∷◌, [], List, map, refl, sym, subst}
use Rattle.std.specs.Map.Iter.{deref_pair}
use Rattle.std.proofs.lemmas.Map.Iter.{rest_all, rest_more}
use Rattle.serde_json.specs.View.{view}
use Rattle.routing.specs.RulesFiles.{AreRepos, IsRepo}
use Rattle.routing.proofs.ReadRepos.{AreRead, Entries, Pair, names_differ, pair_of, pairs_view, read_all, read_broken, read_more}
use Rattle.routing.proofs.repos.repos_in.Goals as goal

pub loop-name-preserved : goal.loop-name-preserved
loop-name-preserved c =
    let at : c.loop-name.name-iterator ≡ (c.in-Some.name.now, c.in-Some.value.now) ∷ c.next.new.self =
    rest_more deref_pair c.loop-name.name-iterator c.next.new.self c.next.result (c.in-Some.name, c.in-Some.value) c.in-Some.is c.next.ensures.steps in
    let read : AreRead c.args.file (map pair_of c.args.members.now.entries) (map pair_of ((c.in-Some.name.now, c.in-Some.value.now) ∷ c.next.new.self)) c.loop-name.repos =
    subst (λ (es : Entries). AreRead c.args.file (map pair_of c.args.members.now.entries) (map pair_of es) c.loop-name.repos) at c.loop-name.invariant in
    let is : IsRepo c.args.file (pair_of (c.in-Some.name.now, c.in-Some.value.now)) (c.in-Some-repo_in.rid, c.in-Some-repo_in.rule) =
    subst (λ bytes. IsRepo c.args.file (bytes, view c.in-Some.value.now) (c.in-Some-repo_in.rid, c.in-Some-repo_in.rule)) c.as_str.ensures.value c.in-Some-repo_in.ensures.found in
    read_more c.args.file (map pair_of c.args.members.now.entries) _ _ (c.in-Some-repo_in.rid, c.in-Some-repo_in.rule) c.loop-name.repos c.put.new.repos
    (names_differ c.args.members.now.entries c.iter-name-items.ensures.ordered) read is c.in_ok-put.ensures

pub returns-in_default-clause-refused : goal.returns-in_default-clause-refused
returns-in_default-clause-refused c = λ check. (
  refl,
  λ repos are.
      let at : c.loop-name.name-iterator ≡ (c.in-Some.name.now, c.in-Some.value.now) ∷ c.next.new.self =
      rest_more deref_pair c.loop-name.name-iterator c.next.new.self c.next.result (c.in-Some.name, c.in-Some.value) c.in-Some.is c.next.ensures.steps in
      let read : AreRead c.args.file (map pair_of c.args.members.now.entries) (map pair_of ((c.in-Some.name.now, c.in-Some.value.now) ∷ c.next.new.self)) c.loop-name.repos =
      subst (λ (es : Entries). AreRead c.args.file (map pair_of c.args.members.now.entries) (map pair_of es) c.loop-name.repos) at c.loop-name.invariant in
      read_broken c.args.file (map pair_of c.args.members.now.entries) _ _ c.loop-name.repos repos read
      (λ repo is. c.in_default.ensures.none repo (subst (λ bytes. IsRepo c.args.file (bytes, view c.in-Some.value.now) repo) (sym c.as_str.ensures.value) is))
      (subst (λ (ps : List Pair). AreRepos c.args.file ps repos) (pairs_view c.args.members.now.entries) are),
)

pub returns-clause-read : goal.returns-clause-read
returns-clause-read c =
    let over : c.loop-name.name-iterator ≡ [] = rest_all deref_pair c.loop-name.name-iterator c.next.new.self c.next.result c.in-None.is c.next.ensures.steps in
    let read : AreRead c.args.file (map pair_of c.args.members.now.entries) [] c.loop-name.repos =
    subst (λ (es : Entries). AreRead c.args.file (map pair_of c.args.members.now.entries) (map pair_of es) c.loop-name.repos) over c.loop-name.invariant in
    subst (λ (ps : List Pair). AreRepos c.args.file ps c.loop-name.repos.entries) (sym (pairs_view c.args.members.now.entries))
    (read_all c.args.file (map pair_of c.args.members.now.entries) c.loop-name.repos read c.len-count.ensures.ordered)
