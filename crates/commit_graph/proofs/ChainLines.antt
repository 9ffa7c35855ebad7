-- The line of commits from a tip, and the chain that it is from its end.
use Rattle.std.proofs.Common.{◌≡◌, Bool, true, false, ◌↔◌, List, [], ◌∷◌, ◌++◌, ◌≤◌, ◌<◌, refl, sym, ap, subst, inl, inr, ◌∙◌, reverse, length, slice_index_or, arith, ◌+◌, length-append, ⊎_elim}
use Rattle.std.specs.Prelude.{Contains, map, filter, Some, None, ◌⊎◌}
use Rattle.std.proofs.lemmas.Bool.{false≢true}
use Rattle.std.proofs.lemmas.List.{map-append, reverse-append, length-map}
use Rattle.std.proofs.lemmas.List.Elements.{Contains-push_cases}
use Rattle.git_object.specs.declared.kind.Kind.{Kind}
use Rattle.git_object.specs.declared.kind.Kind.TheVariants.{Commit}
use Rattle.git_object.specs.declared.link.LinkTo.{LinkTo}
use Rattle.git_object.specs.Links.{links, IsWellFormed}
use Rattle.rad_base.proofs.Options.{one_value}
use Rattle.rad_base.specs.declared.names.Oid.{Oid}
use Rattle.rad_base.proofs.EachItem.{differ_more}
use Rattle.rad_base.proofs.Members.{contains_nothing, contains_head, contains_cases, map_has, map_from, filter_from}
use Rattle.commit_graph.specs.declared.root.Root.{Root}
use Rattle.commit_graph.specs.declared.look.Looked.{Looked}
use Rattle.commit_graph.specs.declared.look.Looked.TheVariants as looked
use Rattle.commit_graph.specs.Looks.{HasLinks, Shows}
use Rattle.commit_graph.specs.Objects.{Object, ObjectMap}
use Rattle.commit_graph.specs.Pairs.{IsLink, IsFit, as_commit, pair_of, oid_of, is_commit_link}
use Rattle.commit_graph.specs.Lists.{Adds}
use Rattle.commit_graph.specs.Walks.{Walk}
use Rattle.commit_graph.specs.Closures.{IsClosed, IsReached}
use Rattle.commit_graph.specs.Histories.{IsParent, InHistory, CoversHistory}
use Rattle.rad_base.specs.Lists.{AllDiffer}
use Rattle.commit_graph.specs.Chains.{HasParents, IsOnlyParent, IsChain, IsLine, IsReturn, linked_commits}
use Rattle.commit_graph.proofs.PairSteps.{commit_kind, unfit_apart}
use Rattle.commit_graph.proofs.HistoryWalks.{history_itself}
use Rattle.commit_graph.proofs.Repeats.{length_within}
use Rattle.commit_graph.proofs.Walked.{walk_push, reached_root, reached_step}

-- a line goes on by the only parent of its end
pub line_more : (m : ObjectMap) (from : Oid) (commits : List Oid) (oid next : Oid)
    → IsLine m from commits oid → IsOnlyParent m next oid → IsLine m from (commits ++ oid ∷ []) next
line_more m from [] oid next e h = (e, (next, h, refl))
line_more m from (c ∷ cs) oid next l h = (l.0, (l.1.0, l.1.1, line_more m l.1.0 cs oid next l.1.2 h))

-- a line read from its end is a walk over children
pub line_back : (m : ObjectMap) (from : Oid) (commits : List Oid) (root : Oid)
    → IsLine m from commits root → Walk (IsOnlyParent m) root (reverse commits) from
line_back m from [] root e = sym e
line_back m from (c ∷ cs) root l =
    subst (λ (xs : List Oid). Walk (IsOnlyParent m) root xs from) (sym (reverse-append (c ∷ []) cs))
    (subst (λ (x : Oid). Walk (IsOnlyParent m) root (reverse cs ++ c ∷ []) x) (sym l.0)
    (walk_push (IsOnlyParent m) root (reverse cs) l.1.0 c (line_back m l.1.0 cs root l.1.2) l.1.1))

-- a list of one item, and of none
pub one_item : {X : Type 0} (xs : List X) (d : X) → 1 ≤ length xs → length xs < 2
    → xs ≡ slice_index_or xs 0 d ∷ []
one_item [] d some few = absurd (omega arith)
one_item (x ∷ []) d some few = refl
one_item (x ∷ y ∷ ys) d some few = absurd (omega arith)

pub no_item : {X : Type 0} (xs : List X) → length xs < 1 → xs ≡ []
no_item [] few = refl
no_item (x ∷ xs) few = absurd (omega arith)

-- what the list lacked was added
pub added_new : {X : Type 0} {old new : List X} {x y : X} → Adds old x new → x ≡ y
    → (Contains old y → ⊥) → new ≡ old ++ y ∷ []
added_new {X} {old} (inl h) e lacks = absurd (lacks (subst (λ (z : X). Contains old z) e h.0))
added_new {X} {old} (inr h) e lacks = h.1 ∙ ap (λ (z : X). old ++ z ∷ []) e

names_reversed : (commits : List Oid)
    → map oid_of (reverse (map as_commit commits)) ≡ reverse commits
names_reversed [] = refl
names_reversed (c ∷ cs) =
    ap (map oid_of) (reverse-append (as_commit c ∷ []) (map as_commit cs))
    ∙ map-append oid_of (reverse (map as_commit cs)) (as_commit c ∷ [])
    ∙ ap (λ (xs : List Oid). xs ++ c ∷ []) (names_reversed cs)
    ∙ sym (reverse-append (c ∷ []) cs)

-- the pairs are those of the commits on the way from the tip to one that is not among them
pub record Line (m : ObjectMap) (tip : Oid) (pairs : List Root) (oid : Oid) : Type 0 where
  pub commits : List Oid
  pub are : pairs ≡ map as_commit commits
  pub walked : IsLine m tip commits oid
  pub once : AllDiffer commits

-- at the start
pub line_start : (m : ObjectMap) (tip : Oid) → Line m tip [] tip
line_start m tip = record { commits = []; are = refl; walked = refl; once = tt }

-- over one turn
pub line_turn : {m : ObjectMap} {tip oid next : Oid} {pairs pairs' : List Root}
    → Line m tip pairs oid → (Contains pairs (as_commit oid) → ⊥)
    → pairs' ≡ pairs ++ as_commit oid ∷ [] → IsOnlyParent m next oid → Line m tip pairs' next
line_turn {m} {tip} {oid} {next} {pairs} h lacks e only = record {
  commits = h.commits ++ oid ∷ [];
  are = e ∙ ap (λ (xs : List Root). xs ++ as_commit oid ∷ []) h.are ∙ sym (map-append as_commit h.commits (oid ∷ []));
  walked = line_more m tip h.commits oid next h.walked only;
  once = differ_more h.commits oid h.once
      (λ c. lacks (subst (λ (xs : List Root). Contains xs (as_commit oid)) (sym h.are) (map_has as_commit h.commits oid c)));
}

-- the end of the line stands on it
pub line_returns : {m : ObjectMap} {tip oid : Oid} {pairs : List Root} → Line m tip pairs oid
    → Contains pairs (as_commit oid) → IsReturn m tip oid
line_returns {m} {tip} {oid} {pairs} h c =
    let at = map_from as_commit h.commits (as_commit oid) (subst (λ (xs : List Root). Contains xs (as_commit oid)) h.are c) in
    record {
      line = h.commits;
      walked = h.walked;
      among = subst (λ (x : Oid). Contains h.commits x) (ap oid_of at.2) at.1;
      once = h.once;
    }

-- the end of the line has no parent
pub line_chain : {m : ObjectMap} {tip oid : Oid} {pairs pairs' : List Root} {names : List Oid}
    → Line m tip pairs oid → pairs' ≡ pairs ++ as_commit oid ∷ []
    → names ≡ map oid_of (reverse pairs') → HasParents m oid [] → IsChain m names tip
line_chain {m} {tip} {oid} {pairs} {pairs'} {names} h e n first =
    let are : names ≡ oid ∷ reverse h.commits =
    n ∙ ap (λ (xs : List Root). map oid_of (reverse xs)) e
    ∙ ap (map oid_of) (reverse-append pairs (as_commit oid ∷ []))
    ∙ ap (λ (xs : List Root). oid ∷ map oid_of (reverse xs)) h.are
    ∙ ap (λ (xs : List Oid). oid ∷ xs) (names_reversed h.commits) in
    subst (λ (xs : List Oid). IsChain m xs tip) (sym are) (first, line_back m tip h.commits oid h.walked)

-- an only parent is a link
only_link : (m : ObjectMap) (child parent : Oid) → IsOnlyParent m parent child
    → IsLink m (as_commit child) (as_commit parent)
only_link m child parent h =
    let here : Contains (linked_commits (links Commit h.bytes)) parent = subst (λ (xs : List Oid). Contains xs parent) h.are (contains_head parent []) in
    let image = map_from (λ (link : LinkTo). link.oid) (filter is_commit_link (links Commit h.bytes)) parent here in
    let kept = filter_from is_commit_link (links Commit h.bytes) image.0 image.1 in
    let same : pair_of image.0 ≡ as_commit parent =
    ap (λ (kind : Kind). pair_of (record { oid = image.0.oid; kind = kind })) (commit_kind image.0.kind kept.1) ∙ ap as_commit image.2 in
    record {
      fit = record { kind = Commit; bytes = h.bytes; there = h.there; expected = refl; formed = h.formed };
      link = subst (λ (pair : Root). Contains (map pair_of (links Commit h.bytes)) pair) same (map_has pair_of (links Commit h.bytes) image.0 kept.0);
    }

pub line_reached : (m : ObjectMap) (roots : List Root) (from : Oid) (commits : List Oid) (end : Oid)
    → IsReached m roots (as_commit from) → IsLine m from commits end
    → IsReached m roots (as_commit end)
line_reached m roots from [] end r e = subst (λ (x : Oid). IsReached m roots (as_commit x)) e r
line_reached m roots from (c ∷ cs) end r l =
    line_reached m roots l.1.0 cs end
    (reached_step (as_commit c) (as_commit l.1.0) (subst (λ (x : Oid). IsReached m roots (as_commit x)) l.0 r) (only_link m c l.1.0 l.1.1))
    l.1.2

-- what a test did not find is not there
pub not_there : {X : Type 0} (xs : List X) {x y : X} {found : Bool} → found ≡ false
    → (found ≡ true) ↔ Contains xs x → x ≡ y → Contains xs y → ⊥
not_there xs e is same has = false≢true (sym e ∙ is.1 (subst (Contains xs) (sym same) has))

-- a line's commits, and its end, lie in the history of its tip
line_history : (m : ObjectMap) (tip from : Oid) (commits : List Oid) (end : Oid)
    → InHistory m from tip → IsLine m from commits end → (oid : Oid) → Contains commits oid
    → InHistory m oid tip
line_history m tip from [] end r l oid c = absurd (contains_nothing oid c)
line_history m tip from (x ∷ xs) end r l oid c =
    let here : InHistory m x tip = subst (λ (y : Oid). InHistory m y tip) l.0 r in
    let step : IsParent m (as_commit x) (as_commit l.1.0) = (only_link m x l.1.0 l.1.1, refl) in
    ⊎_elim (λ a. subst (λ (y : Oid). InHistory m y tip) a here)
    (λ a. line_history m tip l.1.0 xs end (reached_step (as_commit x) (as_commit l.1.0) here step) l.1.2 oid a) (contains_cases x xs oid c)

line_end : (m : ObjectMap) (tip from : Oid) (commits : List Oid) (end : Oid) → InHistory m from tip
    → IsLine m from commits end → InHistory m end tip
line_end m tip from [] end r l = subst (λ (y : Oid). InHistory m y tip) l r
line_end m tip from (x ∷ xs) end r l =
    let here : InHistory m x tip = subst (λ (y : Oid). InHistory m y tip) l.0 r in
    line_end m tip l.1.0 xs end (reached_step (as_commit x) (as_commit l.1.0) here (only_link m x l.1.0 l.1.1, refl)) l.1.2

-- so a line is no longer than the history
pub line_within : {m : ObjectMap} {tip oid : Oid} {pairs : List Root} (all : List Oid)
    → Line m tip pairs oid → CoversHistory m tip all → length pairs ≤ length all
line_within {m} {tip} {oid} all h cover =
    omega (
      arith,
      ap length h.are,
      length-map h.commits as_commit,
      length_within h.commits all h.once (λ x c. cover x (line_history m tip tip h.commits oid (history_itself m tip) h.walked x c)),
    )

-- and with its end, where it lacks that
pub line_within_more : {m : ObjectMap} {tip oid : Oid} {pairs : List Root} (all : List Oid)
    → Line m tip pairs oid → (Contains pairs (as_commit oid) → ⊥) → CoversHistory m tip all
    → length pairs + 1 ≤ length all
line_within_more {m} {tip} {oid} {pairs} all h lacks cover =
    let once : AllDiffer (h.commits ++ oid ∷ []) = differ_more h.commits oid h.once
    (λ c. lacks (subst (λ (xs : List Root). Contains xs (as_commit oid)) (sym h.are) (map_has as_commit h.commits oid c))) in
    let itself = history_itself m tip in
    let each : (x : Oid) → Contains (h.commits ++ oid ∷ []) x → Contains all x = λ x c. cover x
    (⊎_elim (λ a. line_history m tip tip h.commits oid itself h.walked x a)
    (λ a. subst (λ (y : Oid). InHistory m y tip) a (line_end m tip tip h.commits oid itself h.walked)) (Contains-push_cases h.commits oid x c)) in
    omega (arith, ap length h.are, length-map h.commits as_commit, length-append h.commits (oid ∷ []), length_within (h.commits ++ oid ∷ []) all once each)

-- what was read are the parents of the line's end, where the tip is closed
pub line_parents : {m : ObjectMap} {tip oid : Oid} {pairs : List Root} {items : List Oid}
    → IsClosed m (as_commit tip ∷ []) → Line m tip pairs oid
    → ((each : List Oid) → HasParents m oid each → each ≡ items) → HasParents m oid items
line_parents {m} {tip} {oid} closed h told =
    let held = closed (as_commit oid) (line_reached m (as_commit tip ∷ []) tip h.commits oid (reached_root (as_commit tip) (contains_head (as_commit tip) [])) h.walked) in
    let fit = held.fit in
    let kind : fit.kind ≡ Commit = sym fit.expected in
    let has : HasParents m oid (linked_commits (links Commit fit.bytes)) = record {
      bytes = fit.bytes;
      there = fit.there ∙ ap (λ (k : Kind). Some (k, fit.bytes)) kind;
      formed = subst (λ (k : Kind). IsWellFormed k fit.bytes) kind fit.formed;
      are = refl;
    } in
    subst (HasParents m oid) (told (linked_commits (links Commit fit.bytes)) has) has

-- the parents that were read are those of the commit
pub parents_read : {m : ObjectMap} {p : Root} {oid : Oid} {found : List LinkTo} {items : List Oid}
    → HasLinks m p found → p ≡ as_commit oid → items ≡ linked_commits found → (each : List Oid)
    → HasParents m oid each → each ≡ items
parents_read {m} {p} {oid} {found} h e are each has =
    let there : m oid ≡ Some (h.fit.kind, h.fit.bytes) = ap (λ (q : Root). m q.oid) (sym e) ∙ h.fit.there in
    let same : (h.fit.kind, h.fit.bytes) ≡ (Commit, has.bytes) = one_value there has.there in
    has.are ∙ ap (λ (o : Object). linked_commits (links o.0 o.1)) (sym same) ∙ ap linked_commits (sym h.are) ∙ sym are

-- a pair that is missing or unfit is no commit that has parents
pub parents_none : {m : ObjectMap} {p : Root} {oid : Oid} {shown : Looked} → Shows m p shown
    → (shown ≡ looked.Missing) ⊎ (shown ≡ looked.Unfit) → p ≡ as_commit oid → (each : List Oid)
    → HasParents m oid each → ⊥
parents_none {m} {p} {oid} s (inl e) same each has =
    let missing : m p.oid ≡ None = subst (Shows m p) e s in
    cc (missing, ap (λ (q : Root). m q.oid) same, has.there)
parents_none {m} {p} {oid} s (inr e) same each has =
    unfit_apart (subst (Shows m p) e s) (subst (IsFit m) (sym same) (record { kind = Commit; bytes = has.bytes; there = has.there; expected = refl; formed = has.formed }))
