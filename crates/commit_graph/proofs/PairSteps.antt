-- A pair is missing, unfit or fit, and only a fit one has links.
use Rattle.std.proofs.Common.{◌≡◌, ℕ, true, List, [], Some, Result, Ok, Err, inl, inr, ◌⊎◌, refl, sym, ap, subst, ◌∙◌}
use Rattle.std.specs.Prelude.{Contains, map, filter, IfOk}
use Rattle.git_object.specs.declared.kind.Kind.{Kind}
use Rattle.git_object.specs.declared.kind.Kind.TheVariants.{Blob, Tree, Commit, Tag}
use Rattle.git_object.specs.declared.link.LinkTo.{LinkTo}
use Rattle.git_object.specs.Links.{links, IsWellFormed}
use Rattle.commit_graph.specs.declared.root.Root.{Root}
use Rattle.commit_graph.specs.declared.look.Looked.{Looked}
use Rattle.commit_graph.specs.declared.look.Looked.TheVariants as looked
use Rattle.commit_graph.specs.Objects.{Object, ObjectMap}
use Rattle.commit_graph.specs.Pairs.{Accepts, IsMissing, IsFit, IsUnfit, IsLink, pair_of, is_commit_kind, is_commit_link}
use Rattle.commit_graph.specs.Lists.{Extends, Follows}
use Rattle.commit_graph.specs.Histories.{IsParent}
use Rattle.commit_graph.specs.Looks.{HasLinks, Reads, Shows}
use Rattle.rad_base.proofs.Options.{one_value}
use Rattle.rad_base.proofs.Members.{contains_nothing, filter_has, filter_from, map_has, map_from}
use Rattle.commit_graph.proofs.Adding.{extends_same}

-- a pair without an object is not fit
pub missing_unfit : {objects : ObjectMap} {p : Root} → IsMissing objects p → IsFit objects p → ⊥
missing_unfit h f = cc (h, f.there)

-- nor is it unfit
pub missing_apart : {objects : ObjectMap} {p : Root} → IsMissing objects p → IsUnfit objects p → ⊥
missing_apart h f = cc (h, f.there)

-- an unfit pair is not fit
pub unfit_apart : {objects : ObjectMap} {p : Root} → IsUnfit objects p → IsFit objects p → ⊥
unfit_apart {objects} {p} h f =
    let same : (f.kind, f.bytes) ≡ (h.kind, h.bytes) = one_value f.there h.there in
    h.unfit
    (subst (Accepts p.kind) (ap (λ (o : Object). o.0) same) f.expected)
    (subst (λ (o : Object). IsWellFormed o.0 o.1) same f.formed)

-- the links of a pair are those that were read
pub links_all : {objects : ObjectMap} {p : Root} {found : List LinkTo} → HasLinks objects p found
    → (q : Root) → IsLink objects p q → Contains (map pair_of found) q
links_all {objects} {p} {found} h q l =
    let same : (l.fit.kind, l.fit.bytes) ≡ (h.fit.kind, h.fit.bytes) = one_value l.fit.there h.fit.there in
    subst (λ (ls : List LinkTo). Contains (map pair_of ls) q)
    (ap (λ (o : Object). links o.0 o.1) same ∙ sym h.are) l.link

-- and no others
pub links_only : {objects : ObjectMap} {p : Root} {found : List LinkTo} → HasLinks objects p found
    → (q : Root) → Contains (map pair_of found) q → IsLink objects p q
links_only {objects} {p} {found} h q c = record {
  fit = h.fit;
  link = subst (λ (ls : List LinkTo). Contains (map pair_of ls) q) h.are c;
}

-- where nothing is a step, nothing is added
pub nothing_follows : {X : Type 0} {Step : X → X → Type 0} {x : X} {old new : List X}
    → ((y : X) → Step x y → ⊥) → new ≡ old → Follows Step x old new
nothing_follows h e = record {
  steps = [];
  all = λ y s. absurd (h y s);
  only = λ y c. absurd (contains_nothing y c);
  grown = extends_same e;
}

-- a pair that is missing or unfit has no links
pub missing_ends : {objects : ObjectMap} {p : Root} → IsMissing objects p → (q : Root)
    → IsLink objects p q → ⊥
missing_ends h q l = missing_unfit h l.fit

pub unfit_ends : {objects : ObjectMap} {p : Root} → IsUnfit objects p → (q : Root)
    → IsLink objects p q → ⊥
unfit_ends h q l = unfit_apart h l.fit

-- the links that were read are added
pub links_follow : {objects : ObjectMap} {p : Root} {found : List LinkTo} {old new : List Root}
    → HasLinks objects p found → Extends old (map pair_of found) new
    → Follows (IsLink objects) p old new
links_follow {found = found} h grown = record {
  steps = map pair_of found;
  all = links_all h;
  only = links_only h;
  grown = grown;
}

-- a kind that passes the test is a commit
pub commit_kind : (kind : Kind) → is_commit_kind kind ≡ true → kind ≡ Commit
commit_kind Blob e = cc e
commit_kind Tree e = cc e
commit_kind Commit e = refl
commit_kind Tag e = cc e

-- those to commits are added
pub parents_follow : {objects : ObjectMap} {p : Root} {found : List LinkTo} {old new : List Root}
    → HasLinks objects p found → Extends old (map pair_of (filter is_commit_link found)) new
    → Follows (IsParent objects) p old new
parents_follow {objects} {p} {found} h grown = record {
  steps = map pair_of (filter is_commit_link found);
  all = λ q s.
      let link = map_from pair_of found q (links_all h q s.0) in
      let kind : link.0.kind ≡ Commit = cc (ap (λ (r : Root). r.kind) link.2, s.1) in
      subst (λ (r : Root). Contains (map pair_of (filter is_commit_link found)) r) link.2
      (map_has pair_of (filter is_commit_link found) link.0 (filter_has is_commit_link found link.0 link.1 (ap is_commit_kind kind)));
  only = λ q c.
      let link = map_from pair_of (filter is_commit_link found) q c in
      let kept = filter_from is_commit_link found link.0 link.1 in (
        links_only h q (subst (λ (r : Root). Contains (map pair_of found) r) link.2 (map_has pair_of found link.0 kept.0)),
        sym (ap (λ (r : Root). r.kind) link.2) ∙ ap Some (commit_kind link.0.kind kept.1),
      );
  grown = grown;
}

-- what was read of an object that is there, of the expected kind and well formed
pub read_fit : (objects : ObjectMap) (p : Root) (kind : Kind) (bytes : List ℕ) {found shown : List LinkTo}
    → objects p.oid ≡ Some (kind, bytes) → Accepts p.kind kind → Reads kind bytes found true
    → shown ≡ found → HasLinks objects p shown
read_fit objects p kind bytes there expected h same =
    record { fit = record { kind = kind; bytes = bytes; there = there; expected = expected; formed = h.0 }; are = same ∙ h.1 }

-- what holds of each value of a kind holds of that of a result
pub where_ok : {T E : Type 0} {P Q : T → Type 0} → ((x : T) → P x → Q x) → (result : Result T E)
    → IfOk result P → IfOk result Q
where_ok more (Ok x) h = more x h
where_ok more (Err e) h = tt

-- a pair that is missing or unfit lets nothing follow
pub ends_follow : {objects : ObjectMap} {p : Root} {shown : Looked} {old new : List Root}
    → Shows objects p shown → (shown ≡ looked.Missing) ⊎ (shown ≡ looked.Unfit) → new ≡ old
    → Follows (IsLink objects) p old new
ends_follow {objects} {p} s (inl e) same = nothing_follows (missing_ends (subst (Shows objects p) e s)) same
ends_follow {objects} {p} s (inr e) same = nothing_follows (unfit_ends (subst (Shows objects p) e s)) same

-- nor have such pairs parents
pub ends_parents : {objects : ObjectMap} {p : Root} {shown : Looked} {old new : List Root}
    → Shows objects p shown → (shown ≡ looked.Missing) ⊎ (shown ≡ looked.Unfit) → new ≡ old
    → Follows (IsParent objects) p old new
ends_parents {objects} {p} s (inl e) same = nothing_follows (λ q l. missing_ends (subst (Shows objects p) e s) q l.0) same
ends_parents {objects} {p} s (inr e) same = nothing_follows (λ q l. unfit_ends (subst (Shows objects p) e s) q l.0) same
