-- The first links of peers, and the least of those that some nodes have.
use Rattle.std.proofs.Common.{◌≡◌, ℕ, zero, suc, ◌+◌, ◌≤◌, Bool, true, false, cond, Option, Some, None, List, [], ◌∷◌, ◌++◌, length, refl, sym, ap, subst, ◌∙◌, arith}
use Rattle.std.specs.Prelude.{option_map, slice_get}
use Rattle.std.specs.BTreeMap.{BTreeMap, get, is_at}
use Rattle.std.specs.Option.{option_or}
use Rattle.std.proofs.lemmas.Cmp.{eq_by_cmp_equiv}
use Rattle.rad_base.proofs.NameOrder.{nid_total}
use Rattle.rad_base.proofs.Options.{some_is}
use Rattle.rad_base.specs.Order.{nid_cmp}
use Rattle.rad_base.specs.declared.names.Nid.{Nid}
use Rattle.routing.specs.Plans.{AddsLink, is_peer, link_of}
use Rattle.routing.proofs.RidOrder.{nid_itself, one_nid}

abbrev pub Peers : Type 0
Peers = List (Option Nid)

abbrev pub LinkMap : Type 0
LinkMap = BTreeMap Nid ℕ

abbrev next : Option ℕ → Option ℕ
next o = option_map (λ link. link + 1) o

-- ------ one peer more

push_next : (o : Option ℕ) (b : Bool) (n m : ℕ) → m ≡ n + 1
    → next (option_or o (cond b (Some n) None)) ≡ option_or (next o) (cond b (Some m) None)
push_next None true n m e = ap Some (sym e)
push_next None false n m e = refl
push_next (Some x) b n m e = refl

or_none : (o : Option ℕ) → option_or o None ≡ o
or_none None = refl
or_none (Some x) = refl

pub link_push : (peers : Peers) (peer : Option Nid) (node : Nid)
    → link_of (peers ++ peer ∷ []) node ≡ option_or (link_of peers node) (cond (is_peer peer node) (Some (length peers)) None)
link_push [] peer node = by_test (is_peer peer node)
  where
    by_test : (b : Bool) → cond b (Some 0) (next None) ≡ option_or None (cond b (Some 0) None)
    by_test true = refl
    by_test false = refl
link_push (x ∷ peers) peer node = by_test (link_push peers peer node) (is_peer x node)
  where
    by_test : link_of (peers ++ peer ∷ []) node ≡ option_or (link_of peers node) (cond (is_peer peer node) (Some (length peers)) None)
        → (b : Bool) → cond b (Some 0) (next (link_of (peers ++ peer ∷ []) node))
        ≡ option_or (cond b (Some 0) (next (link_of peers node))) (cond (is_peer peer node) (Some (length (x ∷ peers))) None)
    by_test later true = refl
    by_test later false = ap next later ∙ push_next (link_of peers node) (is_peer peer node) (length peers) (length (x ∷ peers)) (omega arith)

-- links have the first of each peer
abbrev pub AreLinks : Peers → LinkMap → Type 0
AreLinks peers links = (node : Nid) → get nid_cmp links node ≡ link_of peers node

-- one link more
pub links_push : (peers more : Peers) (peer : Option Nid) (link : ℕ) (old new : LinkMap) → more ≡ peers ++ peer ∷ [] → link ≡ length peers
    → AddsLink peer link old new → AreLinks peers old → AreLinks more new
links_push peers more peer link old new e count adds are = λ node.
    adds node
    ∙ ap (λ (o : Option ℕ). option_or o (cond (is_peer peer node) (Some link) None)) (are node)
    ∙ ap (λ (n : ℕ). option_or (link_of peers node) (cond (is_peer peer node) (Some n) None)) count
    ∙ sym (ap (λ (ps : Peers). link_of ps node) e ∙ link_push peers peer node)

-- a link that has no peer
pub link_without : (link : ℕ) (links : LinkMap) → AddsLink None link links links
link_without link links = λ node. sym (or_none (get nid_cmp links node))

-- a peer that has a link
pub link_known : (peer : Nid) (link known : ℕ) (links : LinkMap) → get nid_cmp links peer ≡ Some known → AddsLink (Some peer) link links links
link_known peer link known links e = λ node. by_test node (is_at (nid_cmp node) peer) refl
  where
    by_test : (node : Nid) (b : Bool) → is_at (nid_cmp node) peer ≡ b
        → get nid_cmp links node ≡ option_or (get nid_cmp links node) (cond b (Some link) None)
    by_test node true h =
        let here : get nid_cmp links node ≡ Some known = ap (get nid_cmp links) (one_nid node peer h) ∙ e in
        rw here refl
    by_test node false h = sym (or_none (get nid_cmp links node))

-- a peer at its first link
pub link_first : (peer : Nid) (link : ℕ) (old new : LinkMap) → get nid_cmp old peer ≡ None
    → ((n : Nid) → get nid_cmp new n ≡ cond (is_at (nid_cmp peer) n) (Some link) (get nid_cmp old n)) → AddsLink (Some peer) link old new
link_first peer link old new unknown put = λ node. put node ∙ by_test node (is_at (nid_cmp peer) node) refl
  where
    by_test : (node : Nid) (b : Bool) → is_at (nid_cmp peer) node ≡ b
        → cond b (Some link) (get nid_cmp old node) ≡ option_or (get nid_cmp old node) (cond (is_at (nid_cmp node) peer) (Some link) None)
    by_test node true h =
        let here : get nid_cmp old node ≡ None = ap (get nid_cmp old) (sym (one_nid peer node h)) ∙ unknown in
        let is : is_at (nid_cmp node) peer ≡ true = nid_itself node peer (one_nid peer node h) in
        rw (here, is) refl
    by_test node false h =
        let off : is_at (nid_cmp node) peer ≡ false = (eq_by_cmp_equiv nid_total).symm node peer ∙ h in
        rw off (sym (or_none (get nid_cmp old node)))

-- ------ what the first link of a peer is

link_here : (peer : Option Nid) (node : Nid) → is_peer peer node ≡ true → peer ≡ Some node
link_here None node h = cc h
link_here (Some peer) node h = ap Some (sym (one_nid node peer h))

pub link_is : (peers : Peers) (node : Nid) (link : ℕ) → link_of peers node ≡ Some link → slice_get peers link ≡ Some (Some node)
link_is [] node link e = cc e
link_is (peer ∷ peers) node link e = by_test (link_is peers node) (is_peer peer node) refl e
  where
    by_next : ((l : ℕ) → link_of peers node ≡ Some l → slice_get peers l ≡ Some (Some node)) → (o : Option ℕ) → link_of peers node ≡ o
        → next o ≡ Some link → slice_get (peer ∷ peers) link ≡ Some (Some node)
    by_next later None h f = cc f
    by_next later (Some l) h f =
        let at : suc l ≡ link = omega (arith, some_is (l + 1) link f) in
        subst (λ (x : ℕ). slice_get (peer ∷ peers) x ≡ Some (Some node)) at (later l h)

    by_test : ((l : ℕ) → link_of peers node ≡ Some l → slice_get peers l ≡ Some (Some node)) → (b : Bool) → is_peer peer node ≡ b
        → cond b (Some 0) (next (link_of peers node)) ≡ Some link → slice_get (peer ∷ peers) link ≡ Some (Some node)
    by_test later true h f =
        let at : 0 ≡ link = some_is 0 link f in
        subst (λ (x : ℕ). slice_get (peer ∷ peers) x ≡ Some (Some node)) at (ap Some (link_here peer node h))
    by_test later false h f = by_next later (link_of peers node) refl f

-- the node has a first link, which is no later than this
abbrev pub IsBefore : Peers → Nid → ℕ → Type 0
IsBefore peers node link = (first : ℕ) × (link_of peers node ≡ Some first) × (first ≤ link)

pub link_before : (peers : Peers) (node : Nid) (link : ℕ) → slice_get peers link ≡ Some (Some node) → IsBefore peers node link
link_before [] node link e = cc e
link_before (peer ∷ peers) node zero e =
    let here : peer ≡ Some node = some_is peer (Some node) e in
    let is : is_peer peer node ≡ true = rw here (nid_itself node node refl) in
    (0, rw is refl, omega arith)
link_before (peer ∷ peers) node (suc link) e = by_test (link_before peers node link e) (is_peer peer node) refl
  where
    by_test : IsBefore peers node link → (b : Bool) → is_peer peer node ≡ b → IsBefore (peer ∷ peers) node (suc link)
    by_test later true h = (0, rw h refl, omega arith)
    by_test later false h = (later.0 + 1, rw (h, later.1) refl, omega (arith, later.2))
