-- What is sent, and that its objects are there.
use Rattle.std.proofs.Common.{◌≡◌, List, [], ◌∷◌, sym, ap, subst, inr, ⊎_elim, ◌∙◌}
use Rattle.std.specs.Prelude.{Contains}
use Rattle.rad_base.specs.declared.names.Oid.{Oid}
use Rattle.rad_base.specs.declared.names.Rid.{Rid}
use Rattle.rad_base.proofs.Lookups.{found_among}
use Rattle.rad_base.proofs.Members.{contains_cases, contains_head, contains_nothing, map_has}
use Rattle.commit_graph.specs.declared.root.Root.{Root}
use Rattle.commit_graph.specs.Closures.{IsClosed, IsReachedName}
use Rattle.commit_graph.specs.Objects.{ObjectMap}
use Rattle.commit_graph.proofs.Growing.{closed_each}
use Rattle.keyring.specs.Contents.{Contents}
use Rattle.signed_refs.specs.Lines.{Line}
use Rattle.signed_refs.proofs.Saying.{one_said, said_by_signed}
use Rattle.fetch_wire.specs.declared.request.Request.{Request}
use Rattle.fetch_wire.specs.declared.request.Request.TheVariants as request
use Rattle.fetch_serve.specs.Good.{IsGood, Showing, line_root, line_roots}
use Rattle.fetch_serve.specs.Parts.{Adds, AllThere, AreBeyond}
use Rattle.fetch_serve.specs.Replies.{Among, IsAskedRoot, IsReachedFrom, IsSentAs, StandsFor, haves_of}

-- ---- reach from some roots, and from roots that have a property

-- what is reached from a root of a list is reached from it alone
alone : (m : ObjectMap) (roots : List Root) (oid : Oid) (P : Root → Type 0) → ((r : Root) → Contains roots r → P r) → IsReachedName m roots oid → IsReachedFrom m P oid
alone m roots oid P all h = record {
  root = h.reached.root;
  is = all h.reached.root h.reached.among;
  reached = record {
    pair = h.pair;
    reached = record { root = h.reached.root; among = contains_head h.reached.root []; path = h.reached.path; walk = h.reached.walk };
    name = h.name;
  };
}

only_one : (x y : Root) → Contains (x ∷ []) y → x ≡ y
only_one x y h = ⊎_elim (λ e. e) (λ c. absurd (contains_nothing y c)) (contains_cases x [] y h)

-- and the other way round
together : (m : ObjectMap) (roots : List Root) (oid : Oid) (P : Root → Type 0) → ((r : Root) → P r → Contains roots r) → IsReachedFrom m P oid → IsReachedName m roots oid
together m roots oid P all h = record {
  pair = h.reached.pair;
  reached = record {
    root = h.reached.reached.root;
    among = subst (λ (r : Root). Contains roots r) (only_one h.root h.reached.reached.root h.reached.reached.among) (all h.root h.is);
    path = h.reached.reached.path;
    walk = h.reached.reached.walk;
  };
  name = h.reached.name;
}

-- roots that were added to none
are_added : (P : Root → Type 0) (roots : List Root) → Adds P [] roots → (r : Root) → Contains roots r → P r
are_added P roots adds r h = ⊎_elim (λ c. absurd (contains_nothing r c)) (λ p. p) ((adds r).0 h)

all_added : (P : Root → Type 0) (roots : List Root) → Adds P [] roots → (r : Root) → P r → Contains roots r
all_added P roots adds r p = (adds r).1 (inr p)

-- names beyond the haves are those that are sent
pub sent_as : (shown : Showing) (r : Request) (asked had : List Root) (names : List Oid) → Adds (IsAskedRoot shown r) [] asked
    → Adds (Among (haves_of r) (StandsFor shown.objects)) [] had → AreBeyond shown.objects asked had names → IsSentAs shown r names
sent_as shown r asked had names ask have are = record {
  rising = are.rising;
  exact = λ oid. (
    λ h. let b = (are.exact oid).0 h in
        record {
          asked = alone shown.objects asked oid (IsAskedRoot shown r) (are_added (IsAskedRoot shown r) asked ask) b.0;
          beyond = λ k. b.1 (together shown.objects had oid (Among (haves_of r) (StandsFor shown.objects)) (all_added (Among (haves_of r) (StandsFor shown.objects)) had have) k);
        },
    λ h. (are.exact oid).1 (
      together shown.objects asked oid (IsAskedRoot shown r) (all_added (IsAskedRoot shown r) asked ask) h.asked,
      λ k. h.beyond (alone shown.objects had oid (Among (haves_of r) (StandsFor shown.objects)) (are_added (Among (haves_of r) (StandsFor shown.objects)) had have) k),
    ),
  );
}

-- ---- what good objects reach

-- an asked root of what is good is closed
asked_closed : (shown : Showing) (keyring : Contents) (rid : Rid) (r : Request) (root : Root) → IsGood shown keyring rid → IsAskedRoot shown r root → IsClosed shown.objects (root ∷ [])
asked_closed shown keyring rid (request.Begin asked haves) root good is =
    subst (λ (x : Root). IsClosed shown.objects (x ∷ [])) (sym is) good.identity.chain.closed
asked_closed shown keyring rid (request.Sigs asked haves nodes) root good is =
    let commit = is.holds.0 in
    let sound = good.sound is.item commit (found_among shown.remotes is.item commit is.holds.1) in
    subst (λ (x : Root). IsClosed shown.objects (x ∷ [])) (sym is.holds.2) sound.signed.closed
asked_closed shown keyring rid (request.Tips asked haves nodes) root good is =
    let commit = is.holds.0 in
    let said = is.holds.2 in
    let sound = good.sound is.item commit (found_among shown.remotes is.item commit is.holds.1) in
    let same : said.0 ≡ sound.refs = one_said shown.objects commit said.0 sound.refs said.1 (said_by_signed shown.objects keyring rid is.item commit sound.refs sound.signed) in
    let line : Line = said.2.item in
    let among : Contains sound.refs line = subst (λ (xs : List Line). Contains xs line) same said.2.among in
    subst (λ (x : Root). IsClosed shown.objects (x ∷ [])) (sym said.2.holds)
    ((closed_each shown.objects (line_roots sound.refs)).0 sound.closed (line_root line) (map_has line_root sound.refs line among))
asked_closed shown keyring rid request.Done root good is = absurd is

-- so what is sent is there
pub sent_there : (shown : Showing) (keyring : Contents) (rid : Rid) (r : Request) (names : List Oid) → IsGood shown keyring rid → IsSentAs shown r names → AllThere shown.objects names
sent_there shown keyring rid r names good sent oid has =
    let is = ((sent.exact oid).0 has).asked in
    let held = asked_closed shown keyring rid r is.root good is.is is.reached.pair is.reached.reached in
    ((held.fit.kind, held.fit.bytes), ap shown.objects (sym is.reached.name) ∙ held.fit.there)
