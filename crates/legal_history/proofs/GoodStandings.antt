-- What a legal history makes of a repository is good, and each commit of a remote advances from every earlier one.
use Rattle.std.proofs.Common.{◌≡◌, ◌≢◌, Bool, true, false, List, [], ◌∷◌, ◌++◌, Option, None, Some, ◌⊎◌, inl, inr, refl, sym, ap, subst, ⊎_elim, ◌∙◌, append_assoc}
use Rattle.std.proofs.lemmas.List.{append-nil}
use Rattle.std.specs.Prelude.{Contains, if◌then◌else◌}
use Rattle.std.specs.List.{AllByRecursion}
use Rattle.std.specs.Option.{option_or}
use Rattle.rad_base.specs.declared.names.Nid.{Nid}
use Rattle.rad_base.specs.declared.names.Oid.{Oid}
use Rattle.rad_base.specs.declared.names.Rid.{Rid}
use Rattle.rad_base.specs.Order.{IsRising, commit_of, rid_cmp}
use Rattle.rad_base.proofs.EachItem.{each_more}
use Rattle.rad_base.proofs.Lookups.{found_among}
use Rattle.rad_base.proofs.Members.{contains_cases, contains_head, contains_nothing, contains_one, contains_tail}
use Rattle.rad_base.proofs.NameOrder.{equal_from_is_eq, oid_exact}
use Rattle.rad_base.proofs.Options.{not_nothing, some_is}
use Rattle.keyring.specs.Contents.{Contents}
use Rattle.commit_graph.specs.Closures.{IsClosedCommit}
use Rattle.commit_graph.specs.InMemory.{objects_in}
use Rattle.commit_graph.specs.Objects.{Grows, Object, ObjectMap}
use Rattle.commit_graph.specs.Pairs.{as_commit}
use Rattle.commit_graph.proofs.Growing.{closed_grows, history_grows, history_was}
use Rattle.commit_graph.proofs.HistoryWalks.{history_along}
use Rattle.repo_entries.specs.Items.{Item, claim, heard, install, missed, put, refused}
use Rattle.repo_slice.specs.Good.{Advances, IsGood}
use Rattle.repo_slice.specs.Standing.{Replaces, replaced}
use Rattle.repo_slice.specs.Verdicts.{Allows, IsIdOutcome, IsNextState}
use Rattle.repo_slice.specs.declared.scope.Scope.TheVariants.{All}
use Rattle.repo_slice.specs.declared.state.State.{State}
use Rattle.repo_slice.specs.declared.verdict.IdOutcome.{IdOutcome}
use Rattle.repo_slice.specs.declared.verdict.IdOutcome.TheVariants as ids
use Rattle.repo_slice.proofs.GrowingSlices.{good_grows}
use Rattle.repo_slice.proofs.NextStates.{next_good, replaced_advances}
use Rattle.repo_slice.proofs.Replacing.{replaced_replaces}
use Rattle.legal_history.specs.Advancing.{AdvanceAll, commits_of, with_commit}
use Rattle.legal_history.specs.Histories.{Lawful, Legal, LegalFrom, MayInstall}
use Rattle.legal_history.specs.Replays.{Standing, after_install, after_item, after_items, after_put, is_same, nothing_stands, replay, state_in, with_objects}

-- ---- replays

-- entries behind entries
after-append : (rid : Rid) (s : Standing) (these those : List Item) → after_items rid s (these ++ those) ≡ after_items rid (after_items rid s these) those
after-append rid s [] those = refl
after-append rid s (item ∷ items) those = after-append rid (after_item rid s item) items those

-- one entry behind others
pub replay_more : (rid : Rid) (before : List Item) (item : Item) → replay rid (before ++ item ∷ []) ≡ after_item rid (replay rid before) item
replay_more rid before item = after-append rid nothing_stands before (item ∷ [])

-- names of repositories that are the same are one
pub same_is : (a b : Rid) → is_same a b ≡ true → a ≡ b
same_is a b e = (λ i. record { 0 = oid_exact a.0 b.0 (equal_from_is_eq (rid_cmp a b) e) i })

-- a name that is held keeps its object
pub put_grows : (objects : ObjectMap) (batch : List Object) → Grows objects (with_objects objects batch)
put_grows objects batch oid object there = ap (λ (o : Option Object). option_or o (objects_in batch oid)) there

-- ---- good standings

-- what stands is good, and the keys of its remotes rise
pub record IsGoodStanding (keyring : Contents) (rid : Rid) (s : Standing) : Type 0 where
  pub good : IsGood s.objects keyring (state_in rid s)
  pub rising : IsRising s.remotes

nothing_is_good : (keyring : Contents) (rid : Rid) → IsGoodStanding keyring rid nothing_stands
nothing_is_good keyring rid = record { good = inl (refl, refl); rising = tt }

put_is_good : (keyring : Contents) (rid : Rid) (s : Standing) (batch : List Object) → IsGoodStanding keyring rid s → IsGoodStanding keyring rid (after_put batch s)
put_is_good keyring rid s batch h = record { good = good_grows (put_grows s.objects batch) keyring (state_in rid s) h.good; rising = h.rising }

-- the identity that is installed
next_is : (objects : ObjectMap) (state : State) (id next : Oid) (outcome : IdOutcome) → outcome ≢ ids.Stale → IsIdOutcome objects state id outcome next → next ≡ id
next_is objects state id next ids.First fresh is = is.1
next_is objects state id next ids.Same fresh is = is.1
next_is objects state id next ids.Stale fresh is = absurd (fresh refl)
next_is objects state id next ids.Advanced fresh is = is.2

-- the state once an install stands
installed_state : (keyring : Contents) (rid : Rid) (s : Standing) (id : Oid) (remotes : List (Nid × Oid)) → IsRising s.remotes → IsRising remotes
    → (a : Allows s.objects keyring (state_in rid s) id remotes) → IsNextState (state_in rid s) a.judged (state_in rid (after_install id remotes s))
installed_state keyring rid s id remotes r up a = record {
  rid = refl;
  id = ap Some (sym (next_is s.objects (state_in rid s) id a.judged.next_id a.judged.id_outcome a.fresh a.is.1.identity));
  remotes = subst (λ (l : List (Nid × Oid)). Replaces s.remotes l (replaced s.remotes remotes)) (sym a.same) (replaced_replaces s.remotes remotes r up);
}

install_is_good : (keyring : Contents) (rid : Rid) (s : Standing) (id : Oid) (remotes : List (Nid × Oid)) → IsGoodStanding keyring rid s → IsRising remotes
    → Allows s.objects keyring (state_in rid s) id remotes → IsGoodStanding keyring rid (after_install id remotes s)
install_is_good keyring rid s id remotes h up a = record {
  good = next_good s.objects keyring (state_in rid s) (record { id = id; remotes = remotes }) All a.judged (state_in rid (after_install id remotes s)) h.good a.is
      (installed_state keyring rid s id remotes h.rising up a);
  rising = (replaced_replaces s.remotes remotes h.rising up).rising;
}

-- an install that is lawful, of this repository
allowed_here : (keyring : Contents) (before : List Item) (rid of : Rid) (id : Oid) (remotes : List (Nid × Oid)) → rid ≡ of → MayInstall keyring before of id remotes
    → Allows (replay rid before).objects keyring (state_in rid (replay rid before)) id remotes
allowed_here keyring before rid of id remotes e may =
    subst (λ (r : Rid). Allows (replay r before).objects keyring (state_in r (replay r before)) id remotes) (sym e) may.allowed

-- a lawful entry keeps a good standing
item_is_good : (keyring : Contents) (rid : Rid) (before : List Item) (item : Item) → IsGoodStanding keyring rid (replay rid before) → Lawful keyring before item
    → IsGoodStanding keyring rid (after_item rid (replay rid before) item)
item_is_good keyring rid before (claim of caller) h l = h
item_is_good keyring rid before (put of batch caller) h l = by_name (is_same rid of)
  where
    by_name : (b : Bool) → IsGoodStanding keyring rid (if b then after_put batch (replay rid before) else replay rid before)
    by_name true = put_is_good keyring rid (replay rid before) batch h
    by_name false = h
item_is_good keyring rid before (install of id remotes caller) h l = by_name (is_same rid of) refl
  where
    by_name : (b : Bool) → is_same rid of ≡ b → IsGoodStanding keyring rid (if b then after_install id remotes (replay rid before) else replay rid before)
    by_name true e = install_is_good keyring rid (replay rid before) id remotes h l.0.rising (allowed_here keyring before rid of id remotes (same_is rid of e) l.0)
    by_name false e = h
item_is_good keyring rid before (heard message caller) h l = h
item_is_good keyring rid before (missed of left caller) h l = h
item_is_good keyring rid before (refused of why caller) h l = h

-- so do legal entries
good_from : (keyring : Contents) (rid : Rid) (before items : List Item) → IsGoodStanding keyring rid (replay rid before) → LegalFrom keyring before items
    → IsGoodStanding keyring rid (replay rid (before ++ items))
good_from keyring rid before [] h legal = subst (λ (l : List Item). IsGoodStanding keyring rid (replay rid l)) (sym (append-nil before)) h
good_from keyring rid before (item ∷ items) h legal =
    subst (λ (l : List Item). IsGoodStanding keyring rid (replay rid l)) (append_assoc before (item ∷ []) items)
    (good_from keyring rid (before ++ item ∷ []) items
    (subst (λ (s : Standing). IsGoodStanding keyring rid s) (sym (replay_more rid before item)) (item_is_good keyring rid before item h legal.0)) legal.1)

-- what a legal history makes of a repository is good
pub legal_is_good : (keyring : Contents) (rid : Rid) (items : List Item) → Legal keyring items → IsGoodStanding keyring rid (replay rid items)
legal_is_good keyring rid items legal = good_from keyring rid [] items (nothing_is_good keyring rid) legal

-- ---- commits of a remote

-- the last of some commits
abbrev last_in : List Oid → Option Oid
last_in [] = None
last_in (x ∷ []) = Some x
last_in (x ∷ y ∷ ys) = last_in (y ∷ ys)

last_more : (xs : List Oid) (x : Oid) → last_in (xs ++ x ∷ []) ≡ Some x
last_more [] x = refl
last_more (y ∷ []) x = refl
last_more (y ∷ z ∷ zs) x = last_more (z ∷ zs) x

-- the last is one of them
last_among : (xs : List Oid) (x : Oid) → last_in xs ≡ Some x → Contains xs x
last_among [] x e = cc e
last_among (y ∷ []) x e = subst (λ (o : Oid). Contains (y ∷ []) o) (some_is y x e) (contains_head y [])
last_among (y ∷ z ∷ zs) x e = contains_tail y (z ∷ zs) x (last_among (z ∷ zs) x e)

-- an item of a list with one more is the one or stood before
push_cases : (xs : List Oid) (x y : Oid) → Contains (xs ++ x ∷ []) y → Contains xs y ⊎ (x ≡ y)
push_cases [] x y h = inr (contains_one x y h)
push_cases (z ∷ zs) x y h =
    ⊎_elim
    (λ e. inl (subst (λ (o : Oid). Contains (z ∷ zs) o) e (contains_head z zs)))
    (λ later. ⊎_elim (λ k. inl (contains_tail z zs y k)) (λ e. inr e) (push_cases zs x y later))
    (contains_cases z (zs ++ x ∷ []) y h)

-- what advances from what advances does so from the first
advances_on : (m : ObjectMap) (a b c : Oid) → Advances m a b → Advances m b c → Advances m a c
advances_on m a b c ab bc = (history_along m a b c ab.0 bc.0, λ back. bc.1 (history_along m c a b back ab.0))

-- one more commit, which advances from the last
advance_more : (m : ObjectMap) (commits : List Oid) (old new : Oid) → AdvanceAll m commits → last_in commits ≡ Some old → Advances m old new
    → AdvanceAll m (commits ++ new ∷ [])
advance_more m [] old new all last on = cc last
advance_more m (x ∷ []) old new all last on =
    let same : old ≡ x = sym (some_is x old last) in (
      λ later has. subst (λ (o : Oid). Advances m x o) (contains_one new later has) (subst (λ (o : Oid). Advances m o new) same on),
      (λ later none. absurd (contains_nothing later none), tt),
    )
advance_more m (x ∷ y ∷ ys) old new all last on = (
  λ later has. ⊎_elim
      (λ before. all.0 later before)
      (λ e. subst (λ (o : Oid). Advances m x o) e (advances_on m x old new (all.0 old (last_among (y ∷ ys) old last)) on))
      (push_cases (y ∷ ys) new later has),
  advance_more m (y ∷ ys) old new all.1 last on,
)

-- the commits of a remote so far: each advances from every earlier one and is closed, and the last is the one that stands
record IsTraced (m : ObjectMap) (stored : Option Oid) (commits : List Oid) : Type 0 where
  advance : AdvanceAll m commits
  closed : AllByRecursion (IsClosedCommit m) commits
  last : last_in commits ≡ stored

-- commits advance on as objects are added
advance_grows : (old new : ObjectMap) → Grows old new → (commits : List Oid) → AllByRecursion (IsClosedCommit old) commits → AdvanceAll old commits → AdvanceAll new commits
advance_grows old new grows [] closed all = tt
advance_grows old new grows (x ∷ xs) closed all = (
  λ later has. (
    history_grows grows x later (all.0 later has).0,
    λ back. (all.0 later has).1 (history_was grows later x closed.0 back),
  ),
  advance_grows old new grows xs closed.1 all.1,
)

closed_grows_all : (old new : ObjectMap) → Grows old new → (commits : List Oid) → AllByRecursion (IsClosedCommit old) commits → AllByRecursion (IsClosedCommit new) commits
closed_grows_all old new grows [] closed = tt
closed_grows_all old new grows (x ∷ xs) closed = (closed_grows grows (as_commit x ∷ []) closed.0, closed_grows_all old new grows xs closed.1)

traced_grows : (old new : ObjectMap) (stored : Option Oid) (commits : List Oid) → Grows old new → IsTraced old stored commits → IsTraced new stored commits
traced_grows old new stored commits grows t = record {
  advance = advance_grows old new grows commits t.closed t.advance;
  closed = closed_grows_all old new grows commits t.closed;
  last = t.last;
}

-- the commits of a history with one entry more
commits-append : (rid : Rid) (node : Nid) (these those : List Item) → commits_of rid node (these ++ those) ≡ commits_of rid node these ++ commits_of rid node those
commits-append rid node [] those = refl
commits-append rid node (claim of caller ∷ items) those = commits-append rid node items those
commits-append rid node (put of batch caller ∷ items) those = commits-append rid node items those
commits-append rid node (install of id remotes caller ∷ items) those = by_name (commits-append rid node items those) (is_same rid of)
  where
    with_more : commits_of rid node (items ++ those) ≡ commits_of rid node items ++ commits_of rid node those → (o : Option Oid)
        → with_commit o (commits_of rid node (items ++ those)) ≡ with_commit o (commits_of rid node items) ++ commits_of rid node those
    with_more later None = later
    with_more later (Some x) = ap (λ (l : List Oid). x ∷ l) later

    by_name : commits_of rid node (items ++ those) ≡ commits_of rid node items ++ commits_of rid node those → (b : Bool)
        → (if b then with_commit (commit_of remotes node) (commits_of rid node (items ++ those)) else commits_of rid node (items ++ those))
        ≡ (if b then with_commit (commit_of remotes node) (commits_of rid node items) else commits_of rid node items) ++ commits_of rid node those
    by_name later true = with_more later (commit_of remotes node)
    by_name later false = later
commits-append rid node (heard message caller ∷ items) those = commits-append rid node items those
commits-append rid node (missed of left caller ∷ items) those = commits-append rid node items those
commits-append rid node (refused of why caller ∷ items) those = commits-append rid node items those

-- a commit that is installed advances from the stored one, and is closed
traced_install : (keyring : Contents) (rid : Rid) (node : Nid) (s : Standing) (id : Oid) (remotes : List (Nid × Oid)) (commits : List Oid)
    → IsGoodStanding keyring rid s → IsRising remotes → (a : Allows s.objects keyring (state_in rid s) id remotes)
    → IsTraced s.objects (commit_of s.remotes node) commits
    → IsTraced s.objects (commit_of (replaced s.remotes remotes) node) (commits ++ with_commit (commit_of remotes node) [])
traced_install keyring rid node s id remotes commits h up a t = by_commit (commit_of remotes node) refl
  where
    commits_are : commit_of (replaced s.remotes remotes) node ≡ option_or (commit_of remotes node) (commit_of s.remotes node)
    commits_are = (replaced_replaces s.remotes remotes h.rising up).commits node

    closed_new : (new : Oid) → commit_of remotes node ≡ Some new → IsClosedCommit s.objects new
    closed_new new e =
        let good = install_is_good keyring rid s id remotes h up a in
        let stands = commits_are ∙ ap (λ (o : Option Oid). option_or o (commit_of s.remotes node)) e in
        by_good good.good (found_among (replaced s.remotes remotes) node new stands)
      where
        by_good : IsGood s.objects keyring (state_in rid (after_install id remotes s)) → Contains (replaced s.remotes remotes) (node, new) → IsClosedCommit s.objects new
        by_good (inl none) has = absurd (not_nothing {x = id} refl none.0)
        by_good (inr good) has = (good.2.sound node new has).signed.closed

    on_from : (old new : Oid) → commit_of s.remotes node ≡ Some old → commit_of remotes node ≡ Some new → Advances s.objects old new
    on_from old new stored e =
        replaced_advances s.objects keyring (state_in rid s) (record { id = id; remotes = remotes }) All a.judged node old new a.is stored
        (subst (λ (l : List (Nid × Oid)). Contains l (node, new)) (sym a.same) (found_among remotes node new e))

    advance_new : (new : Oid) → commit_of remotes node ≡ Some new → (stored : Option Oid) → commit_of s.remotes node ≡ stored → (xs : List Oid) → AdvanceAll s.objects xs
        → last_in xs ≡ stored → AdvanceAll s.objects (xs ++ new ∷ [])
    advance_new new e stored is [] all last = (λ later none. absurd (contains_nothing later none), tt)
    advance_new new e None is (x ∷ xs) all last = absurd (some_last x xs last)
      where
        some_last : (x : Oid) (xs : List Oid) → last_in (x ∷ xs) ≡ None → ⊥
        some_last x [] f = cc f
        some_last x (y ∷ ys) f = some_last y ys f
    advance_new new e (Some old) is (x ∷ xs) all last = advance_more s.objects (x ∷ xs) old new all last (on_from old new is e)

    by_commit : (o : Option Oid) → commit_of remotes node ≡ o
        → IsTraced s.objects (commit_of (replaced s.remotes remotes) node) (commits ++ with_commit o [])
    by_commit None e =
        let same : commit_of (replaced s.remotes remotes) node ≡ commit_of s.remotes node = commits_are ∙ ap (λ (o : Option Oid). option_or o (commit_of s.remotes node)) e in
        rw (same, append-nil commits) t
    by_commit (Some new) e =
        let is : commit_of (replaced s.remotes remotes) node ≡ Some new = commits_are ∙ ap (λ (o : Option Oid). option_or o (commit_of s.remotes node)) e in
        record {
          advance = advance_new new e (commit_of s.remotes node) refl commits t.advance t.last;
          closed = each_more (IsClosedCommit s.objects) commits new t.closed (closed_new new e);
          last = last_more commits new ∙ sym is;
        }

-- a lawful entry keeps the commits traced
item_traced : (keyring : Contents) (rid : Rid) (node : Nid) (before : List Item) (item : Item) → IsGoodStanding keyring rid (replay rid before) → Lawful keyring before item
    → IsTraced (replay rid before).objects (commit_of (replay rid before).remotes node) (commits_of rid node before)
    → (let s : Standing = after_item rid (replay rid before) item in IsTraced s.objects (commit_of s.remotes node) (commits_of rid node before ++ commits_of rid node (item ∷ [])))
item_traced keyring rid node before (claim of caller) h l t = rw (append-nil (commits_of rid node before)) t
item_traced keyring rid node before (put of batch caller) h l t = rw (append-nil (commits_of rid node before)) (by_name (is_same rid of))
  where
    by_name : (b : Bool) → (let s : Standing = if b then after_put batch (replay rid before) else replay rid before in IsTraced s.objects (commit_of s.remotes node) (commits_of rid node before))
    by_name true = traced_grows (replay rid before).objects (with_objects (replay rid before).objects batch) (commit_of (replay rid before).remotes node) (commits_of rid node before)
        (put_grows (replay rid before).objects batch) t
    by_name false = t
item_traced keyring rid node before (install of id remotes caller) h l t = by_name (is_same rid of) refl
  where
    by_name : (b : Bool) → is_same rid of ≡ b
        → (let s : Standing = if b then after_install id remotes (replay rid before) else replay rid before in
        IsTraced s.objects (commit_of s.remotes node) (commits_of rid node before ++ (if b then with_commit (commit_of remotes node) [] else [])))
    by_name true e = traced_install keyring rid node (replay rid before) id remotes (commits_of rid node before) h l.0.rising
        (allowed_here keyring before rid of id remotes (same_is rid of e) l.0) t
    by_name false e = rw (append-nil (commits_of rid node before)) t
item_traced keyring rid node before (heard message caller) h l t = rw (append-nil (commits_of rid node before)) t
item_traced keyring rid node before (missed of left caller) h l t = rw (append-nil (commits_of rid node before)) t
item_traced keyring rid node before (refused of why caller) h l t = rw (append-nil (commits_of rid node before)) t

-- so do legal entries
traced_from : (keyring : Contents) (rid : Rid) (node : Nid) (before items : List Item) → IsGoodStanding keyring rid (replay rid before) → LegalFrom keyring before items
    → IsTraced (replay rid before).objects (commit_of (replay rid before).remotes node) (commits_of rid node before)
    → AdvanceAll (replay rid (before ++ items)).objects (commits_of rid node (before ++ items))
traced_from keyring rid node before [] h legal t = rw (append-nil before) t.advance
traced_from keyring rid node before (item ∷ items) h legal t =
    subst (λ (l : List Item). AdvanceAll (replay rid l).objects (commits_of rid node l)) (append_assoc before (item ∷ []) items)
    (traced_from keyring rid node (before ++ item ∷ []) items
    (subst (λ (s : Standing). IsGoodStanding keyring rid s) (sym (replay_more rid before item)) (item_is_good keyring rid before item h legal.0)) legal.1
    (rw (replay_more rid before item, commits-append rid node before (item ∷ [])) (item_traced keyring rid node before item h legal.0 t)))

-- in a legal history each commit of a remote advances from every earlier one
pub legal_advances : (keyring : Contents) (rid : Rid) (node : Nid) (items : List Item) → Legal keyring items → AdvanceAll (replay rid items).objects (commits_of rid node items)
legal_advances keyring rid node items legal =
    traced_from keyring rid node [] items (nothing_is_good keyring rid) legal (record { advance = tt; closed = tt; last = refl })
