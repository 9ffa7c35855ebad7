-- Rows and tables that grow.
use Rattle.std.proofs.Common.{◌≡◌, ℕ, ◌+◌, ◌<◌, Bool, true, cond, List, [], ◌∷◌, ◌++◌, ◌↔◌, length, take, get_or, Option, Some, None, refl, sym, ap, subst, inl, inr, ◌⊎◌, ⊎_elim, ◌∙◌}
use Rattle.std.specs.Prelude.{Contains, IsTrue}
use Rattle.std.specs.Option.{is_some, unwrap_or}
use Rattle.std.specs.BTreeMap.{BTreeMap, get, is_at}
use Rattle.std.specs.BTreeSet.{BTreeSet, contains}
use Rattle.std.specs.List.{list_any}
use Rattle.std.specs.Map.{lookup}
use Rattle.std.proofs.lemmas.Bool.{cases_Bool}
use Rattle.std.proofs.lemmas.List.{take_more}
use Rattle.std.proofs.lemmas.List.Elements.{Contains-push_cases}
use Rattle.std.proofs.lemmas.Map.Views.{tells_apart}
use Rattle.rad_base.specs.declared.names.Oid.{Oid}
use Rattle.rad_base.specs.Order.{oid_cmp}
use Rattle.rad_base.proofs.NameOrder.{oid_exact, equals_itself}
use Rattle.rad_base.proofs.Members.{contains_nothing}
use Rattle.commit_graph.specs.Objects.{ObjectMap}
use Rattle.commit_graph.specs.Histories.{InHistory}
use Rattle.canonical_head.specs.declared.table.Table.{Table}
use Rattle.canonical_head.specs.Tables.{IsRow, IsTableOf, AreRows, in_set}

-- the set has just those names of the list that a test passes
pub record IsKept (P : Oid → Type 0) (names : List Oid) (set : BTreeSet Oid) : Type 0 where
  pub only : (oid : Oid) → IsTrue (contains oid_cmp set oid) → P oid
  pub all : (oid : Oid) → Contains names oid → P oid → IsTrue (contains oid_cmp set oid)

-- a set without keys
pub kept_none : (P : Oid → Type 0) (set : BTreeSet Oid) → set.keys ≡ [] → IsKept P [] set
kept_none P set e = record {
  only = λ oid h. absurd (none oid h);
  all = λ oid c p. absurd (contains_nothing oid c);
} where
  none : (oid : Oid) → IsTrue (contains oid_cmp set oid) → ⊥
  none oid h = cc (h, ap (λ (keys : List Oid). list_any (is_at (oid_cmp oid)) keys) e)

kept_push : (P : Oid → Type 0) (names : List Oid) (x : Oid) (set set' : BTreeSet Oid)
    → (P x × ((q : Oid) → contains oid_cmp set' q ≡ cond (is_at (oid_cmp x) q) true (contains oid_cmp set q))) ⊎ ((P x → ⊥) × (set' ≡ set))
    → IsKept P names set → IsKept P (names ++ x ∷ []) set'
kept_push P names x set set' (inl (p, u)) h = record {
  only = λ oid c. ⊎_elim
      (λ b. subst P (tells_apart oid_exact x oid b) p)
      (λ b. h.only oid (sym (u oid ∙ ap (λ (t : Bool). cond t true (contains oid_cmp set oid)) b) ∙ c))
      (cases_Bool (is_at (oid_cmp x) oid));
  all = λ oid c q. ⊎_elim
      (λ b. u oid ∙ ap (λ (t : Bool). cond t true (contains oid_cmp set oid)) b)
      (λ b. ⊎_elim
      (λ d. u oid ∙ ap (λ (t : Bool). cond t true (contains oid_cmp set oid)) b ∙ h.all oid d q)
      (λ d. let same : is_at (oid_cmp x) oid ≡ true = subst (λ (z : Oid). is_at (oid_cmp x) z ≡ true) d (equals_itself x.0) in absurd (cc (same, b)))
      (Contains-push_cases names x oid c))
      (cases_Bool (is_at (oid_cmp x) oid));
}
kept_push P names x set set' (inr (fails, e)) h = subst (λ (s : BTreeSet Oid). IsKept P (names ++ x ∷ []) s) (sym e) (record {
  only = h.only;
  all = λ oid c q. ⊎_elim (λ d. h.all oid d q) (λ d. absurd (fails (subst P (sym d) q))) (Contains-push_cases names x oid c);
})

-- one turn of a loop that keeps what passes
pub kept_more : (P : Oid → Type 0) (names : List Oid) (i : ℕ) (d : Oid) (set set' : BTreeSet Oid) → i < length names
    → IsKept P (take i names) set
    → (P (get_or names i d) × ((q : Oid) → contains oid_cmp set' q ≡ cond (is_at (oid_cmp (get_or names i d)) q) true (contains oid_cmp set q))) ⊎ ((P (get_or names i d) → ⊥) × (set' ≡ set))
    → IsKept P (take (i + 1) names) set'
kept_more P names i d set set' l h turn =
    subst (λ (xs : List Oid). IsKept P xs set') (sym (take_more names i d l)) (kept_push P (take i names) (get_or names i d) set set' turn h)

rows_tell : (m : ObjectMap) (tips : List Oid) (old new : Oid) (found : Option (BTreeSet Oid)) → is_some found ≡ true → ((set : BTreeSet Oid) → found ≡ Some set → IsRow m tips new set) → Contains tips old → IsTrue (in_set found old) ↔ InHistory m old new
rows_tell m tips old new None there right c = cc there
rows_tell m tips old new (Some set) there right c = right set refl old c

-- such rows are a table
pub rows_table : (m : ObjectMap) (tips news : List Oid) (table : Table) → AreRows m tips news table.rows → IsTableOf m tips news table
rows_table m tips news table h old new c d = rows_tell m tips old new (get oid_cmp table.rows new) (h.there new d) (h.right new) c

-- no rows
pub rows_none : (m : ObjectMap) (tips : List Oid) (rows : BTreeMap Oid (BTreeSet Oid)) → rows.entries ≡ [] → AreRows m tips [] rows
rows_none m tips rows e = record {
  right = λ new set f. absurd (none new set f);
  there = λ new c. absurd (contains_nothing new c);
} where
  none : (new : Oid) (set : BTreeSet Oid) → get oid_cmp rows new ≡ Some set → ⊥
  none new set f = cc (f, ap (λ (entries : List (Oid × BTreeSet Oid)). lookup (is_at (oid_cmp new)) entries) e)

-- a commit whose row is there
pub rows_known : (m : ObjectMap) (tips news : List Oid) (rows : BTreeMap Oid (BTreeSet Oid)) (x : Oid) → is_some (get oid_cmp rows x) ≡ true → AreRows m tips news rows → AreRows m tips (news ++ x ∷ []) rows
rows_known m tips news rows x known h = record {
  right = h.right;
  there = λ new c. ⊎_elim (λ d. h.there new d) (λ d. subst (λ (z : Oid). is_some (get oid_cmp rows z) ≡ true) d known) (Contains-push_cases news x new c);
}

-- a commit whose row was added
pub rows_added : (m : ObjectMap) (tips news : List Oid) (rows rows' : BTreeMap Oid (BTreeSet Oid)) (x : Oid) (row : BTreeSet Oid) → ((q : Oid) → get oid_cmp rows' q ≡ cond (is_at (oid_cmp x) q) (Some row) (get oid_cmp rows q)) → IsRow m tips x row → AreRows m tips news rows → AreRows m tips (news ++ x ∷ []) rows'
rows_added m tips news rows rows' x row u right h = record {
  right = λ new set f. ⊎_elim
      (λ b. let same : row ≡ set = ap (λ (o : Option (BTreeSet Oid)). unwrap_or o row) (sym (u new ∙ ap (λ (t : Bool). cond t (Some row) (get oid_cmp rows new)) b) ∙ f) in
      subst (IsRow m tips new) same (subst (λ (z : Oid). IsRow m tips z row) (tells_apart oid_exact x new b) right))
      (λ b. h.right new set (sym (u new ∙ ap (λ (t : Bool). cond t (Some row) (get oid_cmp rows new)) b) ∙ f))
      (cases_Bool (is_at (oid_cmp x) new));
  there = λ new c. ⊎_elim
      (λ b. ap is_some (u new ∙ ap (λ (t : Bool). cond t (Some row) (get oid_cmp rows new)) b))
      (λ b. ap is_some (u new ∙ ap (λ (t : Bool). cond t (Some row) (get oid_cmp rows new)) b) ∙ ⊎_elim
      (λ d. h.there new d)
      (λ d. let same : is_at (oid_cmp x) new ≡ true = subst (λ (z : Oid). is_at (oid_cmp x) z ≡ true) d (equals_itself x.0) in absurd (cc (same, b)))
      (Contains-push_cases news x new c))
      (cases_Bool (is_at (oid_cmp x) new));
}

-- one turn of a loop over the commits
pub rows_more : (m : ObjectMap) (tips news : List Oid) (i : ℕ) (d : Oid) (rows : BTreeMap Oid (BTreeSet Oid)) → i < length news → AreRows m tips (take i news ++ get_or news i d ∷ []) rows → AreRows m tips (take (i + 1) news) rows
rows_more m tips news i d rows l h = subst (λ (xs : List Oid). AreRows m tips xs rows) (sym (take_more news i d l)) h
