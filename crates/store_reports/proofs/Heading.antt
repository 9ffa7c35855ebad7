-- Heads of those repositories that have an identity.
use Rattle.std.proofs.Common.{◌≡◌, ℕ, ◌+◌, ◌<◌, Bool, true, false, cond, if◌then◌else◌, inl, inr, List, [], ◌∷◌, ◌++◌, length, take, get_or, append_assoc, Some, refl, sym, ap, subst, ◌∙◌}
use Rattle.std.specs.List.{AllZip, flat_map}
use Rattle.std.specs.Option.{is_some}
use Rattle.std.proofs.lemmas.Grind.{flat_map-append}
use Rattle.std.proofs.lemmas.List.{append-nil, take_more}
use Rattle.std.proofs.lemmas.List.Elements.{filter-append}
use Rattle.rad_base.specs.declared.names.Rid.{Rid}
use Rattle.canonical_head.specs.declared.answer.Head.{Head}
use Rattle.keyring.specs.Contents.{Contents}
use Rattle.repo_entries.specs.Items.{Item, claim, heard, install, missed, put, refused}
use Rattle.repo_slice.specs.Heads.{IsHeadOf}
use Rattle.legal_history.specs.Replays.{Standing, after_install, after_item, after_items, after_put, is_same, nothing_stands, replay, replayed_state}
use Rattle.legal_history.proofs.GoodStandings.{same_is}
use Rattle.object_store.specs.Shown.{Concerns, ShowsRepository}
use Rattle.object_store.specs.Stores.{StandsFor}
use Rattle.object_store.specs.declared.store.Store.{Store}
use Rattle.store_reports.specs.Parts.{AddsHeads, line_text}
use Rattle.store_reports.specs.Reports.{IsHeadLine, with_identity}

-- one with an identity has the line of its head
pub with_line : (keyring : Contents) (items : List Item) (rid : Rid) (head : Head) (old new : List ℕ) → is_some (replay rid items).id ≡ true
    → IsHeadOf (replay rid items).objects keyring (replayed_state rid items) (Some head) → new ≡ old ++ line_text (rid, head)
    → AddsHeads keyring items (rid ∷ []) old new
with_line keyring items rid head old new e h w = record {
  some = (rid, head) ∷ [];
  each = subst (λ (xs : List Rid). AllZip (IsHeadLine keyring items) xs ((rid, head) ∷ [])) (sym (ap (λ (b : Bool). cond b (rid ∷ []) []) e))
      (record { own = refl; head = h }, tt);
  written = w ∙ ap (λ (t : List ℕ). old ++ t) (sym (append-nil (line_text (rid, head))));
}

zip_append : {A B : Type 0} (R : A → B → Type 0) (xs : List A) (ys : List B) (more : List A) (rest : List B) → AllZip R xs ys → AllZip R more rest → AllZip R (xs ++ more) (ys ++ rest)
zip_append R [] [] more rest h g = g
zip_append R [] (y ∷ ys) more rest h g = absurd h
zip_append R (x ∷ xs) [] more rest h g = absurd h
zip_append R (x ∷ xs) (y ∷ ys) more rest h g = (h.0, zip_append R xs ys more rest h.1 g)

-- one repository more
heads_push : (keyring : Contents) (items : List Item) (rids : List Rid) (rid : Rid) (old mid new : List ℕ) → AddsHeads keyring items rids old mid → AddsHeads keyring items (rid ∷ []) mid new
    → AddsHeads keyring items (rids ++ rid ∷ []) old new
heads_push keyring items rids rid old mid new h one = record {
  some = h.some ++ one.some;
  each = subst (λ (xs : List Rid). AllZip (IsHeadLine keyring items) xs (h.some ++ one.some)) (sym (filter-append (λ (r : Rid). is_some (replay r items).id) rids (rid ∷ [])))
      (zip_append (IsHeadLine keyring items) (with_identity items rids) h.some (with_identity items (rid ∷ [])) one.some h.each one.each);
  written = one.written ∙ ap (λ (t : List ℕ). t ++ flat_map line_text one.some) h.written
      ∙ append_assoc old (flat_map line_text h.some) (flat_map line_text one.some)
      ∙ ap (λ (t : List ℕ). old ++ t) (sym (flat_map-append line_text h.some one.some));
}

-- one turn of a loop
pub heads_turn : (keyring : Contents) (items : List Item) (rids : List Rid) (i : ℕ) (d : Rid) (old mid new : List ℕ) → i < length rids
    → AddsHeads keyring items (take i rids) old mid → AddsHeads keyring items (get_or rids i d ∷ []) mid new → AddsHeads keyring items (take (i + 1) rids) old new
heads_turn keyring items rids i d old mid new l h one =
    subst (λ (xs : List Rid). AddsHeads keyring items xs old new) (sym (take_more rids i d l)) (heads_push keyring items (take i rids) (get_or rids i d) old mid new h one)

-- an entry of another repository leaves the identity
kept_identity : (rid : Rid) (s : Standing) (item : Item) → (Concerns rid item → ⊥) → (after_item rid s item).id ≡ s.id
kept_identity rid s (claim of caller) other = refl
kept_identity rid s (put of batch caller) other = by_test (is_same rid of)
  where
    by_test : (b : Bool) → (if b then after_put batch s else s).id ≡ s.id
    by_test true = refl
    by_test false = refl
kept_identity rid s (install of id remotes caller) other = by_test (is_same rid of) refl
  where
    by_test : (b : Bool) → is_same rid of ≡ b → (if b then after_install id remotes s else s).id ≡ s.id
    by_test true e = absurd (other (sym (same_is rid of e)))
    by_test false e = refl
kept_identity rid s (heard message caller) other = refl
kept_identity rid s (missed of left caller) other = refl
kept_identity rid s (refused of why caller) other = refl

-- a repository that no entry names has none
unnamed_identity : (rid : Rid) (s : Standing) (items : List Item) → (ShowsRepository rid items → ⊥) → (after_items rid s items).id ≡ s.id
unnamed_identity rid s [] other = refl
unnamed_identity rid s (item ∷ items) other =
    unnamed_identity rid (after_item rid s item) items (λ later. other (inr later)) ∙ kept_identity rid s item (λ now. other (inl now))

pub no_identity : (rid : Rid) (items : List Item) → (ShowsRepository rid items → ⊥) → false ≡ is_some (replay rid items).id
no_identity rid items other = sym (ap is_some (unnamed_identity rid nothing_stands items other))

-- a step on a store that is the same
pub same_store : {D : Type 0} (store now : Store D) (items : List Item) (rids : List Rid) (old new : List ℕ) → now ≡ store → (StandsFor now items → AddsHeads now.keyring items rids old new)
    → StandsFor store items → AddsHeads store.keyring items rids old new
same_store {D = D} store now items rids old new e h s =
    subst (λ (x : Store D). AddsHeads x.keyring items rids old new) e (h (subst (λ (x : Store D). StandsFor x items) (sym e) s))
