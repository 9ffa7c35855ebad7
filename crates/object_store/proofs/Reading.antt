-- What a walk over a journal's bodies has read.
use Rattle.std.proofs.Common.{◌≡◌, ℕ, ◌<◌, ◌≤◌, List, [], ◌∷◌, ◌++◌, Option, None, Some, sym, ap, subst, ◌∙◌, arith, append_assoc}
use Rattle.std.specs.List.{AllByRecursion}
use Rattle.std.proofs.lemmas.List.{append-nil, map-append}
use Rattle.rad_base.proofs.Options.{some_is}
use Rattle.keyring.specs.Contents.{Contents}
use Rattle.ref_journal.specs.Frames.{gate_behind}
use Rattle.ref_journal.specs.Holds.{Holds}
use Rattle.ref_journal.specs.declared.journal.Journal.{Journal}
use Rattle.repo_entries.specs.Items.{Item}
use Rattle.entry_bodies.specs.Bodies.{HasBody, SpellsItem, body_of}
use Rattle.object_store.specs.Bodies.{bodies_of}
use Rattle.object_store.specs.Opens.{BeginsSo, HasReplayedSo, HasReplayed, IsNoEntryAt}
use Rattle.object_store.specs.declared.replayed.Replayed.{Replayed}

-- what a scan says of the body behind a gate
abbrev pub Scans : {D : Type 0} → (D → Option (List ℕ)) → (D → List ℕ → Type 0) → Journal D → ℕ → Option ℕ → List ℕ → Type 0
Scans reads images journal place next into = (before after : List (List ℕ)) (body : List ℕ) (doubt : Option (List ℕ))
    → Holds reads images journal (before ++ body ∷ after) doubt → place ≡ gate_behind before
    → (next ≡ Some (gate_behind (before ++ body ∷ []))) × (into ≡ body)

-- at the end all bodies were read
pub ended : {D : Type 0} (reads : D → Option (List ℕ)) (images : D → List ℕ → Type 0) (journal : Journal D) (place : ℕ) (next : Option ℕ) (into : List ℕ) (bodies : List (List ℕ)) (items : List Item)
    → next ≡ None → Scans reads images journal place next into → Holds reads images journal bodies None → BeginsSo bodies place items → bodies ≡ bodies_of items
ended reads images journal place next into bodies items n scans h b = none_left b.rest b.all
  where
    none_left : (rest : List (List ℕ)) → bodies ≡ bodies_of items ++ rest → bodies ≡ bodies_of items
    none_left [] all = all ∙ append-nil (bodies_of items)
    none_left (body ∷ after) all =
        let found = scans (bodies_of items) after body None (subst (λ (l : List (List ℕ)). Holds reads images journal l None) all h) b.place_is in
        absurd (cc (n, found.0))

-- a body that was read
pub record IsMet (bodies : List (List ℕ)) (into : List ℕ) (gate : ℕ) (items : List Item) : Type 0 where
  pub after : List (List ℕ)
  pub all : bodies ≡ bodies_of items ++ into ∷ after
  pub gate_is : gate ≡ gate_behind (bodies_of items ++ into ∷ [])

-- behind a gate before the end a body was read
pub met : {D : Type 0} (reads : D → Option (List ℕ)) (images : D → List ℕ → Type 0) (journal : Journal D) (place gate : ℕ) (next : Option ℕ) (into : List ℕ) (bodies : List (List ℕ)) (items : List Item)
    → next ≡ Some gate → place < gate → gate ≤ journal.end → Scans reads images journal place next into → Holds reads images journal bodies None → BeginsSo bodies place items
    → IsMet bodies into gate items
met reads images journal place gate next into bodies items n low high scans h b = found b.rest b.all
  where
    found : (rest : List (List ℕ)) → bodies ≡ bodies_of items ++ rest → IsMet bodies into gate items
    found [] all =
        let end : journal.end ≡ gate_behind bodies = h.tells.has.begins.place_is in
        let same : gate_behind bodies ≡ gate_behind (bodies_of items) = ap gate_behind (all ∙ append-nil (bodies_of items)) in
        absurd (omega (arith, end, same, b.place_is, low, high))
    found (body ∷ after) all =
        let is = scans (bodies_of items) after body None (subst (λ (l : List (List ℕ)). Holds reads images journal l None) all h) b.place_is in
        record {
          after = after;
          all = all ∙ ap (λ (x : List ℕ). bodies_of items ++ x ∷ after) (sym is.1);
          gate_is = some_is gate (gate_behind (bodies_of items ++ body ∷ [])) (sym n ∙ is.0) ∙ ap (λ (x : List ℕ). gate_behind (bodies_of items ++ x ∷ [])) (sym is.1);
        }

-- one entry more was read
pub begins_more : (bodies : List (List ℕ)) (into : List ℕ) (gate : ℕ) (items : List Item) (item : Item) → into ≡ body_of item → IsMet bodies into gate items → BeginsSo bodies gate (items ++ item ∷ [])
begins_more bodies into gate items item e m =
    let more : bodies_of (items ++ item ∷ []) ≡ bodies_of items ++ into ∷ [] = map-append body_of items (item ∷ []) ∙ ap (λ (x : List ℕ). bodies_of items ++ x ∷ []) (sym e) in
    record {
      rest = m.after;
      all = m.all ∙ sym (append_assoc (bodies_of items) (into ∷ []) m.after) ∙ ap (λ (l : List (List ℕ)). l ++ m.after) (sym more);
      place_is = m.gate_is ∙ ap gate_behind (sym more);
    }

-- a body that is no entry's
pub no_entry : (bodies : List (List ℕ)) (into : List ℕ) (place gate : ℕ) (items : List Item) → AllByRecursion HasBody items → ((item : Item) → SpellsItem item into → ⊥)
    → BeginsSo bodies place items → IsMet bodies into gate items → IsNoEntryAt place bodies
no_entry bodies into place gate items each none b m = record {
  items = items;
  body = into;
  rest = m.after;
  all = m.all;
  had_bodies = each;
  none = none;
  place_is = b.place_is;
}

-- where no entry was illegal, all stand
pub had_all : (keyring : Contents) (read : Replayed) (illegal : Option ℕ) (items : List Item) → illegal ≡ None → HasReplayedSo keyring read illegal items → HasReplayed keyring read items
had_all keyring read None items e h = h
had_all keyring read (Some n) items e h = absurd (cc e)
