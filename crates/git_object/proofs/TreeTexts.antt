-- Texts of trees, an entry at a time.
use Rattle.std.proofs.Common.{Bool, false, ◌==◌, ◌≡◌, ℕ, ◌+◌, ◌-◌, ◌<◌, List, [], ◌∷◌, ◌++◌, length, take, drop, Option, None, Some, refl, sym, ap, subst, ◌∙◌, arith, append_assoc, length-append}
use Rattle.std.proofs.lemmas.List.{append-nil, take-append-drop, length-drop, take_at, drop_at}
use Rattle.std.specs.List.{AllByRecursion}
use Rattle.rad_base.proofs.EachItem.{each_more}
use Rattle.rad_base.specs.Order.{IsBelow, last_from}
use Rattle.rad_base.proofs.Rising.{last_more, rise_more}
use Rattle.git_object.specs.Grammar.{Entry, IsEntry, IsRisingFrom, IsTree, SpellsEntries, SpellsTree, entry_text, order_key, tree_text}
use Rattle.git_object.specs.Places.{BreaksTree, HasNoEntryAbove}
use Rattle.git_object.specs.Reading.{entries_in}
use Rattle.git_object.proofs.EntryTexts.{entries_first, entries_none, entry_longer}
use Rattle.git_object.proofs.ReadBack.{one_entry}

-- no entry stands in front of some bytes
abbrev pub HasNoEntry : List ℕ → Type 0
HasNoEntry bytes = (entry : Entry) (rest : List ℕ) → IsEntry entry → bytes ≡ entry_text entry ++ rest → ⊥

-- nothing is not an entry's text
pub nothing_no_entry : HasNoEntry []
nothing_no_entry entry rest is h = omega (arith, entry_longer entry rest, ap length h)

-- the entries that bytes spell are those that are read
pub tree_reads : (before : Option (List ℕ)) (entries : List Entry) (bytes : List ℕ) → SpellsEntries before entries bytes → entries_in bytes ≡ entries
tree_reads before [] bytes s = entries_none bytes (rw s.text nothing_no_entry)
tree_reads before (e ∷ entries) bytes s =
    entries_first bytes (tree_text entries) e s.each.0 s.text
    ∙ ap (λ (l : List Entry). e ∷ l) (tree_reads (Some (order_key e)) entries (tree_text entries) (record { each = s.each.1; rising = s.rising.1; text = refl }))

-- bytes spell one list of entries
pub one_tree : (es fs : List Entry) (bytes : List ℕ) → SpellsTree es bytes → SpellsTree fs bytes → es ≡ fs
one_tree es fs bytes a b = sym (tree_reads None es bytes a) ∙ tree_reads None fs bytes b

-- a tree's bytes spell the entries that are read
pub tree_entries : (bytes : List ℕ) → IsTree bytes → SpellsTree (entries_in bytes) bytes
tree_entries bytes t = subst (λ (es : List Entry). SpellsTree es bytes) (sym (tree_reads None t.0 bytes t.1)) t.1

-- the entries in front of a rest, the last one with this key
pub record IsReadTo (bytes rest : List ℕ) (last : Option (List ℕ)) : Type 0 where
  pub entries : List Entry
  pub each : AllByRecursion IsEntry entries
  pub rising : IsRisingFrom None entries
  pub end : last_from order_key None entries ≡ last
  pub text : bytes ≡ tree_text entries ++ rest

pub tree_text-append : (es fs : List Entry) → tree_text (es ++ fs) ≡ tree_text es ++ tree_text fs
tree_text-append [] fs = refl
tree_text-append (e ∷ es) fs = ap (λ (l : List ℕ). entry_text e ++ l) (tree_text-append es fs) ∙ sym (append_assoc (entry_text e) (tree_text es) (tree_text fs))

-- nothing is read at the start
pub read_none : (bytes : List ℕ) → IsReadTo bytes bytes None
read_none bytes = record { entries = []; each = tt; rising = tt; end = refl; text = refl }

-- one more entry, above those before it
pub read_more : (bytes rest more : List ℕ) (last : Option (List ℕ)) (e : Entry) → IsReadTo bytes rest last → IsEntry e → rest ≡ entry_text e ++ more
    → IsBelow last (order_key e) → IsReadTo bytes more (Some (order_key e))
read_more bytes rest more last e r is h below = record {
  entries = r.entries ++ e ∷ [];
  each = each_more IsEntry r.entries e r.each is;
  rising = rise_more order_key None r.entries e r.rising (subst (λ (k : Option (List ℕ)). IsBelow k (order_key e)) (sym r.end) below);
  end = last_more order_key None r.entries e;
  text =
      r.text ∙ ap (λ (l : List ℕ). tree_text r.entries ++ l) h
      ∙ sym (append_assoc (tree_text r.entries) (entry_text e) more)
      ∙ ap (λ (l : List ℕ). l ++ more) (ap (λ (l : List ℕ). tree_text r.entries ++ l) (sym (append-nil (entry_text e))) ∙ sym (tree_text-append r.entries (e ∷ [])));
}

-- all is read
pub read_all : (bytes rest : List ℕ) (last : Option (List ℕ)) → IsReadTo bytes rest last → rest ≡ [] → SpellsTree (entries_in bytes) bytes
read_all bytes rest last r none = tree_entries bytes (
  r.entries,
  record {
    each = r.each;
    rising = r.rising;
    text = r.text ∙ ap (λ (l : List ℕ). tree_text r.entries ++ l) none ∙ append-nil (tree_text r.entries);
  },
)

-- what stands behind some entries of a tree spells entries above them
pub tree_behind : (before : Option (List ℕ)) (es fs : List Entry) (rest : List ℕ) → AllByRecursion IsEntry es → SpellsEntries before fs (tree_text es ++ rest)
    → (gs : List Entry) × SpellsEntries (last_from order_key before es) gs rest
tree_behind before [] fs rest each s = (fs, s)
tree_behind before (e ∷ es) [] rest each s =
    absurd (nothing_no_entry e (tree_text es ++ rest) each.0 (sym s.text ∙ append_assoc (entry_text e) (tree_text es) rest))
tree_behind before (e ∷ es) (f ∷ fs) rest each s =
    let one = one_entry e f (tree_text es ++ rest) (tree_text fs) each.0 s.each.0 (sym (append_assoc (entry_text e) (tree_text es) rest) ∙ s.text) in
    let rising = subst (λ (g : Entry). IsRisingFrom (Some (order_key g)) fs) (sym one.0) s.rising.1 in
    tree_behind (Some (order_key e)) es fs rest each.1 (record { each = s.each.1; rising = rising; text = one.1 })

-- the one entry that stands in front is not above the key
pub none_above : (last : Option (List ℕ)) (bytes more : List ℕ) (e : Entry) → IsEntry e → bytes ≡ entry_text e ++ more → (IsBelow last (order_key e) → ⊥) → HasNoEntryAbove last bytes
none_above last bytes more e is h not f rest js k below =
    let one = one_entry e f more rest is js (sym h ∙ k) in
    not (subst (λ (g : Entry). IsBelow last (order_key g)) (sym one.0) below)

-- behind the entries that were read some bytes are left, and no entry that may follow stands there
pub broken_tree : (bytes rest : List ℕ) (last : Option (List ℕ)) (place : ℕ) → IsReadTo bytes rest last → 0 < length rest → HasNoEntryAbove last rest
    → place ≡ length bytes - length rest → BreaksTree bytes place
broken_tree bytes rest last place r some none at =
    let size : length bytes ≡ length (tree_text r.entries) + length rest = ap length r.text ∙ length-append (tree_text r.entries) rest in
    let here : length (tree_text r.entries) ≡ place = omega (arith, size, at) in
    let front : take place bytes ≡ tree_text r.entries = ap (take place) r.text ∙ take_at (tree_text r.entries) rest place here in
    let back : drop place bytes ≡ rest = ap (drop place) r.text ∙ drop_at (tree_text r.entries) rest place here in
    record {
      inside = omega (arith, size, here, some);
      before = (r.entries, record { each = r.each; rising = r.rising; text = front });
      broken = λ entry more h t.
          let next = tree_behind None r.entries t.0 (entry_text entry) r.each (rw front at t.1) in
          no_next r rest last entry more none (sym back ∙ h) next.0 next.1;
    }
  where
    no_next : (r : IsReadTo bytes rest last) (rest' : List ℕ) (last' : Option (List ℕ)) (entry : Entry) (more : List ℕ) → HasNoEntryAbove last rest → rest ≡ entry_text entry ++ more
        → (gs : List Entry) → SpellsEntries (last_from order_key None r.entries) gs (entry_text entry) → ⊥
    no_next r rest' last' entry more none h [] s = omega (arith, ap length s.text, entry_longer entry [], length-append (entry_text entry) [])
    no_next r rest' last' entry more none h (g ∷ gs) s =
        none g (tree_text gs ++ more) s.each.0 (h ∙ ap (λ (l : List ℕ). l ++ more) s.text ∙ append_assoc (entry_text g) (tree_text gs) more)
        (subst (λ (k : Option (List ℕ)). IsBelow k (order_key g)) r.end s.rising.0)

-- one more entry behind a tree
pub tree_more : (es : List Entry) (front : List ℕ) (g : Entry) → SpellsTree es front → IsEntry g → IsBelow (last_from order_key None es) (order_key g) → IsTree (front ++ entry_text g)
tree_more es front g s is below = (
  es ++ g ∷ [],
  record {
    each = each_more IsEntry es g s.each is;
    rising = rise_more order_key None es g s.rising below;
    text =
        ap (λ (l : List ℕ). l ++ entry_text g) s.text
        ∙ ap (λ (l : List ℕ). tree_text es ++ l) (sym (append-nil (entry_text g))) ∙ sym (tree_text-append es (g ∷ []));
  },
)

-- no tree goes on behind the place where bytes leave the grammar of trees
pub no_tree_behind : (bytes rest more : List ℕ) (place : ℕ) → BreaksTree bytes place → drop place bytes ≡ rest ++ more → 0 < length rest
    → IsTree (take place bytes ++ rest) → ⊥
no_tree_behind bytes rest more place b e some t =
    let es = b.before.0 in
    let front = b.before.1 in
    let whole : take place bytes ++ rest ≡ tree_text es ++ rest = ap (λ (l : List ℕ). l ++ rest) front.text in
    let next = tree_behind None es t.0 rest front.each (subst (λ (l : List ℕ). SpellsEntries None t.0 l) whole t.1) in
    stands es front next.0 next.1
  where
    stands : (es : List Entry) → SpellsTree es (take place bytes) → (gs : List Entry) → SpellsEntries (last_from order_key None es) gs rest → ⊥
    stands es front [] s = omega (arith, some, ap length s.text)
    stands es front (g ∷ gs) s =
        b.broken g (tree_text gs ++ more) (e ∙ ap (λ (l : List ℕ). l ++ more) s.text ∙ append_assoc (entry_text g) (tree_text gs) more)
        (tree_more es (take place bytes) g front s.each.0 s.rising.0)

-- a tree is broken nowhere
pub broken_no_tree : (bytes : List ℕ) (place : ℕ) → BreaksTree bytes place → IsTree bytes → ⊥
broken_no_tree bytes place b t =
    let some : 0 < length (drop place bytes) = omega (arith, length-drop place bytes, b.inside) in
    no_tree_behind bytes (drop place bytes) [] place b (sym (append-nil (drop place bytes))) some (subst IsTree (sym (take-append-drop place bytes)) t)

-- a rest that is not empty
pub some_rest : (empty : Bool) (rest : List ℕ) → empty ≡ (length rest == 0) → empty ≡ false → 0 < length rest
some_rest empty rest e f = grind arith
