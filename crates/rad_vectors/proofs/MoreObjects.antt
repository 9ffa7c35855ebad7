-- Objects behind others.
use Rattle.std.proofs.Common.{◌≡◌, ℕ, List, [], ◌∷◌, ◌++◌, refl, sym, ap, ◌∙◌, append_assoc, append-nil, ◌+◌, length, get_or, arith}
use Rattle.std.proofs.lemmas.List.{get_or-map, length-map, map-append}
use Rattle.std.specs.List.Sorted.{IsSortedByKey}
use Rattle.std.specs.Ordering.{is_lt}
use Rattle.rad_base.specs.Order.{oid_cmp}
use Rattle.git_object.specs.Grammar.{Entry, entry_text, tree_text}
use Rattle.git_object.specs.declared.mode.Mode.{Mode}
use Rattle.rad_base.specs.declared.names.Oid.{Oid}
use Rattle.fetch_wire.specs.Sections.{Object}
use Rattle.rad_vectors.specs.Objects.{entry, object_name, tree}
use Rattle.rad_vectors.specs.Shown.{all_shown, shown}
use Rattle.rad_vectors.specs.declared.object.NamedObject.{NamedObject}

-- three objects more
pub three_more : (old new : List NamedObject) (a b c : NamedObject) (x y z : Object) → new ≡ ((old ++ a ∷ []) ++ b ∷ []) ++ c ∷ []
    → shown a ≡ x → shown b ≡ y → shown c ≡ z → all_shown new ≡ all_shown old ++ (x ∷ y ∷ z ∷ [])
three_more old new a b c x y z is ea eb ec =
    ap all_shown (is ∙ (append_assoc (old ++ a ∷ []) (b ∷ []) (c ∷ []) ∙ append_assoc old (a ∷ []) (b ∷ c ∷ [])))
    ∙ (map-append shown old (a ∷ b ∷ c ∷ [])
    ∙ (ap (λ (o : Object). all_shown old ++ (o ∷ shown b ∷ shown c ∷ [])) ea
    ∙ (ap (λ (o : Object). all_shown old ++ (x ∷ o ∷ shown c ∷ [])) eb
    ∙ ap (λ (o : Object). all_shown old ++ (x ∷ y ∷ o ∷ [])) ec)))

-- four objects more
pub four_more : (old new : List NamedObject) (a b c d : NamedObject) (x y z w : Object) → new ≡ (((old ++ a ∷ []) ++ b ∷ []) ++ c ∷ []) ++ d ∷ []
    → shown a ≡ x → shown b ≡ y → shown c ≡ z → shown d ≡ w → all_shown new ≡ all_shown old ++ (x ∷ y ∷ z ∷ w ∷ [])
four_more old new a b c d x y z w is ea eb ec ed =
    ap all_shown is
    ∙ (map-append shown (((old ++ a ∷ []) ++ b ∷ []) ++ c ∷ []) (d ∷ [])
    ∙ (ap (λ (xs : List Object). xs ++ shown d ∷ []) (three_more old (((old ++ a ∷ []) ++ b ∷ []) ++ c ∷ []) a b c x y z refl ea eb ec)
    ∙ (append_assoc (all_shown old) (x ∷ y ∷ z ∷ []) (shown d ∷ [])
    ∙ ap (λ (o : Object). all_shown old ++ (x ∷ y ∷ z ∷ o ∷ [])) ed)))

-- the name of an object that is this one
pub name_of_shown : (o : NamedObject) (x : Object) → shown o ≡ x → o.oid ≡ object_name x
name_of_shown o x e = o.named ∙ ap object_name e

-- the tree of two entries
pub two_entries : (a b : Entry) (content : List ℕ) → content ≡ ([] ++ entry_text a) ++ entry_text b → content ≡ tree_text (a ∷ b ∷ [])
two_entries a b content e = e ∙ ap (λ (xs : List ℕ). entry_text a ++ xs) (sym (append-nil (entry_text b)))

-- a tree of one entry, a commit of a tree, where what they name is known
pub tree_named : (o made : NamedObject) (mode : Mode) (word : List ℕ) (x : Object) → shown made ≡ tree (entry mode word o.oid ∷ []) → shown o ≡ x
    → shown made ≡ tree (entry mode word (object_name x) ∷ [])
tree_named o made mode word x e is = e ∙ ap (λ (oid : Oid). tree (entry mode word oid ∷ [])) (name_of_shown o x is)

-- objects in order of the names that they have are in order of their names
pub sorted_shown : (xs : List NamedObject) → IsSortedByKey (λ (o : NamedObject). o.oid) oid_cmp xs → IsSortedByKey object_name oid_cmp (all_shown xs)
sorted_shown [] sorted k d low high = absurd (omega arith)
sorted_shown (x ∷ rest) sorted k d low high =
    let size : length (all_shown (x ∷ rest)) ≡ length (x ∷ rest) = length-map (x ∷ rest) shown in
    let next = get_or-map shown (x ∷ rest) (k + 1) x d (omega arith) in
    let here = get_or-map shown (x ∷ rest) k x d (omega arith) in
    ap (λ (o : Object). is_lt (oid_cmp (object_name o) (object_name (get_or (all_shown (x ∷ rest)) k d)))) next
    ∙ (ap (λ (o : Object). is_lt (oid_cmp (object_name (shown (get_or (x ∷ rest) (k + 1) x))) (object_name o))) here
    ∙ (ap (λ (n : Oid). is_lt (oid_cmp n (object_name (shown (get_or (x ∷ rest) k x))))) (sym (get_or (x ∷ rest) (k + 1) x).named)
    ∙ (ap (λ (n : Oid). is_lt (oid_cmp (get_or (x ∷ rest) (k + 1) x).oid n)) (sym (get_or (x ∷ rest) k x).named)
    ∙ sorted k x low (omega arith))))
