-- The derived order of keys is the one by type, node and repository; it is total, and keys that
-- compare as equal are one.
use Rattle.std.proofs.Common.{◌≡◌, ℕ, List, [], ◌∷◌, Option, Some, None, refl, sym, ap, ◌∙◌}
use Rattle.std.specs.Cmp.{IsTotalOrder, nat_cmp_total}
use Rattle.std.specs.Cmp.Lexicographic.{slice_cmp}
use Rattle.std.specs.Ordering.{nat_cmp, ordering_then, then_cmp, on}
use Rattle.std.specs.declared.cmp.Ordering.{Ordering}
use Rattle.std.specs.declared.cmp.Ordering.TheVariants.{Less, Equal, Greater}
use Rattle.std.proofs.lemmas.Cmp.{on_total, then_total, nat_list_cmp_total}
use Rattle.std.proofs.lemmas.Map.Lookups.{CmpEqualImpliesEq, exact_unsigned}
use Rattle.rad_base.proofs.NameOrder.{both_equal, nid_total, nid_exact, oid_exact}
use Rattle.rad_base.specs.Order.{nid_cmp, rid_cmp}
use Rattle.rad_base.specs.declared.names.Nid.{Nid}
use Rattle.rad_base.specs.declared.names.Oid.{Oid}
use Rattle.rad_base.specs.declared.names.Rid.{Rid}
use Rattle.announcements.specs.Held.{map_cmp}
use Rattle.announcements.specs.Keys.{key_cmp, subject_cmp, topic_number}
use Rattle.announcements.specs.declared.key.Key.{Key}
use Rattle.announcements.specs.declared.key.Topic.{Topic}
use Rattle.announcements.specs.declared.key.Topic.TheVariants as topics

abbrev make : Topic → Nid → Option Rid → Key
make t n r = record { topic = t; node = n; rid = r }

-- the order by the parts
abbrev PartsOrder : Topic → Topic → Type 0
PartsOrder s t = (m n : Nid) (q r : Option Rid)
    → map_cmp (make s m q) (make t n r)
    ≡ ordering_then (nat_cmp (topic_number s) (topic_number t)) (ordering_then (nid_cmp m n) (subject_cmp q r))

by_parts : (s t : Topic) → PartsOrder s t
by_parts topics.Node topics.Node m n None None = refl
by_parts topics.Node topics.Node m n None (Some r) = refl
by_parts topics.Node topics.Node m n (Some q) None = refl
by_parts topics.Node topics.Node m n (Some q) (Some r) = refl
by_parts topics.Inventory topics.Inventory m n None None = refl
by_parts topics.Inventory topics.Inventory m n None (Some r) = refl
by_parts topics.Inventory topics.Inventory m n (Some q) None = refl
by_parts topics.Inventory topics.Inventory m n (Some q) (Some r) = refl
by_parts topics.Refs topics.Refs m n None None = refl
by_parts topics.Refs topics.Refs m n None (Some r) = refl
by_parts topics.Refs topics.Refs m n (Some q) None = refl
by_parts topics.Refs topics.Refs m n (Some q) (Some r) = refl
by_parts topics.Node topics.Inventory m n q r = refl
by_parts topics.Node topics.Refs m n q r = refl
by_parts topics.Inventory topics.Node m n q r = refl
by_parts topics.Inventory topics.Refs m n q r = refl
by_parts topics.Refs topics.Node m n q r = refl
by_parts topics.Refs topics.Inventory m n q r = refl

-- the derived order is the one by the parts
pub as_parts : (a b : Key) → map_cmp a b ≡ key_cmp a b
as_parts a b = by_parts a.topic b.topic a.node b.node a.rid b.rid

-- an optional name as bytes: none is the empty list, and a name follows a zero
abbrev subject_bytes : Option Rid → List ℕ
subject_bytes None = []
subject_bytes (Some rid) = 0 ∷ rid.0.0

by_bytes : (a b : Option Rid) → subject_cmp a b ≡ slice_cmp nat_cmp (subject_bytes a) (subject_bytes b)
by_bytes None None = refl
by_bytes None (Some b) = refl
by_bytes (Some a) None = refl
by_bytes (Some a) (Some b) = refl

abbrev byte_cmp : Key → Key → Ordering
byte_cmp =
    then_cmp (on (λ (k : Key). topic_number k.topic) nat_cmp)
    (then_cmp (on (λ (k : Key). k.node) nid_cmp) (on (λ (k : Key). subject_bytes k.rid) (slice_cmp nat_cmp)))

as_bytes : (a b : Key) → key_cmp a b ≡ byte_cmp a b
as_bytes a b = ap (λ (o : Ordering). ordering_then (nat_cmp (topic_number a.topic) (topic_number b.topic)) (ordering_then (nid_cmp a.node b.node) o)) (by_bytes a.rid b.rid)

byte_total : IsTotalOrder byte_cmp
byte_total =
    then_total (on_total (λ (k : Key). topic_number k.topic) nat_cmp_total)
    (then_total (on_total (λ (k : Key). k.node) nid_total) (on_total (λ (k : Key). subject_bytes k.rid) nat_list_cmp_total))

-- the order of keys is total
pub key_total : IsTotalOrder key_cmp
key_total = record {
  antisymm = λ x y. rw (as_bytes x y, as_bytes y x) (byte_total.antisymm x y);
  trans = λ x y z h g. as_bytes x z ∙ byte_total.trans x y z (sym (as_bytes x y) ∙ h) (sym (as_bytes y z) ∙ g);
  congr = λ x y z h. as_bytes x z ∙ byte_total.congr x y z (sym (as_bytes x y) ∙ h) ∙ sym (as_bytes y z);
}

pub map_total : IsTotalOrder map_cmp
map_total = record {
  antisymm = λ x y. rw (as_parts x y, as_parts y x) (key_total.antisymm x y);
  trans = λ x y z h g. as_parts x z ∙ key_total.trans x y z (sym (as_parts x y) ∙ h) (sym (as_parts y z) ∙ g);
  congr = λ x y z h. as_parts x z ∙ key_total.congr x y z (sym (as_parts x y) ∙ h) ∙ sym (as_parts y z);
}

one_topic : (s t : Topic) → topic_number s ≡ topic_number t → s ≡ t
one_topic topics.Node topics.Node e = refl
one_topic topics.Inventory topics.Inventory e = refl
one_topic topics.Refs topics.Refs e = refl
one_topic topics.Node topics.Inventory e = cc e
one_topic topics.Node topics.Refs e = cc e
one_topic topics.Inventory topics.Node e = cc e
one_topic topics.Inventory topics.Refs e = cc e
one_topic topics.Refs topics.Node e = cc e
one_topic topics.Refs topics.Inventory e = cc e

one_subject : (a b : Option Rid) → subject_cmp a b ≡ Equal → a ≡ b
one_subject None None e = refl
one_subject None (Some b) e = cc e
one_subject (Some a) None e = cc e
one_subject (Some a) (Some b) e = ap (λ (o : Oid). Some (record { 0 = o })) (oid_exact a.0 b.0 e)

-- keys that compare as equal are one
pub key_exact : CmpEqualImpliesEq key_cmp
key_exact a b h =
    let outer = both_equal (nat_cmp (topic_number a.topic) (topic_number b.topic)) (ordering_then (nid_cmp a.node b.node) (subject_cmp a.rid b.rid)) h in
    let inner = both_equal (nid_cmp a.node b.node) (subject_cmp a.rid b.rid) outer.1 in
    let t : a.topic ≡ b.topic = one_topic a.topic b.topic (exact_unsigned (topic_number a.topic) (topic_number b.topic) outer.0) in
    let n : a.node ≡ b.node = nid_exact a.node b.node inner.0 in
    let r : a.rid ≡ b.rid = one_subject a.rid b.rid inner.1 in
    ap (λ (x : Topic). make x a.node a.rid) t ∙ ap (λ (x : Nid). make b.topic x a.rid) n ∙ ap (λ (x : Option Rid). make b.topic b.node x) r

pub map_exact : CmpEqualImpliesEq map_cmp
map_exact a b h = key_exact a b (sym (as_parts a b) ∙ h)
