-- Remotes that were read so far, and in one way.
use Rattle.std.proofs.Common.{◌≡◌, ℕ, ◌+◌, ◌<◌, List, [], ◌∷◌, ◌++◌, length, sym, ap, subst, ◌∙◌, arith, append_assoc, append-nil, length-append}
use Rattle.std.specs.List.{AllByRecursion, flat_map}
use Rattle.rad_base.specs.declared.names.Nid.{Nid}
use Rattle.rad_base.specs.declared.names.Oid.{Oid}
use Rattle.rad_base.specs.Order.{IsAbove, IsRising, nid_cmp, node_of}
use Rattle.rad_base.specs.RemoteTexts.{AreRemotes, IsPair, pair_text}
use Rattle.rad_base.specs.Sizes.{IsNid}
use Rattle.rad_base.proofs.EachItem.{each_more}
use Rattle.rad_base.proofs.OneFront.{one_nid, one_oid}
use Rattle.rad_base.proofs.Rising.{above_front, rises_more}
use Rattle.rad_base.proofs.Texts.{OneInFront, Stands, all_one, next_one, texts_more}

-- the remote in front is one
pub one_pair : OneInFront IsPair pair_text
one_pair p q a b hp hq e =
    let nodes = one_nid p.0 q.0 (p.1.0 ++ a) (q.1.0 ++ b) hp.0 hq.0 (sym (append_assoc p.0.0 p.1.0 a) ∙ e ∙ append_assoc q.0.0 q.1.0 b) in
    let oids = one_oid p.1 q.1 a b hp.1 hq.1 nodes.1 in
    ((λ i. (nodes.0 i, oids.0 i)), oids.1)

-- no remote stands where too few bytes do
pub no_pair_short : (node : Nid) (bytes behind : List ℕ) → IsNid node → bytes ≡ node.0 ++ behind → length behind < 20
    → (pair : Nid × Oid) (rest : List ℕ) → IsPair pair → bytes ≡ pair_text pair ++ rest → ⊥
no_pair_short node bytes behind is h short pair rest good e =
    let nodes = one_nid node pair.0 behind (pair.1.0 ++ rest) is good.0 (sym h ∙ e ∙ append_assoc pair.0.0 pair.1.0 rest) in
    omega (arith, short, ap length nodes.1, length-append pair.1.0 rest, good.1.size)

-- so many remotes were read, and this is left
pub record HasRemotes (bytes : List ℕ) (n : ℕ) (remotes : List (Nid × Oid)) (rest : List ℕ) : Type 0 where
  pub each : AllByRecursion IsPair remotes
  pub rising : IsRising remotes
  pub count : length remotes ≡ n
  pub text : bytes ≡ flat_map pair_text remotes ++ rest

-- one more remote was read
pub remotes_more : (bytes : List ℕ) (n : ℕ) (remotes : List (Nid × Oid)) (rest more : List ℕ) (pair : Nid × Oid) → HasRemotes bytes n remotes rest → IsPair pair
    → IsAbove remotes pair.0 → rest ≡ pair_text pair ++ more → HasRemotes bytes (n + 1) (remotes ++ pair ∷ []) more
remotes_more bytes n remotes rest more pair h is above e = record {
  each = each_more IsPair remotes pair h.each is;
  rising = rises_more node_of nid_cmp remotes pair h.rising above;
  count = omega (arith, h.count, length-append remotes (pair ∷ []));
  text = texts_more pair_text remotes pair bytes rest more h.text e;
}

next_remote : (bytes : List ℕ) (n count : ℕ) (remotes : List (Nid × Oid)) (rest : List ℕ) → HasRemotes bytes n remotes rest → n < count
    → (all : List (Nid × Oid)) → AreRemotes bytes count all → Stands IsPair pair_text remotes all rest
next_remote bytes n count remotes rest h few all are =
    next_one IsPair pair_text one_pair remotes all rest (omega (arith, few, h.count, are.count)) h.each are.each (sym h.text ∙ are.text)

-- where no remote stands next, there are not so many
pub no_remotes : (bytes : List ℕ) (n count : ℕ) (remotes : List (Nid × Oid)) (rest : List ℕ) → HasRemotes bytes n remotes rest → n < count
    → ((pair : Nid × Oid) (more : List ℕ) → IsPair pair → rest ≡ pair_text pair ++ more → ⊥)
    → (all : List (Nid × Oid)) → AreRemotes bytes count all → ⊥
no_remotes bytes n count remotes rest h few none all are =
    let s = next_remote bytes n count remotes rest h few all are in
    none s.next (flat_map pair_text s.more) s.is s.begins

-- where the remote that stands next is not above those before it, the keys do not rise
pub not_rising : (bytes : List ℕ) (n count : ℕ) (remotes : List (Nid × Oid)) (rest more : List ℕ) (pair : Nid × Oid) → HasRemotes bytes n remotes rest → n < count
    → IsPair pair → rest ≡ pair_text pair ++ more → (IsAbove remotes pair.0 → ⊥)
    → (all : List (Nid × Oid)) → AreRemotes bytes count all → ⊥
not_rising bytes n count remotes rest more pair h few is e below all are =
    let s = next_remote bytes n count remotes rest h few all are in
    let same = one_pair s.next pair (flat_map pair_text s.more) more s.is is (sym s.begins ∙ e) in
    below (subst (λ (p : Nid × Oid). IsAbove remotes p.0) same.0
    (above_front node_of nid_cmp remotes s.next s.more (subst (λ (l : List (Nid × Oid)). IsRising l) s.whole are.rising)))

-- where all were read and something is left, they are not all of the bytes
pub remotes_not_all : (bytes : List ℕ) (n : ℕ) (remotes : List (Nid × Oid)) (rest : List ℕ) → HasRemotes bytes n remotes rest → (rest ≡ [] → ⊥)
    → (all : List (Nid × Oid)) → AreRemotes bytes n all → ⊥
remotes_not_all bytes n remotes rest h left all are =
    left ((all_one IsPair pair_text one_pair remotes all rest [] (h.count ∙ sym are.count) h.each are.each
    (sym h.text ∙ are.text ∙ sym (append-nil (flat_map pair_text all)))).1)

-- where all were read and nothing is left, they are the bytes
pub remotes_all : (bytes : List ℕ) (n : ℕ) (remotes : List (Nid × Oid)) (rest : List ℕ) → HasRemotes bytes n remotes rest → rest ≡ [] → AreRemotes bytes n remotes
remotes_all bytes n remotes rest h done = record {
  each = h.each;
  rising = h.rising;
  count = h.count;
  text = h.text ∙ ap (λ (l : List ℕ). flat_map pair_text remotes ++ l) done ∙ append-nil (flat_map pair_text remotes);
}
