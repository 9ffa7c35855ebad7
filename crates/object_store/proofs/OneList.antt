-- Bytes are a journal of the bodies of at most one list of entries.
use Rattle.std.proofs.Common.{◌≡◌, ℕ, List, [], ◌∷◌, length, refl, ap, arith}
use Rattle.std.specs.List.{AllByRecursion}
use Rattle.ref_journal.proofs.OneReading.{one_journal}
use Rattle.repo_entries.specs.Items.{Item}
use Rattle.entry_bodies.specs.Bodies.{HasBody, body_of}
use Rattle.entry_bodies.proofs.Bodies.{one_item}
use Rattle.object_store.specs.Bodies.{bodies_of}
use Rattle.object_store.specs.Opened.{IsStoreImage}

abbrev first_body : List (List ℕ) → List ℕ
first_body [] = []
first_body (body ∷ bodies) = body

abbrev other_bodies : List (List ℕ) → List (List ℕ)
other_bodies [] = []
other_bodies (body ∷ bodies) = bodies

-- bodies are those of at most one list
one_items : (these those : List Item) → AllByRecursion HasBody these → AllByRecursion HasBody those → bodies_of these ≡ bodies_of those → these ≡ those
one_items [] [] h k e = refl
one_items [] (y ∷ ys) h k e = absurd (let n = ap length e in omega (arith, n))
one_items (x ∷ xs) [] h k e = absurd (let n = ap length e in omega (arith, n))
one_items (x ∷ xs) (y ∷ ys) h k e =
    let first : x ≡ y = one_item (body_of x) x y (record { is = h.0; text = refl }) (record { is = k.0; text = ap first_body e }) in
    let rest : xs ≡ ys = one_items xs ys h.1 k.1 (ap other_bodies e) in
    (λ i. first i ∷ rest i)

pub one_list : (bytes : List ℕ) (these those : List Item) → IsStoreImage bytes these → IsStoreImage bytes those → these ≡ those
one_list bytes these those h k = one_items these those h.had_bodies k.had_bodies (one_journal bytes (bodies_of these) (bodies_of those) h.end k.end h.journal k.journal).0
