-- Batches that take one object more.
use Rattle.std.proofs.Common.{◌≡◌, ◌≤◌, List, [], ◌∷◌, ◌++◌, length, refl, sym, ap, ◌∙◌, subst, inl, inr, arith, append_assoc, length-append}
use Rattle.std.proofs.lemmas.List.{append-nil}
use Rattle.commit_graph.specs.Objects.{Object}
use Rattle.repo_entries.specs.Batches.{IsRun, IsWithin}
use Rattle.fetch_stages.specs.Batches.{AreGreedy, IsCut, IsFullBefore, IsOpenCut, all_in}
use Rattle.fetch_stages.specs.Puts.{MakesPlace}

-- the objects of batches behind batches
pub all_in-append : (xs ys : List (List Object)) → all_in (xs ++ ys) ≡ all_in xs ++ all_in ys
all_in-append [] ys = refl
all_in-append (x ∷ xs) ys = ap (λ (l : List Object). x ++ l) (all_in-append xs ys) ∙ sym (append_assoc x (all_in xs) (all_in ys))

-- the objects of batches and of one more
pub all_in-last : (xs : List (List Object)) (y : List Object) → all_in (xs ++ y ∷ []) ≡ all_in xs ++ y
all_in-last xs y = all_in-append xs (y ∷ []) ∙ ap (λ (l : List Object). all_in xs ++ l) (append-nil y)

pub some_in : (xs : List (List Object)) (y : List Object) → 1 ≤ length y → 1 ≤ length (all_in (xs ++ y ∷ []))
some_in xs y some = rw (all_in-last xs y, length-append) (omega arith)

-- a batch stays full where more follows
pub full_more : (b l more : List Object) → 1 ≤ length l → IsFullBefore b l → IsFullBefore b (l ++ more)
full_more b [] more some h = absurd (omega (arith, some))
full_more b (x ∷ l) more some h = h

pub some_of : (x : Object) (xs : List Object) → 1 ≤ length (x ∷ xs)
some_of x xs = omega arith

-- one object is a batch
pub alone : (o : Object) → IsRun (o ∷ [])
alone o = record { some = some_of o []; fits = inl refl }

-- the last batch takes one object more
greedy_grows : (bs : List (List Object)) (c : List Object) (o : Object) → AreGreedy (bs ++ c ∷ []) → 1 ≤ length c → IsWithin (c ++ o ∷ [])
    → AreGreedy (bs ++ (c ++ o ∷ []) ∷ [])
greedy_grows [] c o h some within = (record { some = rw length-append (omega arith); fits = inr within }, tt, tt)
greedy_grows (b ∷ bs) c o h some within =
    let e : all_in (bs ++ c ∷ []) ++ o ∷ [] ≡ all_in (bs ++ (c ++ o ∷ []) ∷ []) =
    ap (λ (l : List Object). l ++ o ∷ []) (all_in-last bs c) ∙ append_assoc (all_in bs) c (o ∷ []) ∙ sym (all_in-last bs (c ++ o ∷ [])) in (
      h.0,
      subst (λ (l : List Object). IsFullBefore b l) e (full_more b (all_in (bs ++ c ∷ [])) (o ∷ []) (some_in bs c some) h.1),
      greedy_grows bs c o h.2 some within,
    )

-- behind a batch that is full another one begins
greedy_next : (bs : List (List Object)) (c : List Object) (o : Object) → AreGreedy (bs ++ c ∷ []) → 1 ≤ length c → (IsWithin (c ++ o ∷ []) → ⊥)
    → AreGreedy ((bs ++ c ∷ []) ++ (o ∷ []) ∷ [])
greedy_next [] c o h some past = (h.0, past, (alone o, tt, tt))
greedy_next (b ∷ bs) c o h some past = (
  h.0,
  subst (λ (l : List Object). IsFullBefore b l) (sym (all_in-last (bs ++ c ∷ []) (o ∷ [])))
      (full_more b (all_in (bs ++ c ∷ [])) (o ∷ []) (some_in bs c some) h.1),
  greedy_next bs c o h.2 some past,
)

-- the first object
cut_first : (before : List Object) (puts more : List (List Object)) (kept : List Object) (o : Object)
    → before ≡ [] → puts ≡ [] → more ≡ [] → kept ≡ [] → IsOpenCut (before ++ o ∷ []) (puts ++ more) (kept ++ o ∷ [])
cut_first before puts more kept o e f g h = rw (e, f, g, h) (record { all = refl; greedy = (alone o, tt, tt) })

-- an object that joins the batch
cut_grows : (before : List Object) (puts more : List (List Object)) (w : Object) (ws kept : List Object) (o : Object)
    → IsCut before (puts ++ (w ∷ ws) ∷ []) → IsWithin ((w ∷ ws) ++ o ∷ []) → more ≡ [] → kept ≡ w ∷ ws
    → IsOpenCut (before ++ o ∷ []) (puts ++ more) (kept ++ o ∷ [])
cut_grows before puts more w ws kept o cut within e f = rw (e, f, append-nil puts) (record {
  all = ap (λ (l : List Object). l ++ o ∷ []) (cut.all ∙ all_in-last puts (w ∷ ws)) ∙ append_assoc (all_in puts) (w ∷ ws) (o ∷ [])
      ∙ sym (all_in-last puts ((w ∷ ws) ++ o ∷ []));
  greedy = greedy_grows puts (w ∷ ws) o cut.greedy (some_of w ws) within;
})

-- an object behind a batch that is full
cut_next : (before : List Object) (puts more : List (List Object)) (w : Object) (ws kept : List Object) (o : Object)
    → IsCut before (puts ++ (w ∷ ws) ∷ []) → (IsWithin ((w ∷ ws) ++ o ∷ []) → ⊥) → more ≡ (w ∷ ws) ∷ [] → kept ≡ []
    → IsOpenCut (before ++ o ∷ []) (puts ++ more) (kept ++ o ∷ [])
cut_next before puts more w ws kept o cut past e f = rw (e, f) (record {
  all = ap (λ (l : List Object). l ++ o ∷ []) cut.all ∙ sym (all_in-last (puts ++ (w ∷ ws) ∷ []) (o ∷ []));
  greedy = greedy_next puts (w ∷ ws) o cut.greedy (some_of w ws) past;
})

not_nothing : (w : Object) (ws : List Object) → w ∷ ws ≡ [] → ⊥
not_nothing w ws e = cc e

-- one object more
pub joined : (before : List Object) (puts : List (List Object)) (waiting : List Object) (o : Object) (more : List (List Object)) (kept : List Object)
    → IsOpenCut before puts waiting → MakesPlace waiting o more kept → IsOpenCut (before ++ o ∷ []) (puts ++ more) (kept ++ o ∷ [])
joined before puts [] o more kept cut (inl p) = cut_first before puts more kept o cut.0 cut.1 p.0 p.1
joined before puts [] o more kept cut (inr p) = absurd (p.2 (inl refl))
joined before puts (w ∷ ws) o more kept cut (inl p) =
    elim p.2 [
      | inl none ↦ absurd (not_nothing w ws none)
      | inr within ↦ cut_grows before puts more w ws kept o cut within p.0 p.1
    ]
joined before puts (w ∷ ws) o more kept cut (inr p) = cut_next before puts more w ws kept o cut (λ within. p.2 (inr within)) p.0 p.1

-- nothing follows: what waits is the last batch
pub finished : (before : List Object) (puts : List (List Object)) (waiting : List Object) → IsOpenCut before puts waiting → (waiting ≡ [] → ⊥)
    → IsCut before (puts ++ waiting ∷ [])
finished before puts [] cut some = absurd (some refl)
finished before puts (w ∷ ws) cut some = cut

-- nothing came
pub nothing_came : (before : List Object) (puts : List (List Object)) (waiting : List Object) → IsOpenCut before puts waiting → waiting ≡ []
    → IsCut before (puts ++ [])
nothing_came before puts [] cut none = rw (cut.0, cut.1) (record { all = refl; greedy = tt })
nothing_came before puts (w ∷ ws) cut none = absurd (not_nothing w ws none)
