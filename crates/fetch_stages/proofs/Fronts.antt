-- What is put of a front of some objects is put first of all.
use Rattle.std.proofs.Common.{◌≡◌, ◌≤◌, List, [], ◌∷◌, ◌++◌, length, get_or, drop, refl, sym, ap, ◌∙◌, subst, inl, inr, arith, append_assoc}
use Rattle.commit_graph.specs.Objects.{Object}
use Rattle.fetch_stages.specs.Batches.{AreGreedy, FrontsArePutFirst, IsCut, IsOpenCut, all_in}
use Rattle.fetch_stages.proofs.Cuts.{full_more, some_in, some_of}
use Rattle.fetch_stages.proofs.OneCut.{same_first}

some_nothing : (x y : List Object) → 1 ≤ length x → x ++ y ≡ [] → ⊥
some_nothing [] y some e = absurd (omega (arith, some))
some_nothing (o ∷ x) y some e = cc e

some_behind : (bs d : List (List Object)) (l : List Object) → 1 ≤ length l → l ≡ all_in bs → bs ≡ d → 1 ≤ length d
some_behind [] d l some e f = absurd (some_nothing l [] some (subst (λ (k : List Object). k ++ [] ≡ []) (sym e) refl))
some_behind (b ∷ bs) [] l some e f = cc f
some_behind (b ∷ bs) (c ∷ d) l some e f = omega arith

-- one list of lists begins with another, and goes on
abbrev GoesOn : List (List Object) → List (List Object) → Type 0
GoesOn puts batches = (d : List (List Object)) × (batches ≡ puts ++ d) × (1 ≤ length d)

one_on : (p b : List Object) (ps bs d : List (List Object)) → p ≡ b → bs ≡ ps ++ d → b ∷ bs ≡ p ∷ (ps ++ d)
one_on p b ps bs d e f = cc (e, f)

goes_on : (ps bs : List (List Object)) (w more : List Object) → AreGreedy (ps ++ w ∷ []) → 1 ≤ length w → AreGreedy bs
    → all_in (ps ++ w ∷ []) ++ more ≡ all_in bs → GoesOn ps bs
goes_on [] bs w more hp some hb e = (bs, refl, some_behind bs bs (all_in (w ∷ []) ++ more) (some_all w more some) e refl)
  where
    some_all : (w more : List Object) → 1 ≤ length w → 1 ≤ length (all_in (w ∷ []) ++ more)
    some_all [] more some = absurd (omega (arith, some))
    some_all (o ∷ w) more some = omega arith
goes_on (p ∷ ps) [] w more hp some hb e =
    absurd (some_nothing p (all_in (ps ++ w ∷ []) ++ more) hp.0.some (sym (append_assoc p (all_in (ps ++ w ∷ [])) more) ∙ e))
goes_on (p ∷ ps) (b ∷ bs) w more hp some hb e =
    let t = same_first p b (all_in (ps ++ w ∷ []) ++ more) (all_in bs) hp.0 hb.0
    (full_more p (all_in (ps ++ w ∷ [])) more (some_in ps w some) hp.1) hb.1
    (sym (append_assoc p (all_in (ps ++ w ∷ [])) more) ∙ e) in
    let r = goes_on ps bs w more hp.2 some hb.2 t.1 in
    (r.0, one_on p b ps bs r.0 t.0 r.1, r.2)

no_tail : (ps d : List (List Object)) → 1 ≤ length d → [] ≡ ps ++ d → ⊥
no_tail [] [] some e = absurd (omega (arith, some))
no_tail [] (x ∷ d) some e = cc e
no_tail (p ∷ ps) d some e = cc e

-- the same without the last one
without_last : (qs ps d : List (List Object)) (v : List Object) → qs ++ v ∷ [] ≡ ps ++ d → 1 ≤ length d
    → (e : List (List Object)) × (qs ≡ ps ++ e)
without_last qs [] d v f some = (qs, refl)
without_last [] (p ∷ ps) d v f some = absurd (no_tail ps d some (ap (λ (l : List (List Object)). drop 1 l) f))
without_last (q ∷ qs) (p ∷ ps) d v f some =
    let r = without_last qs ps d v (ap (λ (l : List (List Object)). drop 1 l) f) some in
    let first : q ≡ p = ap (λ (l : List (List Object)). get_or l 0 q) f in
    (r.0, one_on p q ps qs r.0 (sym first) r.1)

closed : (objects more : List Object) (w : Object) (ws : List Object) (puts batches : List (List Object))
    → IsCut objects (puts ++ (w ∷ ws) ∷ []) → IsCut (objects ++ more) batches → GoesOn puts batches
closed objects more w ws puts batches f g =
    goes_on puts batches (w ∷ ws) more f.greedy (some_of w ws) g.greedy (ap (λ (l : List Object). l ++ more) (sym f.all) ∙ g.all)

open_ones : (objects more : List Object) (w : Object) (ws v : List Object) (puts batches : List (List Object))
    → IsCut objects (puts ++ (w ∷ ws) ∷ []) → IsOpenCut (objects ++ more) batches v → (rest : List (List Object)) × (batches ≡ puts ++ rest)
open_ones objects more w ws [] puts batches f g =
    let r = closed objects more w ws puts [] f (record { all = g.0; greedy = tt }) in
    absurd (no_tail puts r.0 r.2 r.1)
open_ones objects more w ws (o ∷ v) puts batches f g =
    let r = closed objects more w ws puts (batches ++ (o ∷ v) ∷ []) f g in
    without_last batches puts r.0 (o ∷ v) r.1 r.2

pub fronts_are_put_first : FrontsArePutFirst
fronts_are_put_first objects more [] puts batches f g = (batches, ap (λ (l : List (List Object)). l ++ batches) (sym f.1))
fronts_are_put_first objects more (w ∷ ws) puts batches f (inl g) = open_ones objects more w ws g.0 puts batches f g.1
fronts_are_put_first objects more (w ∷ ws) puts batches f (inr g) = let r = closed objects more w ws puts batches f g in (r.0, r.1)
