-- The rounds of marking, one for each source.
use Rattle.std.proofs.Common.{◌≡◌, ℕ, ◌≤◌, ◌<◌, ◌+◌, length, take, drop, Some, None, List, [], ◌∷◌, ◌++◌, sym, ap, subst, inl, inr, ⊎_elim, ◌∙◌, arith, length-append}
use Rattle.std.specs.Prelude.{Contains, slice_get}
use Rattle.std.proofs.lemmas.List.Elements.{Contains-push_cases, Contains-push}
use Rattle.rad_base.specs.declared.names.Oid.{Oid}
use Rattle.std.proofs.lemmas.List.{take_all, take_more}
use Rattle.std.proofs.lemmas.Option.{slice_get_within, get_or_from_slice_get}
use Rattle.rad_base.proofs.Members.{contains_nothing, contains_at}
use Rattle.rad_base.proofs.Options.{not_nothing}
use Rattle.commit_graph.specs.declared.backward.Backward.{Backward}
use Rattle.commit_graph.specs.declared.root.Root.{Root}
use Rattle.commit_graph.specs.declared.marked.Marks.{Marks}
use Rattle.commit_graph.specs.Pairs.{oid_of}
use Rattle.commit_graph.specs.Backward.{LinksTo, before_in}
use Rattle.commit_graph.specs.Marking.{FindsSource, MarkedBy, mark_in, queue_in, MarksAll, RisesByName, AreMarks}
use Rattle.commit_graph.proofs.MarkedBack.{Marking, Sets, at_most_itself, at_most_along, marking_turn, marking_source, source_marked, sourced_stays, drop_none}

-- between two rounds
pub record Rounds (Step : Root → Root → Type 0) (sources : List Root) (k : ℕ) (marks : Marks) (i : ℕ) : Type 0 where
  pub cursor : i ≡ length (queue_in marks)
  pub sourced : (s : Root) → Contains (take k sources) s → MarkedBy (mark_in marks) s s.oid
  pub sound : (p : Root) (oid : Oid) → mark_in marks p ≡ Some oid → FindsSource Step (Contains sources) oid_of p oid
  pub back : (p q : Root) (oid : Oid) → mark_in marks q ≡ Some oid → Step p q → MarkedBy (mark_in marks) p oid
  pub next : (j : ℕ) (y : Root) → k ≤ j → slice_get sources j ≡ Some y → Marking Step (Contains sources) oid_of (mark_in marks) (queue_in marks) i y.oid

-- in the round of a source
pub record Round (Step : Root → Root → Type 0) (sources : List Root) (k : ℕ) (source : Root) (marks : Marks) (i : ℕ) : Type 0 where
  pub here : slice_get sources k ≡ Some source
  pub within : i ≤ length (queue_in marks)
  pub sourced : (s : Root) → Contains (take (k + 1) sources) s → MarkedBy (mark_in marks) s s.oid
  pub marking : Marking Step (Contains sources) oid_of (mark_in marks) (queue_in marks) i source.oid

as_marks : (old new : Marks) (pairs : List Root) (oid : Oid) → MarksAll old pairs oid new
    → Sets (Contains pairs) oid (mark_in old) (mark_in new) (queue_in old) (queue_in new)
as_marks old new pairs oid g = record { kept = g.kept; all = g.all; only = g.only; more = g.more; queued = g.queued; added = g.added; each = g.each }

one_is : (x p : Root) → Contains (x ∷ []) p → p ≡ x
one_is x p c = ⊎_elim (λ a. absurd (contains_nothing p a)) (λ a. sym a) (Contains-push_cases [] x p c)

one_has : (x p : Root) → p ≡ x → Contains (x ∷ []) p
one_has x p e = subst (λ (y : Root). Contains (x ∷ []) y) (sym e) (Contains-push [] x)

as_mark : (old new : Marks) (x : Root) (oid : Oid) → MarksAll old (x ∷ []) oid new
    → Sets (λ p. p ≡ x) oid (mark_in old) (mark_in new) (queue_in old) (queue_in new)
as_mark old new x oid g = record {
  kept = g.kept;
  all = λ p e. g.all p (one_has x p e);
  only = λ p o e. ⊎_elim (λ a. inl a) (λ a. inr (one_is x p a.0, a.1)) (g.only p o e);
  more = g.more;
  queued = g.queued;
  added = g.added;
  each = g.each;
}

module _ (Step : Root → Root → Type 0) (sources : List Root) where
  -- no mark is set
  pub rounds_start : (marks : Marks) → ((p : Root) → mark_in marks p ≡ None) → queue_in marks ≡ [] → Rounds Step sources 0 marks 0
  rounds_start marks none empty = record {
    cursor = ap length (sym empty);
    sourced = λ s c. absurd (contains_nothing s c);
    sound = λ p oid e. absurd (not_nothing e (none p));
    back = λ p q oid e s. absurd (not_nothing e (none q));
    next = λ j y l at. record {
      sound = λ p oid e. absurd (not_nothing e (none p));
      queued = λ p oid e. absurd (not_nothing e (none p));
      bound = λ p oid e. absurd (not_nothing e (none p));
      back = λ p q oid c e s. absurd (not_nothing e (none q));
      listed = λ q c. absurd (contains_nothing q (subst (λ (ys : List Root). Contains ys q) empty c));
      fresh = λ q c. absurd (contains_nothing q (subst (λ (ys : List Root). Contains ys q) empty c));
    };
  }

  -- a source is marked
  pub round_start : (k i : ℕ) (x : Root) (marks marks' : Marks) → slice_get sources k ≡ Some x → Rounds Step sources k marks i
      → MarksAll marks (x ∷ []) x.oid marks' → Round Step sources k x marks' i
  round_start k i x marks marks' at h g =
      let s = as_mark marks marks' x x.oid g in
      let m = h.next k x (omega arith) at in
      let there = contains_at sources k x at in
      let within : k < length sources = slice_get_within sources k x at in
      let more : length (queue_in marks') ≡ length (queue_in marks) + length g.more = ap length g.queued ∙ length-append (queue_in marks) g.more in
      record {
        here = at;
        within = omega (arith, h.cursor, more);
        sourced = λ y c. ⊎_elim
            (λ a. sourced_stays y y.oid s (h.sourced y a))
            (λ a. subst (λ (z : Root). MarkedBy (mark_in marks') z z.oid) a
            (source_marked {Step = Step} {P = Contains sources} {name = oid_of} x there (at_most_itself x.oid) h.cursor m s))
            (Contains-push_cases (take k sources) x y (subst (λ (ys : List Root). Contains ys y)
            (take_more sources k x within ∙ ap (λ (z : Root). take k sources ++ z ∷ []) (get_or_from_slice_get sources k x x at)) c));
        marking = marking_source x there (at_most_itself x.oid) h.cursor m s;
      }

  -- a round is over
  pub round_end : (k i : ℕ) (x : Root) (marks : Marks) → RisesByName sources → length (queue_in marks) ≤ i → Round Step sources k x marks i
      → Rounds Step sources (k + 1) marks i
  round_end k i x marks rises done h =
      let end : i ≡ length (queue_in marks) = omega (arith, done, h.within) in
      let all : take i (queue_in marks) ≡ queue_in marks = take_all i (queue_in marks) done in
      let none : drop i (queue_in marks) ≡ [] = ap (λ (n : ℕ). drop n (queue_in marks)) end ∙ drop_none (queue_in marks) in
      let m = h.marking in
      record {
        cursor = end;
        sourced = h.sourced;
        sound = m.sound;
        back = λ p q oid e s. m.back p q oid (subst (λ (ys : List Root). Contains ys q) (sym all) (m.queued q oid e)) e s;
        next = λ j y l at. record {
          sound = m.sound;
          queued = m.queued;
          bound = λ p oid e. at_most_along oid x.oid y.oid (m.bound p oid e) (rises k j x y (omega (arith, l)) h.here at);
          back = m.back;
          listed = m.listed;
          fresh = λ q c. absurd (contains_nothing q (subst (λ (ys : List Root). Contains ys q) none c));
        };
      }

-- one turn of a round
pub round_turn : (back : Backward) (sources : List Root) (k i : ℕ) (x pair : Root) (marks marks' : Marks) (before : List Root)
    → slice_get (queue_in marks) i ≡ Some pair
    → Round (LinksTo back) sources k x marks i → before ≡ before_in back pair → MarksAll marks before x.oid marks' → Round (LinksTo back) sources k x marks' (i + 1)
round_turn back sources k i x pair marks marks' before at h e g =
    let s = as_marks marks marks' (before_in back pair) x.oid (subst (λ (ps : List Root). MarksAll marks ps x.oid marks') e g) in
    let more : length (queue_in marks') ≡ length (queue_in marks) + length g.more = ap length g.queued ∙ length-append (queue_in marks) g.more in
    let within : i < length (queue_in marks) = slice_get_within (queue_in marks) i pair at in
    record {
      here = h.here;
      within = omega (arith, more, within);
      sourced = λ y c. sourced_stays y y.oid s (h.sourced y c);
      marking = marking_turn pair at h.marking s;
    }

-- all rounds are over
pub rounds_end : (back : Backward) (sources : List Root) (k i : ℕ) (marks : Marks)
    → length sources ≤ k → Rounds (LinksTo back) sources k marks i → AreMarks back sources marks
rounds_end back sources k i marks l h = record {
  sound = h.sound;
  onward = h.back;
  sourced = λ s c. h.sourced s (subst (λ (ys : List Root). Contains ys s) (sym (take_all k sources l)) c);
}
