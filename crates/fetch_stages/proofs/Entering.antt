-- Entries that calls of a keep make one behind the other, and what they leave.
use Rattle.std.proofs.Common.{◌≡◌, ◌≤◌, ℕ, List, [], ◌∷◌, ◌++◌, inl, Option, refl, sym, ap, ◌∙◌, subst, arith, append_assoc}
use Rattle.std.specs.Prelude.{IsTrue}
use Rattle.std.proofs.lemmas.List.{append-nil, map-append}
use Rattle.rad_base.specs.declared.names.Rid.{Rid}
use Rattle.commit_graph.specs.Objects.{Object, ObjectMap}
use Rattle.repo_entries.specs.Items.{Item, put}
use Rattle.repo_entries.specs.declared.entry.Left.{Left}
use Rattle.repo_entries.specs.declared.entry.Left.TheVariants.{Nothing}
use Rattle.repo_slice.specs.Keeps.{Constants, Held, IsKeepCause, IsNoChange, LeavesOthers, LacksRoom, Makes, MayLeave, StopsIn, missed_by}
use Rattle.repo_slice.specs.declared.keep_fault.KeepFault.{KeepFault}
use Rattle.repo_slice.specs.declared.keep_fault.KeepFault.TheVariants as fault
use Rattle.fetch_stages.specs.Puts.{puts_of}
use Rattle.fetch_stages.specs.Sections.{KeepsLoan}

-- what is left where there is no call
pub leaves_none : {K : Type 0} (constants : K → Constants) (loan faults : K → ℕ)
    (held : K → Rid → Held) (rid : Rid) (k : K) → LeavesOthers constants loan faults held rid k k
leaves_none constants loan faults held rid k = record {
  constants_stay = refl;
  loan_stays = refl;
  later = omega arith;
  others = λ other stands apart. refl;
}

-- what calls leave, they leave together
pub leaves_along : {K : Type 0} (constants : K → Constants) (loan faults : K → ℕ)
    (held : K → Rid → Held) (rid : Rid) (a b c : K)
    → LeavesOthers constants loan faults held rid a b → LeavesOthers constants loan faults held rid b c
    → LeavesOthers constants loan faults held rid a c
leaves_along constants loan faults held rid a b c f g = record {
  constants_stay = g.constants_stay ∙ f.constants_stay;
  loan_stays = g.loan_stays ∙ f.loan_stays;
  later = omega (arith, f.later, g.later);
  others = λ other stands apart.
      g.others other (subst (λ (k : Constants). IsTrue (k.stands other)) (sym f.constants_stay) stands) apart
      ∙ f.others other stands apart;
}

-- a loan that is kept, and kept on
pub loan_along : {T : Type 0} (loan faults : T → ℕ) (a b c : T) → KeepsLoan loan faults a b → loan c ≡ loan b
    → faults b ≤ faults c → KeepsLoan loan faults a c
loan_along loan faults a b c f e h = record {
  loan_stays = e ∙ f.loan_stays;
  later = omega (arith, h, f.later);
}

-- a cause that came since a later moment came since an earlier one
pub cause_along : (told before : Option ObjectMap) (a b c : ℕ) (why : KeepFault) → a ≤ b
    → IsKeepCause told b c why → IsNoChange why → IsKeepCause before a c why
cause_along told before a b c fault.DiskFault h f n = omega (arith, h, f)
cause_along told before a b c fault.Full h f n = tt
cause_along told before a b c (fault.Changed change) h f n = absurd n
cause_along told before a b c fault.NoMemory h f n = tt

-- the caller stays
pub same_caller : (old new : Constants) → new ≡ old → new.caller ≡ old.caller
same_caller old new e = ap (λ (constants : Constants). constants.caller) e

-- no call, no entry
pub makes_none : {K O : Type 0} (made : K → O → List Item → Type 0) (k : K) → Makes made k k []
makes_none made k origin before h = subst (λ (l : List Item). made k origin l) (sym (append-nil before)) h

-- entries behind entries
pub makes_along : {K O : Type 0} (made : K → O → List Item → Type 0) (a b c : K) (xs ys : List Item)
    → Makes made a b xs → Makes made b c ys → Makes made a c (xs ++ ys)
makes_along made a b c xs ys f g origin before h =
    subst (λ (l : List Item). made c origin l) (append_assoc before xs ys) (g origin (before ++ xs) (f origin before h))

doubt_more : (rest more : List Item) (left : Left) → MayLeave rest left → MayLeave (rest ++ more) left
doubt_more [] [] left h = h
doubt_more [] (item ∷ more) left h = inl h
doubt_more (item ∷ rest) more left h = h

room_more : (end : ℕ) (rest more : List Item) → LacksRoom end rest → LacksRoom end (rest ++ more)
room_more end [] more h = absurd h
room_more end (item ∷ rest) more h = h

no_memory_is_not_full : fault.NoMemory ≡ fault.Full → ⊥
no_memory_is_not_full e = cc e

module _ {K O : Type 0} (made : K → O → List Item → Type 0) (rid : Rid) (caller : ℕ) where
  -- puts behind puts
  pub puts_along : (a b c : K) (xs ys : List (List Object)) → Makes made a b (puts_of rid caller xs)
      → Makes made b c (puts_of rid caller ys) → Makes made a c (puts_of rid caller (xs ++ ys))
  puts_along a b c xs ys f g =
      subst (λ (l : List Item). Makes made a c l)
      (sym (map-append (λ (batch : List Object). put rid batch caller) xs ys))
      (makes_along made a b c (puts_of rid caller xs) (puts_of rid caller ys) f g)

  -- a refusal behind entries
  pub stops_behind : (end : ℕ) (a b c : K) (xs ys : List Item) (why : KeepFault) → Makes made a b xs
      → StopsIn made rid caller end b c ys why → StopsIn made rid caller end a c (xs ++ ys) why
  stops_behind end a b c xs ys why f s = (
    xs ++ s.0,
    record {
      done = xs ++ s.1.done;
      rest = s.1.rest;
      all = ap (λ (l : List Item). xs ++ l) s.1.all ∙ sym (append_assoc xs s.1.done s.1.rest);
      left = s.1.left;
      doubt = s.1.doubt;
      full = s.1.full;
      history_is = ap (λ (l : List Item). xs ++ l) s.1.history_is
          ∙ sym (append_assoc xs s.1.done (missed_by rid caller s.1.left why));
    },
    makes_along made a b c xs s.0 f s.2,
  )

  -- a refusal behind puts
  pub stops_behind_puts : (end : ℕ) (a b c : K) (xs ys : List (List Object)) (why : KeepFault)
      → Makes made a b (puts_of rid caller xs) → StopsIn made rid caller end b c (puts_of rid caller ys) why
      → StopsIn made rid caller end a c (puts_of rid caller (xs ++ ys)) why
  stops_behind_puts end a b c xs ys why f s =
      subst (λ (l : List Item). StopsIn made rid caller end a c l why)
      (sym (map-append (λ (batch : List Object). put rid batch caller) xs ys))
      (stops_behind end a b c (puts_of rid caller xs) (puts_of rid caller ys) why f s)

  -- want of memory behind entries
  pub stops_done : (end : ℕ) (old new : K) (es : List Item) → Makes made old new es
      → StopsIn made rid caller end old new es fault.NoMemory
  stops_done end old new es g = (
    es,
    record {
      done = es;
      rest = [];
      all = sym (append-nil es);
      left = Nothing;
      doubt = refl;
      full = λ e. absurd (no_memory_is_not_full e);
      history_is = sym (append-nil es);
    },
    g,
  )

  -- a refusal among the first entries
  pub stops_among : (end : ℕ) (old new : K) (xs ys : List Item) (why : KeepFault)
      → StopsIn made rid caller end old new xs why → StopsIn made rid caller end old new (xs ++ ys) why
  stops_among end old new xs ys why s = (
    s.0,
    record {
      done = s.1.done;
      rest = s.1.rest ++ ys;
      all = ap (λ (l : List Item). l ++ ys) s.1.all ∙ append_assoc s.1.done s.1.rest ys;
      left = s.1.left;
      doubt = doubt_more s.1.rest ys s.1.left s.1.doubt;
      full = λ e. room_more end s.1.rest ys (s.1.full e);
      history_is = s.1.history_is;
    },
    s.2,
  )
