-- Objects that join one behind the other, and the batches that are put meanwhile.
use Rattle.std.proofs.Common.{◌≡◌, ℕ, List, [], ◌∷◌, ◌++◌, inr, refl, sym, ap, ◌∙◌, subst, append_assoc}
use Rattle.std.proofs.lemmas.List.{append-nil}
use Rattle.rad_base.specs.declared.names.Rid.{Rid}
use Rattle.commit_graph.specs.Objects.{Object}
use Rattle.repo_entries.specs.Items.{Item, put}
use Rattle.repo_slice.specs.Keeps.{HasSlice, Held, Makes, StopsIn, put_told}
use Rattle.repo_slice.specs.declared.keep_fault.KeepFault.{KeepFault}
use Rattle.repo_slice.specs.declared.keep_fault.KeepFault.TheVariants as fault
use Rattle.fetch_stages.specs.Batches.{IsOpenCut, all_in}
use Rattle.fetch_stages.specs.Puts.{FindsPlace, Joins, MakesPlace, PutsAll, PutsBatches, StopsJoining, StopsPutting, puts_of}
use Rattle.fetch_stages.proofs.Cuts.{all_in-append, finished, joined, nothing_came}
use Rattle.fetch_stages.proofs.Entering.{makes_none, puts_along, stops_behind_puts, stops_done}
use Rattle.fetch_stages.proofs.Holding.{holds_along, holds_none, holds_one}

-- the first of the objects joined, and these are left
pub record HasCome {K O : Type 0} (made : K → O → List Item → Type 0) (held : K → Rid → Held) (rid : Rid)
    (caller : ℕ) (old new : K) (waiting objects left next : List Object) : Type 0 where
  pub shown : List Object
  pub all : objects ≡ shown ++ left
  pub joins : Joins made held rid caller old new waiting shown next

module _ {K O : Type 0} (made : K → O → List Item → Type 0) (held : K → Rid → Held) (rid : Rid) (caller : ℕ) where
  -- no batch is put
  pub batches_none : (k : K) → PutsBatches made held rid caller k k []
  batches_none k = record { entered = makes_none made k; slice = holds_none (held k rid) }

  -- one is put
  pub batches_one : (old new : K) (batch : List Object) → Makes made old new (put rid batch caller ∷ [])
      → HasSlice (held old rid).state (put_told (held old rid).objects batch) (held new rid)
      → PutsBatches made held rid caller old new (batch ∷ [])
  batches_one old new batch f h = record { entered = f; slice = holds_one (held old rid) (held new rid) batch h }

  -- batches are put behind batches
  pub batches_along : (a b c : K) (xs ys : List (List Object)) → PutsBatches made held rid caller a b xs
      → PutsBatches made held rid caller b c ys → PutsBatches made held rid caller a c (xs ++ ys)
  batches_along a b c xs ys f g = record {
    entered = puts_along made rid caller a b c xs ys f.entered g.entered;
    slice = subst (λ (l : List Object). HasSlice (held a rid).state (put_told (held a rid).objects l) (held c rid))
        (sym (all_in-append xs ys))
        (holds_along (held a rid) (held b rid) (held c rid) (all_in xs) (all_in ys) f.slice g.slice);
  }

  -- nothing came
  pub joins_none : (k : K) (waiting : List Object) → Joins made held rid caller k k waiting [] waiting
  joins_none k waiting before puts cut = ([], rw (append-nil before, append-nil puts) cut, batches_none k)

  -- one object came
  pub joins_one : (old new : K) (waiting kept : List Object) (o : Object) (more : List (List Object))
      → MakesPlace waiting o more kept → PutsBatches made held rid caller old new more
      → Joins made held rid caller old new waiting (o ∷ []) (kept ++ o ∷ [])
  joins_one old new waiting kept o more place g before puts cut =
      (more, joined before puts waiting o more kept cut place, g)

  -- objects behind objects
  pub joins_along : (a b c : K) (w os u ps v : List Object) → Joins made held rid caller a b w os u
      → Joins made held rid caller b c u ps v → Joins made held rid caller a c w (os ++ ps) v
  joins_along a b c w os u ps v f g before puts cut =
      let x = f before puts cut in
      let y = g (before ++ os) (puts ++ x.0) x.1 in (
        x.0 ++ y.0,
        subst (λ (l : List Object). IsOpenCut l (puts ++ (x.0 ++ y.0)) v) (append_assoc before os ps)
            (subst (λ (l : List (List Object)). IsOpenCut ((before ++ os) ++ ps) l v) (append_assoc puts x.0 y.0) y.1),
        batches_along a b c x.0 y.0 x.2 y.2,
      )

  -- none came yet
  pub none_came : (k : K) (waiting objects : List Object)
      → HasCome made held rid caller k k waiting objects objects waiting
  none_came k waiting objects = record { shown = []; all = refl; joins = joins_none k waiting }

  -- more came
  pub more_came : (a b c : K) (w objects left u left' v os : List Object)
      → HasCome made held rid caller a b w objects left u → left ≡ os ++ left'
      → Joins made held rid caller b c u os v → HasCome made held rid caller a c w objects left' v
  more_came a b c w objects left u left' v os h e f = record {
    shown = h.shown ++ os;
    all = h.all ∙ ap (λ (l : List Object). h.shown ++ l) e ∙ sym (append_assoc h.shown os left');
    joins = joins_along a b c w h.shown u os v h.joins f;
  }

  -- all came
  pub all_came : (a b : K) (w objects left u : List Object) → HasCome made held rid caller a b w objects left u
      → left ≡ [] → Joins made held rid caller a b w objects u
  all_came a b w objects left u h none =
      subst (λ (l : List Object). Joins made held rid caller a b w l u)
      (sym (h.all ∙ ap (λ (l : List Object). h.shown ++ l) none ∙ append-nil h.shown)) h.joins

  -- a refusal behind objects that joined
  pub stops_along : (end : ℕ) (a b c : K) (w os u ps : List Object) (why : KeepFault)
      → Joins made held rid caller a b w os u → StopsJoining made rid caller end b c u ps why
      → StopsJoining made rid caller end a c w (os ++ ps) why
  stops_along end a b c w os u ps why f g before puts cut =
      let x = f before puts cut in
      let y = g (before ++ os) (puts ++ x.0) x.1 in (
        os ++ y.0,
        y.1,
        ap (λ (l : List Object). os ++ l) y.2 ∙ sym (append_assoc os y.0 y.1),
        x.0 ++ y.3,
        y.4,
        subst (λ (l : List Object). IsOpenCut l (puts ++ (x.0 ++ y.3)) y.4) (append_assoc before os y.0)
            (subst (λ (l : List (List Object)). IsOpenCut ((before ++ os) ++ y.0) l y.4) (append_assoc puts x.0 y.3) y.5),
        stops_behind_puts made rid caller end a b c x.0 y.3 why x.2.entered y.6,
      )

  -- a refusal at the next ones
  pub stops_coming : (end : ℕ) (a b c : K) (w objects left u left' os : List Object) (why : KeepFault)
      → HasCome made held rid caller a b w objects left u → left ≡ os ++ left'
      → StopsJoining made rid caller end b c u os why → StopsJoining made rid caller end a c w objects why
  stops_coming end a b c w objects left u left' os why h e s before puts cut =
      let t = stops_along end a b c w h.shown u os why h.joins s before puts cut in
      let all : objects ≡ (h.shown ++ os) ++ left' =
      h.all ∙ ap (λ (l : List Object). h.shown ++ l) e ∙ sym (append_assoc h.shown os left') in (
        t.0,
        t.1 ++ left',
        all ∙ ap (λ (l : List Object). l ++ left') t.2 ∙ append_assoc t.0 t.1 left',
        t.3,
        t.4,
        t.5,
        t.6,
      )

  -- nothing waits
  pub puts_nothing : (k : K) (waiting : List Object) → waiting ≡ [] → PutsAll made held rid caller k k waiting
  puts_nothing k waiting none before puts cut = ([], nothing_came before puts waiting cut none, batches_none k)

  -- what waits is put
  pub puts_last : (old new : K) (waiting : List Object) → (waiting ≡ [] → ⊥)
      → PutsBatches made held rid caller old new (waiting ∷ []) → PutsAll made held rid caller old new waiting
  puts_last old new waiting some g before puts cut = (waiting ∷ [], finished before puts waiting cut some, g)

module _ {K O : Type 0} (made : K → O → List Item → Type 0) (rid : Rid) (caller : ℕ) where
  -- a refusal while an object joined: its place was being made
  pub stops_place : (end : ℕ) (old new : K) (waiting : List Object) (o : Object) (why : KeepFault)
      → (FindsPlace waiting o → ⊥) → StopsIn made rid caller end old new (put rid waiting caller ∷ []) why
      → StopsJoining made rid caller end old new waiting (o ∷ []) why
  stops_place end old new waiting o why full s before puts cut = (
    o ∷ [],
    [],
    refl,
    waiting ∷ [],
    o ∷ [],
    joined before puts waiting o (waiting ∷ []) [] cut (inr (refl, refl, full)),
    s,
  )

  -- want of memory behind the place
  pub stops_push : (end : ℕ) (old new : K) (waiting kept : List Object) (o : Object) (more : List (List Object))
      → MakesPlace waiting o more kept → Makes made old new (puts_of rid caller more)
      → StopsJoining made rid caller end old new waiting (o ∷ []) fault.NoMemory
  stops_push end old new waiting kept o more place g before puts cut = (
    o ∷ [],
    [],
    refl,
    more,
    kept ++ o ∷ [],
    joined before puts waiting o more kept cut place,
    stops_done made rid caller end old new (puts_of rid caller more) g,
  )

  -- what waits was not put
  pub stops_last : (end : ℕ) (old new : K) (waiting : List Object) (why : KeepFault) → (waiting ≡ [] → ⊥)
      → StopsIn made rid caller end old new (put rid waiting caller ∷ []) why
      → StopsPutting made rid caller end old new waiting why
  stops_last end old new waiting why some s before puts cut =
      (waiting ∷ [], finished before puts waiting cut some, s)
