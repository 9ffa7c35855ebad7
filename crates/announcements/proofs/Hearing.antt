-- Hearing announcements in turn makes the table of those that count.
use Rattle.std.proofs.Common.{◌≡◌, ℕ, Bool, true, false, cond, List, [], ◌∷◌, ◌++◌, Option, Some, None, refl, sym, ap, subst, ⊎_elim, ◌∙◌}
use Rattle.std.specs.Prelude.{Contains, filter, map}
use Rattle.std.specs.Ordering.{is_eq, match_ordering}
use Rattle.std.specs.declared.cmp.Ordering.{Ordering}
use Rattle.std.specs.declared.cmp.Ordering.TheVariants.{Less, Equal, Greater}
use Rattle.std.proofs.lemmas.Cmp.{tied_itself}
use Rattle.std.proofs.lemmas.List.{append-nil, append_assoc}
use Rattle.std.proofs.lemmas.List.Elements.{Contains-append_left, Contains-push, Contains-push_cases}
use Rattle.rad_base.proofs.Members.{contains_nothing}
use Rattle.rad_base.proofs.NameOrder.{equal_from_is_eq}
use Rattle.gossip_wire.specs.declared.message.Message.{Message}
use Rattle.keyring.specs.Contents.{Contents}
use Rattle.announcements.specs.Announcements.{is_accepted, is_early, kept_of, key_of}
use Rattle.announcements.specs.Keys.{key_cmp}
use Rattle.announcements.specs.Laws.{HearingMakesTheTable, HearsAll, RaisedSurpasses, TablesGrow, counted, counts}
use Rattle.announcements.specs.Tables.{Follows, IsGreatest, IsKept, IsSame, IsTable, Keeping, Keeps, Surpasses, answer, beside, nothing_kept, rank_cmp}
use Rattle.announcements.specs.declared.heard.Heard.{Heard}
use Rattle.announcements.specs.declared.heard.Heard.TheVariants.{Raised, Older, Same, Early, NotAccepted}
use Rattle.announcements.specs.declared.kept.Kept.{Kept}
use Rattle.announcements.specs.declared.key.Key.{Key}
use Rattle.announcements.proofs.KeyOrder.{key_exact, key_total}
use Rattle.announcements.proofs.Ranks.{below_through, not_above_itself, rank_total}

-- one that is raised is above what is kept
raised_above : (o : Ordering) → match_ordering o Raised Same Older ≡ Raised → o ≡ Less
raised_above Less h = refl
raised_above Equal h = cc h
raised_above Greater h = cc h

surpasses : (heard : List Message) (message : Message) (kept : Option Kept) → IsKept heard (key_of message) kept
    → beside kept (kept_of message) ≡ Raised → Surpasses heard message
surpasses heard message None none h = λ other there same. absurd (none other there same)
surpasses heard message (Some kept) greatest h = λ other there same.
    below_through (kept_of other) kept (kept_of message) (greatest.most other there same)
    (raised_above (rank_cmp kept (kept_of message)) h)

raised : (heard : List Message) (message : Message) (kept : Option Kept) → IsKept heard (key_of message) kept
    → Surpasses heard message → beside kept (kept_of message) ≡ Raised
raised heard message None none above = refl
raised heard message (Some kept) greatest above =
    let below : rank_cmp kept (kept_of message) ≡ Less = rw greatest.is (above greatest.message greatest.there greatest.of) in
    rw below refl

pub raised_surpasses : RaisedSurpasses
raised_surpasses heard table message is = (
  surpasses heard message (table (key_of message)) (is (key_of message)),
  raised heard message (table (key_of message)) (is (key_of message)),
)

-- one message more that is of another key
other_key : (heard : List Message) (message : Message) (key : Key) (kept : Option Kept)
    → (key_of message ≡ key → ⊥) → IsKept heard key kept → IsKept (heard ++ message ∷ []) key kept
other_key heard message key None apart none = λ other there same.
    ⊎_elim (λ a. none other a same) (λ a. apart (ap key_of a ∙ same)) (Contains-push_cases heard message other there)
other_key heard message key (Some kept) apart greatest = record {
  message = greatest.message;
  there = Contains-append_left heard (message ∷ []) greatest.message greatest.there;
  of = greatest.of;
  is = greatest.is;
  most = λ other there same.
      ⊎_elim (λ a. greatest.most other a same) (λ a. absurd (apart (ap key_of a ∙ same))) (Contains-push_cases heard message other there);
}

-- one message more that is not above what is kept of its key
lesser : (heard : List Message) (message : Message) (key : Key) (kept : Kept)
    → (rank_cmp (kept_of message) kept ≡ Greater → ⊥) → IsGreatest heard key kept
    → IsGreatest (heard ++ message ∷ []) key kept
lesser heard message key kept below greatest = record {
  message = greatest.message;
  there = Contains-append_left heard (message ∷ []) greatest.message greatest.there;
  of = greatest.of;
  is = greatest.is;
  most = λ other there same.
      ⊎_elim (λ a. greatest.most other a same) (λ a h. below (subst (λ (m : Message). rank_cmp (kept_of m) kept ≡ Greater) (sym a) h)) (Contains-push_cases heard message other there);
}

-- one message more that is above all of its key
greater : (heard : List Message) (message : Message) → Surpasses heard message
    → IsGreatest (heard ++ message ∷ []) (key_of message) (kept_of message)
greater heard message above = record {
  message = message;
  there = Contains-push heard message;
  of = refl;
  is = refl;
  most = λ other there same.
      ⊎_elim (λ a h. cc (above other a same, h)) (λ a h. not_above_itself (kept_of message) (subst (λ (m : Message). rank_cmp (kept_of m) (kept_of message) ≡ Greater) (sym a) h)) (Contains-push_cases heard message other there);
}

-- keys are one, or they are apart
by_keys : {G : Type 0} (a b : Key) → (a ≡ b → G) → ((a ≡ b → ⊥) → G) → G
by_keys {G} a b one apart = by_test (is_eq (key_cmp a b)) refl
  where
    by_test : (t : Bool) → is_eq (key_cmp a b) ≡ t → G
    by_test true e = one (key_exact a b (equal_from_is_eq _ e))
    by_test false e = apart (λ h. cc (e, ap is_eq (tied_itself key_total a), ap (λ (k : Key). is_eq (key_cmp a k)) h))

pub tables_grow : TablesGrow
tables_grow heard old new message is above keeps = λ key.
    by_keys key (key_of message)
    (λ same. subst (IsKept (heard ++ message ∷ []) key) (sym (ap new same ∙ keeps.here))
    (subst (λ (k : Key). IsGreatest (heard ++ message ∷ []) k (kept_of message)) (sym same) (greater heard message above)))
    (λ apart. subst (IsKept (heard ++ message ∷ []) key) (sym (keeps.others key apart))
    (other_key heard message key (old key) (λ h. apart (sym h)) (is key)))

-- the same is kept
stays : (heard : List Message) (old new : Keeping) → IsTable heard old → IsSame old new → IsTable heard new
stays heard old new is same = λ key. subst (IsKept heard key) (sym (same key)) (is key)

-- one that is not raised, of a time that counts
not_raised : (heard : List Message) (old new : Keeping) (message : Message) (kept : Kept) → old (key_of message) ≡ Some kept
    → (rank_cmp (kept_of message) kept ≡ Greater → ⊥) → IsTable heard old → IsSame old new → IsTable (heard ++ message ∷ []) new
not_raised heard old new message kept there below is same = λ key.
    subst (IsKept (heard ++ message ∷ []) key) (sym (same key))
    (by_keys key (key_of message)
    (λ one.
    let here : old key ≡ Some kept = ap old one ∙ there in
    subst (IsKept (heard ++ message ∷ []) key) (sym here)
    (lesser heard message key kept below (subst (IsKept heard key) here (is key))))
    (λ apart. other_key heard message key (old key) (λ h. apart (sym h)) (is key)))

-- one that counts is heard
one_heard : (heard : List Message) (old new : Keeping) (message : Message) → IsTable heard old
    → Follows (beside (old (key_of message)) (kept_of message)) message old new → IsTable (heard ++ message ∷ []) new
one_heard heard old new message is = by_kept (old (key_of message)) refl
  where
    by_rank : (kept : Kept) (o : Ordering) → old (key_of message) ≡ Some kept → rank_cmp kept (kept_of message) ≡ o
        → Follows (match_ordering o Raised Same Older) message old new → IsTable (heard ++ message ∷ []) new
    by_rank kept Less there e follows =
        let raise : beside (old (key_of message)) (kept_of message) ≡ Raised = rw (there, e) refl in
        tables_grow heard old new message is (surpasses heard message (old (key_of message)) (is (key_of message)) raise) follows
    by_rank kept Equal there e follows =
        not_raised heard old new message kept there (λ h. cc (h, e, rank_total.antisymm (kept_of message) kept)) is follows
    by_rank kept Greater there e follows =
        not_raised heard old new message kept there (λ h. cc (h, e, rank_total.antisymm (kept_of message) kept)) is follows

    by_kept : (o : Option Kept) → old (key_of message) ≡ o → Follows (beside o (kept_of message)) message old new
        → IsTable (heard ++ message ∷ []) new
    by_kept None e follows =
        let raise : beside (old (key_of message)) (kept_of message) ≡ Raised = rw e refl in
        tables_grow heard old new message is (surpasses heard message (old (key_of message)) (is (key_of message)) raise) follows
    by_kept (Some kept) e follows = by_rank kept (rank_cmp kept (kept_of message)) e refl follows

-- announcements heard behind others
hears_from : (keyring : Contents) (before : List Message) (heard : List (Message × ℕ)) (old new : Keeping) → IsTable before old
    → HearsAll keyring heard old new → IsTable (before ++ counted keyring heard) new
hears_from keyring before [] old new is same = rw (append-nil before) (stays before old new is same)
hears_from keyring before (x ∷ more) old new is hears =
    by_verdict (λ some table. hears_from keyring some more hears.0 new table hears.2) (is_accepted keyring x.0) (is_early x.1 x.0) refl refl hears.1
  where
    uncounted : ((some : List Message) → IsTable some hears.0 → IsTable (some ++ counted keyring more) new)
        → IsSame old hears.0 → counts keyring x ≡ false → IsTable (before ++ counted keyring (x ∷ more)) new
    uncounted later same e = rw e (later before (stays before old hears.0 is same))

    by_verdict : ((some : List Message) → IsTable some hears.0 → IsTable (some ++ counted keyring more) new)
        → (accepted early : Bool) → is_accepted keyring x.0 ≡ accepted → is_early x.1 x.0 ≡ early
        → Follows (answer old keyring x.1 x.0) x.0 old hears.0 → IsTable (before ++ counted keyring (x ∷ more)) new
    by_verdict later false early e f follows =
        let said : answer old keyring x.1 x.0 ≡ NotAccepted = rw e refl in
        uncounted later (subst (λ (h : Heard). Follows h x.0 old hears.0) said follows) (rw e refl)
    by_verdict later true true e f follows =
        let said : answer old keyring x.1 x.0 ≡ Early = rw (e, f) refl in
        uncounted later (subst (λ (h : Heard). Follows h x.0 old hears.0) said follows) (rw (e, f) refl)
    by_verdict later true false e f follows =
        let counts_it : counts keyring x ≡ true = rw (e, f) refl in
        let said : answer old keyring x.1 x.0 ≡ beside (old (key_of x.0)) (kept_of x.0) = rw (e, f) refl in
        let step : Follows (beside (old (key_of x.0)) (kept_of x.0)) x.0 old hears.0 = subst (λ (h : Heard). Follows h x.0 old hears.0) said follows in
        let behind : IsTable ((before ++ x.0 ∷ []) ++ counted keyring more) new =
        later (before ++ x.0 ∷ []) (one_heard before old hears.0 x.0 is step) in
        rw counts_it (subst (λ (m : List Message). IsTable m new) (append_assoc before (x.0 ∷ []) (counted keyring more)) behind)

pub hearing_makes_the_table : HearingMakesTheTable
hearing_makes_the_table keyring heard table hears =
    hears_from keyring [] heard nothing_kept table (λ key message there same. contains_nothing message there) hears
