-- An append and a mend on a disk that tells what it reads as.
use Rattle.std.proofs.Common.{◌≡◌, ℕ, ◌+◌, List, [], ◌∷◌, ◌++◌, length, Option, None, Some, Bool, true, false, inl, inr, refl, sym, subst, arith}
use Rattle.std.specs.Option.{is_some}
use Rattle.rad_outside.specs.Disks.{Changes, Follows, Torn}
use Rattle.ref_journal.specs.Frames.{IsBody, frame_of, gate_behind}
use Rattle.ref_journal.specs.Holds.{LeavesDoubt, Tells}
use Rattle.ref_journal.specs.Images.{IsInDoubt, IsJournal, IsLeft}
use Rattle.ref_journal.specs.Moments.{HasBodies, HasBodiesOrOneMore, LeavesOnly, LeavesTorn, MayHave, WritesDurably}
use Rattle.ref_journal.specs.declared.faults.AppendFault.{AppendFault}
use Rattle.ref_journal.specs.declared.faults.AppendFault.TheVariants.{Full, DiskFault}
use Rattle.ref_journal.specs.declared.journal.Journal.{Journal}
use Rattle.ref_journal.proofs.Entering.{Staged, closed_doubt, doubt_has, entered, left_has, staged, staged_doubt, torn_behind, torn_doubt}
use Rattle.ref_journal.proofs.Lasting.{leaves_both, leaves_more, leaves_none, leaves_torn, told_torn, told_written}
use Rattle.ref_journal.proofs.Scanning.{gate_behind-push}

-- the first write lasts: the frame stands behind the closed gate
told_staged : (bodies : List (List ℕ)) (body frame : List ℕ) (end : ℕ) (a b : Option (List ℕ)) (before mid : List ℕ → Type 0) → frame ≡ frame_of body
    → Tells (IsJournal bodies end) a before → Changes (WritesDurably (end + 1) frame mid) a b → Tells (Staged bodies end (frame_of body)) b mid
told_staged bodies body frame end a b before mid f t w =
    let told = told_written (IsJournal bodies end) (Staged bodies end frame) (end + 1) frame a b before mid (λ old new j wrote. staged bodies end frame old new j wrote) t w in
    subst (λ (l : List ℕ). Tells (Staged bodies end l) b mid) f told

-- the first write failed
pub not_staged : (bodies : List (List ℕ)) (end n : ℕ) (a b : Option (List ℕ)) (before after : List ℕ → Type 0)
    → Tells (IsJournal bodies end) a before → Changes (Torn (end + 1) n) a b → Follows (Torn (end + 1) n) before after → Tells (IsJournal bodies end) b after
not_staged bodies end n a b before after t w f =
    told_torn (IsJournal bodies end) (IsJournal bodies end) (end + 1) n a b before after (λ old new j torn. torn_behind bodies end n old new j torn) t w f

-- both writes last
pub told_entered : (bodies : List (List ℕ)) (body frame : List ℕ) (end next : ℕ) (a b c : Option (List ℕ)) (before mid after : List ℕ → Type 0)
    → frame ≡ frame_of body → IsBody body → next ≡ end + 9 + length body → Tells (IsJournal bodies end) a before
    → Changes (WritesDurably (end + 1) frame mid) a b → Changes (WritesDurably end (1 ∷ []) after) b c → Tells (IsJournal (bodies ++ body ∷ []) next) c after
told_entered bodies body frame end next a b c before mid after f fits n t w v =
    let behind = told_staged bodies body frame end a b before mid f t w in
    told_written (Staged bodies end (frame_of body)) (IsJournal (bodies ++ body ∷ []) next) end (1 ∷ []) b c mid after (λ old new s wrote.
    let place : next ≡ gate_behind (bodies ++ body ∷ []) = omega (arith, n, s.begins.place_is, gate_behind-push bodies body) in
    subst (λ (p : ℕ). IsJournal (bodies ++ body ∷ []) p new) (sym place) (entered bodies body end old new s fits wrote)) behind v

-- the second write failed
pub told_doubted : (bodies : List (List ℕ)) (body frame : List ℕ) (end : ℕ) (a b c : Option (List ℕ)) (before mid after : List ℕ → Type 0)
    → frame ≡ frame_of body → IsBody body → Tells (IsJournal bodies end) a before
    → Changes (WritesDurably (end + 1) frame mid) a b → Changes (Torn end 1) b c → Follows (Torn end 1) mid after → Tells (IsInDoubt bodies body end) c after
told_doubted bodies body frame end a b c before mid after f fits t w v g =
    let behind = told_staged bodies body frame end a b before mid f t w in
    told_torn (Staged bodies end (frame_of body)) (IsInDoubt bodies body end) end 1 b c mid after (λ old new s torn.
    torn_doubt bodies body end old new (staged_doubt bodies body end old fits s) torn) behind v g

-- a mend lasts
pub told_mended : (bodies : List (List ℕ)) (doubt : Option (List ℕ)) (end : ℕ) (a b : Option (List ℕ)) (before after : List ℕ → Type 0) (body : List ℕ) → doubt ≡ Some body
    → Tells (IsLeft bodies doubt end) a before → Changes (WritesDurably end (0 ∷ []) after) a b → Tells (IsJournal bodies end) b after
told_mended bodies doubt end a b before after body e t w =
    told_written (IsInDoubt bodies body end) (IsJournal bodies end) end (0 ∷ []) a b before after (λ old new d wrote. closed_doubt bodies body end old new d wrote)
    (subst (λ (o : Option (List ℕ)). Tells (IsLeft bodies o end) a before) e t) w

-- a mend failed
pub not_mended : (bodies : List (List ℕ)) (doubt : Option (List ℕ)) (end : ℕ) (a b : Option (List ℕ)) (before after : List ℕ → Type 0) (body : List ℕ) → doubt ≡ Some body
    → Tells (IsLeft bodies doubt end) a before → Changes (Torn end 1) a b → Follows (Torn end 1) before after → Tells (IsLeft bodies doubt end) b after
not_mended bodies doubt end a b before after body e t w f =
    subst (λ (o : Option (List ℕ)). Tells (IsLeft bodies o end) b after) (sym e)
    (told_torn (IsInDoubt bodies body end) (IsInDoubt bodies body end) end 1 a b before after (λ old new d torn. torn_doubt bodies body end old new d torn)
    (subst (λ (o : Option (List ℕ)). Tells (IsLeft bodies o end) a before) e t) w f)

-- the moments of a mend
pub moments_mend : (bodies : List (List ℕ)) (doubt : Option (List ℕ)) (end m0 m1 : ℕ) (a : Option (List ℕ)) (s0 s1 : ℕ → List ℕ → Type 0) (images : List ℕ → Type 0) (body : List ℕ)
    → doubt ≡ Some body → Tells (IsLeft bodies doubt end) a images → ((image : List ℕ) → s0 m0 image → images image) → LeavesTorn end 1 m0 m1 s0 s1 images
    → LeavesOnly m0 m1 s0 s1 (MayHave bodies doubt)
moments_mend bodies doubt end m0 m1 a s0 s1 images body e t now l =
    subst (λ (o : Option (List ℕ)). LeavesOnly m0 m1 s0 s1 (MayHave bodies o)) (sym e)
    (leaves_torn (IsInDoubt bodies body end) (HasBodiesOrOneMore bodies body) end 1 m0 m1 a s0 s1 images (λ bytes d. doubt_has bodies body end bytes d)
    (λ old new d torn. doubt_has bodies body end new (torn_doubt bodies body end old new d torn))
    (subst (λ (o : Option (List ℕ)). Tells (IsLeft bodies o end) a images) e t) now l)

-- no call
pub moments_none : (bodies : List (List ℕ)) (doubt : Option (List ℕ)) (end m : ℕ) (a : Option (List ℕ)) (s : ℕ → List ℕ → Type 0) (images : List ℕ → Type 0)
    → Tells (IsLeft bodies doubt end) a images → ((image : List ℕ) → s m image → images image) → LeavesOnly m m s s (MayHave bodies doubt)
moments_none bodies doubt end m a s images t now = leaves_none (IsLeft bodies doubt end) (MayHave bodies doubt) m a s images (λ bytes left. left_has bodies doubt end bytes left) t now

-- the moments of the first write
pub moments_first : (bodies : List (List ℕ)) (end n m0 m1 : ℕ) (a : Option (List ℕ)) (s0 s1 : ℕ → List ℕ → Type 0) (images : List ℕ → Type 0)
    → Tells (IsJournal bodies end) a images → ((image : List ℕ) → s0 m0 image → images image) → LeavesTorn (end + 1) n m0 m1 s0 s1 images
    → LeavesOnly m0 m1 s0 s1 (HasBodies bodies)
moments_first bodies end n m0 m1 a s0 s1 images t now l =
    leaves_torn (IsJournal bodies end) (HasBodies bodies) (end + 1) n m0 m1 a s0 s1 images (λ bytes j. left_has bodies None end bytes j)
    (λ old new j torn. left_has bodies None end new (torn_behind bodies end n old new j torn)) t now l

-- the moments of both
pub moments_second : (bodies : List (List ℕ)) (body frame : List ℕ) (end n m0 m1 m2 : ℕ) (a b : Option (List ℕ)) (s0 s1 s2 : ℕ → List ℕ → Type 0) (images mid : List ℕ → Type 0)
    → frame ≡ frame_of body → IsBody body → Tells (IsJournal bodies end) a images → ((image : List ℕ) → s0 m0 image → images image)
    → ((image : List ℕ) → s1 m1 image → mid image) → LeavesTorn (end + 1) n m0 m1 s0 s1 images → Changes (WritesDurably (end + 1) frame mid) a b
    → LeavesTorn end 1 m1 m2 s1 s2 mid → LeavesOnly m0 m2 s0 s2 (HasBodiesOrOneMore bodies body)
moments_second bodies body frame end n m0 m1 m2 a b s0 s1 s2 images mid f fits t now then l w k =
    let behind = told_staged bodies body frame end a b images mid f t w in
    let doubt : (bytes : List ℕ) → Staged bodies end (frame_of body) bytes → IsInDoubt bodies body end bytes = λ bytes s. staged_doubt bodies body end bytes fits s in
    leaves_both (HasBodiesOrOneMore bodies body) m0 m1 m2 s0 s1 s2
    (leaves_more (HasBodies bodies) (HasBodiesOrOneMore bodies body) m0 m1 s0 s1 (λ image has. inl has) (moments_first bodies end n m0 m1 a s0 s1 images t now l))
    (leaves_torn (Staged bodies end (frame_of body)) (HasBodiesOrOneMore bodies body) end 1 m1 m2 b s1 s2 mid (λ bytes s. doubt_has bodies body end bytes (doubt bytes s))
    (λ old new s torn. doubt_has bodies body end new (torn_doubt bodies body end old new (doubt old s) torn)) behind then k)

-- after a mend a refusal leaves what it leaves of a journal without a doubt
pub left_after_mend : {D : Type 0} (reads : D → Option (List ℕ)) (images : D → List ℕ → Type 0) (bodies : List (List ℕ)) (doubt : Option (List ℕ)) (body : List ℕ) (new : Journal D) (fault : AppendFault)
    → (fault ≡ Full → ⊥) → LeavesDoubt reads images bodies None body new fault → LeavesDoubt reads images bodies doubt body new fault
left_after_mend reads images bodies doubt body new Full other left = absurd (other refl)
left_after_mend reads images bodies doubt body new (DiskFault true) other left = left
left_after_mend reads images bodies doubt body new (DiskFault false) other left = elim left [ inl none ↦ inl none | inr same ↦ inl same ]

-- the doubt that the journal knows of
pub doubt_of_flag : (flag : Bool) (doubt : Option (List ℕ)) → flag ≡ is_some doubt → flag ≡ true → (body : List ℕ) × (doubt ≡ Some body)
doubt_of_flag flag None e f = absurd (cc)
doubt_of_flag flag (Some body) e f = (body, refl)

-- there is none
pub no_doubt : (flag : Bool) (doubt : Option (List ℕ)) → flag ≡ is_some doubt → flag ≡ false → doubt ≡ None
no_doubt flag None e f = refl
no_doubt flag (Some body) e f = absurd (cc)
