-- Writes on a disk that tells what it reads as, and the moments of calls.
use Rattle.std.proofs.Common.{◌≡◌, ℕ, List, length, Option, None, Some, Result, Ok, Err, inl, inr, refl, sym, subst, ◌∙◌, arith}
use Rattle.std.specs.Prelude.{IfSome, OnErr, OnOk}
use Rattle.std.specs.Io.KnownBytes.{Keeps}
use Rattle.rad_outside.specs.Disks.{Changes, Follows, Only, Torn, Within, Writes}
use Rattle.rad_outside.specs.TornLaws.{torn_writes}
use Rattle.ref_journal.specs.Holds.{Tells}
use Rattle.ref_journal.specs.Moments.{LeavesOnly, LeavesTorn, Passes, TornOf, WritesDurably}

-- a write and a sync
pub written_durably : (place : ℕ) (bytes : List ℕ) (a b c : Option (List ℕ)) (images : List ℕ → Type 0) → Changes (Writes place bytes) a b → Keeps b c
    → IfSome b (λ now. Only now images) → Changes (WritesDurably place bytes images) a c
written_durably place bytes None b c images w k o = tt
written_durably place bytes (Some old) None c images w k o = absurd w
written_durably place bytes (Some old) (Some new) None images w k o = absurd k
written_durably place bytes (Some old) (Some new) (Some same) images w k o =
    (subst (λ (l : List ℕ). Writes place bytes old l) (sym k) w, λ image is. o image is ∙ sym k)

-- a write and a sync that failed
pub torn_by_sync : (place : ℕ) (bytes : List ℕ) (a b c : Option (List ℕ)) → Changes (Writes place bytes) a b → Keeps b c → Changes (Torn place (length bytes)) a c
torn_by_sync place bytes None b c w k = tt
torn_by_sync place bytes (Some old) None c w k = absurd w
torn_by_sync place bytes (Some old) (Some new) None w k = absurd k
torn_by_sync place bytes (Some old) (Some new) (Some same) w k =
    torn_writes place (length bytes) bytes old same (omega arith) (subst (λ (l : List ℕ). Writes place bytes old l) (sym k) w)

-- a sync adds no image
pub follows_within : (step : List ℕ → List ℕ → Type 0) (a b c : List ℕ → Type 0) → Follows step a b → Within c b → Follows step a c
follows_within step a b c f w = λ image is. f image (w image is)

-- a write that lasts leads from P to Q
pub told_written : (P Q : List ℕ → Type 0) (place : ℕ) (bytes : List ℕ) (a b : Option (List ℕ)) (before after : List ℕ → Type 0)
    → ((old new : List ℕ) → P old → Writes place bytes old new → Q new) → Tells P a before → Changes (WritesDurably place bytes after) a b → Tells Q b after
told_written P Q place bytes None b before after step t w = absurd (let none = t.told in cc)
told_written P Q place bytes (Some old) None before after step t w = absurd w
told_written P Q place bytes (Some old) (Some new) before after step t w =
    let same : t.bytes ≡ old = let some = t.told in cc in
    let has : Q new = step old new (subst P same t.has) w.0 in
    record { bytes = new; told = refl; has = has; each = λ image is. subst Q (sym (w.1 image is)) has }

-- and so does one that was torn
pub told_torn : (P Q : List ℕ → Type 0) (place n : ℕ) (a b : Option (List ℕ)) (before after : List ℕ → Type 0)
    → ((old new : List ℕ) → P old → Torn place n old new → Q new) → Tells P a before → Changes (Torn place n) a b → Follows (Torn place n) before after → Tells Q b after
told_torn P Q place n None b before after step t w f = absurd (let none = t.told in cc)
told_torn P Q place n (Some old) None before after step t w f = absurd w
told_torn P Q place n (Some old) (Some new) before after step t w f =
    let same : t.bytes ≡ old = let some = t.told in cc in
    record {
      bytes = new;
      told = refl;
      has = step old new (subst P same t.has) w;
      each = λ image is. let from = f image is in step from.0 image (t.each from.0 from.1) from.2;
    }

-- what is told has what follows from it
pub told_more : (P Q : List ℕ → Type 0) (a : Option (List ℕ)) (images : List ℕ → Type 0) → ((bytes : List ℕ) → P bytes → Q bytes) → Tells P a images → Tells Q a images
told_more P Q a images more t = record { bytes = t.bytes; told = t.told; has = more t.bytes t.has; each = λ image is. more image (t.each image is) }

-- the moments of a write
pub leaves_torn : (P R : List ℕ → Type 0) (place n m0 m1 : ℕ) (a : Option (List ℕ)) (s0 s1 : ℕ → List ℕ → Type 0) (images : List ℕ → Type 0)
    → ((bytes : List ℕ) → P bytes → R bytes) → ((old new : List ℕ) → P old → Torn place n old new → R new) → Tells P a images
    → ((image : List ℕ) → s0 m0 image → images image) → LeavesTorn place n m0 m1 s0 s1 images → LeavesOnly m0 m1 s0 s1 R
leaves_torn P R place n m0 m1 a s0 s1 images was step t now l =
    let torn : (image : List ℕ) → TornOf place n images image → R image = λ image from. step from.0 image (t.each from.0 from.1) from.2 in
    record {
      later = l.later;
      each = λ image is. elim (l.before m0 image (omega arith) is) [ inl past ↦ was image (t.each image (now image past)) | inr has ↦ torn image has ];
      before = λ q image low is. elim (l.before q image low is) [ inl past ↦ inl past | inr has ↦ inr (torn image has) ];
    }

-- one call more
pub leaves_on : (R S : List ℕ → Type 0) (m0 m1 m2 : ℕ) (s0 s1 s2 : ℕ → List ℕ → Type 0) → LeavesOnly m0 m1 s0 s1 R → Passes m1 m2 s1 s2 S
    → ((image : List ℕ) → S image → R image) → LeavesOnly m0 m2 s0 s2 R
leaves_on R S m0 m1 m2 s0 s1 s2 h k more = record {
  later = omega (arith, h.later, k.later);
  each = λ image is. elim (k.before m0 image h.later is) [ inl past ↦ h.each image past | inr has ↦ more image has ];
  before = λ t image low is. elim (k.before t image (omega (arith, low, h.later)) is) [ inl past ↦ h.before t image low past | inr has ↦ inr (more image has) ];
}

-- two runs
pub leaves_both : (R : List ℕ → Type 0) (m0 m1 m2 : ℕ) (s0 s1 s2 : ℕ → List ℕ → Type 0) → LeavesOnly m0 m1 s0 s1 R → LeavesOnly m1 m2 s1 s2 R → LeavesOnly m0 m2 s0 s2 R
leaves_both R m0 m1 m2 s0 s1 s2 h k = leaves_on R R m0 m1 m2 s0 s1 s2 h (record { later = k.later; before = k.before }) (λ image has. has)

-- a run of which more is said
pub leaves_more : (R S : List ℕ → Type 0) (m0 m1 : ℕ) (s0 s1 : ℕ → List ℕ → Type 0) → ((image : List ℕ) → R image → S image) → LeavesOnly m0 m1 s0 s1 R → LeavesOnly m0 m1 s0 s1 S
leaves_more R S m0 m1 s0 s1 more h = record {
  later = h.later;
  each = λ image is. more image (h.each image is);
  before = λ t image low is. elim (h.before t image low is) [ inl past ↦ inl past | inr has ↦ inr (more image has) ];
}

-- no call
pub leaves_none : (P R : List ℕ → Type 0) (m : ℕ) (a : Option (List ℕ)) (s : ℕ → List ℕ → Type 0) (images : List ℕ → Type 0)
    → ((bytes : List ℕ) → P bytes → R bytes) → Tells P a images → ((image : List ℕ) → s m image → images image) → LeavesOnly m m s s R
leaves_none P R m a s images was t now = record {
  later = omega arith;
  each = λ image is. was image (t.each image (now image is));
  before = λ q image low is. inl is;
}

-- what holds anyway holds at a refusal
pub on_err : {T E : Type 0} (r : Result T E) (P : Type 0) → P → OnErr r P
on_err (Ok x) P p = tt
on_err (Err e) P p = p

-- a call that only reads keeps what is told
pub tells_kept : (P : List ℕ → Type 0) (a b : Option (List ℕ)) (before after : List ℕ → Type 0) → Tells P a before → Keeps a b → Within after before → Tells P b after
tells_kept P None b before after t k w = absurd (let none = t.told in cc)
tells_kept P (Some old) None before after t k w = absurd k
tells_kept P (Some old) (Some new) before after t k w =
    let same : t.bytes ≡ old = let some = t.told in cc in
    record { bytes = new; told = refl; has = subst P (same ∙ sym k) t.has; each = λ image is. t.each image (w image is) }

-- what follows from what holds at Ok holds at Ok
pub on_ok : {T E : Type 0} (r : Result T E) (P Q : Type 0) → OnOk r P → (P → Q) → OnOk r Q
on_ok (Ok x) P Q p q = q p
on_ok (Err e) P Q p q = tt
