-- What a disk in memory reads as is one of its images.
use Rattle.std.specs.Prelude.{◌≡◌, ℕ, ◌-◌, ◌/◌, ◌≤◌, List, [], ◌∷◌, ◌++◌, length, replicate, refl}
use Rattle.std.specs.Prelude.{Bool, true, false, if◌then◌else◌, ◌+◌, ◌<◌, take}
use Rattle.std.proofs.Common.{arith, sym, subst, ◌∙◌, ap, get_or}
use Rattle.std.proofs.lemmas.List.{length-take, length-replicate, take_more}
use Rattle.rad_outside.specs.Disks.{Follows, Torn, Within, Writes}
use Rattle.rad_outside.specs.TornLaws.{torn_writes}
use Rattle.rad_outside.specs.MemoryDisk.{State, new_state, after, after_all, state_after, written}
use Rattle.rad_outside.specs.MemoryDisk.{overwritten, part, IsImage}
use Rattle.rad_outside.specs.declared.call.Call.{Call}
use Rattle.rad_outside.specs.declared.call.Call.TheVariants.{Look, Write, Sync}

-- a disk in memory writes as the trait says, with zeros in the gap
pub writes_overwritten : (place : ℕ) (bytes old : List ℕ)
    → Writes place bytes old (overwritten place bytes old)
writes_overwritten place bytes old = record {
  gap = replicate (place - length old) 0;
  gap_size = length-replicate (place - length old) 0;
  whole = refl;
}

-- what was written is no longer than what was to be
part_size : (failed : Bool) (bytes : List ℕ) → length (part failed bytes) ≤ length bytes
part_size true bytes = omega (arith, length-take (length bytes / 2) bytes)
part_size false bytes = omega arith

-- also a write by half is one that was cut short
pub torn_overwritten : (place : ℕ) (failed : Bool) (bytes old : List ℕ)
    → Torn place (length bytes) old (overwritten place (part failed bytes) old)
torn_overwritten place failed bytes old =
    let writes = writes_overwritten place (part failed bytes) old in
    torn_writes place (length bytes) (part failed bytes) old _ (part_size failed bytes) writes

-- a write, whole or by half, changes what is read as a write that was cut short
pub torn_written : (place : ℕ) (failed : Bool) (bytes : List ℕ) (old new : State)
    → new ≡ written place bytes failed old → Torn place (length bytes) old.reads new.reads
torn_written place failed bytes old new e =
    let torn = torn_overwritten place failed bytes old.reads in
    subst (λ (s : State). Torn place (length bytes) old.reads s.reads) (sym e) torn

-- each image after a write is one from before with such a change
pub images_written : (place : ℕ) (failed : Bool) (bytes : List ℕ) (old new : State)
    → new ≡ written place bytes failed old
    → Follows (Torn place (length bytes)) (IsImage old) (IsImage new)
images_written place failed bytes old new e =
    let torn = Torn place (length bytes) in
    subst (λ (s : State). Follows torn (IsImage old) (IsImage s)) (sym e) (λ image is. is)

-- a call keeps what is read among the images
image_after : (s : State) (call : Call)
    → IsImage s s.reads → IsImage (after s call) (after s call).reads
image_after s Look is = is
image_after s (Write place bytes failed) is =
    (s.reads, is, torn_overwritten place failed bytes.items s.reads)
image_after s (Sync true) is = is
image_after s (Sync false) is = refl

-- so do calls in a row
image_after_all : (calls : List Call) (s : State)
    → IsImage s s.reads → IsImage (after_all s calls) (after_all s calls).reads
image_after_all [] s is = is
image_after_all (call ∷ calls) s is = image_after_all calls (after s call) (image_after s call is)

-- what the disk reads as is one of its images
pub reads_is_image : (first : List ℕ) (calls : List Call)
    → IsImage (state_after first calls) (state_after first calls).reads
reads_is_image first calls = image_after_all calls (new_state first) refl

-- the last call comes last
after_all-push : (calls : List Call) (s : State) (call : Call)
    → after_all s (calls ++ call ∷ []) ≡ after (after_all s calls) call
after_all-push [] s call = refl
after_all-push (c ∷ calls) s call = after_all-push calls (after s c) call

-- one more call is one step more
pub state_pushed : (first : List ℕ) (old new : List Call) (call : Call)
    → new ≡ old ++ call ∷ [] → state_after first new ≡ after (state_after first old) call
state_pushed first old new call e =
    ap (state_after first) e ∙ after_all-push old (new_state first) call

-- the calls up to the next one are one step more
pub state_taken : (first : List ℕ) (calls : List Call) (i : ℕ) (call : Call)
    → i < length calls → call ≡ get_or calls i call
    → state_after first (take (i + 1) calls) ≡ after (state_after first (take i calls)) call
state_taken first calls i call inside at =
    state_pushed first (take i calls) (take (i + 1) calls) call
    (take_more calls i call inside ∙ ap (λ (x : Call). take i calls ++ x ∷ []) (sym at))

-- a size or a read, kept or not
pub looked : (first : List ℕ) (old new : List Call) (kept : Bool)
    → new ≡ (if kept then old ++ Look ∷ [] else old)
    → state_after first new ≡ state_after first old
looked first old new true e = state_pushed first old new Look e
looked first old new false e = ap (state_after first) e

-- a sync leaves what is read
synced_reads : (failed : Bool) (s : State) → (after s (Sync failed)).reads ≡ s.reads
synced_reads true s = refl
synced_reads false s = refl

-- a sync, kept or not, leaves what is read
pub sync_keeps : (first : List ℕ) (old new : List Call) (failed kept : Bool)
    → new ≡ (if kept then old ++ Sync failed ∷ [] else old)
    → (state_after first new).reads ≡ (state_after first old).reads
sync_keeps first old new failed true e =
    ap (λ (s : State). s.reads) (state_pushed first old new (Sync failed) e)
    ∙ synced_reads failed (state_after first old)
sync_keeps first old new failed false e =
    ap (λ (calls : List Call). (state_after first calls).reads) e

-- an image after a sync was one before
synced_image : (first : List ℕ) (calls : List Call) (failed : Bool) (image : List ℕ)
    → IsImage (after (state_after first calls) (Sync failed)) image
    → IsImage (state_after first calls) image
synced_image first calls true image is = is
synced_image first calls false image is =
    subst (IsImage (state_after first calls)) (sym is) (reads_is_image first calls)

-- an image after a sync, kept or not, was one before
pub sync_within : (first : List ℕ) (old new : List Call) (failed kept : Bool)
    → new ≡ (if kept then old ++ Sync failed ∷ [] else old)
    → Within (IsImage (state_after first new)) (IsImage (state_after first old))
sync_within first old new failed true e image is =
    let pushed = state_pushed first old new (Sync failed) e in
    synced_image first old failed image (subst (λ (s : State). IsImage s image) pushed is)
sync_within first old new failed false e image is =
    subst (λ (calls : List Call). IsImage (state_after first calls) image) e is
