-- How runs end whose files and bundle are in order.
use Rattle.std.proofs.Common.{◌≡◌, ℕ, List, [], ◌∷◌, ◌++◌, length, Option, None, Some, Result, IfSome, IsSomeAnd, inl, inr, refl, sym, ap, ◌∙◌, subst, arith, append_assoc}
use Rattle.std.proofs.lemmas.List.{append-nil}
use Rattle.std.specs.List.{AllByRecursion}
use Rattle.std.specs.Io.KnownBytes.{Consumes, IsAtEnd}
use Rattle.rad_base.specs.declared.names.Rid.{Rid}
use Rattle.keyring.specs.Contents.{Contents}
use Rattle.keyring.proofs.Files.{one_reading, read_unbroken}
use Rattle.ref_journal.specs.Frames.{gate_behind}
use Rattle.ref_journal.specs.Images.{IsUnmade}
use Rattle.ref_journal.proofs.OneReading.{journal_is_made, journal_is_whole, one_journal}
use Rattle.repo_entries.specs.Items.{Item}
use Rattle.repo_entries.specs.declared.whole.Whole.{Whole}
use Rattle.repo_slice.specs.Keeps.{Held, IsStopped, LacksRoom}
use Rattle.repo_slice.specs.declared.keep_fault.KeepFault.TheVariants as fault
use Rattle.repo_slice.specs.declared.verdict.Judged.{Judged}
use Rattle.entry_bodies.specs.Bodies.{HasBody, SpellsItem}
use Rattle.legal_history.specs.Durable.{durable_part}
use Rattle.legal_history.specs.Histories.{Lawful, Legal, LegalFrom}
use Rattle.object_store.specs.Bodies.{bodies_of}
use Rattle.object_store.specs.Opened.{IsStoreImage}
use Rattle.object_store.specs.Opens.{IsIllegalAt}
use Rattle.object_store.proofs.OneList.{one_list}
use Rattle.fetch_stages.specs.Imports.{Bad, Came, Inside, IsBundleJob, Long, Unjudged, Verdict}
use Rattle.fetch_stages.specs.JobLaws.{BeginWith, IsInsideOf, IsToldOf, IsUnjudged, behind_came}
use Rattle.fetch_stages.proofs.JobRuns.{bundle_fronts_enter_first, bundle_stops_stay, one_bundle_job}
use Rattle.rad_node.specs.Completeness.{AreInOrder, EndsWell, HasEnded, IsFaultless, IsInOrder, IsInOrderBy, IsSomeBundle, TakesSuch, counted_by}
use Rattle.rad_node.specs.Done.{IsDone, MayBeUnopened}
use Rattle.rad_node.specs.Imports.{Imported, IsBadInput, held_behind, importing}
use Rattle.rad_node.specs.Runs.{HasReport}
use Rattle.rad_node.specs.Statuses.{AreGood, Files, IsBadKeyring, IsCaused, IsDamagedStore, IsIllegalStore, IsSaid, SaysKeyring, TakesBundle, TakesBytes, TakesMemory, files_of}
use Rattle.rad_node.specs.declared.command.Command.{Command}
use Rattle.rad_node.specs.declared.command.Command.TheVariants.{Init, Import, Show, Heads, Audit, Frames, Gen}
use Rattle.rad_node.specs.declared.status.Status.{Status}
use Rattle.rad_node.specs.declared.status.Status.TheVariants as status
use Rattle.rad_node.specs.declared.status.WhichSource.TheVariants as source
use Rattle.rad_node.proofs.Listings.{listing_ends_well}
use Rattle.rad_node.proofs.Rooms.{HasRoomFor, bundle_room}
use Rattle.rad_node.proofs.Spelled.{bundle_job, held_with}

-- what is told, and what is said of it
pub told : {X : Type 0} (P Q : X → Type 0) (o : Option X) → IsSomeAnd o P → IfSome o Q → (x : X) × P x × Q x
told P Q None some all = absurd some
told P Q (Some x) some all = (x, some, all)

-- files that are in order say no other keyring, and have no other entries
pub same_files : (files : Files) (keyring other : Contents) (stored those : List Item) → AreInOrder files keyring stored → AreGood files other those
    → (other ≡ keyring) × (those ≡ stored)
same_files files keyring other stored those order good =
    let file = told (λ (f : List ℕ). SaysKeyring f keyring) (λ (f : List ℕ). SaysKeyring f other) files.keyring order.keys good.keys in
    let bytes = told (λ (b : List ℕ). IsStoreImage b stored) (λ (b : List ℕ). IsStoreImage b those) files.store order.store good.store in
    (one_reading file.0 other keyring file.2.keys file.1.keys, one_list bytes.0 those stored bytes.2 bytes.1)

-- a journal of entries is made
image_made : (bytes : List ℕ) (stored : List Item) → IsStoreImage bytes stored → IsUnmade bytes → ⊥
image_made bytes stored image unmade = journal_is_made bytes (bodies_of stored) image.end image.journal unmade

abbrev first_body : List (List ℕ) → List ℕ
first_body [] = []
first_body (body ∷ bodies) = body

abbrev other_bodies : List (List ℕ) → List (List ℕ)
other_bodies [] = []
other_bodies (body ∷ bodies) = bodies

-- a body among those of entries is one's
spelled : (stored : List Item) (front : List (List ℕ)) (body : List ℕ) (rest : List (List ℕ)) → AllByRecursion HasBody stored
    → bodies_of stored ≡ front ++ body ∷ rest → (item : Item) × SpellsItem item body
spelled [] [] body rest has e = absurd (cc e)
spelled [] (other ∷ front) body rest has e = absurd (cc e)
spelled (item ∷ stored) [] body rest has e = (item, record { is = has.0; text = sym (ap first_body e) })
spelled (item ∷ stored) (other ∷ front) body rest has e = spelled stored front body rest has.1 (ap other_bodies e)

-- and it is not damaged
image_whole : (place : ℕ) (bytes : List ℕ) (stored : List Item) → IsStoreImage bytes stored → IsDamagedStore place bytes → ⊥
image_whole place bytes stored image (inl damaged) = journal_is_whole bytes (bodies_of stored) image.end place image.journal damaged
image_whole place bytes stored image (inr x) =
    let none = x.3 in
    let same = (one_journal bytes (bodies_of stored) x.0 image.end x.1 image.journal x.2).0 in
    let one = spelled stored (bodies_of none.items) none.body none.rest image.had_bodies (same ∙ none.all) in
    none.none one.0 one.1

-- a keyring that is read is not bad
keyring_good : (line : ℕ) (file : List ℕ) (keyring : Contents) → SaysKeyring file keyring → IsBadKeyring line file → ⊥
keyring_good line file keyring says (inl long) = let size = says.size in let more = long.1 in omega (arith, size, more)
keyring_good line file keyring says (inr broken) = read_unbroken file keyring line says.keys broken.1

-- each entry of a legal history is lawful
lawful_at : (keyring : Contents) (before good : List Item) (bad : Item) (rest : List Item) → LegalFrom keyring before (good ++ bad ∷ rest)
    → Lawful keyring (before ++ good) bad
lawful_at keyring before [] bad rest legal = subst (λ (l : List Item). Lawful keyring l bad) (sym (append-nil before)) legal.0
lawful_at keyring before (item ∷ good) bad rest legal =
    subst (λ (l : List Item). Lawful keyring l bad) (append_assoc before (item ∷ []) good) (lawful_at keyring (before ++ item ∷ []) good bad rest legal.1)

none_illegal : (keyring : Contents) (n : ℕ) (stored : List Item) → Legal keyring stored → IsIllegalAt keyring n stored → ⊥
none_illegal keyring n stored legal i =
    i.unlawful (lawful_at keyring [] i.good i.bad i.rest (subst (λ (l : List Item). LegalFrom keyring [] l) i.all legal))

files_legal : (files : Files) (n : ℕ) (keyring : Contents) (stored : List Item) → AreInOrder files keyring stored → IfSome files.store (IsIllegalStore files n) → ⊥
files_legal files n keyring stored order illegal =
    let bytes = told (λ (b : List ℕ). IsStoreImage b stored) (IsIllegalStore files n) files.store order.store illegal in
    let bad = bytes.2 in
    let file = told (λ (f : List ℕ). SaysKeyring f keyring) (λ (f : List ℕ). SaysKeyring f bad.keyring) files.keyring order.keys bad.says in
    let keys : bad.keyring ≡ keyring = one_reading file.0 bad.keyring keyring file.2.keys file.1.keys in
    let items : bad.items ≡ stored = one_list bytes.0 bad.items stored bad.image bytes.1 in
    none_illegal keyring n stored order.legal
    (subst (λ (k : Contents). IsIllegalAt k n stored) keys (subst (λ (l : List Item). IsIllegalAt bad.keyring n l) items bad.illegal))

-- the objects of each repository of a store are told
all_told : (stored : List Item) (bytes : List ℕ) → IsToldOf (held_behind stored) bytes
all_told stored bytes = λ rid named none. absurd (cc none)

-- no verdict is each other stop
not_bad : (rid : Rid) (on : Held) (verdict : Result Judged Whole) (place : ℕ) → Verdict rid on verdict ≡ Bad place → ⊥
not_bad rid on verdict place e = cc e

not_inside : (rid : Rid) (on : Held) (verdict : Result Judged Whole) (place : ℕ) → Verdict rid on verdict ≡ Inside place → ⊥
not_inside rid on verdict place e = cc e

pub not_long : (rid other : Rid) (on : Held) (verdict : Result Judged Whole) → Verdict rid on verdict ≡ Long other → ⊥
not_long rid other on verdict e = cc e

not_unjudged : (rid other : Rid) (on : Held) (verdict : Result Judged Whole) → Verdict rid on verdict ≡ Unjudged other → ⊥
not_unjudged rid other on verdict e = cc e

bad_is_judged : (place : ℕ) → IsUnjudged (Bad place) → ⊥
bad_is_judged place u = absurd (cc u.1)

bad_is_outside : (place : ℕ) → IsInsideOf (Bad place) → ⊥
bad_is_outside place u = absurd (cc u.1)

inside_is_judged : (place : ℕ) → IsUnjudged (Inside place) → ⊥
inside_is_judged place u = absurd (cc u.1)

long_is_judged : (rid : Rid) → IsUnjudged (Long rid) → ⊥
long_is_judged rid u = absurd (cc u.1)

long_is_outside : (rid : Rid) → IsInsideOf (Long rid) → ⊥
long_is_outside rid u = absurd (cc u.1)

-- what follows leaves a broken bundle and a long one so
bad_stays : (count : ℕ) (more : List ℕ) (place : ℕ) → behind_came count more (Bad place) ≡ Bad place
bad_stays count [] place = refl
bad_stays count (byte ∷ more) place = refl

long_stays : (count : ℕ) (more : List ℕ) (rid : Rid) → behind_came count more (Long rid) ≡ Long rid
long_stays count [] rid = refl
long_stays count (byte ∷ more) rid = refl

-- what was taken from known bytes comes first among them
record Takes (all taken : List ℕ) (left : Option (List ℕ)) : Type 0 where
  rest : List ℕ
  text : all ≡ taken ++ rest
  left_is : left ≡ Some rest

takes : (all taken : List ℕ) (left : Option (List ℕ)) → Consumes (Some all) left taken → Takes all taken left
takes all taken None c = absurd c
takes all taken (Some rest) c = record { rest = rest; text = c; left_is = refl }

-- a limit that the next entries meet is met by more of them
lacks_more : (end : ℕ) (rest more : List Item) → LacksRoom end rest → LacksRoom end (rest ++ more)
lacks_more end [] more lacks = absurd lacks
lacks_more end (item ∷ rest) more lacks = lacks

-- the job of what a run read of a bundle, and that of the whole bundle
pub record IsFront (keyring : Contents) (stored : List Item) (rid : Rid) (on : Held) (verdict : Result Judged Whole) (entries : List Item) (left : Option (List ℕ))
    (bytes unread : List ℕ) (these : List Item) (came : Came) : Type 0 where
  pub rest : List ℕ
  pub left_is : left ≡ Some rest
  pub job : IsBundleJob (importing keyring) (held_behind stored) bytes these came
  pub whole : IsBundleJob (importing keyring) (held_behind stored) (bytes ++ (unread ++ rest)) entries (Verdict rid on verdict)

module _ (counted : Option ℕ) (files : Files) (keyring : Contents) (stored : List Item) (rid : Rid) (on : Held) (verdict : Result Judged Whole) (entries : List Item)
    (all : List ℕ) (left : Option (List ℕ)) (images : List ℕ → Type 0) (leaves : (List ℕ → Type 0) → Type 0) (gives : List ℕ → Type 0) (result : Status) where
  pub is_front : AreInOrder files keyring stored → IsBundleJob (importing keyring) (held_behind stored) all entries (Verdict rid on verdict)
      → (i : Imported counted files (Consumes (Some all) left) (IsAtEnd left) images leaves gives result)
      → IsFront keyring stored rid on verdict entries left i.bytes i.unread i.entries i.came
  is_front order whole i =
      let same = same_files files keyring i.keyring stored i.stored order i.good in
      let t = takes all (i.bytes ++ i.unread) left i.took in
      record {
        rest = t.rest;
        left_is = t.left_is;
        job = subst (λ (l : List Item). IsBundleJob (importing keyring) (held_behind l) i.bytes i.entries i.came) same.1
            (subst (λ (k : Contents). IsBundleJob (importing k) (held_behind i.stored) i.bytes i.entries i.came) same.0 i.job);
        whole = subst (λ (b : List ℕ). IsBundleJob (importing keyring) (held_behind stored) b entries (Verdict rid on verdict))
            (t.text ∙ append_assoc i.bytes i.unread t.rest) whole;
      }

-- nothing is left behind what was read, where all that was taken was read and the input is at its end
none_left : (left : Option (List ℕ)) (unread rest : List ℕ) → unread ≡ [] → left ≡ Some rest → IsAtEnd left → unread ++ rest ≡ []
none_left left unread rest none is end =
    ap (λ (l : List ℕ). l ++ rest) none ∙ subst IsAtEnd is end

module _ (keyring : Contents) (stored : List Item) (rid : Rid) (on : Held) (verdict : Result Judged Whole) (entries : List Item) (left : Option (List ℕ))
    (bytes unread : List ℕ) (these : List Item) (came : Came) where
  -- a bundle of which all was read has this job
  pub whole_read : IsFront keyring stored rid on verdict entries left bytes unread these came → unread ≡ [] → IsAtEnd left → (IsUnjudged came → ⊥)
      → (these ≡ entries) × (came ≡ Verdict rid on verdict)
  whole_read f none end judged =
      let e = none_left left unread f.rest none f.left_is end in
      let whole = subst (λ (b : List ℕ). IsBundleJob (importing keyring) (held_behind stored) b entries (Verdict rid on verdict))
      (ap (λ (l : List ℕ). bytes ++ l) e ∙ append-nil bytes) f.whole in
      one_bundle_job (importing keyring) (held_behind stored) bytes these entries came (Verdict rid on verdict) f.job whole (all_told stored bytes) judged
      (λ u. not_unjudged rid u.0 on verdict u.1)

  -- one that is not read to the end of a unit stays as it is
  stays : IsFront keyring stored rid on verdict entries left bytes unread these came → (IsUnjudged came → ⊥) → (IsInsideOf came → ⊥)
      → (rest : List ℕ) × (Verdict rid on verdict ≡ behind_came (length bytes) rest came)
  stays f judged outside =
      let more = unread ++ f.rest in (
        more,
        (bundle_stops_stay (importing keyring) (held_behind stored) bytes more these entries came (Verdict rid on verdict) f.job f.whole (all_told stored bytes) judged
            (λ u. not_unjudged rid u.0 on verdict u.1) outside).1,
      )

  -- it is not broken
  bundle_good : (place : ℕ) → IsFront keyring stored rid on verdict entries left bytes unread these came → unread ≡ [] → IsBadInput (IsAtEnd left) came place → ⊥
  bundle_good place f none (inl bad) =
      let s = stays f (λ u. bad_is_judged place (subst IsUnjudged bad u)) (λ u. bad_is_outside place (subst IsInsideOf bad u)) in
      not_bad rid on verdict place (s.1 ∙ ap (λ (c : Came). behind_came (length bytes) s.0 c) bad ∙ bad_stays (length bytes) s.0 place)
  bundle_good place f none (inr inside) =
      let w = whole_read f none inside.1 (λ u. inside_is_judged place (subst IsUnjudged inside.0 u)) in
      not_inside rid on verdict place (sym w.1 ∙ inside.0)

  -- it is not too long
  pub bundle_short : (other : Rid) → IsFront keyring stored rid on verdict entries left bytes unread these came → came ≡ Long other → ⊥
  bundle_short other f long =
      let s = stays f (λ u. long_is_judged other (subst IsUnjudged long u)) (λ u. long_is_outside other (subst IsInsideOf long u)) in
      not_long rid other on verdict (s.1 ∙ ap (λ (c : Came). behind_came (length bytes) s.0 c) long ∙ long_stays (length bytes) s.0 other)

  -- the entries of all of it begin with those of what was read
  begins : IsFront keyring stored rid on verdict entries left bytes unread these came → BeginWith entries these
  begins f =
      bundle_fronts_enter_first (importing keyring) (held_behind stored) bytes (unread ++ f.rest) these entries came (Verdict rid on verdict) f.job f.whole (all_told stored bytes)
      (λ u. not_unjudged rid u.0 on verdict u.1)

-- the journal lacks no room
has_room : (stored entries these history : List Item) (rid : Rid) (end : ℕ) → HasRoomFor stored entries → BeginWith entries these
    → end ≡ gate_behind (bodies_of (durable_part (stored ++ history))) → IsStopped rid 1 end these fault.Full history → ⊥
has_room stored entries these history rid end room begin end_is s =
    let made : history ≡ s.done = s.history_is ∙ append-nil s.done in
    let at : end ≡ gate_behind (bodies_of (durable_part (stored ++ s.done))) =
    end_is ∙ ap (λ (l : List Item). gate_behind (bodies_of (durable_part (stored ++ l)))) made in
    let parts : entries ≡ s.done ++ (s.rest ++ begin.0) =
    begin.1 ∙ ap (λ (l : List Item). l ++ begin.0) s.all ∙ append_assoc s.done s.rest begin.0 in
    room s.done (s.rest ++ begin.0) parts (lacks_more (gate_behind (bodies_of (durable_part (stored ++ s.done)))) s.rest begin.0
    (subst (λ (n : ℕ). LacksRoom n s.rest) at (s.full refl)))

-- a run that took the bundle does not end at a broken bundle or a full store
module _ (counted : Option ℕ) (files : Files) (keyring : Contents) (stored : List Item) (all : List ℕ) (left : Option (List ℕ))
    (images : List ℕ → Type 0) (leaves : (List ℕ → Type 0) → Type 0) (gives : List ℕ → Type 0) where
  never_bad : (place : ℕ) → AreInOrder files keyring stored → IsSomeBundle keyring stored all
      → Imported counted files (Consumes (Some all) left) (IsAtEnd left) images leaves gives (status.InputBad place) → ⊥
  never_bad place order b i =
      let rid = b.0.rid in
      let on = held_with stored b.0 in
      bundle_good keyring stored rid on b.1 b.2 left i.bytes i.unread i.entries i.came place
      (is_front counted files keyring stored rid on b.1 b.2 all left images leaves gives (status.InputBad place) order (bundle_job keyring stored b.0 b.1 b.2 all b.3) i)
      (i.whole tt) (i.bad place refl)

  never_full : AreInOrder files keyring stored → IsSomeBundle keyring stored all
      → Imported counted files (Consumes (Some all) left) (IsAtEnd left) images leaves gives status.Full → ⊥
  never_full order b i =
      let rid = b.0.rid in
      let on = held_with stored b.0 in
      let f = is_front counted files keyring stored rid on b.1 b.2 all left images leaves gives status.Full order (bundle_job keyring stored b.0 b.1 b.2 all b.3) i in
      let same = same_files files keyring i.keyring stored i.stored order i.good in
      let bytes = told (λ (b : List ℕ). IsStoreImage b stored) (λ (b : List ℕ). i.end ≡ gate_behind (bodies_of (durable_part (i.stored ++ i.history)))) files.store order.store i.end_is in
      has_room stored b.2 i.entries i.history i.rid i.end (bundle_room keyring stored b.0 b.2 all bytes.1.had_bodies b.1 b.3) (begins keyring stored rid on b.1 b.2 left i.bytes i.unread i.entries i.came f)
      (bytes.2 ∙ ap (λ (l : List Item). gate_behind (bodies_of (durable_part (l ++ i.history)))) same.1) i.made

-- what is left of the ends of a run over files that are in order
abbrev MayEnd : Command → Status → Type 0
MayEnd command status.Ok = Unit {0}
MayEnd command (status.InputBad place) = TakesBytes command
MayEnd command status.SomeRefused = TakesBundle command
MayEnd command status.Full = TakesBundle command
MayEnd command status.NoMemory = TakesMemory command
MayEnd command other = ⊥

module _ (command : Command) (files : Files) (keys read disk out : Type 0) (none : IsFaultless keys read disk out) where
  opened : (keyring : Contents) (stored : List Item) → AreInOrder files keyring stored → (command ≡ Init → ⊥) → (result : Status) → IsCaused result keys read disk out
      → IsSaid command files result → MayEnd command result
  opened keyring stored order other status.Ok cause said = tt
  opened keyring stored order other status.Usage cause said = said
  opened keyring stored order other (status.ReadFault source.Keys) cause said = none.0 cause
  opened keyring stored order other (status.ReadFault source.Rules) cause said = cause
  opened keyring stored order other (status.ReadFault source.Input) cause said = none.1 cause
  opened keyring stored order other status.WriteFault cause said = none.3 cause
  opened keyring stored order other status.DiskFault cause said = none.2 cause
  opened keyring stored order other status.Unmade cause said =
      let x = told (λ (b : List ℕ). IsStoreImage b stored) IsUnmade files.store order.store said.2 in image_made x.0 stored x.1 x.2
  opened keyring stored order other (status.Damaged place) cause said =
      let x = told (λ (b : List ℕ). IsStoreImage b stored) (IsDamagedStore place) files.store order.store said.2 in image_whole place x.0 stored x.1 x.2
  opened keyring stored order other (status.KeyringBad line) cause said =
      let x = told (λ (f : List ℕ). SaysKeyring f keyring) (IsBadKeyring line) files.keyring order.keys said.1 in keyring_good line x.0 keyring x.1 x.2
  opened keyring stored order other (status.InputBad place) cause said = said
  opened keyring stored order other status.SomeRefused cause said = said
  opened keyring stored order other status.Full cause said = said
  opened keyring stored order other (status.NotLegal n) cause said = files_legal files n keyring stored order said.1
  opened keyring stored order other status.AlreadyMade cause said = other said.0
  opened keyring stored order other (status.Changed change) cause said = cause
  opened keyring stored order other status.NoMemory cause said = said

  -- where no store is made
  unmade : IsSomeAnd files.store IsUnmade → (result : Status) → IsCaused result keys read disk out → IsSaid Init files result → EndsWell Init result
  unmade order status.Ok cause said = tt
  unmade order status.Usage cause said = said
  unmade order (status.ReadFault source.Keys) cause said = none.0 cause
  unmade order (status.ReadFault source.Rules) cause said = cause
  unmade order (status.ReadFault source.Input) cause said = none.1 cause
  unmade order status.WriteFault cause said = none.3 cause
  unmade order status.DiskFault cause said = none.2 cause
  unmade order status.Unmade cause said = said.0
  unmade order (status.Damaged place) cause said = said.0
  unmade order (status.KeyringBad line) cause said = said.0
  unmade order (status.InputBad place) cause said = said
  unmade order status.SomeRefused cause said = said
  unmade order status.Full cause said = said
  unmade order (status.NotLegal n) cause said = said.0
  unmade order status.AlreadyMade cause said =
      let x = told IsUnmade (λ (b : List ℕ). IsUnmade b → ⊥) files.store order said.1 in x.2 x.1
  unmade order (status.Changed change) cause said = cause
  unmade order status.NoMemory cause said = said

-- neither a broken bundle nor a full store is left
ends : (command : Command) (result : Status) → ((place : ℕ) → result ≡ status.InputBad place → TakesBytes command → ⊥)
    → (result ≡ status.Full → TakesBundle command → ⊥) → MayEnd command result → EndsWell command result
ends command status.Ok bad full may = may
ends command status.Usage bad full may = may
ends command (status.ReadFault which) bad full may = may
ends command status.WriteFault bad full may = may
ends command status.DiskFault bad full may = may
ends command status.Unmade bad full may = may
ends command (status.Damaged place) bad full may = may
ends command (status.KeyringBad line) bad full may = may
ends command (status.InputBad place) bad full may = bad place refl may
ends command status.SomeRefused bad full may = may
ends command status.Full bad full may = full refl may
ends command (status.NotLegal n) bad full may = may
ends command status.AlreadyMade bad full may = may
ends command (status.Changed change) bad full may = may
ends command status.NoMemory bad full may = may

-- a run that has a bundle has opened its store
abbrev pub OpenedFor : Status → Type 0
OpenedFor result = MayBeUnopened result → ⊥

-- an end at which an import must have been made
bad_opened : (place : ℕ) → MayBeUnopened (status.InputBad place) → ⊥
bad_opened place h = h

full_opened : MayBeUnopened status.Full → ⊥
full_opened h = h

pub report_opened : (result : Status) → HasReport result → MayBeUnopened result → ⊥
report_opened status.Ok r u = u
report_opened status.Usage r u = r
report_opened (status.ReadFault which) r u = r
report_opened status.WriteFault r u = u
report_opened status.DiskFault r u = r
report_opened status.Unmade r u = r
report_opened (status.Damaged place) r u = r
report_opened (status.KeyringBad line) r u = r
report_opened (status.InputBad place) r u = r
report_opened status.SomeRefused r u = u
report_opened status.Full r u = r
report_opened (status.NotLegal n) r u = r
report_opened status.AlreadyMade r u = r
report_opened (status.Changed change) r u = r
report_opened status.NoMemory r u = r

-- what a run of a command did that took such a bundle: it imported one
pub record HasTaken (counted : Option ℕ) (files : Files) (IsSuch : List ℕ → Type 0) (images : List ℕ → Type 0) (leaves : (List ℕ → Type 0) → Type 0)
    (gives : List ℕ → Type 0) (result : Status) : Type 0 where
  pub all : List ℕ
  pub such : IsSuch all
  pub left : Option (List ℕ)
  pub imported : Imported counted files (Consumes (Some all) left) (IsAtEnd left) images leaves gives result

module _ (files : Files) (IsSuch : List ℕ → Type 0) (left : Option (List ℕ)) (images : List ℕ → Type 0) (leaves : (List ℕ → Type 0) → Type 0) (gives : List ℕ → Type 0)
    (kept : Type 0) (result : Status) where
  input_taken : (input : Option (List ℕ)) → IsSomeAnd input IsSuch → Imported None files (Consumes input left) (IsAtEnd left) images leaves gives result
      → HasTaken None files IsSuch images leaves gives result
  input_taken None such i = absurd such
  input_taken (Some all) such i = record { all = all; such = such; left = left; imported = i }

  pub has_taken : (command : Command) (input : Option (List ℕ)) → TakesBundle command → TakesSuch command input IsSuch → OpenedFor result
      → IsDone command files (Consumes input left) (IsAtEnd left) images leaves gives kept result
      → HasTaken (counted_by command) (files_of command files) IsSuch images leaves gives result
  has_taken Init input takes such opens done = absurd takes
  has_taken Import input takes such opens (inl i) = input_taken input such i
  has_taken Import input takes such opens (inr x) = absurd (opens x.0)
  has_taken Show input takes such opens done = absurd takes
  has_taken Heads input takes such opens done = absurd takes
  has_taken Audit input takes such opens done = absurd takes
  has_taken Frames input takes such opens done = absurd takes
  has_taken (Gen commits) input takes such opens (inl i) = record { all = i.bundle; such = such i.bundle i.is; left = i.left; imported = i.imported }
  has_taken (Gen commits) input takes such opens (inr x) = absurd (opens x.0)

-- what a command takes that lists no frames is a bundle
takes_bundle : (command : Command) → (command ≡ Frames → ⊥) → TakesBytes command → TakesBundle command
takes_bundle Frames other takes = absurd (other refl)
takes_bundle Init other takes = takes
takes_bundle Import other takes = takes
takes_bundle Show other takes = takes
takes_bundle Heads other takes = takes
takes_bundle Audit other takes = takes
takes_bundle (Gen commits) other takes = takes

-- a run over a store
module _ (files : Files) (input left : Option (List ℕ)) (keys read disk out : Type 0) (images : List ℕ → Type 0) (leaves : (List ℕ → Type 0) → Type 0)
    (gives : List ℕ → Type 0) (kept : Type 0) (result : Status) (none : IsFaultless keys read disk out) where
  ends_in_order : (command : Command) → (command ≡ Init → ⊥) → (command ≡ Frames → ⊥) → IsInOrderBy command files input
      → HasEnded command files input left keys read disk out images leaves gives kept result → EndsWell command result
  ends_in_order command other store order h =
      let keyring = order.0 in
      let stored = order.1 in
      let such = IsSomeBundle keyring stored in
      ends command result
      (λ place e takes.
      let t = has_taken files such left images leaves gives kept result command input (takes_bundle command store takes) order.3 (subst OpenedFor (sym e) (bad_opened place)) h.done in
      never_bad (counted_by command) (files_of command files) keyring stored t.all t.left images leaves gives place order.2 t.such
      (subst (λ (s : Status). Imported (counted_by command) (files_of command files) (Consumes (Some t.all) t.left) (IsAtEnd t.left) images leaves gives s) e t.imported))
      (λ e takes.
      let t = has_taken files such left images leaves gives kept result command input takes order.3 (subst OpenedFor (sym e) full_opened) h.done in
      never_full (counted_by command) (files_of command files) keyring stored t.all t.left images leaves gives order.2 t.such
      (subst (λ (s : Status). Imported (counted_by command) (files_of command files) (Consumes (Some t.all) t.left) (IsAtEnd t.left) images leaves gives s) e t.imported))
      (opened command (files_of command files) keys read disk out none keyring stored order.2 other result h.cause h.said)

  pub ends_well : (command : Command) → IsInOrder command files input
      → HasEnded command files input left keys read disk out images leaves gives kept result → EndsWell command result
  ends_well Init order h = unmade Init files keys read disk out none order result h.cause h.said
  ends_well Import order h = ends_in_order Import (λ e. absurd (cc e)) (λ e. absurd (cc e)) order h
  ends_well Show order h = ends_in_order Show (λ e. absurd (cc e)) (λ e. absurd (cc e)) order h
  ends_well Heads order h = ends_in_order Heads (λ e. absurd (cc e)) (λ e. absurd (cc e)) order h
  ends_well Audit order h = ends_in_order Audit (λ e. absurd (cc e)) (λ e. absurd (cc e)) order h
  ends_well Frames order h = listing_ends_well input left gives keys read disk out result order none h.cause h.done
  ends_well (Gen commits) order h = ends_in_order (Gen commits) (λ e. absurd (cc e)) (λ e. absurd (cc e)) order h
