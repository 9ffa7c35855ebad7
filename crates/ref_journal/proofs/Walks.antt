-- The walk over the gates.
use Rattle.std.proofs.Common.{◌≡◌, ℕ, List, [], ◌∷◌, ◌++◌, length, take, drop, Option, None, Some, inl, inr, refl, sym, ap, subst, ◌∙◌, arith, append_assoc, length-append, take-append-drop}
use Rattle.std.specs.Prelude.{IfSome}
use Rattle.std.specs.Io.KnownBytes.{Keeps}
use Rattle.std.proofs.KnownBytes.{Keeps-refl, Keeps-trans}
use Rattle.rad_base.proofs.EachItem.{each_more}
use Rattle.ref_journal.specs.Frames.{IsBody, header, record_of, records}
use Rattle.ref_journal.specs.Images.{Begins}
use Rattle.ref_journal.specs.Gates.{IsBrokenGate, IsClosed, IsGate, IsOpen, IsShown}
use Rattle.ref_journal.specs.Holds.{OnlyReads}
use Rattle.ref_journal.specs.Moments.{Passes}
use Rattle.ref_journal.specs.declared.gate.Gate.TheVariants.{Broken, Closed, Open}
use Rattle.ref_journal.specs.declared.walk.Shown.TheVariants.{Damaged, End}
use Rattle.ref_journal.proofs.Records.{length-record_of, text-push}

-- time goes on twice, where what the second call may leave the first may leave
pub passes_on : (m0 m1 m2 : ℕ) (s0 s1 s2 : ℕ → List ℕ → Type 0) (P Q : List ℕ → Type 0) → Passes m0 m1 s0 s1 P → Passes m1 m2 s1 s2 Q
    → ((image : List ℕ) → Q image → P image) → Passes m0 m2 s0 s2 P
passes_on m0 m1 m2 s0 s1 s2 P Q h k within = record {
  later = omega (arith, h.later, k.later);
  before = λ t image low is. elim (k.before t image (omega (arith, low, h.later)) is) [ inl past ↦ h.before t image low past | inr has ↦ inr (within image has) ];
}

-- two calls that only read
pub only_reads_on : {D : Type 0} (loan faults : D → ℕ) (reads : D → Option (List ℕ)) (images : D → List ℕ → Type 0) (moment : D → ℕ) (since : D → ℕ → List ℕ → Type 0) (a b c : D)
    → OnlyReads loan faults reads images moment since a b → OnlyReads loan faults reads images moment since b c → OnlyReads loan faults reads images moment since a c
only_reads_on loan faults reads images moment since a b c h k = record {
  stays = k.stays ∙ h.stays;
  later = omega (arith, h.later, k.later);
  same = Keeps-trans (reads a) (reads b) (reads c) h.same k.same;
  within = λ image is. h.within image (k.within image is);
  time = passes_on _ _ _ _ _ _ _ _ h.time k.time h.within;
}

-- no call
pub only_reads_none : {D : Type 0} (loan faults : D → ℕ) (reads : D → Option (List ℕ)) (images : D → List ℕ → Type 0) (moment : D → ℕ) (since : D → ℕ → List ℕ → Type 0) (a : D)
    → OnlyReads loan faults reads images moment since a a
only_reads_none loan faults reads images moment since a = record {
  stays = refl;
  later = omega arith;
  same = Keeps-refl (reads a);
  within = λ image is. is;
  time = record { later = omega arith; before = λ t image low is. inl is };
}

-- the bytes are a journal's up to the gate at this place
pub record Walked (bytes : List ℕ) (place : ℕ) : Type 0 where
  pub bodies : List (List ℕ)
  pub begins : Begins bodies place (drop place bytes) bytes

-- the same, where the disk tells what it reads as
abbrev pub KnownWalked : Option (List ℕ) → ℕ → ℕ → Type 0
KnownWalked known size place = IfSome known (λ bytes. size ≡ length bytes → take 8 bytes ≡ header → Walked bytes place)

-- the first gate
pub walked_first : (known : Option (List ℕ)) (size : ℕ) → KnownWalked known size 8
walked_first None size = tt
walked_first (Some bytes) size = λ whole made.
    record { bodies = []; begins = record { fit = tt; text = sym (take-append-drop 8 bytes) ∙ ap (λ (l : List ℕ). l ++ drop 8 bytes) made; place_is = refl } }

-- one record on
walked_on : (bytes : List ℕ) (place next : ℕ) → Walked bytes place → IsOpen bytes place next → Walked bytes next
walked_on bytes place next w o =
    let front = header ++ records w.bodies in
    let more = text-push w.bodies o.body in
    record {
      bodies = w.bodies ++ o.body ∷ [];
      begins = record {
        fit = each_more IsBody w.bodies o.body w.begins.fit o.fits;
        text =
            w.begins.text ∙ ap (λ (l : List ℕ). front ++ l) o.text ∙ sym (append_assoc front (record_of o.body) (drop next bytes))
            ∙ ap (λ (l : List ℕ). l ++ drop next bytes) (sym more);
        place_is = omega (arith, w.begins.place_is, o.next_is, ap length more, length-append front (record_of o.body), length-record_of o.body);
      };
    }

-- the same, where the disk tells what it reads as
pub walked_more : (known now : Option (List ℕ)) (size place next : ℕ) → Keeps known now → KnownWalked known size place
    → IfSome now (λ bytes. size ≡ length bytes → IsGate bytes place (Open next)) → KnownWalked known size next
walked_more None now size place next k w f = tt
walked_more (Some bytes) None size place next k w f = absurd k
walked_more (Some bytes) (Some again) size place next k w f = λ whole made.
    walked_on bytes place next (w whole made) (subst (λ (l : List ℕ). IsOpen l place next) k (f (whole ∙ sym (ap length k))))

-- a closed gate ends the journal
pub walked_end : (known now : Option (List ℕ)) (size place : ℕ) → Keeps known now → KnownWalked known size place
    → IfSome now (λ bytes. size ≡ length bytes → IsGate bytes place Closed)
    → IfSome known (λ bytes. size ≡ length bytes → take 8 bytes ≡ header → IsShown bytes (End place))
walked_end None now size place k w f = tt
walked_end (Some bytes) None size place k w f = absurd k
walked_end (Some bytes) (Some again) size place k w f = λ whole made.
    let walked = w whole made in
    let last : IsClosed bytes place = subst (λ (l : List ℕ). IsClosed l place) k (f (whole ∙ sym (ap length k))) in
    let begins : Begins walked.bodies place (last.gate ∷ last.unread) bytes = subst (λ (l : List ℕ). Begins walked.bodies place l bytes) last.text walked.begins in
    (walked.bodies, record { gate = last.gate; unread = last.unread; closed = last.closed; begins = begins })

-- a broken record is the first place of damage
pub walked_broken : (known now : Option (List ℕ)) (size place : ℕ) → Keeps known now → KnownWalked known size place
    → IfSome now (λ bytes. size ≡ length bytes → IsGate bytes place Broken)
    → IfSome known (λ bytes. size ≡ length bytes → take 8 bytes ≡ header → IsShown bytes (Damaged place))
walked_broken None now size place k w f = tt
walked_broken (Some bytes) None size place k w f = absurd k
walked_broken (Some bytes) (Some again) size place k w f = λ whole made.
    let walked = w whole made in
    let last : IsBrokenGate bytes place = subst (λ (l : List ℕ). IsBrokenGate l place) k (f (whole ∙ sym (ap length k))) in
    let begins : Begins walked.bodies place (1 ∷ last.rest) bytes = subst (λ (l : List ℕ). Begins walked.bodies place l bytes) last.text walked.begins in
    inr (record { bodies = walked.bodies; rest = last.rest; begins = begins; broken = last.broken })
