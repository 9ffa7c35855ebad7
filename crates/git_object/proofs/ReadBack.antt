-- Reading and spelling are inverse: what is read is spelled so, and what is spelled so is read.
use Rattle.std.proofs.Common.{Bool, true, false, ◌≡◌, ◌≢◌, ℕ, ◌≤◌, ◌==◌, nat_le, if◌then◌else◌, List, [], ◌∷◌, ◌++◌, length, Option, Some, None, refl, sym, ap, ◌∙◌, arith, append_assoc, length-append, ◌⊎◌, inl, inr}
use Rattle.std.specs.Prelude.{codes}
use Rattle.std.specs.List.{All}
use Rattle.std.specs.Option.{option_or}
use Rattle.std.proofs.lemmas.Bool.{eq-eqb, eqb-true, false_from_ne_true}
use Rattle.std.proofs.lemmas.List.{take-append-drop, length-take-le, take_at, drop_at}
use Rattle.std.proofs.lemmas.List.Elements.{All-cons, All-head, All-nil, All-tail}
use Rattle.git_object.specs.Grammar.{Entry, IsEntry, IsName, entry_text, mode_text}
use Rattle.git_object.specs.Reading.{◌>>=◌, behind, first_among, mode_front, before_nul, name_front, oid_front, entry_front}
use Rattle.git_object.specs.declared.mode.Mode.{Mode}
use Rattle.git_object.specs.declared.mode.Mode.TheVariants.{File, Executable, GroupFile, Symlink, Directory, Gitlink}
use Rattle.rad_base.specs.declared.names.Oid.{Oid}
use Rattle.rad_base.proofs.Options.{some_is}

-- what was read in two steps
pub bind_is : {A B : Type 0} (o : Option A) (f : A → Option B) (y : B) → (o >>= f) ≡ Some y → (x : A) × (o ≡ Some x) × (f x ≡ Some y)
bind_is (Some x) f y h = (x, refl, h)
bind_is None f y h = cc h

-- what was read after a test
pub if_is : {A : Type 0} (b : Bool) (o : Option A) (y : A) → (if b then o else None) ≡ Some y → (b ≡ true) × (o ≡ Some y)
if_is true o y h = (refl, h)
if_is false o y h = cc h

or_is : {A : Type 0} (o p : Option A) (y : A) → option_or o p ≡ Some y → (o ≡ Some y) ⊎ (p ≡ Some y)
or_is (Some x) p y h = inl h
or_is None p y h = inr h

-- what stands behind a word is read
pub behind_reads : (word rest : List ℕ) → behind word (word ++ rest) ≡ Some rest
behind_reads [] rest = refl
behind_reads (w ∷ word) rest = rw (eq-eqb w w refl) (behind_reads word rest)

-- what was read stands behind the word
pub behind_is : (word bytes rest : List ℕ) → behind word bytes ≡ Some rest → bytes ≡ word ++ rest
behind_is [] bytes rest h = some_is bytes rest h
behind_is (w ∷ word) [] rest h = cc h
behind_is (w ∷ word) (b ∷ bytes) rest h =
    let parts = if_is (b == w) (behind word bytes) rest h in
    rw (eqb-true b w parts.0) (ap (λ (l : List ℕ). w ∷ l) (behind_is word bytes rest parts.1))

-- the value that was read stands at the front
pub among_is : {A : Type 0} (text : A → List ℕ) (xs : List A) (bytes : List ℕ) (r : A × List ℕ) → first_among text xs bytes ≡ Some r → bytes ≡ text r.0 ++ r.1
among_is text [] bytes r h = cc h
among_is {A = A} text (x ∷ xs) bytes r h =
    elim (or_is (behind (text x) bytes >>= λ rest. Some (x, rest)) (first_among text xs bytes) r h) [
      | inl first ↦
          let step = bind_is (behind (text x) bytes) _ r first in
          behind_is (text x) bytes step.0 step.1 ∙ ap (λ (q : A × List ℕ). text q.0 ++ q.1) (some_is (x, step.0) r step.2)
      | inr other ↦ among_is text xs bytes r other
    ]

-- a mode's text is read
pub mode_reads : (mode : Mode) (rest : List ℕ) → mode_front (mode_text mode ++ codes " " ++ rest) ≡ Some (mode, rest)
mode_reads File rest = refl
mode_reads Executable rest = refl
mode_reads GroupFile rest = refl
mode_reads Symlink rest = refl
mode_reads Directory rest = refl
mode_reads Gitlink rest = refl

-- the mode that was read stands at the front
pub mode_is : (bytes : List ℕ) (r : Mode × List ℕ) → mode_front bytes ≡ Some r → bytes ≡ mode_text r.0 ++ codes " " ++ r.1
mode_is bytes r h = among_is (λ mode. mode_text mode ++ codes " ") (File ∷ Executable ∷ GroupFile ∷ Symlink ∷ Directory ∷ Gitlink ∷ []) bytes r h

-- neither NUL nor `/`
abbrev pub IsAllowed : ℕ → Type 0
IsAllowed byte = (byte ≢ 0) × (byte ≢ 47)

-- a name in front of a NUL is read
pub nul_reads : (name rest : List ℕ) → All IsAllowed name → before_nul (name ++ 0 ∷ rest) ≡ Some (name, rest)
nul_reads [] rest allowed = refl
nul_reads (b ∷ name) rest allowed =
    let head = All-head IsAllowed b name allowed in
    let nul = false_from_ne_true (b == 0) (λ e. head.0 (eqb-true b 0 e)) in
    let slash = false_from_ne_true (b == 47) (λ e. head.1 (eqb-true b 47 e)) in
    rw (nul, slash, nul_reads name rest (All-tail IsAllowed b name allowed)) refl

-- the cases of the first byte
nul_cons : (b : ℕ) (bytes : List ℕ) (r : List ℕ × List ℕ)
    → ((q : List ℕ × List ℕ) → before_nul bytes ≡ Some q → All IsAllowed q.0 × (bytes ≡ q.0 ++ 0 ∷ q.1))
    → (x y : Bool) → (b == 0) ≡ x → (b == 47) ≡ y
    → (if x then Some ([], bytes) else if y then None else (before_nul bytes >>= λ q. Some (b ∷ q.0, q.1))) ≡ Some r
    → All IsAllowed r.0 × (b ∷ bytes ≡ r.0 ++ 0 ∷ r.1)
nul_cons b bytes r ih true y e f h = rw (← some_is ([], bytes) r h, eqb-true b 0 e) (All-nil IsAllowed, refl)
nul_cons b bytes r ih false true e f h = cc h
nul_cons b bytes r ih false false e f h =
    let step = bind_is (before_nul bytes) _ r h in
    let rest = ih step.0 step.1 in
    let nul : b ≢ 0 = λ n. cc (sym e ∙ eq-eqb b 0 n) in
    let slash : b ≢ 47 = λ n. cc (sym f ∙ eq-eqb b 47 n) in
    rw (← some_is (b ∷ step.0.0, step.0.1) r step.2) (All-cons IsAllowed b step.0.0 (nul, slash) rest.0, ap (λ (l : List ℕ). b ∷ l) rest.1)

-- what was read is a name in front of a NUL
pub nul_is : (bytes : List ℕ) (r : List ℕ × List ℕ) → before_nul bytes ≡ Some r → All IsAllowed r.0 × (bytes ≡ r.0 ++ 0 ∷ r.1)
nul_is [] r h = cc h
nul_is (b ∷ bytes) r h = nul_cons b bytes r (nul_is bytes) (b == 0) (b == 47) refl refl h

from_true : (b : Bool) → b ≡ true → {A : Type 0} (x y : A) → (if b then x else y) ≡ x
from_true true h x y = refl
from_true false h x y = cc h

le_true : (m n : ℕ) → m ≤ n → nat_le m n ≡ true
le_true m n h = grind arith

true_le : (m n : ℕ) → nat_le m n ≡ true → m ≤ n
true_le m n h = grind arith

-- a name in front of a NUL is read
pub name_reads : (name rest : List ℕ) → IsName name → name_front (name ++ 0 ∷ rest) ≡ Some (name, rest)
name_reads name rest is =
    let some : 1 ≤ length name = omega (arith, is.some) in
    rw (nul_reads name rest is.allowed) (from_true (nat_le 1 (length name)) (le_true 1 (length name) some) (Some (name, rest)) None)

-- what was read is a name in front of a NUL
pub name_is : (bytes : List ℕ) (r : List ℕ × List ℕ) → name_front bytes ≡ Some r → IsName r.0 × (bytes ≡ r.0 ++ 0 ∷ r.1)
name_is bytes r h =
    let step = bind_is (before_nul bytes) _ r h in
    let test = if_is (nat_le 1 (length step.0.0)) (Some step.0) r step.2 in
    let same = some_is step.0 r test.1 in
    let is = nul_is bytes step.0 step.1 in
    let some : 1 ≤ length step.0.0 = true_le 1 (length step.0.0) test.0 in
    rw (← same) (record { some = omega (arith, some); allowed = is.0 }, is.1)

-- the first 20 bytes are read
pub oid_reads : (oid : Oid) (rest : List ℕ) → length oid.0 ≡ 20 → oid_front (oid.0 ++ rest) ≡ Some (oid, rest)
oid_reads oid rest size =
    let enough : 20 ≤ length (oid.0 ++ rest) = omega (arith, size, length-append oid.0 rest) in
    from_true (nat_le 20 (length (oid.0 ++ rest))) (le_true 20 (length (oid.0 ++ rest)) enough) _ None
    ∙ rw (take_at oid.0 rest 20 size, drop_at oid.0 rest 20 size) refl

-- what was read are the first 20 bytes
pub oid_is : (bytes : List ℕ) (r : Oid × List ℕ) → oid_front bytes ≡ Some r → (length r.0.0 ≡ 20) × (bytes ≡ r.0.0 ++ r.1)
oid_is bytes r h =
    let test = if_is (nat_le 20 (length bytes)) _ r h in
    let same = some_is _ r test.1 in
    let enough : 20 ≤ length bytes = true_le 20 (length bytes) test.0 in
    rw (← same) (length-take-le 20 bytes enough, sym (take-append-drop 20 bytes))

-- an entry, its mode first
pub regrouped : (entry : Entry) (rest : List ℕ) → entry_text entry ++ rest ≡ mode_text entry.mode ++ codes " " ++ (entry.name ++ 0 ∷ (entry.oid.0 ++ rest))
regrouped entry rest = simp append_assoc

-- an entry's text is read
pub entry_reads : (entry : Entry) (rest : List ℕ) → IsEntry entry → entry_front (entry_text entry ++ rest) ≡ Some (entry, rest)
unfolding entry_front
entry_reads entry rest is =
    rw (regrouped entry rest, mode_reads entry.mode (entry.name ++ 0 ∷ (entry.oid.0 ++ rest)), name_reads entry.name (entry.oid.0 ++ rest) is.name, oid_reads entry.oid rest is.oid) refl

-- what was read is an entry
pub entry_is : (bytes : List ℕ) (r : Entry × List ℕ) → entry_front bytes ≡ Some r → IsEntry r.0 × (bytes ≡ entry_text r.0 ++ r.1)
unfolding entry_front
entry_is bytes r h =
    let mode = bind_is (mode_front bytes) _ r h in
    let name = bind_is (name_front mode.0.1) _ r mode.2 in
    let oid = bind_is (oid_front name.0.1) _ r name.2 in
    let same = some_is _ r oid.2 in
    let named = name_is mode.0.1 name.0 name.1 in
    let sized = oid_is name.0.1 oid.0 oid.1 in
    let entry : Entry = record { mode = mode.0.0; name = name.0.0; oid = oid.0.0 } in
    let text : bytes ≡ entry_text entry ++ oid.0.1 =
    mode_is bytes mode.0 mode.1
    ∙ ap (λ (l : List ℕ). mode_text mode.0.0 ++ codes " " ++ l) named.1
    ∙ ap (λ (l : List ℕ). mode_text mode.0.0 ++ codes " " ++ (name.0.0 ++ 0 ∷ l)) sized.1
    ∙ sym (regrouped entry oid.0.1) in
    rw (← same) (record { name = named.0; oid = sized.0 }, text)

-- an entry in front is one
pub one_entry : (e f : Entry) (a b : List ℕ) → IsEntry e → IsEntry f → entry_text e ++ a ≡ entry_text f ++ b → (e ≡ f) × (a ≡ b)
one_entry e f a b is js h =
    let same = some_is _ _ (sym (entry_reads e a is) ∙ ap entry_front h ∙ entry_reads f b js) in
    (ap (λ (r : Entry × List ℕ). r.0) same, ap (λ (r : Entry × List ℕ). r.1) same)

-- nothing is read where no entry stands in front
pub no_entry_reads : (bytes : List ℕ) → ((entry : Entry) (rest : List ℕ) → IsEntry entry → bytes ≡ entry_text entry ++ rest → ⊥) → entry_front bytes ≡ None
no_entry_reads bytes none = go (entry_front bytes) refl
  where
    go : (o : Option (Entry × List ℕ)) → entry_front bytes ≡ o → o ≡ None
    go None h = refl
    go (Some r) h = let is = entry_is bytes r h in absurd (none r.0 r.1 is.0 is.1)

-- a mode's text and the space behind it are one
pub one_mode : (m n : Mode) (a b : List ℕ) → mode_text m ++ codes " " ++ a ≡ mode_text n ++ codes " " ++ b → (m ≡ n) × (a ≡ b)
one_mode m n a b h =
    let same = some_is _ _ (sym (mode_reads m a) ∙ ap mode_front h ∙ mode_reads n b) in
    (ap (λ (r : Mode × List ℕ). r.0) same, ap (λ (r : Mode × List ℕ). r.1) same)

-- a name in front of a NUL is one
pub one_name : (m n a b : List ℕ) → IsName m → IsName n → m ++ 0 ∷ a ≡ n ++ 0 ∷ b → (m ≡ n) × (a ≡ b)
one_name m n a b is js h =
    let same = some_is _ _ (sym (name_reads m a is) ∙ ap name_front h ∙ name_reads n b js) in
    (ap (λ (r : List ℕ × List ℕ). r.0) same, ap (λ (r : List ℕ × List ℕ). r.1) same)
