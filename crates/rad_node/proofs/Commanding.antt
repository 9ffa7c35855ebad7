-- The command of words, and what is said of it.
use Rattle.std.specs.Str.Parse.{ParsesUnsigned}
use Rattle.std.proofs.Common.{Result, Ok, subst, ◌≡◌, ℕ, List, [], ◌∷◌, String, get_or, refl, sym, ap, ◌∙◌, arith}
use Rattle.std.proofs.lemmas.Fmt.{decimal_injective, parse-decimal}
use Rattle.rad_node.specs.Commands.{HasWords, IsCommitCount, IsInRange, IsPathAndCount, Says, name_of}
use Rattle.rad_node.specs.Statuses.{IsOrdered}
use Rattle.rad_node.specs.declared.command.Command.{Command}
use Rattle.rad_node.specs.declared.command.Command.TheVariants.{Init, Import, Show, Heads, Audit, Frames, Gen}
use Rattle.rad_node.specs.declared.status.Status.{Status}

-- no two numbers have one text
one_count : {A : Type 0} (words : List (String A)) (n m : ℕ) → IsPathAndCount words n → IsPathAndCount words m → n ≡ m
one_count [] n m h k = absurd h
one_count (path ∷ []) n m h k = absurd h
one_count (path ∷ word ∷ []) n m h k = (let few = h.1.few in let small = k.1.few in decimal_injective n m (omega (arith, few)) (omega (arith, small)) (sym h.1.text ∙ k.1.text))
one_count (path ∷ word ∷ other ∷ more) n m h k = absurd h

-- no two commands have one name and the same words
one_name : {A : Type 0} (words : List (String A)) (a b : Command) → name_of a ≡ name_of b → HasWords a words → HasWords b words → a ≡ b
one_name words Init Init same h k = refl
one_name words Init Import same h k = let e : 110 ≡ 109 = ap (λ (l : List ℕ). get_or l 1 0) same in absurd (omega (arith, e))
one_name words Init Show same h k = let e : 105 ≡ 115 = ap (λ (l : List ℕ). get_or l 0 0) same in absurd (omega (arith, e))
one_name words Init Heads same h k = let e : 105 ≡ 104 = ap (λ (l : List ℕ). get_or l 0 0) same in absurd (omega (arith, e))
one_name words Init Audit same h k = let e : 105 ≡ 97 = ap (λ (l : List ℕ). get_or l 0 0) same in absurd (omega (arith, e))
one_name words Init Frames same h k = let e : 105 ≡ 102 = ap (λ (l : List ℕ). get_or l 0 0) same in absurd (omega (arith, e))
one_name words Init (Gen m) same h k = let e : 105 ≡ 103 = ap (λ (l : List ℕ). get_or l 0 0) same in absurd (omega (arith, e))
one_name words Import Init same h k = let e : 109 ≡ 110 = ap (λ (l : List ℕ). get_or l 1 0) same in absurd (omega (arith, e))
one_name words Import Import same h k = refl
one_name words Import Show same h k = let e : 105 ≡ 115 = ap (λ (l : List ℕ). get_or l 0 0) same in absurd (omega (arith, e))
one_name words Import Heads same h k = let e : 105 ≡ 104 = ap (λ (l : List ℕ). get_or l 0 0) same in absurd (omega (arith, e))
one_name words Import Audit same h k = let e : 105 ≡ 97 = ap (λ (l : List ℕ). get_or l 0 0) same in absurd (omega (arith, e))
one_name words Import Frames same h k = let e : 105 ≡ 102 = ap (λ (l : List ℕ). get_or l 0 0) same in absurd (omega (arith, e))
one_name words Import (Gen m) same h k = let e : 105 ≡ 103 = ap (λ (l : List ℕ). get_or l 0 0) same in absurd (omega (arith, e))
one_name words Show Init same h k = let e : 115 ≡ 105 = ap (λ (l : List ℕ). get_or l 0 0) same in absurd (omega (arith, e))
one_name words Show Import same h k = let e : 115 ≡ 105 = ap (λ (l : List ℕ). get_or l 0 0) same in absurd (omega (arith, e))
one_name words Show Show same h k = refl
one_name words Show Heads same h k = let e : 115 ≡ 104 = ap (λ (l : List ℕ). get_or l 0 0) same in absurd (omega (arith, e))
one_name words Show Audit same h k = let e : 115 ≡ 97 = ap (λ (l : List ℕ). get_or l 0 0) same in absurd (omega (arith, e))
one_name words Show Frames same h k = let e : 115 ≡ 102 = ap (λ (l : List ℕ). get_or l 0 0) same in absurd (omega (arith, e))
one_name words Show (Gen m) same h k = let e : 115 ≡ 103 = ap (λ (l : List ℕ). get_or l 0 0) same in absurd (omega (arith, e))
one_name words Heads Init same h k = let e : 104 ≡ 105 = ap (λ (l : List ℕ). get_or l 0 0) same in absurd (omega (arith, e))
one_name words Heads Import same h k = let e : 104 ≡ 105 = ap (λ (l : List ℕ). get_or l 0 0) same in absurd (omega (arith, e))
one_name words Heads Show same h k = let e : 104 ≡ 115 = ap (λ (l : List ℕ). get_or l 0 0) same in absurd (omega (arith, e))
one_name words Heads Heads same h k = refl
one_name words Heads Audit same h k = let e : 104 ≡ 97 = ap (λ (l : List ℕ). get_or l 0 0) same in absurd (omega (arith, e))
one_name words Heads Frames same h k = let e : 104 ≡ 102 = ap (λ (l : List ℕ). get_or l 0 0) same in absurd (omega (arith, e))
one_name words Heads (Gen m) same h k = let e : 104 ≡ 103 = ap (λ (l : List ℕ). get_or l 0 0) same in absurd (omega (arith, e))
one_name words Audit Init same h k = let e : 97 ≡ 105 = ap (λ (l : List ℕ). get_or l 0 0) same in absurd (omega (arith, e))
one_name words Audit Import same h k = let e : 97 ≡ 105 = ap (λ (l : List ℕ). get_or l 0 0) same in absurd (omega (arith, e))
one_name words Audit Show same h k = let e : 97 ≡ 115 = ap (λ (l : List ℕ). get_or l 0 0) same in absurd (omega (arith, e))
one_name words Audit Heads same h k = let e : 97 ≡ 104 = ap (λ (l : List ℕ). get_or l 0 0) same in absurd (omega (arith, e))
one_name words Audit Audit same h k = refl
one_name words Audit Frames same h k = let e : 97 ≡ 102 = ap (λ (l : List ℕ). get_or l 0 0) same in absurd (omega (arith, e))
one_name words Audit (Gen m) same h k = let e : 97 ≡ 103 = ap (λ (l : List ℕ). get_or l 0 0) same in absurd (omega (arith, e))
one_name words Frames Init same h k = let e : 102 ≡ 105 = ap (λ (l : List ℕ). get_or l 0 0) same in absurd (omega (arith, e))
one_name words Frames Import same h k = let e : 102 ≡ 105 = ap (λ (l : List ℕ). get_or l 0 0) same in absurd (omega (arith, e))
one_name words Frames Show same h k = let e : 102 ≡ 115 = ap (λ (l : List ℕ). get_or l 0 0) same in absurd (omega (arith, e))
one_name words Frames Heads same h k = let e : 102 ≡ 104 = ap (λ (l : List ℕ). get_or l 0 0) same in absurd (omega (arith, e))
one_name words Frames Audit same h k = let e : 102 ≡ 97 = ap (λ (l : List ℕ). get_or l 0 0) same in absurd (omega (arith, e))
one_name words Frames Frames same h k = refl
one_name words Frames (Gen m) same h k = let e : 102 ≡ 103 = ap (λ (l : List ℕ). get_or l 0 0) same in absurd (omega (arith, e))
one_name words (Gen n) Init same h k = let e : 103 ≡ 105 = ap (λ (l : List ℕ). get_or l 0 0) same in absurd (omega (arith, e))
one_name words (Gen n) Import same h k = let e : 103 ≡ 105 = ap (λ (l : List ℕ). get_or l 0 0) same in absurd (omega (arith, e))
one_name words (Gen n) Show same h k = let e : 103 ≡ 115 = ap (λ (l : List ℕ). get_or l 0 0) same in absurd (omega (arith, e))
one_name words (Gen n) Heads same h k = let e : 103 ≡ 104 = ap (λ (l : List ℕ). get_or l 0 0) same in absurd (omega (arith, e))
one_name words (Gen n) Audit same h k = let e : 103 ≡ 97 = ap (λ (l : List ℕ). get_or l 0 0) same in absurd (omega (arith, e))
one_name words (Gen n) Frames same h k = let e : 103 ≡ 102 = ap (λ (l : List ℕ). get_or l 0 0) same in absurd (omega (arith, e))
one_name words (Gen n) (Gen m) same h k = ap Gen (one_count words n m h k)

-- words say one command
pub one_command : {A : Type 0} (words : List (String A)) (a b : Command) → Says words a → Says words b → a ≡ b
one_command [] a b h k = absurd h
one_command (name ∷ words) a b h k = one_name words a b (sym h.0 ∙ k.0) h.1 k.1

-- what was not asked is the same by another sameness of the disk
pub ordered_more : (command : Command) (s : Status) (disk other keys input : Type 0) → (disk → other) → IsOrdered command s disk keys input
    → IsOrdered command s other keys input
ordered_more Init s disk other keys input f h = h
ordered_more Import s disk other keys input f h = (λ k. f (h.0 k), h.1)
ordered_more Show s disk other keys input f h = (λ k. f (h.0 k), h.1)
ordered_more Heads s disk other keys input f h = (λ k. f (h.0 k), h.1)
ordered_more Audit s disk other keys input f h = (λ k. f (h.0 k), h.1)
ordered_more Frames s disk other keys input f h = (f h.0, h.1)
ordered_more (Gen commits) s disk other keys input f h = h

-- a number of commits is in its range
counted_in_range : {A : Type 0} (words : List (String A)) (commits : ℕ) → IsPathAndCount words commits → IsInRange (Gen commits)
counted_in_range [] commits h = absurd h
counted_in_range (path ∷ []) commits h = absurd h
counted_in_range (path ∷ word ∷ []) commits h = (h.1.some, h.1.few)
counted_in_range (path ∷ word ∷ other ∷ more) commits h = absurd h

pub in_range : {A : Type 0} (words : List (String A)) (command : Command) → Says words command → IsInRange command
in_range [] command h = absurd h
in_range (name ∷ words) Init h = tt
in_range (name ∷ words) Import h = tt
in_range (name ∷ words) Show h = tt
in_range (name ∷ words) Heads h = tt
in_range (name ∷ words) Audit h = tt
in_range (name ∷ words) Frames h = tt
in_range (name ∷ words) (Gen commits) h = counted_in_range words commits h.1

-- a number of commits is parsed as itself
pub count_parsed : {E : Type 0} (word : List ℕ) (count : ℕ) (r : Result ℕ E) → IsCommitCount word count → ParsesUnsigned 32 10 word r → r ≡ Ok count
count_parsed word count r h p = let few = h.few in parse-decimal 32 count word r (omega (arith, few)) (omega (arith, few)) h.text p

-- so the number that was parsed is that of the word
pub parsed_count : {E : Type 0} (word : List ℕ) (count other : ℕ) (r : Result ℕ E) → ParsesUnsigned 32 10 word r → r ≡ Ok count → IsCommitCount word other
    → IsCommitCount word count
parsed_count word count other r p is h =
    let same : other ≡ count = cc (count_parsed word other r h p, is) in subst (IsCommitCount word) same h
