-- The objects among the parts of a section, and its head.
use Rattle.std.proofs.Common.{◌≡◌, List, [], ◌∷◌, ◌++◌, Option, Some, None, refl, sym, ap, ◌∙◌, subst}
use Rattle.std.specs.Option.{option_or}
use Rattle.commit_graph.specs.Objects.{Object}
use Rattle.repo_entries.specs.Batches.{AreContents}
use Rattle.fetch_wire.specs.declared.part.Part.{Part}
use Rattle.fetch_stages.specs.Sections.{head_in, head_of, object_of_part, objects_among}

-- contents before contents
pub contents_before : (xs ys : List Object) → AreContents (xs ++ ys) → AreContents ys
contents_before [] ys h = h
contents_before (x ∷ xs) ys h = contents_before xs ys h.1

-- what is left of contents once the object of the first part is taken
pub contents_left_in : (parts left : List Part) (p : Part) → parts ≡ p ∷ left
    → AreContents (objects_among parts) → AreContents (objects_among left)
contents_left_in parts left p e h =
    contents_before (object_of_part p) (objects_among left)
    (subst (λ (l : List Part). AreContents (objects_among l)) e h)

-- the objects of the first part, and those of the others
pub objects_first : (parts left : List Part) (p : Part) → parts ≡ p ∷ left
    → objects_among parts ≡ object_of_part p ++ objects_among left
objects_first parts left p e = ap objects_among e

or_assoc : (a b c : Option Part) → option_or a (option_or b c) ≡ option_or (option_or a b) c
or_assoc None b c = refl
or_assoc (Some p) b c = refl

-- the head, once the first part is taken
pub head_first : (before taken : Option Part) (parts left : List Part) (p : Part) → parts ≡ p ∷ left
    → taken ≡ option_or before (head_in p) → option_or taken (head_of left) ≡ option_or before (head_of parts)
head_first before taken parts left p e f =
    ap (λ (h : Option Part). option_or h (head_of left)) f
    ∙ sym (or_assoc before (head_in p) (head_of left))
    ∙ ap (λ (l : List Part). option_or before (head_of l)) (sym e)

-- no part, no head more
pub head_none : (h : Option Part) (parts : List Part) → parts ≡ [] → option_or h (head_of parts) ≡ h
head_none None parts e = ap head_of e
head_none (Some p) parts e = refl

-- the head among parts behind others
pub heads_behind : (parts more : List Part) → head_of (parts ++ more) ≡ option_or (head_of parts) (head_of more)
heads_behind [] more = refl
heads_behind (p ∷ parts) more =
    ap (λ (h : Option Part). option_or (head_in p) h) (heads_behind parts more)
    ∙ or_assoc (head_in p) (head_of parts) (head_of more)
