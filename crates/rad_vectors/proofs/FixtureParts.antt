-- Branches, tags and names of the repository of three delegates.
use Rattle.std.proofs.Common.{◌≡◌, ℕ, zero, suc, ◌+◌, ◌<◌, ◌≤◌, List, [], ◌∷◌, ◌++◌, length, refl, sym, subst, ap, ◌∙◌, append_assoc, append-nil, arith, length-append, get_or, map, take}
use Rattle.std.proofs.lemmas.List.{length-take, take_more}
use Rattle.std.specs.Prelude.{None, Some, codes}
use Rattle.git_object.specs.Grammar.{SpellsTag, oid_line}
use Rattle.git_object.specs.declared.kind.Kind.TheVariants as kinds
use Rattle.rad_base.specs.declared.names.Nid.{Nid}
use Rattle.rad_base.specs.declared.names.Oid.{Oid}
use Rattle.keyring.specs.Lines.{KeyringLine, file_text, keyring_line_text, named}
use Rattle.fetch_wire.specs.Sections.{Object}
use Rattle.rad_vectors.specs.Chains.{chain_commits, number_commit, tip_of}
use Rattle.rad_vectors.specs.Fixture.{branch_lines, branch_name, first_refs, fixture_document, fixture_names, fixture_of, fixture_signers, fixture_tips, fixture_with, key_filled_with, next_to_last}
use Rattle.rad_vectors.specs.Generated.{IsMade, master_line}
use Rattle.rad_vectors.specs.Objects.{object_name}
use Rattle.rad_vectors.specs.Repositories.{IsBundleOf, Signer, keyring_text, ref_line}
use Rattle.rad_vectors.specs.declared.made.Made.{Made}
use Rattle.rad_vectors.proofs.CommitSizes.{line_size}

-- one branch more
pub branch_more : (j : ℕ) (xs : List Oid) (x : Oid) → branch_lines j (xs ++ x ∷ []) ≡ branch_lines j xs ++ ref_line x (branch_name (j + length xs))
branch_more j [] x = append-nil (ref_line x (branch_name j)) ∙ ap (λ (n : ℕ). ref_line x (branch_name n)) (omega arith)
branch_more j (y ∷ ys) x =
    ap (λ (rest : List ℕ). ref_line y (branch_name j) ++ rest) (branch_more (j + 1) ys x)
    ∙ (sym (append_assoc (ref_line y (branch_name j)) (branch_lines (j + 1) ys) (ref_line x (branch_name ((j + 1) + length ys))))
    ∙ ap (λ (n : ℕ). (ref_line y (branch_name j) ++ branch_lines (j + 1) ys) ++ ref_line x (branch_name n)) (omega arith))

-- a chain has so many commits
pub commits_of : (m : ℕ) → length (chain_commits m) ≡ m
unfolding chain_commits
commits_of zero = refl
commits_of (suc k) =
    let before = commits_of k in
    omega (arith, length-append (chain_commits k) (object_name (number_commit (suc k) None (tip_of k)) ∷ []))

-- a tag on a commit is not long where its rest is not
pub tag_size : (oid : Oid) (rest bytes : List ℕ) → SpellsTag (record { object = oid; kind = kinds.Commit; rest = rest }) bytes → length rest ≤ 1000 → length bytes ≤ 33554432
tag_size oid rest bytes spells short =
    let first : length (oid_line (codes "object ") oid) ≡ 48 = line_size (codes "object ") oid spells.object in
    let whole : length bytes ≡ length (oid_line (codes "object ") oid ++ (codes "type commit\n" ++ rest)) = ap length spells.text in
    omega (arith, length-append (oid_line (codes "object ") oid) (codes "type commit\n" ++ rest), length-append (codes "type commit\n") rest)

-- a bundle is the same whatever names the keyring has
pub renamed : (document : List ℕ) (names : List (List ℕ × Nid)) (signers : List Signer) (tips : List Object) (bytes : List ℕ)
    → IsBundleOf (record { document = document; names = []; signers = signers; tips = tips }) bytes
    → IsBundleOf (record { document = document; names = names; signers = signers; tips = tips }) bytes
renamed document names signers tips bytes is = record {
  identity = is.identity;
  sigs = is.sigs;
  tips = is.tips;
  of_identity = is.of_identity;
  of_sigs = is.of_sigs;
  of_tips = is.of_tips;
  text = is.text;
}

-- a branch behind those of the commits before it
pub branches_step : (old before new name : List ℕ) (xs : List Oid) (i : ℕ) (d : Oid) → i < length xs → new ≡ before ++ ref_line (get_or xs i d) name
    → name ≡ branch_name i → before ≡ old ++ branch_lines 0 (take i xs) → new ≡ old ++ branch_lines 0 (take (i + 1) xs)
branches_step old before new name xs i d lt en word eb =
    let more : branch_lines 0 (take i xs ++ get_or xs i d ∷ []) ≡ branch_lines 0 (take i xs) ++ ref_line (get_or xs i d) (branch_name i) =
    branch_more 0 (take i xs) (get_or xs i d) ∙ ap (λ (n : ℕ). branch_lines 0 (take i xs) ++ ref_line (get_or xs i d) (branch_name n)) (omega (arith, length-take i xs)) in
    en ∙ (ap (λ (b : List ℕ). b ++ ref_line (get_or xs i d) name) eb
    ∙ (append_assoc old (branch_lines 0 (take i xs)) (ref_line (get_or xs i d) name)
    ∙ (ap (λ (w : List ℕ). old ++ (branch_lines 0 (take i xs) ++ ref_line (get_or xs i d) w)) word
    ∙ (ap (λ (ls : List ℕ). old ++ ls) (sym more)
    ∙ ap (λ (os : List Oid). old ++ branch_lines 0 os) (sym (take_more xs i d lt))))))

-- what is made of these parts
pub fixture_made : (m : ℕ) (one two three bundle keyring : List ℕ) (tips : List Object) → one ≡ first_refs m → two ≡ master_line (Some (object_name (next_to_last m)))
    → three ≡ master_line (tip_of m) → tips ≡ fixture_tips m
    → IsBundleOf (record { document = fixture_document; names = []; signers = fixture_signers one two three; tips = tips }) bundle
    → keyring ≡ keyring_text fixture_names (fixture_signers one two three) → IsMade (fixture_of m) (record { keyring = keyring; bundle = bundle })
fixture_made m one two three bundle keyring tips e1 e2 e3 et is lines =
    let made : Made = record { keyring = keyring; bundle = bundle } in
    let second : List ℕ = master_line (Some (object_name (next_to_last m))) in
    let third : List ℕ = master_line (tip_of m) in
    let parts : IsMade (fixture_with one two three tips) made = record {
      bundle = renamed fixture_document fixture_names (fixture_signers one two three) tips bundle is;
      keyring = lines;
    } in
    subst (λ (a : List ℕ). IsMade (fixture_with a second third (fixture_tips m)) made) e1
    (subst (λ (b : List ℕ). IsMade (fixture_with one b third (fixture_tips m)) made) e2
    (subst (λ (d : List ℕ). IsMade (fixture_with one two d (fixture_tips m)) made) e3
    (subst (λ (ts : List Object). IsMade (fixture_with one two three ts) made) et parts)))

-- the line of a name
abbrev name_line : List ℕ → Nid → List ℕ
name_line text key = keyring_line_text (named text key) ++ 10 ∷ []

four_parts : (a b d rest : List ℕ) → ((a ++ b) ++ d) ++ rest ≡ (a ++ (b ++ (d ++ []))) ++ rest
four_parts a b d rest = ap (λ (xs : List ℕ). xs ++ rest) (append_assoc a b d ∙ ap (λ (xs : List ℕ). a ++ (b ++ xs)) (sym (append-nil d)))

abbrev flat_lines : List KeyringLine → List ℕ
flat_lines [] = []
flat_lines (line ∷ lines) = (keyring_line_text line ++ 10 ∷ []) ++ flat_lines lines

lines_text : (lines : List KeyringLine) → file_text lines ≡ flat_lines lines
lines_text [] = refl
lines_text (line ∷ lines) =
    ap (λ (xs : List ℕ). keyring_line_text line ++ (10 ∷ xs)) (lines_text lines)
    ∙ sym (append_assoc (keyring_line_text line) (10 ∷ []) (flat_lines lines))

-- the names and the lines behind them
pub named_lines : (none one two three whole accepts : List ℕ) → none ≡ []
    → one ≡ none ++ name_line (codes "did:key:z6MkOne") (key_filled_with 17) → two ≡ one ++ name_line (codes "did:key:z6MkTwo") (key_filled_with 34)
    → three ≡ two ++ name_line (codes "did:key:z6MkThree") (key_filled_with 51) → whole ≡ three ++ accepts
    → whole ≡ file_text (map (λ (pair : List ℕ × Nid). named pair.0 pair.1) fixture_names) ++ accepts
named_lines none one two three whole accepts e0 e1 e2 e3 e4 =
    let a : List ℕ = name_line (codes "did:key:z6MkOne") (key_filled_with 17) in
    let b : List ℕ = name_line (codes "did:key:z6MkTwo") (key_filled_with 34) in
    let d : List ℕ = name_line (codes "did:key:z6MkThree") (key_filled_with 51) in
    let first : one ≡ a = e1 ∙ ap (λ (xs : List ℕ). xs ++ a) e0 in
    let all : three ≡ (a ++ b) ++ d = e3 ∙ ap (λ (xs : List ℕ). xs ++ d) (e2 ∙ ap (λ (xs : List ℕ). xs ++ b) first) in
    e4 ∙ (ap (λ (xs : List ℕ). xs ++ accepts) all ∙ (four_parts a b d accepts
    ∙ ap (λ (xs : List ℕ). xs ++ accepts) (sym (lines_text (map (λ (pair : List ℕ × Nid). named pair.0 pair.1) fixture_names)))))
