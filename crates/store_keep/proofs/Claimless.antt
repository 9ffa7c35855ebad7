-- Entries without their claims.
use Rattle.std.proofs.Common.{◌≡◌, List, [], ◌∷◌, ◌++◌, Some, refl, sym, ap, ◌∙◌}
use Rattle.std.specs.List.{AllByRecursion}
use Rattle.repo_entries.specs.Items.{Item, claim, heard, install, left_of, missed, put, refused}
use Rattle.legal_history.specs.Durable.{durable_part}
use Rattle.store_keep.specs.Made.{IsLeftBy, IsQuiet, no_claims}

-- entries behind entries
pub no_claims-append : (these those : List Item) → no_claims (these ++ those) ≡ no_claims these ++ no_claims those
no_claims-append [] those = refl
no_claims-append (claim r c ∷ items) those = no_claims-append items those
no_claims-append (put r b c ∷ items) those = ap (λ (l : List Item). put r b c ∷ l) (no_claims-append items those)
no_claims-append (install r i m c ∷ items) those = ap (λ (l : List Item). install r i m c ∷ l) (no_claims-append items those)
no_claims-append (heard m c ∷ items) those = ap (λ (l : List Item). heard m c ∷ l) (no_claims-append items those)
no_claims-append (missed q l c ∷ items) those = ap (λ (x : List Item). missed q l c ∷ x) (no_claims-append items those)
no_claims-append (refused r w c ∷ items) those = ap (λ (l : List Item). refused r w c ∷ l) (no_claims-append items those)

-- claims are not durable
pub no_claims_durable : (items : List Item) → durable_part (no_claims items) ≡ durable_part items
no_claims_durable [] = refl
no_claims_durable (claim r c ∷ items) = no_claims_durable items
no_claims_durable (put r b c ∷ items) = ap (λ (l : List Item). put r b 0 ∷ l) (no_claims_durable items)
no_claims_durable (install r i m c ∷ items) = ap (λ (l : List Item). install r i m 0 ∷ l) (no_claims_durable items)
no_claims_durable (heard m c ∷ items) = ap (λ (l : List Item). heard m 0 ∷ l) (no_claims_durable items)
no_claims_durable (missed q l c ∷ items) = no_claims_durable items
no_claims_durable (refused r w c ∷ items) = no_claims_durable items

-- quiet entries are quiet without their claims
quiet_claimless : (items : List Item) → AllByRecursion IsQuiet items → AllByRecursion IsQuiet (no_claims items)
quiet_claimless [] q = tt
quiet_claimless (claim r c ∷ items) q = quiet_claimless items q.1
quiet_claimless (put r b c ∷ items) q = absurd q.0
quiet_claimless (install r i m c ∷ items) q = absurd q.0
quiet_claimless (heard m c ∷ items) q = absurd q.0
quiet_claimless (missed o l c ∷ items) q = (q.0, quiet_claimless items q.1)
quiet_claimless (refused r w c ∷ items) q = (tt, quiet_claimless items q.1)

-- one more of them
pub quiet_more : (items : List Item) (item : Item) → AllByRecursion IsQuiet items → IsQuiet item → AllByRecursion IsQuiet (items ++ item ∷ [])
quiet_more [] item q one = (one, tt)
quiet_more (x ∷ items) item q one = (q.0, quiet_more items item q.1 one)

-- what is left in doubt is named without the claims too
pub left_claimless : (items : List Item) (item : Item) → IsLeftBy items item → IsLeftBy (no_claims items) item
left_claimless items item h = record {
  rid = h.rid;
  caller = h.caller;
  concerns = h.concerns;
  before = no_claims h.before;
  behind = no_claims h.behind;
  all = ap no_claims h.all ∙ no_claims-append h.before (missed (Some h.rid) (left_of item) h.caller ∷ h.behind);
  quiet = quiet_claimless h.behind h.quiet;
}

-- the last of a list
last_or : {X : Type 0} → X → List X → X
last_or d [] = d
last_or d (x ∷ xs) = last_or x xs

last_pushed : {X : Type 0} (d : X) (xs : List X) (y : X) → last_or d (xs ++ y ∷ []) ≡ y
unfolding last_or
last_pushed d [] y = refl
last_pushed d (x ∷ xs) y = last_pushed x xs y

-- lists that are one have one last item
pub same_last : {X : Type 0} (xs ys : List X) (x y : X) → xs ++ x ∷ [] ≡ ys ++ y ∷ [] → x ≡ y
same_last xs ys x y e = sym (last_pushed x xs x) ∙ ap (λ l. last_or x l) e ∙ last_pushed x ys y
