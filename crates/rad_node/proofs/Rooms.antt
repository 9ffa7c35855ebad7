-- A journal that is within its limit with all that a bundle makes has room for each of its entries.
use Rattle.std.proofs.Common.{◌≡◌, ◌+◌, ◌*◌, ◌^◌, ◌≤◌, ℕ, Bool, true, false, if◌then◌else◌, List, [], ◌∷◌, ◌++◌, Some, Result, Ok, Err, length, flat_map, refl, sym, ap, ◌∙◌, subst, arith, append_assoc, length-append}
use Rattle.std.proofs.lemmas.List.{map-append}
use Rattle.std.specs.List.{AllByRecursion}
use Rattle.rad_base.specs.RemoteTexts.{IsPair, pair_text}
use Rattle.rad_base.specs.Sizes.{IsOid}
use Rattle.rad_base.specs.declared.names.Nid.{Nid}
use Rattle.rad_base.specs.declared.names.Oid.{Oid}
use Rattle.rad_base.specs.declared.names.Rid.{Rid}
use Rattle.commit_graph.specs.Objects.{Object, ObjectMap}
use Rattle.keyring.specs.Contents.{Contents}
use Rattle.ref_journal.specs.Frames.{gate_behind, header, record_of, records}
use Rattle.ref_journal.proofs.Records.{length-record_of, records-append}
use Rattle.repo_entries.specs.Items.{Item, claim, heard, install, missed, put, refused}
use Rattle.repo_entries.specs.declared.whole.Whole.{Whole}
use Rattle.repo_slice.specs.Keeps.{LacksRoom, item_of}
use Rattle.repo_slice.specs.Outcomes.{advanced_in, if_advanced}
use Rattle.repo_slice.specs.Verdicts.{IsIdOutcome}
use Rattle.repo_slice.specs.declared.outcomes.Outcome.{Outcome}
use Rattle.repo_slice.specs.declared.outcomes.Outcome.TheVariants as outcome
use Rattle.repo_slice.specs.declared.state.State.{State}
use Rattle.repo_slice.specs.declared.verdict.IdOutcome.{IdOutcome}
use Rattle.repo_slice.specs.declared.verdict.IdOutcome.TheVariants as id
use Rattle.repo_slice.specs.declared.verdict.Judged.{Judged}
use Rattle.entry_bodies.specs.Bodies.{HasBody, body_of}
use Rattle.entry_bodies.proofs.Bodies.{install_sized, put_sized}
use Rattle.legal_history.specs.Durable.{durable_part}
use Rattle.legal_history.specs.Replays.{Standing, after_install, after_item, after_items, after_put, is_same, nothing_stands, replayed_state}
use Rattle.legal_history.proofs.Durables.{durable-append}
use Rattle.object_store.specs.Bodies.{bodies_of}
use Rattle.fetch_wire.specs.Bundles.{Bundle}
use Rattle.fetch_stages.specs.Puts.{puts_of}
use Rattle.rad_node.specs.Completeness.{IsBundle, objects_with}

remotes_sized : (remotes : List (Nid × Oid)) → AllByRecursion IsPair remotes → length (flat_map pair_text remotes) ≡ 52 * length remotes
remotes_sized [] each = refl
remotes_sized (remote ∷ remotes) each =
    let more = remotes_sized remotes each.1 in
    let key = each.0.0.size in
    let commit = each.0.1.size in
    omega (arith, more, key, commit, length-append (pair_text remote) (flat_map pair_text remotes), length-append remote.0.0 remote.1.0)

-- the names and keys in an entry have their sizes
abbrev IsSized : Item → Type 0
IsSized (claim rid caller) = Unit {0}
IsSized (put rid batch caller) = IsOid rid.0
IsSized (install rid id remotes caller) = IsOid rid.0 × IsOid id × AllByRecursion IsPair remotes
IsSized (heard message caller) = Unit {0}
IsSized (missed of left caller) = Unit {0}
IsSized (refused rid why caller) = Unit {0}

-- how many bytes the records of entries have that a disk keeps
abbrev records_size : List Item → ℕ
records_size items = length (records (bodies_of (durable_part items)))

first_record : (body : List ℕ) (bodies : List (List ℕ)) → length (records (body ∷ bodies)) ≡ 9 + length body + length (records bodies)
first_record body bodies =
    omega (arith, length-append (record_of body) (records bodies), length-record_of body)

-- an end behind which the first of these entries has its record has room for it
fits_first : (end : ℕ) (items : List Item) → AllByRecursion IsSized items → end + records_size items + 10 ≤ 2 ^ 40 → LacksRoom end items → ⊥
fits_first end [] each within lacks = lacks
fits_first end (claim rid caller ∷ items) each within lacks = lacks (omega (arith, within))
fits_first end (put rid batch caller ∷ items) each within lacks =
    let first = first_record (body_of (put rid batch 0)) (bodies_of (durable_part items)) in
    let size = put_sized rid batch each.0.size in
    lacks (omega (arith, within, first, size))
fits_first end (install rid id remotes caller ∷ items) each within lacks =
    let first = first_record (body_of (install rid id remotes 0)) (bodies_of (durable_part items)) in
    let size = install_sized rid id remotes each.0.0.size each.0.1.size (remotes_sized remotes each.0.2) in
    lacks (omega (arith, within, first, size))
fits_first end (heard message caller ∷ items) each within lacks =
    let first = first_record (body_of (heard message 0)) (bodies_of (durable_part items)) in
    lacks (omega (arith, within, first))
fits_first end (missed of left caller ∷ items) each within lacks = lacks (omega (arith, within))
fits_first end (refused rid why caller ∷ items) each within lacks = lacks (omega (arith, within))

-- what holds of each of entries holds of each of the last
each_behind : (done rest : List Item) → AllByRecursion IsSized (done ++ rest) → AllByRecursion IsSized rest
each_behind [] rest each = each
each_behind (item ∷ done) rest each = each_behind done rest each.1

-- the end behind entries, by that behind the first of them
end_behind : (first rest : List Item) → gate_behind (bodies_of (durable_part (first ++ rest))) ≡ gate_behind (bodies_of (durable_part first)) + records_size rest
end_behind first rest =
    let these = bodies_of (durable_part first) in
    let those = bodies_of (durable_part rest) in
    let bodies : bodies_of (durable_part (first ++ rest)) ≡ these ++ those =
    ap bodies_of (durable-append first rest) ∙ map-append body_of (durable_part first) (durable_part rest) in
    let all : gate_behind (bodies_of (durable_part (first ++ rest))) ≡ length (header ++ (records these ++ records those)) =
    ap gate_behind bodies ∙ ap (λ (l : List ℕ). length (header ++ l)) (records-append these those) in
    omega (arith, all, length-append header (records these ++ records those), length-append (records these) (records those), length-append header (records these))

-- nowhere among these entries, behind the stored ones, the journal lacks room for the next
abbrev pub HasRoomFor : List Item → List Item → Type 0
HasRoomFor stored entries = (done rest : List Item) → entries ≡ done ++ rest
    → LacksRoom (gate_behind (bodies_of (durable_part (stored ++ done)))) rest → ⊥

within_has_room : (stored entries : List Item) → AllByRecursion IsSized entries → gate_behind (bodies_of (durable_part (stored ++ entries))) + 10 ≤ 2 ^ 40
    → HasRoomFor stored entries
within_has_room stored entries each room done rest parts lacks =
    let last = each_behind done rest (subst (λ (l : List Item). AllByRecursion IsSized l) parts each) in
    let whole : stored ++ entries ≡ (stored ++ done) ++ rest = ap (λ (l : List Item). stored ++ l) parts ∙ sym (append_assoc stored done rest) in
    let end = ap (λ (l : List Item). gate_behind (bodies_of (durable_part l))) whole ∙ end_behind (stored ++ done) rest in
    fits_first (gate_behind (bodies_of (durable_part (stored ++ done)))) rest last (omega (arith, room, end)) lacks

-- remotes that advance are among those that are offered
each_if : (o : Outcome) (remote : Nid × Oid) (remotes : List (Nid × Oid)) → IsPair remote → AllByRecursion IsPair remotes → AllByRecursion IsPair (if_advanced o remote remotes)
each_if outcome.OutOfScope remote remotes one each = each
each_if outcome.Same remote remotes one each = each
each_if outcome.Stale remote remotes one each = each
each_if (outcome.Missing oid) remote remotes one each = each
each_if (outcome.BadObject oid) remote remotes one each = each
each_if outcome.BadSigrefs remote remotes one each = each
each_if outcome.NotAccepted remote remotes one each = each
each_if outcome.Grafted remote remotes one each = each
each_if outcome.Forked remote remotes one each = each
each_if (outcome.Incomplete oid) remote remotes one each = each
each_if outcome.Crowded remote remotes one each = each
each_if outcome.Advanced remote remotes one each = (one, each)

each_advanced : (pairs : List (Nid × Oid)) (outcomes : List (Nid × Outcome)) → AllByRecursion IsPair pairs → AllByRecursion IsPair (advanced_in pairs outcomes)
each_advanced [] outcomes each = tt
each_advanced (pair ∷ pairs) [] each = tt
each_advanced (pair ∷ pairs) (o ∷ outcomes) each = each_if o.1 pair (advanced_in pairs outcomes) each.0 (each_advanced pairs outcomes each.1)

-- the identity that stands has a name
abbrev StandsSized : Standing → Type 0
StandsSized s = (stands : Oid) → s.id ≡ Some stands → IsOid stands

put_stands : (same : Bool) (batch : List Object) (s : Standing) → StandsSized s → StandsSized (if same then after_put batch s else s)
put_stands true batch s known = known
put_stands false batch s known = known

install_stands : (same : Bool) (commit : Oid) (remotes : List (Nid × Oid)) (s : Standing) → IsOid commit → StandsSized s
    → StandsSized (if same then after_install commit remotes s else s)
install_stands true commit remotes s sized known = λ stands e. subst IsOid (cc e) sized
install_stands false commit remotes s sized known = known

items_stand : (rid : Rid) (s : Standing) (items : List Item) → AllByRecursion HasBody items → StandsSized s → StandsSized (after_items rid s items)
items_stand rid s [] has known = known
items_stand rid s (claim of caller ∷ items) has known = absurd has.0
items_stand rid s (put of batch caller ∷ items) has known =
    items_stand rid (after_item rid s (put of batch caller)) items has.1 (put_stands (is_same rid of) batch s known)
items_stand rid s (install of commit remotes caller ∷ items) has known =
    items_stand rid (after_item rid s (install of commit remotes caller)) items has.1 (install_stands (is_same rid of) commit remotes s has.0.0.id known)
items_stand rid s (heard message caller ∷ items) has known = items_stand rid s items has.1 known
items_stand rid s (missed of left caller ∷ items) has known = absurd has.0
items_stand rid s (refused of why caller ∷ items) has known = absurd has.0

-- so the next one has
next_sized : (objects : ObjectMap) (state : State) (offered : Oid) (o : IdOutcome) (next : Oid) → IsOid offered → ((stands : Oid) → state.id ≡ Some stands → IsOid stands)
    → IsIdOutcome objects state offered o next → IsOid next
next_sized objects state offered id.First next sized known h = subst IsOid (sym h.1) sized
next_sized objects state offered id.Same next sized known h = subst IsOid (sym h.1) sized
next_sized objects state offered id.Stale next sized known h = known next h.0
next_sized objects state offered id.Advanced next sized known h = subst IsOid (sym h.2) sized

puts_sized : (rid : Rid) (batches : List (List Object)) (last : List Item) → IsOid rid.0 → AllByRecursion IsSized last → AllByRecursion IsSized (puts_of rid 1 batches ++ last)
puts_sized rid [] last sized each = each
puts_sized rid (batch ∷ batches) last sized each = (sized, puts_sized rid batches last sized each)

module _ (keyring : Contents) (stored : List Item) (bundle : Bundle) (entries : List Item) (bytes : List ℕ) (has : AllByRecursion HasBody stored) where
  verdict_sized : (verdict : Result Judged Whole) → IsBundle keyring stored bundle verdict entries bytes → IsSized (item_of bundle.rid 1 verdict)
  verdict_sized (Ok judged) b =
      let limits = b.spells.is in
      let are = b.verdict_is.1 in (
        limits.rid,
        next_sized (objects_with stored bundle) (replayed_state bundle.rid stored) bundle.offer.id judged.id_outcome judged.next_id limits.offer.id
            (items_stand bundle.rid nothing_stands stored has (λ stands e. absurd (cc e))) are.identity,
        subst (λ (l : List (Nid × Oid)). AllByRecursion IsPair l) (sym are.advanced) (each_advanced bundle.offer.remotes judged.outcomes limits.offer.each),
      )
  verdict_sized (Err why) b = tt

  -- the journal has room for what a bundle makes
  pub bundle_room : (verdict : Result Judged Whole) → IsBundle keyring stored bundle verdict entries bytes → HasRoomFor stored entries
  bundle_room verdict b =
      let rid = bundle.rid in
      let sized = b.spells.is.rid in
      let m = b.makes in
      let last = item_of rid 1 verdict ∷ [] in
      within_has_room stored entries
      (subst (λ (l : List Item). AllByRecursion IsSized l) (sym m.all)
      (puts_sized rid m.identity (puts_of rid 1 m.sigs ++ (puts_of rid 1 m.tips ++ last)) sized
      (puts_sized rid m.sigs (puts_of rid 1 m.tips ++ last) sized
      (puts_sized rid m.tips last sized (verdict_sized verdict b, tt))))) b.room
