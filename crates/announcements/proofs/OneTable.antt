-- Announcements have one table, in whatever order they stand and however often.
use Rattle.std.proofs.Common.{◌≡◌, ℕ, List, [], ◌∷◌, ◌++◌, Option, Some, None, refl, sym, ap, subst, ⊎_elim, ◌∙◌}
use Rattle.std.specs.Prelude.{Contains}
use Rattle.std.specs.List.{AllByRecursion}
use Rattle.std.specs.declared.cmp.Ordering.TheVariants.{Equal, Greater}
use Rattle.rad_base.proofs.Members.{contains_cases, contains_nothing}
use Rattle.gossip_wire.proofs.OneMessage.{one_message}
use Rattle.gossip_wire.specs.Messages.{IsMessage, message_text}
use Rattle.gossip_wire.specs.declared.message.Message.{Message}
use Rattle.announcements.specs.Announcements.{IsAnnouncement, kept_of, key_of}
use Rattle.announcements.specs.Laws.{AreAnnouncements, OneTable}
use Rattle.announcements.specs.Tables.{IsGreatest, IsKept, rank_cmp}
use Rattle.announcements.specs.declared.kept.Kept.{Kept}
use Rattle.announcements.specs.declared.key.Key.{Key}
use Rattle.announcements.proofs.Ranks.{of_one_rank, same_bytes}

each_has : (messages : List Message) (m : Message) → AreAnnouncements messages → Contains messages m → IsMessage m
each_has [] m all there = absurd (contains_nothing m there)
each_has (x ∷ more) m all there =
    ⊎_elim (λ a. subst IsMessage a all.0.fits) (λ a. each_has more m all.1 a) (contains_cases x more m there)

abbrev AreSame : List Message → List Message → Type 0
AreSame some others = (m : Message) → (Contains some m → Contains others m) × (Contains others m → Contains some m)

one_greatest : (some others : List Message) (key : Key) (a b : Kept)
    → AreAnnouncements some → AreAnnouncements others → AreSame some others
    → IsGreatest some key a → IsGreatest others key b → b ≡ a
one_greatest some others key a b first second same in_some in_others =
    let here : Contains some in_others.message = (same in_others.message).1 in_others.there in
    let there : Contains others in_some.message = (same in_some.message).0 in_some.there in
    let not_over : rank_cmp b a ≡ Greater → ⊥ = rw in_others.is (in_some.most in_others.message here in_others.of) in
    let not_under : rank_cmp a b ≡ Greater → ⊥ = rw in_some.is (in_others.most in_some.message there in_some.of) in
    let texts : b.bytes ≡ a.bytes = same_bytes b a (of_one_rank b a not_over not_under) in
    let spelled : message_text in_some.message ≡ message_text in_others.message =
    sym (ap (λ (k : Kept). k.bytes) in_some.is) ∙ sym texts ∙ ap (λ (k : Kept). k.bytes) in_others.is in
    let one : in_some.message ≡ in_others.message =
    one_message (message_text in_some.message) in_some.message in_others.message
    (record { fits = each_has some in_some.message first in_some.there; text = refl })
    (record { fits = each_has others in_others.message second in_others.there; text = spelled }) in
    in_others.is ∙ ap kept_of (sym one) ∙ sym in_some.is

pub one_table : OneTable
one_table some others a b first second same in_some in_others = λ key. by_kept key (a key) (b key) (in_some key) (in_others key)
  where
    by_kept : (key : Key) (p q : Option Kept) → IsKept some key p → IsKept others key q → q ≡ p
    by_kept key None None f g = refl
    by_kept key None (Some q) f g = absurd (f g.message ((same g.message).1 g.there) g.of)
    by_kept key (Some p) None f g = absurd (g f.message ((same f.message).0 f.there) f.of)
    by_kept key (Some p) (Some q) f g = ap Some (one_greatest some others key p q first second same f g)
