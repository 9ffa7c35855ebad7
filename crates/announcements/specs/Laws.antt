-- What holds of tables by their definitions alone.
use Rattle.std.specs.Prelude.{◌≡◌, ◌↔◌, ℕ, Bool, ◌&&◌, not, List, [], ◌∷◌, ◌++◌, filter, map}
use Rattle.std.specs.List.{AllByRecursion, Contains}
use Rattle.gossip_wire.specs.declared.message.Message.{Message}
use Rattle.keyring.specs.Contents.{Contents}
use Rattle.announcements.specs.Announcements.{IsAnnouncement, is_accepted, is_early, kept_of, key_of}
use Rattle.announcements.specs.Tables.{Follows, IsSame, IsTable, Keeping, Keeps, Surpasses, answer, beside, nothing_kept}
use Rattle.announcements.specs.declared.heard.Heard.TheVariants.{Raised}

-- announcements are heard in turn, each at its moment
abbrev pub HearsAll : Contents → List (Message × ℕ) → Keeping → Keeping → Type 0
HearsAll keyring [] old new = IsSame old new
HearsAll keyring (heard ∷ more) old new =
    (next : Keeping) × Follows (answer old keyring heard.1 heard.0) heard.0 old next
    × HearsAll keyring more next new

-- whether an announcement counts: it is accepted, and was not early
abbrev pub counts : Contents → Message × ℕ → Bool
counts keyring heard = is_accepted keyring heard.0 && not (is_early heard.1 heard.0)

-- those that count
abbrev pub counted : Contents → List (Message × ℕ) → List Message
counted keyring heard = map (λ x. x.0) (filter (counts keyring) heard)

-- each is an announcement
abbrev pub AreAnnouncements : List Message → Type 0
AreAnnouncements messages = AllByRecursion IsAnnouncement messages

-- what was heard in turn leaves the table of those that count
abbrev pub HearingMakesTheTable : Type 0
HearingMakesTheTable = (keyring : Contents) (heard : List (Message × ℕ)) (table : Keeping)
    → HearsAll keyring heard nothing_kept table → IsTable (counted keyring heard) table

-- some announcements have one table, in whatever order and however often they stand
abbrev pub OneTable : Type 0
OneTable = (some others : List Message) (a b : Keeping)
    → AreAnnouncements some → AreAnnouncements others
    → ((message : Message) → Contains some message ↔ Contains others message)
    → IsTable some a → IsTable others b → IsSame a b

-- an announcement is raised exactly where it is greater than all of its key from before
abbrev pub RaisedSurpasses : Type 0
RaisedSurpasses = (heard : List Message) (table : Keeping) (message : Message) → IsTable heard table
    → (beside (table (key_of message)) (kept_of message) ≡ Raised) ↔ Surpasses heard message

-- with one that is greater than all of its key from before, the table keeps it
abbrev pub TablesGrow : Type 0
TablesGrow = (heard : List Message) (old new : Keeping) (message : Message)
    → IsTable heard old → Surpasses heard message
    → Keeps (key_of message) (kept_of message) old new → IsTable (heard ++ message ∷ []) new
