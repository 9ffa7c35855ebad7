-- What stands of announcements.
use Rattle.std.proofs.Common.{◌≡◌, ℕ, List, [], ◌∷◌, ◌++◌, sym, ap, subst, ◌∙◌}
use Rattle.std.proofs.lemmas.List.{append-nil}
use Rattle.gossip_wire.specs.declared.message.Message.{Message}
use Rattle.announcements.specs.Announcements.{kept_of, key_of}
use Rattle.announcements.specs.Tables.{IsTable, Keeping, Keeps, Surpasses}
use Rattle.announcements.proofs.Hearing.{tables_grow}
use Rattle.repo_entries.specs.Items.{Item, heard}
use Rattle.legal_history.specs.Replays.{messages_in}
use Rattle.legal_history.proofs.Durables.{heard-append}

-- an entry that is no announcement
abbrev pub IsSilent : Item → Type 0
IsSilent item = messages_in (item ∷ []) ≡ []

-- the table stays, with one silent entry more
pub table_more : (old new : Keeping) (items : List Item) (item : Item) → IsSilent item → new ≡ old → IsTable (messages_in items) old → IsTable (messages_in (items ++ item ∷ [])) new
table_more old new items item silent same is =
    subst (λ (messages : List Message). IsTable messages new)
    (sym (heard-append items (item ∷ []) ∙ ap (λ (l : List Message). messages_in items ++ l) silent ∙ append-nil (messages_in items)))
    (subst (λ (table : Keeping). IsTable (messages_in items) table) (sym same) is)

-- it keeps one that is heard
pub table_heard : (old new : Keeping) (items : List Item) (message : Message) (caller : ℕ) → Surpasses (messages_in items) message
    → Keeps (key_of message) (kept_of message) old new → IsTable (messages_in items) old → IsTable (messages_in (items ++ heard message caller ∷ [])) new
table_heard old new items message caller greater keeps is =
    subst (λ (messages : List Message). IsTable messages new) (sym (heard-append items (heard message caller ∷ [])))
    (tables_grow (messages_in items) old new message is greater keeps)
