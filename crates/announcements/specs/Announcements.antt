-- What an announcement is, what it announces, and whether a keyring accepts it.
use Rattle.std.specs.Prelude.{ℕ, ◌+◌, nat_lt, Bool, List, [], ◌++◌, Option, None, Some}
use Rattle.std.specs.Int.{to_be_bytes, w16}
use Rattle.rad_base.specs.declared.names.Nid.{Nid}
use Rattle.rad_base.specs.declared.names.Rid.{Rid}
use Rattle.rad_base.specs.declared.names.Sig.{Sig}
use Rattle.gossip_wire.specs.Fields.{about_text, inventory_text, refs_text}
use Rattle.gossip_wire.specs.Messages.{IsMessage, message_text, type_of}
use Rattle.gossip_wire.specs.declared.message.Message.{Message}
use Rattle.gossip_wire.specs.declared.message.Message.TheVariants.{Node, Inventory, Refs}
use Rattle.keyring.specs.Contents.{Contents, accepts}
use Rattle.announcements.specs.declared.kept.Kept.{Kept}
use Rattle.announcements.specs.declared.key.Key.{Key}
use Rattle.announcements.specs.declared.key.Topic.TheVariants as topics

-- it tells of a node, of what a node has, or of refs
abbrev pub Announces : Message → Type 0
Announces (Node node sig features time alias addresses) = Unit {0}
Announces (Inventory node sig rids time) = Unit {0}
Announces (Refs node sig rid remotes time) = Unit {0}
Announces message = ⊥

-- a message that does so, its fields within their limits
pub record IsAnnouncement (message : Message) : Type 0 where
  pub fits : IsMessage message
  pub announces : Announces message

-- what an announcement is of, whose signature it has, which repositories it lists, when it was
-- said, and the bytes behind the signature
pub record Announced : Type 0 where
  pub key : Key
  pub sig : Sig
  pub rids : List Rid
  pub time : ℕ
  pub text : List ℕ

-- what stands for messages that announce nothing
abbrev pub nothing_announced : Announced
nothing_announced = record {
  key = record { topic = topics.Node; node = record { 0 = [] }; rid = None };
  sig = record { 0 = [] };
  rids = [];
  time = 0;
  text = [];
}

-- what a message announces
abbrev pub announced : Message → Announced
announced (Node node sig features time alias addresses) = record {
  key = record { topic = topics.Node; node = node; rid = None };
  sig = sig;
  rids = [];
  time = time;
  text = about_text features time alias addresses;
}
announced (Inventory node sig rids time) = record {
  key = record { topic = topics.Inventory; node = node; rid = None };
  sig = sig;
  rids = rids;
  time = time;
  text = inventory_text rids time;
}
announced (Refs node sig rid remotes time) = record {
  key = record { topic = topics.Refs; node = node; rid = Some rid };
  sig = sig;
  rids = [];
  time = time;
  text = refs_text rid remotes time;
}
announced message = nothing_announced

-- its type and its node, and of refs also their repository
abbrev pub key_of : Message → Key
key_of message = (announced message).key

-- when it was said, in milliseconds
abbrev pub time_of : Message → ℕ
time_of message = (announced message).time

-- what a table keeps of it
abbrev pub kept_of : Message → Kept
kept_of message = record {
  time = (announced message).time;
  bytes = message_text message;
  rids = (announced message).rids;
}

-- what is signed: the two bytes of the type, and all that follows the signature
abbrev pub signed_message : Message → List ℕ
signed_message message = to_be_bytes w16 (type_of message) ++ (announced message).text

-- whether the keyring accepts the signature
abbrev pub is_accepted : Contents → Message → Bool
is_accepted keyring message =
    accepts keyring (announced message).key.node (signed_message message) (announced message).sig

-- whether it is of a time more than an hour ahead of the clock
abbrev pub is_early : ℕ → Message → Bool
is_early now message = nat_lt (now + 3600000) (time_of message)
