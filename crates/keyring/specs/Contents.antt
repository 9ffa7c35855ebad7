-- What a keyring says, as one value.
use Rattle.std.specs.Prelude.{ℕ, List, refl, Bool, Option}
use Rattle.std.specs.Option.{option_or}
use Rattle.std.specs.Coded.{Coded, code_by, coded_list, coded_ℕ, coded×}
use Rattle.std.specs.Ordering.{nat_cmp}
use Rattle.std.specs.Cmp.Lexicographic.{slice_cmp}
use Rattle.std.specs.FinMap as fin
use Rattle.std.specs.FinSet as set
use Rattle.sha2.specs.Sha256.{sha256}
use Rattle.rad_base.specs.declared.names.Nid.{Nid}
use Rattle.rad_base.specs.declared.names.Sig.{Sig}
use Rattle.keyring.specs.Accepts.{accept_cmp, coded_accept, coded_nid}
use Rattle.keyring.specs.Lines.{KeyringLine, accepts_in, names_in, owned_in}
use Rattle.keyring.specs.Texts.{direct_key}
use Rattle.keyring.specs.declared.accept.Accept.{Accept}

-- the key of each name, the signatures that hold, and the own messages in order
pub record Contents : Type 0 where
  pub names : fin.FinMap (slice_cmp nat_cmp) Nid
  pub accepted : set.FinSet accept_cmp
  pub own : List (List ℕ)

-- what is stored of a keyring's contents
abbrev pub coded_contents : Coded Contents
coded_contents =
    code_by (fin.FinMap (slice_cmp nat_cmp) Nid × (set.FinSet accept_cmp × List (List ℕ)))
    (coded× (fin.code (coded_list coded_ℕ) coded_nid)
    (coded× (set.code coded_accept) (coded_list (coded_list coded_ℕ))))
    (λ contents. (contents.names, (contents.accepted, contents.own)))
    (λ parts. record { names = parts.0; accepted = parts.1.0; own = parts.1.1 }) (λ _. refl)

-- what lines say
abbrev pub contents_of : List KeyringLine → Contents
contents_of lines = record {
  names = fin.from_entries (names_in lines);
  accepted = set.from_list (accepts_in lines);
  own = owned_in lines;
}

-- a key's signature over a message, as a line has it
abbrev pub accept_of : Nid → List ℕ → Sig → Accept
accept_of key message sig = record { key = key; digest = record { 0 = sha256 message }; sig = sig }

-- whether the keyring accepts a key's signature over a message
abbrev pub accepts : Contents → Nid → List ℕ → Sig → Bool
accepts keyring key message sig = set.contains keyring.accepted (accept_of key message sig)

-- the key for which a text stands: that which it spells by itself, or else that of its name
abbrev pub key_of : Contents → List ℕ → Option Nid
key_of keyring text = option_or (direct_key text) (fin.get keyring.names text)

-- the own messages, in the order of their lines
abbrev pub own_messages : Contents → List (List ℕ)
own_messages keyring = keyring.own
