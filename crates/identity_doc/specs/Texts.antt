-- The text of a document: JSON, as serde_json reads it.
use Rattle.std.specs.Prelude.{◌≡◌, ◌≢◌, ℕ, List, Some, None}
use Rattle.std.specs.Str.{IsUtf8}
use Rattle.serde_json.specs.Data.{Data}
use Rattle.serde_json.specs.Read.{read}
use Rattle.keyring.specs.Contents.{Contents}
use Rattle.identity_doc.specs.Documents.{IsDocument, IsRefused}
use Rattle.identity_doc.specs.declared.doc.Doc.{Doc}
use Rattle.identity_doc.specs.declared.fault.DocFault.{DocFault}
use Rattle.identity_doc.specs.declared.fault.DocFault.TheVariants as fault
use Rattle.identity_doc.specs.declared.reading.ReadFault.{ReadFault}
use Rattle.identity_doc.specs.declared.reading.ReadFault.TheVariants.{NotJson, Bad, NoMemory}

-- the bytes are UTF-8, and the JSON of this value
pub record IsJson (bytes : List ℕ) (value : Data) : Type 0 where
  pub utf8 : IsUtf8 bytes
  pub reads : read bytes ≡ Some value

-- the bytes are no UTF-8, or the JSON of no value
abbrev pub IsNoJson : List ℕ → Type 0
IsNoJson bytes = IsUtf8 bytes → read bytes ≡ None

-- the bytes are the JSON of this document
pub record IsDocumentText (keyring : Contents) (bytes : List ℕ) (doc : Doc) : Type 0 where
  pub value : Data
  pub json : IsJson bytes value
  pub says : IsDocument value keyring doc

-- some bytes are the JSON of this document
abbrev pub IsSomeText : Contents → Doc → Type 0
IsSomeText keyring doc = (bytes : List ℕ) × IsDocumentText keyring bytes doc

-- the bytes are the JSON of a value of which this is the first check of documents that fails
pub record IsBadText (keyring : Contents) (bytes : List ℕ) (why : DocFault) : Type 0 where
  pub value : Data
  pub json : IsJson bytes value
  pub fails : IsRefused value keyring why
  pub check : why ≢ fault.NoMemory

-- why no document was read: the bytes are no JSON, or its value fails a check, or memory was refused
abbrev pub ExplainsText : Contents → List ℕ → ReadFault → Type 0
ExplainsText keyring bytes NotJson = IsNoJson bytes
ExplainsText keyring bytes (Bad why) = IsBadText keyring bytes why
ExplainsText keyring bytes NoMemory = Unit {0}

-- why no value was read: the bytes are no JSON, or memory was refused
abbrev pub ExplainsValue : List ℕ → ReadFault → Type 0
ExplainsValue bytes NotJson = IsNoJson bytes
ExplainsValue bytes (Bad why) = ⊥
ExplainsValue bytes NoMemory = Unit {0}
