use Rattle.signed_refs.proofs.Alone.{one_signed, refused_by_fault}
use Rattle.signed_refs.proofs.laws.one_saying.Goals as goal

pub returns : goal.returns
returns c = record {
  one = λ objects keyring rid node commit a b s t. one_signed objects keyring rid node commit a b s t;
  alone = λ objects keyring rid node commit refs fault s h. refused_by_fault objects keyring rid node commit refs fault s h;
}
