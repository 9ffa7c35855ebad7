use Rattle.signed_refs.proofs.Alone.{one_refusal}
use Rattle.signed_refs.proofs.laws.one_refusal.Goals as goal

pub returns : goal.returns
returns c = one_refusal
