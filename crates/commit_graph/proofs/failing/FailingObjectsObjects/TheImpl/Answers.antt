use Rattle.commit_graph.proofs.failing.FailingObjectsObjects.TheImpl.Goals as goal

pub get-tells : goal.get-tells
get-tells g c = record {
  found = λ m told. absurd cc;
  named = c.ensures.named;
  asked = c.ensures.asked;
}
