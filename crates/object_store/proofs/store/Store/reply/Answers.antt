use Rattle.object_store.proofs.Replying.{few_in_request, reply_by}
use Rattle.object_store.proofs.store.Store.reply.Goals as goal

pub reply_at-requires : goal.reply_at-requires
reply_at-requires g c = few_in_request c.args.self.now c.args.request.now c.requires

pub returns-in-Ok-clause-reply : goal.returns-in-Ok-clause-reply
returns-in-Ok-clause-reply g c = λ items stands. reply_by c.args.self.now c.args.request.now items c.args.asker.now _ stands c.in-Ok.ensures
