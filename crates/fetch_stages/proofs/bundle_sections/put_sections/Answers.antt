use Rattle.std.proofs.Common.{◌+◌, ◌∙◌, [], ◌∷◌}
use Rattle.std.proofs.lemmas.Result.{err_from_is_err_and}
use Rattle.rad_base.specs.declared.offer.Offer.{Offer}
use Rattle.fetch_wire.specs.declared.part.Which.TheVariants.{Identity, Sigs, Tips}
use Rattle.fetch_stages.proofs.Passing.{passed_after, passed_identity, passed_none, puts_job, stops_after, stops_job}
use Rattle.fetch_stages.proofs.WholeSections.{offered, sigs_head, tips_head}
use Rattle.fetch_stages.proofs.bundle_sections.put_sections.Goals as goal

no_offer : Offer
no_offer = record { id = record { 0 = [] }; remotes = [] }

pub returns-in_err-identity-clause-stops : goal.returns-in_err-identity-clause-stops
returns-in_err-identity-clause-stops g c =
    let keep = g.K.Keep in
    let left = g.S.Source.left in
    let constants = keep.constants c.args.keep.now in
    let rid = c.args.rid.now in
    let a = c.args.keep.now in
    let b = c.next_section.new.keep in
    let p = err_from_is_err_and c.from_residual.result c.from_residual.ensures.1 in
    rw (p.1, p.2)
    (stops_job keep.made keep.held constants rid (keep.held a rid) (keep.end b) a a b Identity (Sigs ∷ Tips ∷ []) 0
    (left c.args.input.now.0) (left c.args.input.now.0) (left c.next_section.new.input.0) c.args.input.now.1 c.args.input.now.1
    (λ offer. Unit {0})
    (λ offer x. passed_none keep.made keep.held constants rid a offer (left c.args.input.now.0) c.args.input.now.1)
    c.in_err-identity.field-0.0 no_offer tt (λ head h. let o = offered head h in (o.0, tt, o.1)) c.in_err-identity.ensures.stops)

pub returns-in_err-sigs-clause-stops : goal.returns-in_err-sigs-clause-stops
returns-in_err-sigs-clause-stops g c =
    let keep = g.K.Keep in
    let left = g.S.Source.left in
    let constants = keep.constants c.args.keep.now in
    let rid = c.args.rid.now in
    let a = c.args.keep.now in
    let b = c.next_section.new.keep in
    let d = c.next_section-2.new.keep in
    let offer = c.offer_in-offer.result in
    let p = err_from_is_err_and c.from_residual-in_err-sigs.result c.from_residual-in_err-sigs.ensures.1 in
    let first = passed_identity keep.made keep.held constants rid a b offer (left c.args.input.now.0) (left c.next_section.new.input.0)
    c.args.input.now.1 c.next_section.new.input.1 c.in_ok-identity.identity c.in_ok-identity.ensures.puts c.offer_in-offer.ensures in
    rw (p.1, p.2)
    (stops_after keep.made keep.held constants (keep.constants b) rid (keep.held a rid) a b d offer Sigs (Tips ∷ []) c.in_ok-identity.identity.used
    (left c.args.input.now.0) (left c.next_section.new.input.0) (left c.next_section-2.new.input.0) c.args.input.now.1
    c.next_section.new.input.1 first (λ head h. sigs_head head offer h) c.in_ok-identity.ensures.leaves.constants_stay (keep.end d)
    c.in_err-sigs.field-0.0 c.in_err-sigs.ensures.stops)

pub returns-in_err-tips-clause-stops : goal.returns-in_err-tips-clause-stops
returns-in_err-tips-clause-stops g c =
    let keep = g.K.Keep in
    let left = g.S.Source.left in
    let constants = keep.constants c.args.keep.now in
    let rid = c.args.rid.now in
    let a = c.args.keep.now in
    let b = c.next_section.new.keep in
    let d = c.next_section-2.new.keep in
    let e = c.next_section-3.new.keep in
    let offer = c.offer_in-offer.result in
    let p = err_from_is_err_and c.from_residual-in_err-tips.result c.from_residual-in_err-tips.ensures.1 in
    let same = c.in_ok-identity.ensures.leaves.constants_stay in
    let first = passed_identity keep.made keep.held constants rid a b offer (left c.args.input.now.0) (left c.next_section.new.input.0)
    c.args.input.now.1 c.next_section.new.input.1 c.in_ok-identity.identity c.in_ok-identity.ensures.puts c.offer_in-offer.ensures in
    let second = passed_after keep.made keep.held constants (keep.constants b) rid (keep.held a rid) a b d offer Sigs (Tips ∷ [])
    c.in_ok-identity.identity.used (left c.args.input.now.0) (left c.next_section.new.input.0) (left c.next_section-2.new.input.0)
    c.args.input.now.1 c.next_section.new.input.1 first (λ head h. sigs_head head offer h) same c.in_ok-sigs.sigs c.next_section-2.new.input.1
    c.in_ok-sigs.ensures.puts in
    rw (p.1, p.2)
    (stops_after keep.made keep.held constants (keep.constants d) rid (keep.held a rid) a d e offer Tips []
    (c.in_ok-identity.identity.used + c.in_ok-sigs.sigs.used)
    (left c.args.input.now.0) (left c.next_section-2.new.input.0) (left c.next_section-3.new.input.0) c.args.input.now.1
    c.next_section-2.new.input.1 second (λ head h. tips_head head offer h) (c.in_ok-sigs.ensures.leaves.constants_stay ∙ same) (keep.end e)
    c.in_err-tips.field-0.0 c.in_err-tips.ensures.stops)

pub returns-clause-puts : goal.returns-clause-puts
returns-clause-puts g c =
    let keep = g.K.Keep in
    let left = g.S.Source.left in
    let constants = keep.constants c.args.keep.now in
    let rid = c.args.rid.now in
    let a = c.args.keep.now in
    let b = c.next_section.new.keep in
    let d = c.next_section-2.new.keep in
    let e = c.next_section-3.new.keep in
    let offer = c.offer_in-offer.result in
    let same = c.in_ok-identity.ensures.leaves.constants_stay in
    let first = passed_identity keep.made keep.held constants rid a b offer (left c.args.input.now.0) (left c.next_section.new.input.0)
    c.args.input.now.1 c.next_section.new.input.1 c.in_ok-identity.identity c.in_ok-identity.ensures.puts c.offer_in-offer.ensures in
    let second = passed_after keep.made keep.held constants (keep.constants b) rid (keep.held a rid) a b d offer Sigs (Tips ∷ [])
    c.in_ok-identity.identity.used (left c.args.input.now.0) (left c.next_section.new.input.0) (left c.next_section-2.new.input.0)
    c.args.input.now.1 c.next_section.new.input.1 first (λ head h. sigs_head head offer h) same c.in_ok-sigs.sigs c.next_section-2.new.input.1
    c.in_ok-sigs.ensures.puts in
    let third = passed_after keep.made keep.held constants (keep.constants d) rid (keep.held a rid) a d e offer Tips []
    (c.in_ok-identity.identity.used + c.in_ok-sigs.sigs.used)
    (left c.args.input.now.0) (left c.next_section-2.new.input.0) (left c.next_section-3.new.input.0) c.args.input.now.1
    c.next_section-2.new.input.1 second (λ head h. tips_head head offer h) (c.in_ok-sigs.ensures.leaves.constants_stay ∙ same)
    c.in_ok-tips.tips c.next_section-3.new.input.1 c.in_ok-tips.ensures.puts in
    puts_job keep.made keep.held constants rid (keep.held a rid) a e offer
    ((c.in_ok-identity.identity.used + c.in_ok-sigs.sigs.used) + c.in_ok-tips.tips.used) (left c.args.input.now.0)
    (left c.next_section-3.new.input.0) c.args.input.now.1 c.next_section-3.new.input.1 third
