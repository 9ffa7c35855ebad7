-- Outcomes at which the judging of a remote stops.
use Rattle.std.proofs.Common.{List, inl}
use Rattle.rad_base.specs.declared.names.Nid.{Nid}
use Rattle.rad_base.specs.declared.names.Oid.{Oid}
use Rattle.commit_graph.specs.Objects.{ObjectMap}
use Rattle.signed_refs.specs.Lines.{Line}
use Rattle.signed_refs.specs.Refusals.{IsFault, Refuses}
use Rattle.signed_refs.specs.declared.fault.SigFault.{SigFault}
use Rattle.signed_refs.specs.declared.fault.SigFault.TheVariants as signed
use Rattle.signed_refs.proofs.Alone.{refused_by_fault}
use Rattle.repo_slice.specs.declared.outcomes.Outcome.TheVariants.{OutOfScope, Same, Stale, Missing, BadObject, BadSigrefs, NotAccepted, Grafted, Forked, Incomplete, Crowded, Advanced}
use Rattle.repo_slice.specs.declared.stop.Halt.{Halt}
use Rattle.repo_slice.specs.declared.stop.Halt.TheVariants as halts
use Rattle.repo_slice.specs.Outcomes.{Case, IsLater, IsNews}
use Rattle.repo_slice.specs.Parts.{IsHalt, IsNoLater, IsReachHalt, of_sig}

module _ (m : ObjectMap) (c : Case) (node : Nid) (commit : Oid) where
  -- a refusal of signed refs is an outcome
  pub sig_halts : (fault : SigFault) → IsNews m c node commit → Refuses m c.keyring c.rid node commit fault → IsHalt m c node commit (of_sig fault)
  sig_halts (signed.Missing oid) news h = λ count. (news, h)
  sig_halts (signed.BadObject oid) news h = λ count. inl (news, h)
  sig_halts signed.BadSigrefs news h = λ count. (news, h)
  sig_halts signed.NotAccepted news h = λ count. (news, h)
  sig_halts signed.Grafted news h = λ count. (news, h)
  sig_halts (signed.Get why) news h = tt

  no_fault : (fault : SigFault) → (IsFault fault → ⊥) → Refuses m c.keyring c.rid node commit fault → (refs : List Line) → IsLater m c node commit refs → ⊥
  no_fault fault other h refs later = other (refused_by_fault m c.keyring c.rid node commit refs fault later.signed h)

  -- what is refused is not later
  pub sig_not_later : (fault : SigFault) → Refuses m c.keyring c.rid node commit fault → IsNoLater m c node commit (of_sig fault)
  sig_not_later (signed.Missing oid) h = no_fault (signed.Missing oid) (λ f. cc f.1) h
  sig_not_later (signed.BadObject oid) h = no_fault (signed.BadObject oid) (λ f. cc f.1) h
  sig_not_later signed.BadSigrefs h = no_fault signed.BadSigrefs (λ f. cc f.1) h
  sig_not_later signed.NotAccepted h = no_fault signed.NotAccepted (λ f. cc f.1) h
  sig_not_later signed.Grafted h = no_fault signed.Grafted (λ f. cc f.1) h
  sig_not_later (signed.Get why) h = tt

  -- what the commit reaches is an outcome of news, which is then not later
  pub reach_halt : (halt : Halt) → IsNews m c node commit → IsReachHalt m commit halt → IsHalt m c node commit halt × IsNoLater m c node commit halt
  reach_halt (halts.Outcome OutOfScope) news h = absurd h
  reach_halt (halts.Outcome Same) news h = absurd h
  reach_halt (halts.Outcome Stale) news h = absurd h
  reach_halt (halts.Outcome (Missing oid)) news h = (sig_halts (signed.Missing oid) news h, sig_not_later (signed.Missing oid) h)
  reach_halt (halts.Outcome (BadObject oid)) news h = (sig_halts (signed.BadObject oid) news h, sig_not_later (signed.BadObject oid) h)
  reach_halt (halts.Outcome BadSigrefs) news h = absurd h
  reach_halt (halts.Outcome NotAccepted) news h = absurd h
  reach_halt (halts.Outcome Grafted) news h = absurd h
  reach_halt (halts.Outcome Forked) news h = absurd h
  reach_halt (halts.Outcome (Incomplete oid)) news h = absurd h
  reach_halt (halts.Outcome Crowded) news h = absurd h
  reach_halt (halts.Outcome Advanced) news h = absurd h
  reach_halt (halts.Get why) news h = (tt, tt)
