use Rattle.std.proofs.Common.{rules, [], ap, sym, subst, ◌∙◌}
use Rattle.zk_model.specs.declared.Side.TheVariants.{Prover}
use Rattle.frame_link.specs.Lines.{LinkSnapshot, snapshot, snapshot_of}
use Rattle.broker_links.specs.Tries.{TryLeaves}
use Rattle.broker_links.proofs.asking.ask_broker.Goals as goal

pub returns : goal.returns
returns g c =
    let first = snapshot Prover [] (g.L.Link.state c.args.link) in
    let now = snapshot Prover c.end-link.result.1 (g.L.Link.state c.end-link.result.0) in
    let ended = ap (λ side. snapshot side c.end-link.result.1 (g.L.Link.state c.end-link.result.0)) (sym c.ask-outcome.ensures.side) ∙ c.end-link.ensures.passed in
    let left : TryLeaves c.args.want first c.ask-outcome.result now =
    subst (λ (q : LinkSnapshot × LinkSnapshot). TryLeaves c.args.want q.0 c.ask-outcome.result q.1) (λ i. (ap snapshot_of c.new-line.ensures i, sym ended i)) c.ask-outcome.ensures.left in
    record {
      cause = left.cause;
      told = left.told;
      came = left.come.came;
      receives = left.come.receives;
      faults = left.faults;
      ended = search rules;
      complete = left.complete;
    }
