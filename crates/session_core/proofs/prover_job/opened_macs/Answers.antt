use Rattle.std.proofs.Common.{◌≡◌, ◌∙◌, ◌++◌, ◌∷◌, [], ap, sym, length}
use Rattle.std.proofs.lemmas.List.{length-map}
use Rattle.zk_model.specs.Mac.{Pair, pair_at}
use Rattle.zk_model.specs.Check.{opened_pairs}
use Rattle.zk_model.specs.Program.{Program}
use Rattle.session_core.proofs.Opening.{macs_more, all_macs}
use Rattle.session_core.proofs.prover_job.opened_macs.Goals as goal

pub loop-o-preserved : goal.loop-o-preserved
loop-o-preserved c =
    let program = c.args.walk.now.side.program in
    let wires = c.args.walk.now.side.pairs.wires in
    let sized : length (opened_pairs program c.args.walk.now.side.pairs) ≡ length c.opened-opened.result.now =
    length-map program.opened (pair_at wires) ∙ sym (ap length c.opened-opened.ensures.opened ∙ ap (λ (p : Program). length p.opened) c.program.ensures) in
    macs_more (opened_pairs program c.args.walk.now.side.pairs) c.loop-o.o (length c.opened-opened.result.now) c.output.result
    c.loop-o.macs.items c.push-in-loop-o.new.self.items sized c.loop-o-test.true c.output.ensures
    (c.in_ok-push.ensures.items ∙ ap (λ (p : Pair). c.loop-o.macs.items ++ p.m ∷ []) c.push.view_is) c.loop-o.invariant

pub returns-clause-macs : goal.returns-clause-macs
returns-clause-macs c =
    (all_macs c.args.walk.now.side.program c.args.walk.now.side.pairs c.opened-opened.result.now c.loop-o.o c.loop-o.macs.items
    (c.opened-opened.ensures.opened ∙ ap (λ (p : Program). p.opened) c.program.ensures) c.loop-o-test.false c.loop-o.invariant).0

pub returns-clause-one_each : goal.returns-clause-one_each
returns-clause-one_each c =
    (all_macs c.args.walk.now.side.program c.args.walk.now.side.pairs c.opened-opened.result.now c.loop-o.o c.loop-o.macs.items
    (c.opened-opened.ensures.opened ∙ ap (λ (p : Program). p.opened) c.program.ensures) c.loop-o-test.false c.loop-o.invariant).1
