use Rattle.std.proofs.Common.{◌<◌, length, take, ap, subst, sym, ◌∙◌}
use Rattle.std.specs.Prelude.{slice_index}
use Rattle.zk_model.specs.Program.{Program}
use Rattle.zk_model.specs.Mac.{macs_of, pair_at}
use Rattle.zk_model.specs.Check.{opened_pairs}
use Rattle.zk_model.proofs.SetWires.{set_below}
use Rattle.field_program.specs.Programs.{IsSmallProgram}
use Rattle.wire_auth.specs.Values.{wires_made, given_from, numbers_carried}
use Rattle.wire_auth.specs.Walks.{Value, Mac, ProverWalking}
use Rattle.wire_auth.proofs.BothWalks.{walked_output}
use Rattle.wire_auth.proofs.prover_walk.ProverWalk.output.Goals as goal

pub returns : goal.returns
returns c =
    walked_output program c.self.inside.public.now c.self.inside.inputs.now c.self.inside.dealt.now c.args.o c.opened.result.x c.opened.result.m small
    c.self.invariant.public_count c.self.invariant.input_count c.self.invariant.enough below
    (set_below program (length program.steps) (slice_index program.opened c.args.o) small.formed (small.formed.opened c.args.o 0 below))
    (c.opened.ensures Value (wires_made program c.self.inside.public.now c.self.inside.inputs.now)
    (given_from program (wires_made program c.self.inside.public.now c.self.inside.inputs.now)) c.self.invariant.of_values)
    (c.opened.ensures Mac (numbers_carried 0 program c.self.inside.public.now (take program.givens (macs_of c.self.inside.dealt.now)))
    (take program.givens (macs_of c.self.inside.dealt.now)) c.self.invariant.of_macs)
    ∙ ap (λ (w : ProverWalking). pair_at (opened_pairs w.side.program w.side.pairs) c.args.o) c.self.view_is
  where
    program : Program
    program = c.self.inside.pairs.program

    small : IsSmallProgram program
    small = subst IsSmallProgram c.program.ensures c.opened-opened.ensures.held

    below : c.args.o < length program.opened
    below = subst (λ (w : ProverWalking). c.args.o < length w.side.program.opened) (sym c.self.view_is) c.requires.there
