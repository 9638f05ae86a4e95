use Rattle.std.proofs.Common.{ℕ, List, subst}
use Rattle.zk_port.specs.Shelves.{ShelfState}
use Rattle.claim_files.specs.ArithFiles.{IsArithFile, IsElementsFile}
use Rattle.session_rehearsal.specs.Rehearsals.{ArithRehearseCause}
use Rattle.session_rehearsal.specs.declared.rehearsal.ArithRehearseFault.{ArithRehearseFault}
use Rattle.session_rehearsal.specs.declared.rehearsal.ArithRehearseFault.TheVariants.{TooLarge}
use Rattle.zk_cli.proofs.arith_rehearse_command.rehearse_files.Goals as goal

pub returns-in-Err-TooLarge-clause-stop : goal.returns-in-Err-TooLarge-clause-stop
returns-in-Err-TooLarge-clause-stop g c =
    let cause : ArithRehearseCause c.in_ok-circuit.circuit c.in_ok-values.values.items c.args.ask.now.kind c.args.ask.now.section
    (TooLarge c.in-Err-TooLarge.need c.in-Err-TooLarge.units) =
    subst (λ (q : List ℕ × ArithRehearseFault). ArithRehearseCause c.in_ok-circuit.circuit q.0 c.args.ask.now.kind c.args.ask.now.section q.1)
    (λ i. (c.deref-3.ensures.value i, c.in-Err-TooLarge.field-0-is i)) c.in-Err-TooLarge.ensures.cause in
    record {
      circuit = c.in_ok-circuit.circuit;
      file = subst (λ (name : List ℕ). IsArithFile (g.F.Shelf.state c.args.shelf.now).told name c.in_ok-circuit.circuit) c.deref.ensures
          c.in_ok-circuit.ensures.file;
      values = c.in_ok-values.values.items;
      values_file = subst (λ (q : ShelfState × List ℕ). IsElementsFile q.0.told q.1 c.in_ok-values.values.items)
          (λ i. (c.in_ok-circuit.ensures.quiet i, c.deref-2.ensures i)) c.in_ok-values.ensures.elements;
      is = record { outputs = cause.0; satisfied = cause.1; large = cause.2 };
    }
