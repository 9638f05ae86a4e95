use Rattle.std.proofs.Common.{◌≤◌, List, ℕ, ap, length, subst}
use Rattle.poly_model.specs.Constraints.{Constraints}
use Rattle.poly_files.specs.PolyFiles.{IsPolyWitness}
use Rattle.command_words.specs.Commands.{rehearse_poly_of}
use Rattle.rehearse_poly.proofs.HonestSums.{accepted}
use Rattle.rehearse_poly.proofs.rehearsing.rehearse_files.Goals as goal

pub returns-clause-rehearsed : goal.returns-clause-rehearsed
returns-clause-rehearsed g c =
    let constraints = c.in_ok-known.known.constraints.polys in
    let digest = c.in_ok-known.known.constraints.digest in
    let values = c.in_ok-known.known.values.items in
    let told = (g.F.Shelf.state c.args.shelf.now).told in
    let witness : IsPolyWitness told (rehearse_poly_of c.args.ask.now).text (rehearse_poly_of c.args.ask.now).values constraints digest values =
    subst (λ (q : List ℕ × List ℕ). IsPolyWitness told q.0 q.1 constraints digest values) (λ i. (c.deref.ensures i, c.deref-2.ensures i)) c.in_ok-known.ensures.witness in
    let about = c.in_ok-rehearsal.ensures.rehearsed in
    let file = witness.values_are.file in
    record {
      constraints = constraints;
      digest = digest;
      values = values;
      witness = witness;
      is = record {
        variables = c.variables.ensures;
        count = ap (λ l. length l) c.polynomials.ensures.value;
        degree_is = c.degree.ensures.value;
        rehearsed = record {
          about = about;
          accepted = accepted constraints digest values _ _ _ c.in_ok-rehearsal.rehearsal.judgement _ c.honest_sums_hold.ensures
              (subst (λ n. 2 ≤ n) c.degree.ensures.value c.degree.ensures.least)
              (c.elements_are_exact.ensures file.text values file.says).elements_are witness.values_are.counted witness.met about.passed;
        };
      };
    }
