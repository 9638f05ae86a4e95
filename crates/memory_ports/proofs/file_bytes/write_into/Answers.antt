use Rattle.std.proofs.Common.{◌≡◌, ◌≢◌, ◌+◌, ◌-◌, ◌++◌, ℕ, [], length, replicate, ap, ◌∙◌, rules}
use Rattle.memory_ports.proofs.Laying.{written_over}
use Rattle.memory_ports.proofs.file_bytes.write_into.Goals as goal

pub returns-clause-written : goal.returns-clause-written
returns-clause-written c =
    let zero_byte : ℕ = 0 in
    let some : c.args.bytes.now ≢ [] = λ e. let l : length c.args.bytes.now ≡ 0 = ap length e in search rules in
    let ends : c.in-Some.end ≡ c.args.at + length c.args.bytes.now = search rules in
    let reached : c.reach.new.file.items ≡ c.args.file.now.items ++ replicate (c.args.at + length c.args.bytes.now - length c.args.file.now.items) 0 =
    c.in_ok-reach.ensures.reached ∙ ap (λ n. c.args.file.now.items ++ replicate (n - length c.args.file.now.items) zero_byte) ends in
    written_over c.args.at c.args.bytes.now c.args.file.now.items c.reach.new.file.items c.lay_into.new.file.items some reached c.lay_into.ensures.laid
