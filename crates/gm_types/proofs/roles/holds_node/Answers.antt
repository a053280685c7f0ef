use Rattle.std.proofs.Common.{◌≡◌, ◌∙◌, sym, arith, nat_eq, false}
use Rattle.std.proofs.lemmas.Bool.Decides.{nat_tests}
use Rattle.gm_types.proofs.Types.{no-node-upto}
use Rattle.gm_types.proofs.roles.holds_node.Goals as goal

pub returns-else-layers-eq0 : goal.returns-else-layers-eq0
returns-else-layers-eq0 c =
    let more : nat_eq c.args.layers 0 ≡ false = grind (arith, nat_tests) in
    more ∙ sym (no-node-upto c.args.vtype.now c.args.layers (omega arith) c.requires)
