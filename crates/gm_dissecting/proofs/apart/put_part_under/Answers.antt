use Rattle.std.proofs.Common.{ap, ◌∙◌}
use Rattle.gm_ast.specs.Tree.{stmt_of}
use Rattle.gm_dissecting.specs.Standing.{condition}
use Rattle.gm_parting.specs.Apart.{under}
use Rattle.gm_dissecting.proofs.apart.put_part_under.Goals as goal

pub returns : goal.returns
returns c = c.in_ok-put_under.ensures ∙ ap (λ s. under c.args.key (condition c.args.saved.holds c.args.saved.variable c.args.saved.place) (stmt_of s)) c.deref_mut.ensures.value
