use Rattle.std.proofs.Common.{◌≡◌, rules, sym, subst}
use Rattle.gm_ast.specs.Tree.{program_of}
use Rattle.gm_forms.specs.Meanings.{SameMeaning}
use Rattle.gm_reductions.specs.Accesses.{without_accesses}
use Rattle.gm_reductions.specs.Phases.{KeepsNoPicks}
use Rattle.gm_reductions.specs.Stages.{WithoutAccesses}
use Rattle.gm_reductions.proofs.AccessesOut.{same-without_accesses, kept, no-picks}
use Rattle.gm_reductions.proofs.accesses.accesses_out.Goals as goal

pub returns-clause-same : goal.returns-clause-same
returns-clause-same c ready =
    let made : program_of c.new.result ≡ without_accesses (program_of c.args.program) = search rules in
    subst (SameMeaning (program_of c.args.program)) (sym made) (same-without_accesses (program_of c.args.program) ready)

pub returns-clause-ready : goal.returns-clause-ready
returns-clause-ready c ready =
    let made : program_of c.new.result ≡ without_accesses (program_of c.args.program) = search rules in
    subst WithoutAccesses (sym made) (kept (program_of c.args.program) ready)

pub returns-clause-picks : goal.returns-clause-picks
returns-clause-picks c =
    let made : program_of c.new.result ≡ without_accesses (program_of c.args.program) = search rules in
    subst (KeepsNoPicks (program_of c.args.program)) (sym made) (no-picks (program_of c.args.program))
