use Rattle.std.proofs.Common.{◌≡◌, true, rules, sym, subst}
use Rattle.gm_ast.specs.Tree.{program_of}
use Rattle.gm_forms.specs.Meanings.{SameMeaning}
use Rattle.gm_reductions.specs.Folds.{without_folds}
use Rattle.gm_reductions.specs.Phases.{KeepsNoPicks}
use Rattle.gm_reductions.specs.Stages.{WithLoopsAlone, WithoutFolds}
use Rattle.gm_reductions.proofs.FoldsOut.{same-without_folds, kept, alone, no-picks}
use Rattle.gm_reductions.proofs.folds.folds_out.Goals as goal

pub returns-clause-same : goal.returns-clause-same
returns-clause-same c ready =
    let made : program_of c.new.result ≡ without_folds (program_of c.args.program) = search rules in
    subst (SameMeaning (program_of c.args.program)) (sym made)
    (same-without_folds (program_of c.args.program) ready.with_reads_apart.with_conditions.with_literals.without_compounds.without_groups.ready.form ready.with_reads_apart.apart ready.rising)

pub returns-clause-ready : goal.returns-clause-ready
returns-clause-ready c ready =
    let made : program_of c.new.result ≡ without_folds (program_of c.args.program) = search rules in
    subst WithoutFolds (sym made) (kept (program_of c.args.program) ready)

pub returns-clause-alone : goal.returns-clause-alone
returns-clause-alone c ready =
    let made : program_of c.new.result ≡ without_folds (program_of c.args.program) = search rules in
    subst WithLoopsAlone (sym made) (alone (program_of c.args.program) ready)

pub returns-clause-picks : goal.returns-clause-picks
returns-clause-picks c =
    let made : program_of c.new.result ≡ without_folds (program_of c.args.program) = search rules in
    subst (KeepsNoPicks (program_of c.args.program)) (sym made) (no-picks (program_of c.args.program))
