use Rattle.std.proofs.Common.{◌≡◌, true, rules, sym, subst}
use Rattle.gm_ast.specs.Tree.{program_of}
use Rattle.gm_forms.specs.Meanings.{SameMeaning}
use Rattle.gm_reductions.specs.Phases.{is_desugared_outside}
use Rattle.gm_reductions.specs.Stages.{WithLoopsAlone}
use Rattle.gm_desugaring.specs.Desugaring.{with_loops_alone}
use Rattle.gm_desugaring.proofs.Together.{loops-alone, same-loops, outside-alone}
use Rattle.gm_desugaring.proofs.phases.desugar_phases.Goals as goal

pub returns-clause-same : goal.returns-clause-same
returns-clause-same c can =
    let made : program_of c.in_ok-looped.looped ≡ with_loops_alone (program_of c.args.program) = search rules in
    subst (SameMeaning (program_of c.args.program)) (sym made) (same-loops (program_of c.args.program) can)

pub returns-clause-ready : goal.returns-clause-ready
returns-clause-ready c can =
    let made : program_of c.in_ok-looped.looped ≡ with_loops_alone (program_of c.args.program) = search rules in
    subst WithLoopsAlone (sym made) (loops-alone (program_of c.args.program) can)

pub returns-clause-outside : goal.returns-clause-outside
returns-clause-outside c can =
    let made : program_of c.in_ok-looped.looped ≡ with_loops_alone (program_of c.args.program) = search rules in
    subst (λ p. is_desugared_outside p ≡ true) (sym made) (outside-alone (program_of c.args.program) can)
