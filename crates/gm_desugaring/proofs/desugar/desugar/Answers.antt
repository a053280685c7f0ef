use Rattle.std.proofs.Common.{◌≡◌, rules, sym, subst}
use Rattle.gm_ast.specs.Tree.{program_of}
use Rattle.gm_forms.specs.Meanings.{SameMeaning}
use Rattle.gm_forms.specs.Ready.{Ready1}
use Rattle.gm_desugaring.specs.Desugaring.{with_plain_loops}
use Rattle.gm_desugaring.proofs.Desugared.{plain-desugared}
use Rattle.gm_desugaring.proofs.PlainLoops.{same-plain}
use Rattle.gm_desugaring.proofs.desugar.desugar.Goals as goal

pub returns-clause-same : goal.returns-clause-same
returns-clause-same c can =
    let made : program_of c.in_ok-plain.plain ≡ with_plain_loops (program_of c.args.program) = search rules in
    subst (SameMeaning (program_of c.args.program)) (sym made) (same-plain (program_of c.args.program) can)

pub returns-clause-ready : goal.returns-clause-ready
returns-clause-ready c can =
    let made : program_of c.in_ok-plain.plain ≡ with_plain_loops (program_of c.args.program) = search rules in
    subst Ready1 (sym made) (plain-desugared (program_of c.args.program) can)
