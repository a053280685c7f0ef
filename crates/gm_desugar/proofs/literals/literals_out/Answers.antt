use Rattle.std.proofs.Common.{rules, sym, subst}
use Rattle.gm_ast.specs.Tree.{program_of}
use Rattle.gm_forms.specs.Meanings.{SameMeaning}
use Rattle.gm_desugar.specs.Stages.{WithLiterals}
use Rattle.gm_desugar.proofs.LiteralsLaws.{same-with_negative_literals, kept}
use Rattle.gm_desugar.proofs.literals.literals_out.Goals as goal

pub returns-clause-made : goal.returns-clause-made
returns-clause-made c = search rules

pub returns-clause-same : goal.returns-clause-same
returns-clause-same c = subst (SameMeaning (program_of c.args.program)) (sym (returns-clause-made c)) (same-with_negative_literals (program_of c.args.program))

pub returns-clause-ready : goal.returns-clause-ready
returns-clause-ready c ready = subst WithLiterals (sym (returns-clause-made c)) (kept (program_of c.args.program) ready)
