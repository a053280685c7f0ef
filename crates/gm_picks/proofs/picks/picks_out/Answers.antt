use Rattle.std.proofs.Common.{◌≡◌, rules, sym, subst}
use Rattle.gm_ast.specs.Tree.{program_of}
use Rattle.gm_forms.specs.Meanings.{SameMeaning}
use Rattle.gm_picks.specs.Laws.{WithPlainPicks}
use Rattle.gm_picks.specs.Picks.{with_plain_picks}
use Rattle.gm_picks.proofs.PicksLaws.{same-with_plain_picks}
use Rattle.gm_picks.proofs.PicksOut.{picks-kept}
use Rattle.gm_picks.proofs.picks.picks_out.Goals as goal

pub returns-in-Ok-clause-same : goal.returns-in-Ok-clause-same
returns-in-Ok-clause-same c named none =
    let made : program_of c.new.result ≡ with_plain_picks (program_of c.args.program) = search rules in
    subst (SameMeaning (program_of c.args.program)) (sym made) (same-with_plain_picks (program_of c.args.program) named none)

pub returns-in-Ok-clause-ready : goal.returns-in-Ok-clause-ready
returns-in-Ok-clause-ready c ready =
    let made : program_of c.new.result ≡ with_plain_picks (program_of c.args.program) = search rules in
    subst WithPlainPicks (sym made) (picks-kept (program_of c.args.program) ready)
