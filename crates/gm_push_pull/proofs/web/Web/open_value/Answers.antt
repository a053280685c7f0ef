use Rattle.std.proofs.Common.{subst}
use Rattle.gm_ast.specs.Tree.{expr_of}
use Rattle.gm_ast.specs.Ways.{mentions}
use Rattle.gm_push_pull.specs.declared.reads.Reads.{Reads}
use Rattle.gm_push_pull.specs.Webs.{Opens}
use Rattle.gm_push_pull.proofs.Webs.{opens-then}
use Rattle.gm_push_pull.proofs.web.Web.open_value.Goals as goal

pub returns : goal.returns
returns c =
    let ms = mentions (expr_of c.args.e.now) in
    subst (λ (r : Reads). Opens c.args.self.now c.link_mentions.new.self c.args.around r c.in_ok-site.site ms) c.noted-reads.ensures (opens-then ms c.in_ok-site.ensures c.in_ok-link_mentions.ensures)
