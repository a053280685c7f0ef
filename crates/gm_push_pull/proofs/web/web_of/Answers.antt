use Rattle.std.proofs.Common.{◌∙◌, ◌++◌, ◌∷◌, [], List, ap}
use Rattle.gm_push_pull.specs.declared.web.Seed.{Seed}
use Rattle.gm_push_pull.specs.Reads.{nothing}
use Rattle.gm_ast.specs.Tree.{stmt_of}
use Rattle.gm_push_pull.proofs.Webs.{web-whole}
use Rattle.gm_push_pull.proofs.web.web_of.Goals as goal

pub returns : goal.returns
returns c = web-whole c.args.locals.now (stmt_of c.args.body.now) (c.in_ok-push.ensures.items ∙ ap (λ (ss : List Seed). ss ++ (record { site = 0; reads = nothing } ∷ [])) c.new-seeds.ensures.items) c.new.ensures.items c.in_ok-weave.ensures
