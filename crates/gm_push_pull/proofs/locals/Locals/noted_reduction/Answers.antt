use Rattle.std.proofs.Common.{◌∙◌, ap, sym, map}
use Rattle.std.specs.Prelude.{flat_map}
use Rattle.gm_ast.specs.Tree.{expr_of}
use Rattle.gm_ast.specs.Ways.{mentions, held_of}
use Rattle.gm_push_pull.specs.declared.reads.Reads.{Reads}
use Rattle.gm_push_pull.specs.Locals.{noted_all}
use Rattle.gm_push_pull.proofs.Answers.{noted_all-append}
use Rattle.gm_push_pull.proofs.locals.Locals.noted_reduction.Goals as goal

pub returns : goal.returns
returns c =
    let l = c.args.self.now in
    let es = map expr_of c.args.values.now in
    c.noted_each.ensures ∙ ap (λ (r : Reads). noted_all l r (flat_map mentions es)) c.noted_held-held.ensures ∙ sym (noted_all-append l c.args.reads (flat_map held_of c.args.targets.now) (flat_map mentions es))
