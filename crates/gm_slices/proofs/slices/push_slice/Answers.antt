use Rattle.std.proofs.Common.{[], ◌∷◌, ◌++◌, map, ap, ◌∙◌}
use Rattle.std.proofs.lemmas.List.{map-append}
use Rattle.gm_ast.specs.Tree.{stmt_of}
use Rattle.gm_slices.specs.Nests.{nest_of}
use Rattle.gm_slices.specs.SliceWalks.{nested}
use Rattle.gm_slices.proofs.slices.push_slice.Goals as goal

pub returns : goal.returns
returns c =
    let loops = c.args.loops.now.items in
    ap (map stmt_of) c.in_ok-push.ensures.items ∙ map-append stmt_of loops (c.in_ok-whole.whole ∷ [])
    ∙ ap (λ s. map stmt_of loops ++ (s ∷ [])) (c.in_ok-whole.ensures ∙ ap (nested (nest_of c.args.nest.now)) c.in_ok-body.ensures)
