use Rattle.std.proofs.Common.{◌≡◌, ◌∙◌, ◌++◌, ◌∷◌, [], ap, sym, get_or, false}
use Rattle.gm_kernels.specs.Pointwise.{places_from}
use Rattle.gm_kernels.proofs.Choosing.{places-more}
use Rattle.gm_kernels.proofs.selections.places_of.Goals as goal

pub loop-row-preserved : goal.loop-row-preserved
loop-row-preserved c =
    let k = c.loop-row.row in
    c.in_ok-push_if.ensures
    ∙ ap (λ l. l ++ places_from k (get_or c.args.flags.now k false ∷ [])) c.loop-row.invariant
    ∙ sym (places-more c.args.flags.now k c.loop-row-test.true)
