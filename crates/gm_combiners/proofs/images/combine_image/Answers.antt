use Rattle.std.proofs.Common.{◌≡◌, ◌∙◌, List, length, map, ap, subst, arith}
use Rattle.gm_image.specs.declared.images.Kind.{Kind}
use Rattle.gm_image.specs.declared.images.Block as B
use Rattle.gm_image.specs.Views.{program, block}
use Rattle.gm_combiners.specs.declared.candidates.Candidates.{Candidates}
use Rattle.gm_combiners.specs.Candidates.{leaves, left_for, ShowsLeft}
use Rattle.gm_combiners.specs.Combiners.{handlers_of, first_fitting, combiner_for, kinds_with}
use Rattle.gm_combiners.proofs.Walking.{shown-with}
use Rattle.gm_combiners.proofs.images.combine_image.Goals as goal

pub returns : goal.returns
returns c =
    let cs = c.in_ok-candidates.candidates.items in
    let kinds = c.into_vec-kinds.result.items in
    let hs = handlers_of (map block c.args.image.blocks) in
    let long : length cs ≡ length kinds = omega (arith, c.in_ok-candidates.ensures.long, c.len.ensures) in
    let shows : ShowsLeft cs hs = subst (λ (bs : List B.Block). ShowsLeft cs (handlers_of (map block bs))) c.as_slice.ensures c.in_ok-candidates.ensures.left in
    ap (λ (ks : List Kind). record (program c.args.image) { kinds = ks })
    (c.new.ensures
    ∙ c.in_ok-combined.ensures
    ∙ ap (λ (ds : List Candidates). kinds_with (λ k types. first_fitting (leaves (left_for ds k)) types) 0 kinds) c.as_slice-2.ensures.value
    ∙ shown-with cs hs kinds long shows
    ∙ ap (λ (ks : List Kind). kinds_with (combiner_for hs) 0 ks) c.into_vec-kinds.ensures)
