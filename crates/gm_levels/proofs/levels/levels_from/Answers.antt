use Rattle.std.proofs.Common.{◌≡◌, ◌∙◌, ℕ, map, ap, None}
use Rattle.std.specs.Prelude.{slice_index_or}
use Rattle.std.proofs.lemmas.Result.{IfOk-weaker}
use Rattle.gm_semantics.specs.Levels.{level_of, levels}
use Rattle.gm_levels.specs.Views.{NodeLevels, level_in}
use Rattle.gm_levels.specs.Groups.{nodes_by_level}
use Rattle.gm_levels.proofs.Listing.{get_level, lists-are-levels}
use Rattle.gm_levels.proofs.levels.levels_from.Goals as goal

pub returns : goal.returns
returns c =
    let g = c.args.graph.now in
    let root = c.args.root in
    let found = c.in_ok-reached.reached in
    let held = c.in_ok-reached.ensures in
    record {
      level = IfOk-weaker c.grouped.result (λ (made : NodeLevels). made.level ≡ map level_in found.cells.items) (λ (made : NodeLevels). (n : ℕ) → slice_index_or made.level n None ≡ level_of g root n) (λ made is n. ap (λ xs. slice_index_or xs n None) is ∙ get_level found.cells.items n ∙ held.levels n) c.grouped.ensures.level;
      lists = IfOk-weaker c.grouped.result (λ (made : NodeLevels). made.lists ≡ nodes_by_level found.cells.items found.count) (λ (made : NodeLevels). made.lists ≡ levels g root) (λ made is. is ∙ lists-are-levels g root found held) c.grouped.ensures.lists;
    }
