use Rattle.std.proofs.Common.{◌∙◌, ◌||◌, ℕ, List, map, sym, ap, subst}
use Rattle.std.specs.List.Sorted.{IsStrictlyIncreasing}
use Rattle.std.proofs.lemmas.List.Filters.{dedup_is}
use Rattle.std.proofs.lemmas.List.Sorted.{list_any-IsPermutation}
use Rattle.std.proofs.lemmas.Map.Keys.{IsStrictlyIncreasing-dedup}
use Rattle.std.specs.Prelude.{nat_eq}
use Rattle.gm_image.specs.Parts.{is_among}
use Rattle.gm_image.specs.Views.{line}
use Rattle.gm_merge.specs.Registers.{reads_some}
use Rattle.gm_merge.proofs.Rising.{among-once}
use Rattle.gm_merge.proofs.registers.find_read.Goals as goal

pub returns-clause-rising : goal.returns-clause-rising
returns-clause-rising c =
    subst IsStrictlyIncreasing (sym (dedup_is _ _ _ c.dedup.ensures.filtered)) (IsStrictlyIncreasing-dedup _ c.sort_unstable.ensures.sorted)

pub returns-clause-read : goal.returns-clause-read
returns-clause-read c = λ r.
    ap (is_among r) (dedup_is _ _ _ c.dedup.ensures.filtered)
    ∙ among-once r c.sort_unstable.new.self.items
    ∙ sym (list_any-IsPermutation (λ m. nat_eq m r) _ _ c.sort_unstable.ensures.permutation)
    ∙ c.in_ok-add_read.ensures r
    ∙ ap (λ (xs : List ℕ). is_among r xs || reads_some (map line c.args.lines.now) r) c.new-reads.ensures.items
