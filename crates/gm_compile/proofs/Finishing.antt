-- The passes over images one after another.
use Rattle.std.proofs.Common.{◌≡◌, sym, ap, subst, ◌∙◌}
use Rattle.gm_image.specs.Program.{Program}
use Rattle.gm_combiners.specs.Combiners.{combining}
use Rattle.gm_combiners.specs.Laws.{HasSameRuns}
use Rattle.gm_merge.specs.Results.{SameOutcomes, HasSameRest}
use Rattle.gm_compile.specs.Laws.{HasSameInterface}

module _ (i merged combined : Program) where
  pub same-outcomes : SameOutcomes i merged → HasSameRuns merged combined → SameOutcomes i combined
  same-outcomes outcomes runs g args turns = ap (λ end. end.outcome) (runs g args turns) ∙ outcomes g args turns

  -- the image with the kinds, the blocks and the master list of another
  abbrev with_lists : Program → Program
  with_lists m = record i { kinds = m.kinds; blocks = m.blocks; master = m.master }

  pub same-interface : HasSameRest i merged → combined ≡ combining merged → HasSameInterface i combined
  same-interface rest made =
      let all : combining merged ≡ with_lists (combining merged) = ap (λ (m : Program). record m { kinds = (combining merged).kinds }) rest in
      subst (λ (m : Program). m ≡ with_lists m) (sym made) all
