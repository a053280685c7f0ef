-- What holds of images with other combiners.
use Rattle.std.specs.Prelude.{ℕ, zero, suc, ◌≡◌, ◌<◌, Bool, not, IsTrue, Some, is_none, List, [], ◌∷◌, length}
use Rattle.std.specs.List.{list_all}
use Rattle.gm_value.specs.declared.reductions.Reduce.{Reduce}
use Rattle.gm_value.specs.declared.values.Value.{Value}
use Rattle.gm_model.specs.Graphs.{NumberedGraph}
use Rattle.gm_image.specs.declared.images.Kind.{Kind}
use Rattle.gm_image.specs.declared.rules.ImageRule.{ImageRule}
use Rattle.gm_image.specs.declared.rules.ImageRule.TheVariants.{I8}
use Rattle.gm_image.specs.Program.{Program}
use Rattle.gm_image.specs.Rows.{rows}
use Rattle.gm_image.specs.Soundness.{keeps, is_sound}
use Rattle.gm_machine.specs.Combining.{combiner}
use Rattle.gm_machine.specs.Machine.{machine}
use Rattle.gm_combiners.specs.Combiners.{reductions, combining}

-- every run of a second image is that of the first: outcome, supersteps and messages
abbrev pub HasSameRuns : Program → Program → Type 0
HasSameRuns p q = (g : NumberedGraph) (args : List Value) (turns : ℕ) → machine q g args turns ≡ machine p g args turns

-- the machine does not look at kinds: images that are the same but for their kinds have the same runs
abbrev pub KindsKeepRuns : Type 0
KindsKeepRuns = (p : Program) (kinds : List Kind) → HasSameRuns p (record p { kinds = kinds })

-- a sound image stays sound with its combiners
abbrev pub CombinersKeepSoundness : Type 0
CombinersKeepSoundness = (p : Program) → IsTrue (is_sound p) → IsTrue (is_sound (combining p))

-- whether every line of an image's text keeps a rule
abbrev pub keeps_rule : Program → ImageRule → Bool
keeps_rule p rule = list_all (λ row. keeps p row rule) (rows p)

-- kinds of which one, by its number, has a reduction as its combiner
abbrev pub kinds_by : Reduce → ℕ → List Kind → List Kind
kinds_by r k [] = []
kinds_by r zero (kind ∷ kinds) = record kind { combiner = Some r } ∷ kinds
kinds_by r (suc k) (kind ∷ kinds) = kind ∷ kinds_by r k kinds

-- the image in which a kind has a reduction as its combiner
abbrev pub combined_by : Program → ℕ → Reduce → Program
combined_by p k r = record p { kinds = kinds_by r k p.kinds }

-- whether an image breaks I8 with each reduction as the combiner of a kind
abbrev pub each_breaks : Program → ℕ → Bool
each_breaks p k = list_all (λ r. not (keeps_rule (combined_by p k r) I8)) reductions

-- each kind without a combiner is one for which every reduction would break I8, and no other kind is without one
abbrev pub HasAllCombiners : Program → Type 0
HasAllCombiners p = (k : ℕ) → k < length p.kinds → is_none (combiner p k) ≡ each_breaks p k

-- a sound image comes to have all combiners
abbrev pub CombinersAreAll : Type 0
CombinersAreAll = (p : Program) → IsTrue (is_sound p) → HasAllCombiners (combining p)
