-- The merged images of small images.
use Rattle.std.proofs.Common.{◌≡◌, [], ◌∷◌, None, refl}
use Rattle.std.specs.Prelude.{pos}
use Rattle.gm_model.specs.declared.outcomes.Outcome.TheVariants as outcomes
use Rattle.gm_image.specs.Program.{Step, Jump, Finish}
use Rattle.gm_machine.specs.Machine.{machine}
use Rattle.gm_machine.proofs.Samples.{pair, pair_merged, total, ints, graph_of}
use Rattle.gm_merge.specs.Joining.{all_joined}
use Rattle.gm_merge.specs.Merged.{merged}

-- the two steps of pair are one
pair-joined : (all_joined pair).master ≡ Jump 1 ∷ Step 2 ∷ Finish ∷ []
pair-joined = refl

pair-merges : merged pair ≡ record pair_merged { master = Jump 1 ∷ Step 0 ∷ Finish ∷ [] }
pair-merges = refl

pair-runs : machine (merged pair) (graph_of (0 ∷ 1 ∷ []) [] []) [] 0
    ≡ record { outcome = outcomes.Done [] None (ints (pos 3 ∷ pos 3 ∷ []) ∷ ints (pos 3 ∷ pos 3 ∷ []) ∷ []) 0; supersteps = 1; messages = 0 }
pair-runs = refl

-- those of total stay two, since the first sends
total-merges : merged total ≡ total
total-merges = refl

-- three steps in a row are one
three-merge : (merged (record pair { master = Step 0 ∷ Step 1 ∷ Step 0 ∷ Finish ∷ [] })).master ≡ Jump 1 ∷ Jump 2 ∷ Step 0 ∷ Finish ∷ []
three-merge = refl
