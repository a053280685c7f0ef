-- The workers before the first superstep.
use Rattle.std.proofs.Common.{◌∙◌, List, ℕ, ap, subst}
use Rattle.gm_model.specs.Graphs.{node_count}
use Rattle.gm_image.specs.declared.images.Image.{Image}
use Rattle.gm_image.specs.Views.{program}
use Rattle.gm_core.specs.Owners.{owners_by}
use Rattle.gm_workers.specs.Dealings.{IsDealt}
use Rattle.gm_workers.specs.Crews.{AreFirst}
use Rattle.gm_workers.proofs.FirstLemmas.{first-crew, show-first, stand-first}
use Rattle.gm_workers.proofs.crews.slots.Goals as goal

dealt : (c : goal.In_ok-slots) → IsDealt (node_count c.args.graph.now) c.args.workers c.in_ok-dealing.dealing
dealt c = subst (λ n. IsDealt n c.args.workers c.in_ok-dealing.dealing) c.node_count.ensures.count c.in_ok-dealing.ensures.dealt

first : (c : goal.In_ok-slots) → AreFirst (program c.args.image.now) c.args.graph.now c.in_ok-dealing.dealing.owners.items c.args.workers c.in_ok-slots.slots.items
first c =
    subst (λ (i : Image). AreFirst (program i) c.args.graph.now c.in_ok-dealing.dealing.owners.items c.args.workers c.in_ok-slots.slots.items) c.image.ensures.same
    (subst (λ (l : List ℕ). AreFirst (program c.image.result.now) c.args.graph.now l c.args.workers c.in_ok-slots.slots.items) c.as_slice.ensures.value c.in_ok-slots.ensures)

pub returns-clause-owners : goal.returns-clause-owners
returns-clause-owners c = c.in_ok-dealing.ensures.owners ∙ ap (owners_by c.args.owner c.args.workers) c.node_count.ensures.count

pub returns-clause-crew : goal.returns-clause-crew
returns-clause-crew c =
    first-crew (program c.args.image.now) c.args.graph.now c.in_ok-dealing.dealing c.args.workers c.in_ok-slots.slots.items c.requires.few_workers (dealt c) (first c)

pub returns-clause-shows : goal.returns-clause-shows
returns-clause-shows c =
    show-first (program c.args.image.now) c.args.graph.now c.in_ok-dealing.dealing c.args.workers c.in_ok-slots.slots.items c.requires.few_workers (dealt c) (first c)

pub returns-clause-stands : goal.returns-clause-stands
returns-clause-stands c =
    stand-first (program c.args.image.now) c.args.graph.now c.in_ok-dealing.dealing c.args.workers c.in_ok-slots.slots.items c.requires.few_workers (dealt c) (first c)
