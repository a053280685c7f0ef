use Rattle.std.proofs.Common.{◌∙◌, ◌||◌, ◌++◌, [], ℕ, List, ap, sym, map}
use Rattle.std.proofs.lemmas.List.{append-nil}
use Rattle.std.specs.Prelude.{nat_eq}
use Rattle.std.specs.List.{flat_map}
use Rattle.std.specs.HashSet.{contains}
use Rattle.gm_image.specs.Views.{target}
use Rattle.gm_image.specs.Parts.{is_among, slots_of}
use Rattle.gm_image.specs.Folds as F
use Rattle.gm_verify.proofs.Slots.{or-none}
use Rattle.gm_verify.proofs.scopes.add_line.Goals as goal

pub returns-in_ok-add_slots-in-Some : goal.returns-in_ok-add_slots-in-Some
returns-in_ok-add_slots-in-Some c = λ n.
    let slots = slots_of (map target c.in-Some.reduction.targets.now) in
    c.in_ok-add_slots-in-Some.ensures n
    ∙ ap (λ (xs : List ℕ). contains nat_eq c.args.set.now n || is_among n xs)
    (sym (append-nil slots) ∙ ap (λ (rs : List F.Reduction). flat_map (λ r. r.slots) (rs ++ [])) c.in-Some.ensures)

pub returns-in-None : goal.returns-in-None
returns-in-None c = λ n.
    or-none (contains nat_eq c.args.set.now n)
    ∙ ap (λ (rs : List F.Reduction). contains nat_eq c.args.set.now n || is_among n (flat_map (λ r. r.slots) (rs ++ []))) c.in-None.ensures
