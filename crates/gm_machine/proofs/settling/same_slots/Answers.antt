-- Lists of different lengths differ, and those that end together are the same.
use Rattle.std.proofs.Common.{◌≡◌, ◌≢◌, ◌<◌, ◌≤◌, ℕ, zero, suc, Bool, true, false, nat_eq, cond, ◌&&◌, length, List, [], ◌∷◌, map, drop, refl, sym, ap, ◌∙◌, arith}
use Rattle.std.proofs.lemmas.List.{drop_all}
use Rattle.gm_image.specs.Folds.{same_numbers}
use Rattle.gm_machine.specs.declared.contributions.ContributionPart.{ContributionPart}
use Rattle.gm_machine.specs.Settling.{slots_in}
use Rattle.gm_machine.proofs.settling.same_slots.Goals as goal

and-false : (a : Bool) → a && false ≡ false
and-false true = refl
and-false false = refl

pub longer-differs : (some other : List ContributionPart) → length some ≢ length other → same_numbers (slots_in some) (slots_in other) ≡ false
longer-differs [] [] differs = absurd (differs refl)
longer-differs [] (q ∷ other) differs = refl
longer-differs (p ∷ some) [] differs = refl
longer-differs (p ∷ some) (q ∷ other) differs =
    ap (λ b. nat_eq p.slot q.slot && b) (longer-differs some other (λ same. differs (ap suc same))) ∙ and-false (nat_eq p.slot q.slot)

pub returns-then-some-other : goal.returns-then-some-other
returns-then-some-other c = sym (longer-differs c.args.some.now c.args.other.now c.if-some-other.true)
