-- What is said of the merged image, as the code promises it.
use Rattle.std.proofs.Common.{◌≡◌, ◌<◌, ◌∙◌, ℕ, length, inl, refl, sym, ap, subst, arith}
use Rattle.std.specs.Prelude.{IsTrue}
use Rattle.gm_image.specs.declared.images.Image.{Image}
use Rattle.gm_image.specs.Program.{Program}
use Rattle.gm_image.specs.Ranges.{Ranged}
use Rattle.gm_image.specs.Soundness.{is_sound}
use Rattle.gm_image.specs.Views.{program}
use Rattle.gm_merge.specs.Joining.{all_joined}
use Rattle.gm_merge.specs.Trimmed.{trimmed}
use Rattle.gm_merge.specs.Merged.{merged}
use Rattle.gm_merge.specs.Numbers.{StepsInside}
use Rattle.gm_merge.specs.Results.{SameOutcomes, FewerSupersteps, FewerMessages, HasSameRest, HasNoneLeft}
use Rattle.gm_merge.specs.Walk.{StandsFor}
use Rattle.gm_merge.proofs.Walks.{joined-sound}
use Rattle.gm_merge.proofs.Sizes.{small}
use Rattle.gm_merge.proofs.Merging.{merged-keeps, none-left}
use Rattle.gm_merge.proofs.Beginning.{stands-trim, stands-inside, merged-rest}

-- what holds of an image that is the merged one
pub record IsMerged (p q : Program) : Type 0 where
  pub made : q ≡ merged p
  pub same : SameOutcomes p q
  pub supersteps : FewerSupersteps p q
  pub messages : FewerMessages p q
  pub rest : HasSameRest p q
  pub none_left : HasNoneLeft p q

merged-is : (p : Program) → IsTrue (is_sound p) → Ranged p → IsMerged p (merged p)
merged-is p sound ranged =
    let keeps = merged-keeps p sound ranged in
    record {
      made = refl;
      same = λ g args turns. sym (keeps.runs g args turns).outcome;
      supersteps = λ g args turns. (keeps.runs g args turns).supersteps;
      messages = λ g args turns calm. (keeps.runs g args turns).messages (inl calm);
      rest = merged-rest p;
      none_left = λ i a b joinable. none-left p i a b sound joinable;
    }

-- of an image that stands for the joined one, its blocks are few and its steps run them
pub record Fits (q : Program) : Type 0 where
  pub few : length q.blocks < 4294967295
  pub inside : StepsInside (length q.blocks) q.master

pub joined-fits : (p q : Program) → IsTrue (is_sound p) → StandsFor q (all_joined p) → Fits q
joined-fits p q sound s =
    let few = (small (all_joined p) (joined-sound p sound)).blocks in
    record { few = omega (arith, few, s.long); inside = stands-inside q (all_joined p) (joined-sound p sound) s }

-- and without the blocks that no step runs it is the merged image, which is sound
pub trimmed-is : (p q r : Program) → StandsFor q (all_joined p) → r ≡ trimmed q → r ≡ merged p
trimmed-is p q r s is = is ∙ stands-trim q (all_joined p) s

pub result-sound : (p q r : Program) → IsTrue (is_sound p) → Ranged p → StandsFor q (all_joined p) → r ≡ trimmed q → IsTrue (is_sound r)
result-sound p q r sound ranged s is = subst (λ (x : Program). IsTrue (is_sound x)) (sym (trimmed-is p q r s is)) (merged-keeps p sound ranged).sound

pub result-is : (image taken joined left result : Image) → taken ≡ image → IsTrue (is_sound (program taken)) → Ranged (program taken)
    → StandsFor (program joined) (all_joined (program taken)) → program left ≡ trimmed (program joined) → result ≡ left → IsMerged (program image) (program result)
result-is image taken joined left result same sound ranged s is out =
    let made : program result ≡ merged (program taken) = ap program out ∙ trimmed-is (program taken) (program joined) (program left) s is in
    subst (λ (x : Image). IsMerged (program x) (program result)) same (subst (IsMerged (program taken)) (sym made) (merged-is (program taken) sound ranged))
