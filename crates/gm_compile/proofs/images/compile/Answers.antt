use Rattle.std.proofs.Common.{◌≡◌, true, ap, subst, ◌∙◌}
use Rattle.std.specs.Prelude.{List, ℕ, ◌&&◌, IfOk, IfSome, is_some}
use Rattle.gm_ast.specs.Program.{Program}
use Rattle.gm_ast.specs.Tree.{program_of}
use Rattle.gm_canon.specs.Verdict.{StandsFor}
use Rattle.gm_combiners.specs.Combiners.{combining}
use Rattle.gm_compilable.specs.Parted.{parted}
use Rattle.gm_forms.specs.Meanings.{SameMeaning}
use Rattle.gm_forms.specs.Ready.{Ready4}
use Rattle.gm_forms.proofs.Named.{both-true}
use Rattle.gm_image.specs.Views as Views
use Rattle.gm_lower.specs.Images as Images
use Rattle.gm_merge.specs.Merged.{merged}
use Rattle.gm_plain_loops.specs.Tests.{tells_phases, suits_loops}
use Rattle.gm_compile.specs.Compiled.{MayBeParted, Represents, breaks_no_rule, can_be_parted, can_be_lowered}
use Rattle.gm_compile.specs.Laws.{IsPartedWell, RunsAsImageOf}
use Rattle.gm_compile.proofs.Answering.{none-of, rest-of, ok-map, ok-some-if}
use Rattle.gm_compile.proofs.images.compile.Goals as goal

module _ (c : goal.Joined-parted) where
  abbrev p : Program
  p = program_of c.args.program

  abbrev q : Program
  q = program_of c.in-Some.parted

  is-parted : q ≡ parted p
  is-parted = subst (λ o. IfSome o (λ r. program_of r ≡ parted p)) c.in-Some.is c.in_ok-parted.ensures.made

  same : MayBeParted p → SameMeaning p q
  same = subst (λ o. IfSome o (λ r. MayBeParted p → SameMeaning p (program_of r))) c.in-Some.is c.in_ok-parted.ensures.same

  ready : MayBeParted p → Ready4 q
  ready = subst (λ o. IfSome o (λ r. MayBeParted p → Ready4 (program_of r))) c.in-Some.is c.in_ok-parted.ensures.ready

  can : true ≡ can_be_parted p
  can = subst (λ o. is_some o ≡ can_be_parted p) c.in-Some.is c.in_ok-parted.ensures.which

  -- what the parted program has, where it can be lowered
  well : (text : List ℕ) → StandsFor text p → can_be_lowered q ≡ true → IsPartedWell p
  well text stands lowers =
      let may : MayBeParted p = c.images_represent.ensures.may text p stands in
      let tests = both-true (tells_phases q && suits_loops q) (breaks_no_rule (Images.image_of q)) lowers in
      let both = both-true (tells_phases q) (suits_loops q) tests.0 in
      record {
        same = subst (SameMeaning p) is-parted (same may);
        ready = subst Ready4 is-parted (ready may);
        tells = subst (λ x. tells_phases x ≡ true) is-parted both.0;
        suits = subst (λ x. suits_loops x ≡ true) is-parted both.1;
      }

pub returns-in-Some-clause-made : goal.returns-in-Some-clause-made
returns-in-Some-clause-made c = subst (λ x. IfOk c.image_of.result (λ r. IfSome r (λ i. Views.program i ≡ combining (merged (Images.image_of x))))) (is-parted c) c.image_of.ensures.made

pub returns-in-Some-clause-which : goal.returns-in-Some-clause-which
returns-in-Some-clause-which c =
    ok-map c.image_of.result (λ r. is_some r ≡ can_be_lowered (q c)) _ c.image_of.ensures.which
    (λ r h. rest-of (can_be_parted (p c)) (can_be_lowered (parted (p c))) (is_some r) (can c) (h ∙ ap can_be_lowered (is-parted c)))

pub returns-in-Some-clause-stands : goal.returns-in-Some-clause-stands
returns-in-Some-clause-stands c =
    ok-some-if c.image_of.result (can_be_lowered (q c)) (λ i. RunsAsImageOf (q c) (Views.program i)) (λ i. (text : List ℕ) → StandsFor text (p c) → Represents (Views.program i) (p c))
    c.image_of.ensures.which c.image_of.ensures.runs
    (λ i lowers runs text stands. c.images_represent.ensures.images text (p c) (Views.program i) stands (well c text stands lowers) (subst (λ x. RunsAsImageOf x (Views.program i)) (is-parted c) runs))

pub returns-in-None-clause-which : goal.returns-in-None-clause-which
returns-in-None-clause-which c =
    none-of (can_be_parted (program_of c.args.program)) (can_be_lowered (parted (program_of c.args.program)))
    (subst (λ o. is_some o ≡ can_be_parted (program_of c.args.program)) c.in-None.is c.in_ok-parted.ensures.which)
