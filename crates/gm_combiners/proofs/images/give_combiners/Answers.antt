use Rattle.std.proofs.Common.{◌≡◌, ◌∙◌, sym, ap, subst}
use Rattle.std.specs.Prelude.{IsTrue}
use Rattle.gm_image.specs.declared.images.Image.{Image}
use Rattle.gm_image.specs.Program.{Program}
use Rattle.gm_image.specs.Soundness.{is_sound}
use Rattle.gm_image.specs.Views.{program}
use Rattle.gm_machine.specs.Machine.{machine}
use Rattle.gm_combiners.specs.Combiners.{combining}
use Rattle.gm_combiners.specs.Laws.{HasAllCombiners}
use Rattle.gm_combiners.proofs.Made.{made-sound, made-all}
use Rattle.gm_combiners.proofs.Running.{machine-same}
use Rattle.gm_combiners.proofs.images.give_combiners.Goals as goal

pub new-requires : goal.new-requires
new-requires c = subst (λ (p : Program). IsTrue (is_sound p)) (sym c.in_ok-combined.ensures) (made-sound (program c.into_image.result) c.into_image.ensures.sound)

module _ (c : goal.After-new) where
  -- the image that comes out
  made-of : program c.new.result ≡ combining (program c.into_image.result)
  made-of = ap (λ (i : Image). program i) c.new.ensures ∙ c.in_ok-combined.ensures

  made : program c.new.result ≡ combining (program c.args.image)
  made = made-of ∙ ap (λ (i : Image). combining (program i)) c.into_image.ensures.same

pub returns-clause-made : goal.returns-clause-made
returns-clause-made c = made c

pub returns-clause-same : goal.returns-clause-same
returns-clause-same c = λ g args turns.
    ap (λ (p : Program). machine p g args turns) (made c) ∙ machine-same (program c.args.image) (combining (program c.args.image)).kinds g args turns

pub returns-clause-all : goal.returns-clause-all
returns-clause-all c = subst HasAllCombiners (sym (made-of c)) (made-all (program c.into_image.result) c.into_image.ensures.sound)
