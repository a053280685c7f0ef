use Rattle.std.proofs.Common.{◌∙◌, ◌||◌, ℕ, Option, sym, ap}
use Rattle.gm_image.specs.Parts.{is_among}
use Rattle.gm_merge.specs.Numbers.{is_named}
use Rattle.gm_merge.proofs.Rising.{among-push, or-false}
use Rattle.gm_merge.proofs.registers.add_register.Goals as goal

pub returns-in_ok-push : goal.returns-in_ok-push
returns-in_ok-push c = λ r.
    ap (is_among r) c.in_ok-push.ensures.items
    ∙ among-push r c.in-Some.register c.args.reads.now.items
    ∙ ap (λ (m : Option ℕ). is_among r c.args.reads.now.items || is_named m r) (sym c.in-Some.is)

pub returns-in_default : goal.returns-in_default
returns-in_default c = λ r.
    sym (or-false (is_among r c.args.reads.now.items))
    ∙ ap (λ (m : Option ℕ). is_among r c.args.reads.now.items || is_named m r) (sym c.in_default.is)
