-- An iteration of one deed: the totals have its contribution, and all else is as it was.
use Rattle.std.proofs.Common.{◌∙◌, [], ◌∷◌, None, ap, refl, subst, sym}
use Rattle.std.proofs.lemmas.List.{append-nil}
use Rattle.gm_semantics.specs.Iterations.{begun}
use Rattle.gm_store.specs.Held.{shape_of}
use Rattle.gm_totals.specs.Given.{single}
use Rattle.gm_totals.specs.Standing.{StandsFor}
use Rattle.gm_loops.specs.declared.goings.Going.{Going}
use Rattle.gm_loops.specs.declared.shorts.Deed.TheVariants.{Gives}
use Rattle.gm_loops.specs.Shorts.{after_deed, IsWithin}
use Rattle.gm_loops.proofs.Taking.{leaves-none, leaves-one, takes-one}
use Rattle.gm_loops.proofs.goings.Going.take.Goals as goal

pub returns-in_ok-give : goal.returns-in_ok-give
returns-in_ok-give c =
    let old = c.args.self.now in
    let given = c.in-Gives.contribution in
    let new : Going = record old { outermost = c.give.new.self; fault = None } in
    λ f m turn s is.
    takes-one f m old new turn (after_deed (Gives given) (begun s)) (single given ∷ []) (is ∙ ap (λ d. after_deed d (begun s)) c.in-Gives.is) (leaves-one given s) refl refl refl
    c.in_ok-give.ensures.stands
    (λ ready. c.in_ok-give.ensures.within (shape_of old.store) (subst (IsWithin (shape_of old.store)) c.in-Gives.is c.requires) ready.outermost)

pub returns-in_default : goal.returns-in_default
returns-in_default c =
    let old = c.args.self.now in
    let new : Going = record old { fault = None } in
    λ f m turn s is.
    takes-one f m old new turn (after_deed c.args.deed (begun s)) [] is (leaves-none c.args.deed c.in_default.not-Gives s) refl refl refl
    (λ before stands. subst (StandsFor old.outermost) (sym (append-nil before)) stands) (λ ready. ready.outermost)
