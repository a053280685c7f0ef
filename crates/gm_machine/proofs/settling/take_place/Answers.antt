-- Where there is a tuple the best one is taken.
use Rattle.std.proofs.Common.{◌≡◌, ◌∙◌, List, Vec, Global, sym, ap, map}
use Rattle.gm_value.specs.declared.values.Value.{Value}
use Rattle.gm_value.specs.Numbers.{number_of}
use Rattle.gm_value.specs.Tuples.{best, values_at}
use Rattle.gm_machine.specs.Settling.{slots_in, tuples_at, if_all}
use Rattle.gm_machine.proofs.TargetSteps.{bag-none, bag-some, still-several}
use Rattle.gm_machine.proofs.settling.take_place.Goals as goal

pub returns-then-not-found-clause-taken : goal.returns-then-not-found-clause-taken
returns-then-not-found-clause-taken c =
    bag-none c.args.reduce (slots_in c.args.target.now) c.args.held.now.items c.args.parts.now c.args.place c.args.held.now.items (sym c.if-not-found.true ∙ c.in_ok-found.ensures.some)

pub returns-clause-taken : goal.returns-clause-taken
returns-clause-taken c =
    let held : List Value = c.args.held.now.items in
    let row : List Value = c.find_best.new.chosen.items in
    let next_is : values_at held (map number_of row) ≡ if_all c.in_ok-all.all c.swap.new.x.items =
    sym (ap (λ vs. values_at vs (map number_of c.deref-3.result.now)) c.deref-2.ensures.value ∙ ap (λ vs. values_at held (map number_of vs)) c.deref-3.ensures.value)
    ∙ c.in_ok-all.ensures
    ∙ ap (λ (v : Vec Value Global). if_all c.in_ok-all.all v.items) (sym c.swap.ensures.x_after) in
    bag-some c.args.reduce (slots_in c.args.target.now) held c.args.parts.now c.args.place held row c.swap.new.x.items c.in_ok-all.all c.requires.several
    (sym c.if-not-found.false ∙ c.in_ok-found.ensures.some)
    (c.in_ok-found.ensures.best ∙ ap (λ vs. best c.args.reduce (map number_of vs) (tuples_at c.args.place (slots_in c.args.target.now) c.args.parts.now)) c.deref.ensures.value)
    next_is

pub returns-clause-several : goal.returns-clause-several
returns-clause-several c =
    let held : List Value = c.args.held.now.items in
    let row : List Value = c.find_best.new.chosen.items in
    let next_is : values_at held (map number_of row) ≡ if_all c.in_ok-all.all c.swap.new.x.items =
    sym (ap (λ vs. values_at vs (map number_of c.deref-3.result.now)) c.deref-2.ensures.value ∙ ap (λ vs. values_at held (map number_of vs)) c.deref-3.ensures.value)
    ∙ c.in_ok-all.ensures
    ∙ ap (λ (v : Vec Value Global). if_all c.in_ok-all.all v.items) (sym c.swap.ensures.x_after) in
    λ every. still-several held (map number_of row) c.swap.new.x.items c.in_ok-all.all c.requires.several next_is every
