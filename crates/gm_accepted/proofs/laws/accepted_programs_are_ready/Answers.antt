use Rattle.gm_depth.proofs.Limits.{text-shallow}
use Rattle.gm_reductions.specs.Stages.{all_below}
use Rattle.gm_accepted.proofs.Texts.{program-of, canonical-of, typed-of, tree-of}
use Rattle.gm_accepted.proofs.laws.accepted_programs_are_ready.Goals as goal

pub returns-clause-ready : goal.returns-clause-ready
returns-clause-ready c = λ text p s.
    let has = program-of text p s in
    let canonical = canonical-of text p s in
    c.checked_programs_are_ready.ensures p canonical (c.text_programs_are_spelled.ensures text p has) (c.text_programs_are_ordered.ensures text p has canonical.canonical)

pub returns-clause-shallow : goal.returns-clause-shallow
returns-clause-shallow c = λ text p s. text-shallow p (c.expressions_are_shallow.ensures.programs s.spelled.listing s.tree p (tree-of text p s) s.stands.typed.is)

pub returns-clause-well_typed : goal.returns-clause-well_typed
returns-clause-well_typed c = λ text p s.
    let spelled = c.text_programs_are_spelled.ensures text p (program-of text p s) in
    record { typed = λ limit. c.typed_programs_are_well_typed.ensures.well_typed limit p (typed-of text p s) spelled }

pub returns-clause-hoisted : goal.returns-clause-hoisted
returns-clause-hoisted c = λ text p s.
    let has = program-of text p s in
    let canonical = canonical-of text p s in
    let ready = c.checked_programs_are_ready.ensures p canonical (c.text_programs_are_spelled.ensures text p has) (c.text_programs_are_ordered.ensures text p has canonical.canonical) in
    record { ready = ready; stands = c.text_programs_can_be_hoisted.ensures.hoisted text p has canonical.canonical }

pub returns-clause-loops : goal.returns-clause-loops
returns-clause-loops c = λ text p s.
    let has = program-of text p s in
    let canonical = canonical-of text p s in
    let ready = c.checked_programs_are_ready.ensures p canonical (c.text_programs_are_spelled.ensures text p has) (c.text_programs_are_ordered.ensures text p has canonical.canonical) in
    let rising = c.typed_programs_rise.ensures p (typed-of text p s) in
    let tells = c.typed_programs_are_well_typed.ensures.tells all_below p (typed-of text p s) in
    record { can = record { ready = ready; runs = record { rising = rising; tells = tells } }; stands = c.text_programs_can_be_hoisted.ensures.throughout text p has canonical.canonical }
