use Rattle.gm_order.proofs.laws.text_programs_have_types.Goals as goal

pub returns : goal.returns
returns c = λ text p s. c.typed_programs_have_types.ensures p (record { source = s.tree; clean = s.clean; is = s.is }) (c.text_programs_are_spelled.ensures text p s)
