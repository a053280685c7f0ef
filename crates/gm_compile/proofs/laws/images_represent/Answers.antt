-- Images stand for the programs of accepted texts, by the laws of the passes together.
use Rattle.gm_compile.proofs.Representing.{Laws, may, represented}
use Rattle.gm_compile.proofs.laws.images_represent.Goals as goal

abbrev laws : goal.After-stores_stay_typed → Laws
laws c = record {
  of_text = c.accepted_programs_are_of_texts.ensures;
  ready = c.accepted_programs_are_ready.ensures.ready;
  loops = c.accepted_programs_are_ready.ensures.loops;
  tables = c.typed_programs_have_tables.ensures;
  parted_tables = c.parted_programs_have_tables.ensures.tables;
  outputs = c.parted_programs_have_tables.ensures.outputs;
  well_typed = c.parted_programs_are_well_typed.ensures;
  fits = c.fitting_arguments_fit_parted.ensures.fits;
  columns = c.fitting_arguments_fit_parted.ensures.columns;
  runs = c.ready_programs_run.ensures;
  asked = c.stores_stay_typed.ensures.asked;
}

pub returns-clause-may : goal.returns-clause-may
returns-clause-may c = may (laws c)

pub returns-clause-images : goal.returns-clause-images
returns-clause-images c text p m stands = λ well runs. represented (laws c) text p stands well runs.image m runs.own runs.outcomes runs.rest
