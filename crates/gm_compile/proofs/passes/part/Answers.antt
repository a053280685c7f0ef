use Rattle.std.proofs.Common.{◌≡◌, true, sym, ap, subst, ◌∙◌, rules}
use Rattle.std.specs.Prelude.{Bool}
use Rattle.gm_ast.specs.Program.{Program}
use Rattle.gm_ast.specs.Tree.{program_of}
use Rattle.gm_compilable.specs.Parted.{with_levels, parted}
use Rattle.gm_cut.specs.Lean.{has_slices_that_go}
use Rattle.gm_cut.specs.Parts.{in_pieces}
use Rattle.gm_desugaring.specs.Desugaring.{CanBecomeLoops}
use Rattle.gm_flip.specs.Flipped.{without_pulls}
use Rattle.gm_forms.specs.Meanings.{SameMeaning}
use Rattle.gm_forms.specs.Passes.{Passes}
use Rattle.gm_forms.specs.Ready.{Ready2, Ready3, Ready4}
use Rattle.gm_forms.proofs.Meanings.{same-trans}
use Rattle.gm_outward.specs.Outward.{outward}
use Rattle.gm_parting.specs.Apart.{with_statements_apart}
use Rattle.gm_parting.specs.Passes.{prepared, dissected, MayBePrepared}
use Rattle.gm_parting.specs.Tuples.{has_even_tuples}
use Rattle.gm_compile.specs.Compiled.{MayBeParted, can_be_parted}
use Rattle.gm_compile.proofs.Answering.{some-if, some-of}
use Rattle.gm_compile.proofs.passes.part.Goals as goal

-- whether each slice of an inner loop goes one way
abbrev slices : Program → Bool
slices q = has_slices_that_go (with_statements_apart (in_pieces (prepared q)))

made : (c : goal.After-only_if) → program_of c.in_ok-asked.asked ≡ parted (program_of c.args.program)
made c =
    let q = program_of c.in_ok-loops.loops in
    let d = program_of c.in_ok-cut.cut in
    let levels : q ≡ with_levels (program_of c.args.program) = search rules in
    let cut : d ≡ dissected q = search rules in
    let turned : program_of c.in_ok-turned.turned ≡ without_pulls d = search rules in
    let asked : program_of c.in_ok-asked.asked ≡ outward (program_of c.in_ok-turned.turned) = search rules in
    asked ∙ ap outward (turned ∙ ap without_pulls (cut ∙ ap dissected levels))

-- the test is that of the program
holds : (c : goal.After-only_if) → c.has_even_tuples-even.result ≡ can_be_parted (program_of c.args.program)
holds c =
    let q = program_of c.in_ok-loops.loops in
    let levels : q ≡ with_levels (program_of c.args.program) = search rules in
    let even : c.has_even_tuples-even.result ≡ has_even_tuples q = search rules in
    even ∙ ap has_even_tuples levels

-- what the loops have that are cut, where the test holds
module _ (c : goal.After-only_if) (may : MayBeParted (program_of c.args.program)) (test : c.has_even_tuples-even.result ≡ true) where
  abbrev p : Program
  p = program_of c.args.program

  abbrev q : Program
  q = program_of c.in_ok-loops.loops

  tuples : has_even_tuples (with_levels p) ≡ true
  tuples = sym (holds c) ∙ test

  prepared-may : MayBePrepared q
  prepared-may = let levels : q ≡ with_levels p = search rules in subst MayBePrepared (sym levels) (c.typed_programs_may_be_prepared.ensures p may.typed tuples)

  -- no slice goes several ways
  sliced : slices q ≡ true
  sliced =
      let levels : q ≡ with_levels p = search rules in
      let ready : CanBecomeLoops p → Ready2 q = search rules in
      ap slices levels ∙ c.canonical_programs_go_one_way.ensures p may.typed may.canonical may.loops (subst Ready2 levels (ready may.loops)) tuples

  last-ready : Ready4 (program_of c.in_ok-turned.turned)
  last-ready =
      let ready : CanBecomeLoops p → Ready2 q = search rules in
      let cut : Ready2 q → MayBePrepared q → slices q ≡ true → Ready3 (program_of c.in_ok-cut.cut) = search rules in
      let turned : Ready3 (program_of c.in_ok-cut.cut) → Passes Ready4 (program_of c.in_ok-cut.cut) (program_of c.in_ok-turned.turned) = search rules in
      (turned (cut (ready may.loops) prepared-may sliced)).ready

  same-all : SameMeaning p (program_of c.in_ok-asked.asked)
  same-all =
      let d = program_of c.in_ok-cut.cut in
      let e = program_of c.in_ok-turned.turned in
      let r = program_of c.in_ok-asked.asked in
      let first : CanBecomeLoops p → SameMeaning p q = search rules in
      let ready : CanBecomeLoops p → Ready2 q = search rules in
      let same : Ready2 q → MayBePrepared q → slices q ≡ true → SameMeaning q d = search rules in
      let cut : Ready2 q → MayBePrepared q → slices q ≡ true → Ready3 d = search rules in
      let turned : Ready3 d → Passes Ready4 d e = search rules in
      let asked : Ready4 e → Passes Ready4 e r = search rules in
      let to_cut = same (ready may.loops) prepared-may sliced in
      let to_turned = (turned (cut (ready may.loops) prepared-may sliced)).same in
      same-trans p q r (first may.loops) (same-trans q d r to_cut (same-trans d e r to_turned (asked last-ready).same))

  ready-all : Ready4 (program_of c.in_ok-asked.asked)
  ready-all = let asked : Ready4 (program_of c.in_ok-turned.turned) → Passes Ready4 (program_of c.in_ok-turned.turned) (program_of c.in_ok-asked.asked) = search rules in (asked last-ready).ready

pub returns-clause-made : goal.returns-clause-made
returns-clause-made c = some-of c.only_if.result c.in_ok-asked.asked (λ r. program_of r ≡ parted (program_of c.args.program)) c.only_if.ensures.same (made c)

pub returns-clause-which : goal.returns-clause-which
returns-clause-which c = c.only_if.ensures.which ∙ holds c

pub returns-clause-same : goal.returns-clause-same
returns-clause-same c =
    some-if c.only_if.result c.has_even_tuples-even.result c.in_ok-asked.asked (λ r. MayBeParted (program_of c.args.program) → SameMeaning (program_of c.args.program) (program_of r))
    c.only_if.ensures.same c.only_if.ensures.which (λ test may. same-all c may test)

pub returns-clause-ready : goal.returns-clause-ready
returns-clause-ready c =
    some-if c.only_if.result c.has_even_tuples-even.result c.in_ok-asked.asked (λ r. MayBeParted (program_of c.args.program) → Ready4 (program_of r))
    c.only_if.ensures.same c.only_if.ensures.which (λ test may. ready-all c may test)
