use Rattle.std.proofs.Common.{◌≡◌, ◌∙◌, ◌++◌, [], ◌∷◌, ap, sym, Option, length}
use Rattle.std.specs.Prelude.{is_none}
use Rattle.gm_base.specs.declared.rules.Refusal.{Refusal}
use Rattle.gm_base.specs.declared.rules.Rule.TheVariants.{T2}
use Rattle.gm_base.specs.Rules.{least_from}
use Rattle.gm_ast.specs.declared.kinds.Role.TheVariants.{Local}
use Rattle.gm_ast.specs.Judged.{unless}
use Rattle.gm_ast.specs.Names.{known_as}
use Rattle.gm_ast.specs.Statements.{type_broken, initial_broken, sort_of, variable_of}
use Rattle.gm_ast.specs.SurfaceTree.{name_of, type_of}
use Rattle.gm_types.specs.declared.names.Checker.{Checker}
use Rattle.gm_types.specs.Views.{env_of, known_in}
use Rattle.gm_types.proofs.Leasts.{least_from-append}
use Rattle.gm_types.proofs.Declarings.{judges-declared}
use Rattle.std.proofs.lemmas.Result.{IfOk-from_err}
use Rattle.gm_types.proofs.names.Checker.declare_typed.Goals as goal

pub returns : goal.returns
returns c =
    let old = c.args.self.now in
    let t = type_of c.args.vtype.now in
    let x = name_of c.args.name.now in
    let v = variable_of t old.depth in
    let s1 = c.note_type.new.self in
    let s3 = c.note_known.new.self in
    let new = c.add.new.self in
    let is_v = c.variable_of-variable.ensures in
    let e1 : s1 ≡ record old { least = s1.least } = c.note_type.ensures.rest in
    let e3 : s3 ≡ record old { least = s3.least } = c.note_known.ensures.rest ∙ ap (λ (s : Checker). record s { least = s3.least }) e1 in
    let e : new ≡ record old { least = s3.least; declarations = new.declarations } = c.in_ok-index.ensures.rest ∙ ap (λ (s : Checker). record s { declarations = new.declarations }) e3 in
    let tb = type_broken t Local (env_of old) in
    let ib = initial_broken (sort_of t) x in
    let init = rw is_v at c.note_initial.ensures in
    judges-declared (tb ++ ib) x v s3.least new.declarations e
    (c.note_known.ensures.least
    ∙ ap (λ (l : Option Refusal). least_from l (unless (is_none (known_as (known_in s1.scope.names.entries) x.text)) T2 x.place)) (init ∙ ap (λ l. least_from l ib) c.note_type.ensures.least ∙ sym (least_from-append old.least tb ib))
    ∙ ap (λ (s : Checker). least_from (least_from old.least (tb ++ ib)) (unless (is_none (known_as (known_in s.scope.names.entries) x.text)) T2 x.place)) e1)
    (rw is_v at c.in_ok-index.ensures.row ∙ ap (λ (s : Checker). s.declarations.items ++ (record { name = x.text; variable = v } ∷ [])) e3)
    (c.in_ok-index.ensures.index ∙ ap (λ (s : Checker). length s.declarations.items) e3)

pub returns-in_err-index : goal.returns-in_err-index
returns-in_err-index c = IfOk-from_err _ _ c.from_residual.ensures.0
