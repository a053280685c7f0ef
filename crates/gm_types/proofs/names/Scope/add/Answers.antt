use Rattle.std.proofs.Common.{◌≡◌, ◌∙◌, ap, false, rules}
use Rattle.std.specs.Prelude.{is_some}
use Rattle.gm_ast.specs.declared.kinds.Binding.{Binding}
use Rattle.gm_ast.specs.Names.{known_as, known_with}
use Rattle.gm_types.specs.Views.{known_in}
use Rattle.gm_types.proofs.KnownNames.{known-inserted}
use Rattle.std.proofs.lemmas.Result.{IfOk-from_err}
use Rattle.gm_types.proofs.names.Scope.add.Goals as goal

pub returns-in_ok-insert : goal.returns-in_ok-insert
returns-in_ok-insert c =
    let es = c.args.self.now.names.entries in
    let key = c.deref-then-is_none.result in
    let letters = c.deref-then-is_none.ensures.value in
    let none : is_some (known_as (known_in es) key.now) ≡ false = search rules in
    ap known_in c.in_ok-insert.ensures.entries ∙ known-inserted key c.args.binding es none ∙ ap (λ text. known_with (known_in es) text c.args.binding) letters

pub returns-in_err-insert : goal.returns-in_err-insert
returns-in_err-insert c = IfOk-from_err _ _ c.from_residual.ensures.0
