use Rattle.std.proofs.Common.{◌∙◌, ap, sym, Some}
use Rattle.gm_semantics.specs.Expressions.{Answer}
use Rattle.gm_semantics.specs.Statements as S
use Rattle.gm_semantics.specs.Statements.{State, with_value}
use Rattle.gm_meaning.specs.declared.phases.Course.TheVariants.{Returns, Faults}
use Rattle.gm_meaning.specs.Phases.{state_of}
use Rattle.gm_meaning.proofs.Going.{runs-same}
use Rattle.gm_meaning.proofs.phases.Phase.return_value.Goals as goal

pub returns-in-Ok : goal.returns-in-Ok
returns-in-Ok c =
    let f = c.args.setting.now in
    let s : State = state_of f c.args.self.now in
    runs-same f c.args.self.now (Returns (Some c.in-Ok.value)) _ (ap (λ (a : Answer). with_value a (λ w. S.Returns (Some w) s)) (sym c.in-Ok.is ∙ c.value.ensures)) c.requires.rest

pub returns-in-Err : goal.returns-in-Err
returns-in-Err c =
    let f = c.args.setting.now in
    let s : State = state_of f c.args.self.now in
    runs-same f c.args.self.now (Faults c.in-Err.fault) _ (ap (λ (a : Answer). with_value a (λ w. S.Returns (Some w) s)) (sym c.in-Err.is ∙ c.value.ensures)) c.requires.rest
