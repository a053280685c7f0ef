use Rattle.std.proofs.Common.{◌≡◌, ◌-◌, ◌++◌, ℕ, ap, sym, ◌∙◌, arith}
use Rattle.gm_base.specs.Rules.{least_from}
use Rattle.gm_ast.specs.declared.kinds.Role.TheVariants.{Inside}
use Rattle.gm_ast.specs.Names.{Env}
use Rattle.gm_ast.specs.Statements.{type_broken}
use Rattle.gm_types.specs.declared.names.Checker.{Checker}
use Rattle.gm_types.specs.Views.{env_of}
use Rattle.gm_types.specs.Notes.{type_upto, layer_broken, plain_broken}
use Rattle.gm_types.proofs.Leasts.{least_from-append}
use Rattle.gm_types.proofs.Types.{broken-next}
use Rattle.gm_types.proofs.names.Checker.note_type.Goals as goal

pub layers-preserved : goal.layers-preserved
layers-preserved c =
    let t = c.args.vtype.now in
    let n : ℕ = c.layers.left - 1 in
    let env = env_of c.args.self.now in
    let layer = c.index.result.now in
    let before = c.layers.self.least in
    let more = type_broken (type_upto t n) Inside env in
    let same_env : env_of c.layers.self ≡ env = ap env_of c.layers.invariant.rest in
    let noted : c.note_layer.new.self.least ≡ least_from before (layer_broken layer c.layers.inner c.holds_node-of_nodes.result env) =
    c.note_layer.ensures.least ∙ ap (λ (e : Env). least_from before (layer_broken layer c.layers.inner c.holds_node-of_nodes.result e)) same_env in
    record {
      within = omega arith;
      rest = c.note_layer.ensures.rest ∙ ap (λ (s : Checker). record s { least = c.note_layer.new.self.least }) c.layers.invariant.rest;
      least = ap (λ l. least_from l more) noted
          ∙ sym (least_from-append before (layer_broken layer c.layers.inner c.holds_node-of_nodes.result env) more)
          ∙ ap (λ b. least_from before (layer_broken layer c.layers.inner b env ++ more)) c.holds_node-of_nodes.ensures
          ∙ ap (least_from before) (sym (broken-next t c.layers.left n layer c.layers.inner env (omega arith) (omega arith) c.index.ensures))
          ∙ c.layers.invariant.least;
    }

pub returns : goal.returns
returns c =
    let t = c.args.vtype.now in
    let env = env_of c.args.self.now in
    let before = c.layers.self.least in
    let none : c.layers.left ≡ 0 = omega arith in
    let same_env : env_of c.layers.self ≡ env = ap env_of c.layers.invariant.rest in
    record {
      least = c.note_plain.ensures.least
          ∙ ap (λ (e : Env). least_from before (plain_broken t c.layers.inner e)) same_env
          ∙ ap (λ (k : ℕ). least_from before (type_broken (type_upto t k) c.layers.inner env)) (sym none)
          ∙ c.layers.invariant.least;
      rest = c.note_plain.ensures.rest ∙ ap (λ (s : Checker). record s { least = c.note_plain.new.self.least }) c.layers.invariant.rest;
    }
