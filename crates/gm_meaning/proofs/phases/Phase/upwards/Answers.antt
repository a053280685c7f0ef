use Rattle.std.proofs.Common.{◌∙◌, ℕ, List, [], get_or, Some, refl, ap, sym, subst, arith}
use Rattle.std.proofs.lemmas.Option.{slice_get-get_or, get_or_from_slice_get}
use Rattle.gm_ast.specs.Tree.{expr_of, stmt_of}
use Rattle.gm_semantics.specs.Statements as S
use Rattle.gm_semantics.specs.Statements.{State, in_turns, loops}
use Rattle.gm_loops.specs.Sights.{level_in}
use Rattle.gm_meaning.specs.declared.phases.Course.{Course}
use Rattle.gm_meaning.specs.declared.phases.Course.TheVariants.{Goes}
use Rattle.gm_meaning.specs.Phases.{run_of, state_of, Runs}
use Rattle.gm_meaning.specs.Searches.{AreNodes}
use Rattle.gm_meaning.proofs.Blocks.{items-stop, items-end, items-next}
use Rattle.gm_meaning.proofs.Turns.{began, rest-begun, drop-all}
use Rattle.gm_meaning.proofs.phases.Phase.upwards.Goals as goal

pub loop-k-init : goal.loop-k-init
loop-k-init c =
    record { meaning = refl; rest = c.requires.rest }

pub returns-then-not-begin_turn : goal.returns-then-not-begin_turn
returns-then-not-begin_turn c =
    let f = c.args.setting.now in
    let lists = c.args.levels.now.lists in
    let body : List ℕ → State → S.Course = loops (run_of f) (level_in (Some c.args.levels.now)) c.args.iterator c.args.key (expr_of c.args.filter.now) (stmt_of c.args.body.now) in
    record {
      course = sym (items-stop f lists body c.loop-k.self (c.loop-k.k) (get_or lists (c.loop-k.k) []) (slice_get-get_or lists (c.loop-k.k) [] (omega (arith, c.loop-k-test.true, c.count-k-end.ensures))) (sym c.begin_turn.ensures.within ∙ c.if-not-begin_turn.true)) ∙ c.loop-k.invariant.meaning;
      rest = rest-begun f c.loop-k.self c.begin_turn.new.self c.begin_turn.ensures.going c.loop-k.invariant.rest;
    }

pub level-requires-clause-rest : goal.level-requires-clause-rest
level-requires-clause-rest c = rest-begun c.args.setting.now c.loop-k.self c.begin_turn.new.self c.begin_turn.ensures.going c.loop-k.invariant.rest

pub level-requires-clause-known : goal.level-requires-clause-known
level-requires-clause-known c =
    let lists = c.args.levels.now.lists in
    subst (λ (ns : List ℕ). AreNodes c.args.setting.now.graph.now ns) (get_or_from_slice_get lists (c.loop-k.k) c.nodes.result.now [] c.nodes.ensures) (c.requires.known (c.loop-k.k) [] (omega (arith, c.loop-k-test.true, c.count-k-end.ensures)))

pub returns-in_default : goal.returns-in_default
returns-in_default c =
    let f = c.args.setting.now in
    let lists = c.args.levels.now.lists in
    let body : List ℕ → State → S.Course = loops (run_of f) (level_in (Some c.args.levels.now)) c.args.iterator c.args.key (expr_of c.args.filter.now) (stmt_of c.args.body.now) in
    record {
      course = sym (items-end f lists body c.loop-k.self c.begin_turn.new.self c.level.new.self c.in_ok-course.course (c.loop-k.k) c.nodes.result.now c.nodes.ensures (began f c.loop-k.self c.begin_turn.new.self c.begin_turn.result c.begin_turn.ensures.within c.begin_turn.ensures.turns c.begin_turn.ensures.going c.if-not-begin_turn.false) c.in_default.not-Goes c.in_ok-course.ensures) ∙ c.loop-k.invariant.meaning;
      rest = c.in_ok-course.ensures.rest;
    }

pub loop-k-preserved : goal.loop-k-preserved
loop-k-preserved c =
    let f = c.args.setting.now in
    let lists = c.args.levels.now.lists in
    let body : List ℕ → State → S.Course = loops (run_of f) (level_in (Some c.args.levels.now)) c.args.iterator c.args.key (expr_of c.args.filter.now) (stmt_of c.args.body.now) in
    let goes : Runs f c.begin_turn.new.self c.level.new.self Goes (body c.nodes.result.now) = subst (λ (k : Course). Runs f c.begin_turn.new.self c.level.new.self k (body c.nodes.result.now)) c.in-Goes.is c.in_ok-course.ensures in
    record {
      meaning = sym (items-next f lists body c.loop-k.self c.begin_turn.new.self c.level.new.self (c.loop-k.k) c.nodes.result.now c.nodes.ensures (began f c.loop-k.self c.begin_turn.new.self c.begin_turn.result c.begin_turn.ensures.within c.begin_turn.ensures.turns c.begin_turn.ensures.going c.if-not-begin_turn.false) goes) ∙ c.loop-k.invariant.meaning;
      rest = goes.rest;
    }

pub returns : goal.returns
returns c =
    let f = c.args.setting.now in
    let lists = c.args.levels.now.lists in
    let body : List ℕ → State → S.Course = loops (run_of f) (level_in (Some c.args.levels.now)) c.args.iterator c.args.key (expr_of c.args.filter.now) (stmt_of c.args.body.now) in
    record {
      course = sym (ap (λ (ls : List (List ℕ)). in_turns (run_of f) ls body (state_of f c.loop-k.self)) (drop-all lists c.loop-k.k (omega (arith, c.loop-k-test.false, c.count-k-end.ensures)))) ∙ c.loop-k.invariant.meaning;
      rest = c.loop-k.invariant.rest;
    }
