use Rattle.std.proofs.Common.{◌≡◌, ◌∙◌, ◌+◌, ◌-◌, ℕ, List, [], get_or, take, Some, ap, sym, subst, arith}
use Rattle.std.specs.Prelude.{reverse}
use Rattle.std.proofs.lemmas.Option.{slice_get-get_or, get_or_from_slice_get}
use Rattle.gm_ast.specs.Tree.{expr_of, stmt_of}
use Rattle.gm_semantics.specs.Statements as S
use Rattle.gm_semantics.specs.Statements.{State, in_turns, loops}
use Rattle.gm_loops.specs.Sights.{level_in}
use Rattle.gm_meaning.specs.declared.phases.Course.{Course}
use Rattle.gm_meaning.specs.declared.phases.Course.TheVariants.{Goes}
use Rattle.gm_meaning.specs.Phases.{run_of, state_of, Runs}
use Rattle.gm_meaning.specs.Searches.{AreNodes}
use Rattle.gm_meaning.proofs.Blocks.{back-stop, back-end, back-next}
use Rattle.gm_meaning.proofs.Turns.{began, rest-begun, take-all}
use Rattle.gm_meaning.proofs.phases.Phase.downwards.Goals as goal

pub loop-left-init : goal.loop-left-init
loop-left-init c =
    let f = c.args.setting.now in
    let lists = c.args.levels.now.lists in
    let body : List ℕ → State → S.Course = loops (run_of f) (level_in (Some c.args.levels.now)) c.args.iterator c.args.key (expr_of c.args.filter.now) (stmt_of c.args.body.now) in
    record {
      meaning = ap (λ (ls : List (List ℕ)). in_turns (run_of f) (reverse ls) body (state_of f c.args.self.now)) (take-all lists c.count-left.result c.count-left.ensures);
      within = omega (arith, c.count-left.ensures);
      rest = c.requires.rest;
    }

pub returns-then-not-begin_turn : goal.returns-then-not-begin_turn
returns-then-not-begin_turn c =
    let f = c.args.setting.now in
    let lists = c.args.levels.now.lists in
    let body : List ℕ → State → S.Course = loops (run_of f) (level_in (Some c.args.levels.now)) c.args.iterator c.args.key (expr_of c.args.filter.now) (stmt_of c.args.body.now) in
    let more : c.loop-left.left - 1 + 1 ≡ c.loop-left.left = omega (arith, c.loop-left-test.true) in
    let same : in_turns (run_of f) (reverse (take (c.loop-left.left - 1 + 1) lists)) body (state_of f c.loop-left.self) ≡ in_turns (run_of f) (reverse (take c.loop-left.left lists)) body (state_of f c.loop-left.self) =
    ap (λ (m : ℕ). in_turns (run_of f) (reverse (take m lists)) body (state_of f c.loop-left.self)) more in
    record {
      course = sym (back-stop f lists body c.loop-left.self (c.loop-left.left - 1) (get_or lists (c.loop-left.left - 1) []) (slice_get-get_or lists (c.loop-left.left - 1) [] (omega (arith, c.loop-left-test.true, c.loop-left.invariant.within))) (sym c.begin_turn.ensures.within ∙ c.if-not-begin_turn.true)) ∙ same ∙ c.loop-left.invariant.meaning;
      rest = rest-begun f c.loop-left.self c.begin_turn.new.self c.begin_turn.ensures.going c.loop-left.invariant.rest;
    }

pub level-requires-clause-rest : goal.level-requires-clause-rest
level-requires-clause-rest c = rest-begun c.args.setting.now c.loop-left.self c.begin_turn.new.self c.begin_turn.ensures.going c.loop-left.invariant.rest

pub level-requires-clause-known : goal.level-requires-clause-known
level-requires-clause-known c =
    let lists = c.args.levels.now.lists in
    subst (λ (ns : List ℕ). AreNodes c.args.setting.now.graph.now ns) (get_or_from_slice_get lists (c.loop-left.left - 1) c.nodes.result.now [] c.nodes.ensures) (c.requires.known (c.loop-left.left - 1) [] (omega (arith, c.loop-left-test.true, c.loop-left.invariant.within)))

pub returns-in_default : goal.returns-in_default
returns-in_default c =
    let f = c.args.setting.now in
    let lists = c.args.levels.now.lists in
    let body : List ℕ → State → S.Course = loops (run_of f) (level_in (Some c.args.levels.now)) c.args.iterator c.args.key (expr_of c.args.filter.now) (stmt_of c.args.body.now) in
    let more : c.loop-left.left - 1 + 1 ≡ c.loop-left.left = omega (arith, c.loop-left-test.true) in
    let same : in_turns (run_of f) (reverse (take (c.loop-left.left - 1 + 1) lists)) body (state_of f c.loop-left.self) ≡ in_turns (run_of f) (reverse (take c.loop-left.left lists)) body (state_of f c.loop-left.self) =
    ap (λ (m : ℕ). in_turns (run_of f) (reverse (take m lists)) body (state_of f c.loop-left.self)) more in
    record {
      course = sym (back-end f lists body c.loop-left.self c.begin_turn.new.self c.level.new.self c.in_ok-course.course (c.loop-left.left - 1) c.nodes.result.now c.nodes.ensures (began f c.loop-left.self c.begin_turn.new.self c.begin_turn.result c.begin_turn.ensures.within c.begin_turn.ensures.turns c.begin_turn.ensures.going c.if-not-begin_turn.false) c.in_default.not-Goes c.in_ok-course.ensures) ∙ same ∙ c.loop-left.invariant.meaning;
      rest = c.in_ok-course.ensures.rest;
    }

pub loop-left-preserved : goal.loop-left-preserved
loop-left-preserved c =
    let f = c.args.setting.now in
    let lists = c.args.levels.now.lists in
    let body : List ℕ → State → S.Course = loops (run_of f) (level_in (Some c.args.levels.now)) c.args.iterator c.args.key (expr_of c.args.filter.now) (stmt_of c.args.body.now) in
    let more : c.loop-left.left - 1 + 1 ≡ c.loop-left.left = omega (arith, c.loop-left-test.true) in
    let same : in_turns (run_of f) (reverse (take (c.loop-left.left - 1 + 1) lists)) body (state_of f c.loop-left.self) ≡ in_turns (run_of f) (reverse (take c.loop-left.left lists)) body (state_of f c.loop-left.self) =
    ap (λ (m : ℕ). in_turns (run_of f) (reverse (take m lists)) body (state_of f c.loop-left.self)) more in
    let goes : Runs f c.begin_turn.new.self c.level.new.self Goes (body c.nodes.result.now) = subst (λ (k : Course). Runs f c.begin_turn.new.self c.level.new.self k (body c.nodes.result.now)) c.in-Goes.is c.in_ok-course.ensures in
    record {
      meaning = sym (back-next f lists body c.loop-left.self c.begin_turn.new.self c.level.new.self (c.loop-left.left - 1) c.nodes.result.now c.nodes.ensures (began f c.loop-left.self c.begin_turn.new.self c.begin_turn.result c.begin_turn.ensures.within c.begin_turn.ensures.turns c.begin_turn.ensures.going c.if-not-begin_turn.false) goes) ∙ same ∙ c.loop-left.invariant.meaning;
      within = omega (arith, c.loop-left.invariant.within);
      rest = goes.rest;
    }

pub returns : goal.returns
returns c =
    let f = c.args.setting.now in
    let lists = c.args.levels.now.lists in
    let body : List ℕ → State → S.Course = loops (run_of f) (level_in (Some c.args.levels.now)) c.args.iterator c.args.key (expr_of c.args.filter.now) (stmt_of c.args.body.now) in
    let none : 0 ≡ c.loop-left.left = omega (arith, c.loop-left-test.false) in
    record {
      course = ap (λ (m : ℕ). in_turns (run_of f) (reverse (take m lists)) body (state_of f c.loop-left.self)) none ∙ c.loop-left.invariant.meaning;
      rest = c.loop-left.invariant.rest;
    }

pub nodes-requires : goal.nodes-requires
nodes-requires c = omega (arith, c.loop-left-test.true, c.loop-left.invariant.within)
