use Rattle.std.proofs.Common.{◌≡◌, ◌∙◌, ◌<◌, ◌≤◌, ◌-◌, ℕ, suc, true, List, length, get_or, map, Ok, refl, ap, sym, subst, arith, rules}
use Rattle.std.specs.Prelude.{box_value}
use Rattle.gm_value.specs.Operations.{is_true}
use Rattle.gm_model.specs.Graphs.{node_count}
use Rattle.gm_ast.specs.declared.tree.Stmt.{Stmt, the_lemmas as stmt_lemmas}
use Rattle.gm_ast.specs.Program as P
use Rattle.gm_ast.specs.Program.{sequence}
use Rattle.gm_ast.specs.Tree.{expr_of, stmt_of}
use Rattle.gm_semantics.specs.Levels.{numbers_from, nodes}
use Rattle.gm_semantics.specs.Expressions.{Answer}
use Rattle.gm_semantics.specs.Statements as S
use Rattle.gm_semantics.specs.Statements.{State, sequential, repeated, in_turns}
use Rattle.gm_loops.specs.Bounds.{bound_of}
use Rattle.gm_loops.proofs.Serving.{stmt_item}
use Rattle.gm_meaning.specs.declared.phases.Course.{Course}
use Rattle.gm_meaning.specs.declared.phases.Course.TheVariants.{Goes}
use Rattle.gm_meaning.specs.Phases.{run_of, state_of, asked, turn_of, Runs}
use Rattle.gm_meaning.proofs.Blocks.{block-next, block-ends, block-bound, nodes-next, nodes-end, nodes-stop}
use Rattle.gm_meaning.proofs.Going.{if-ok, rest-store, with_held}
use Rattle.gm_meaning.proofs.Numbers.{numbers-none}
use Rattle.gm_meaning.proofs.Trees.{stmt_of-For, stmt_of-While}
use Rattle.gm_meaning.proofs.Turns.{began, rest-begun, drop-all, repeat-fault, repeat-done, repeat-on, repeat-ends, repeat-stops}
use Rattle.gm_meaning.proofs.Ways.{way-fault, way-yes, way-no, turn-split, do-goes, do-ends, do-stops}
use Rattle.gm_meaning.proofs.phases.Phase.+running.Goals as goal

pub block-loop-stmt-init : goal.block-loop-stmt-init
block-loop-stmt-init t c = record { meaning = refl; bound = c.requires.bound; rest = c.requires.rest }

pub block-statement-requires : goal.block-statement-requires
block-statement-requires t c =
    let f = c.args.setting.now in
    let stmts = c.args.stmts.now.items in
    let i = c.loop-stmt.stmt-index in
    let item = c.stmt-item.result in
    let lt : i < length stmts = rw c.deref-stmt-items.ensures.value at c.loop-stmt-test.true in
    let is : item ≡ get_or stmts i item = rw c.deref-stmt-items.ensures.value at c.stmt-item.is in
    let bound : bound_of (stmt_of item) ≤ f.variables = omega (arith, block-bound stmts i item lt is, c.loop-stmt.invariant.bound) in
    (search (rules, stmt_lemmas), (c.loop-stmt.invariant.rest, (bound, stmt_item f.in_rows.now stmts stmts i item refl lt is c.requires.asked)))

pub block-returns-in_default : goal.block-returns-in_default
block-returns-in_default t c =
    let f = c.args.setting.now in
    let stmts = c.args.stmts.now.items in
    let i = c.loop-stmt.stmt-index in
    let item = c.stmt-item.result in
    let lt : i < length stmts = rw c.deref-stmt-items.ensures.value at c.loop-stmt-test.true in
    let is : item ≡ get_or stmts i item = rw c.deref-stmt-items.ensures.value at c.stmt-item.is in
    record {
      course = sym (block-ends f c.loop-stmt.self c.statement.new.self c.in_ok-course.course stmts i item lt is c.in_default.not-Goes c.in_ok-course.ensures) ∙ c.loop-stmt.invariant.meaning;
      rest = c.in_ok-course.ensures.rest;
    }

pub block-loop-stmt-preserved : goal.block-loop-stmt-preserved
block-loop-stmt-preserved t c =
    let f = c.args.setting.now in
    let stmts = c.args.stmts.now.items in
    let i = c.loop-stmt.stmt-index in
    let item = c.stmt-item.result in
    let lt : i < length stmts = rw c.deref-stmt-items.ensures.value at c.loop-stmt-test.true in
    let is : item ≡ get_or stmts i item = rw c.deref-stmt-items.ensures.value at c.stmt-item.is in
    let goes : Runs f c.loop-stmt.self c.statement.new.self Goes (sequential (stmt_of item) (run_of f)) = subst (λ (k : Course). Runs f c.loop-stmt.self c.statement.new.self k (sequential (stmt_of item) (run_of f))) c.in-Goes.is c.in_ok-course.ensures in
    record {
      meaning = sym (block-next f c.loop-stmt.self c.statement.new.self stmts i item lt is goes) ∙ c.loop-stmt.invariant.meaning;
      bound = omega (arith, block-bound stmts i item lt is, c.loop-stmt.invariant.bound);
      rest = goes.rest;
    }

pub block-returns : goal.block-returns
block-returns t c =
    let f = c.args.setting.now in
    let stmts = c.args.stmts.now.items in
    let i = c.loop-stmt.stmt-index in
    let past : length stmts ≤ i = rw c.deref-stmt-items.ensures.value at c.loop-stmt-test.false in
    record {
      course = sym (ap (λ (ss : List Stmt). sequential (sequence (map stmt_of ss)) (run_of f) (state_of f c.loop-stmt.self)) (drop-all stmts i past)) ∙ c.loop-stmt.invariant.meaning;
      rest = c.loop-stmt.invariant.rest;
    }

pub repeats-rounds-init : goal.repeats-rounds-init
repeats-rounds-init t c = record { meaning = refl; rest = c.requires.rest }

pub repeats-returns-in-Err : goal.repeats-returns-in-Err
repeats-returns-in-Err t c =
    let f = c.args.setting.now in
    let test : State → Answer = asked f c.args.key (expr_of c.args.test.now) in
    let body : State → S.Course = sequential (stmt_of c.args.body.now) (run_of f) in
    let old = c.rounds.self in
    let n = c.rounds.left in
    record {
      course = sym (repeat-fault f n test body (state_of f old) c.in-Err.fault (sym c.value.ensures ∙ c.in-Err.is)) ∙ c.rounds.invariant.meaning;
      rest = c.rounds.invariant.rest;
    }

pub repeats-returns-then-not-is_true : goal.repeats-returns-then-not-is_true
repeats-returns-then-not-is_true t c =
    let f = c.args.setting.now in
    let test : State → Answer = asked f c.args.key (expr_of c.args.test.now) in
    let body : State → S.Course = sequential (stmt_of c.args.body.now) (run_of f) in
    let old = c.rounds.self in
    let n = c.rounds.left in
    let answer : test (state_of f old) ≡ Ok c.in-Ok.value = sym c.value.ensures ∙ c.in-Ok.is in
    record {
      course = sym (repeat-done f n test body (state_of f old) c.in-Ok.value answer (sym c.is_true.ensures ∙ c.if-not-is_true.true)) ∙ c.rounds.invariant.meaning;
      rest = c.rounds.invariant.rest;
    }

pub repeats-returns-then-not-begin_turn : goal.repeats-returns-then-not-begin_turn
repeats-returns-then-not-begin_turn t c =
    let f = c.args.setting.now in
    let test : State → Answer = asked f c.args.key (expr_of c.args.test.now) in
    let body : State → S.Course = sequential (stmt_of c.args.body.now) (run_of f) in
    let old = c.rounds.self in
    let n = c.rounds.left in
    let answer : test (state_of f old) ≡ Ok c.in-Ok.value = sym c.value.ensures ∙ c.in-Ok.is in
    let holds : is_true c.in-Ok.value ≡ true = sym c.is_true.ensures ∙ c.if-not-is_true.false in
    record {
      course = sym (repeat-stops f n test body old c.in-Ok.value answer holds (sym c.begin_turn.ensures.within ∙ c.if-not-begin_turn.true)) ∙ c.rounds.invariant.meaning;
      rest = rest-begun f old c.begin_turn.new.self c.begin_turn.ensures.going c.rounds.invariant.rest;
    }

pub repeats-returns-in_default : goal.repeats-returns-in_default
repeats-returns-in_default t c =
    let f = c.args.setting.now in
    let test : State → Answer = asked f c.args.key (expr_of c.args.test.now) in
    let body : State → S.Course = sequential (stmt_of c.args.body.now) (run_of f) in
    let old = c.rounds.self in
    let n = c.rounds.left in
    let answer : test (state_of f old) ≡ Ok c.in-Ok.value = sym c.value.ensures ∙ c.in-Ok.is in
    let holds : is_true c.in-Ok.value ≡ true = sym c.is_true.ensures ∙ c.if-not-is_true.false in
    let begun = c.begin_turn.new.self in
    let b = began f old begun c.begin_turn.result c.begin_turn.ensures.within c.begin_turn.ensures.turns c.begin_turn.ensures.going c.if-not-begin_turn.false in
    record {
      course = sym (repeat-ends f n test body old begun c.statement.new.self c.in_ok-course.course c.in-Ok.value answer holds b c.in_default.not-Goes c.in_ok-course.ensures) ∙ c.rounds.invariant.meaning;
      rest = c.in_ok-course.ensures.rest;
    }

pub repeats-returns-then-left-eq0 : goal.repeats-returns-then-left-eq0
repeats-returns-then-left-eq0 t c =
    let f = c.args.setting.now in
    let test : State → Answer = asked f c.args.key (expr_of c.args.test.now) in
    let body : State → S.Course = sequential (stmt_of c.args.body.now) (run_of f) in
    let old = c.rounds.self in
    let n = c.rounds.left in
    let answer : test (state_of f old) ≡ Ok c.in-Ok.value = sym c.value.ensures ∙ c.in-Ok.is in
    let holds : is_true c.in-Ok.value ≡ true = sym c.is_true.ensures ∙ c.if-not-is_true.false in
    let begun = c.begin_turn.new.self in
    let b = began f old begun c.begin_turn.result c.begin_turn.ensures.within c.begin_turn.ensures.turns c.begin_turn.ensures.going c.if-not-begin_turn.false in
    let new = c.statement.new.self in
    let goes : Runs f begun new Goes body = subst (λ (k : Course). Runs f begun new k body) c.in-Goes.is c.in_ok-course.ensures in
    let none : 0 ≡ n = sym c.if-left-eq0.true in
    record {
      course = ap (λ (m : ℕ). repeated m (run_of f) test body (state_of f new)) none ∙ sym (repeat-on f n test body old begun new c.in-Ok.value answer holds b goes) ∙ c.rounds.invariant.meaning;
      rest = goes.rest;
    }

pub repeats-rounds-preserved : goal.repeats-rounds-preserved
repeats-rounds-preserved t c =
    let f = c.args.setting.now in
    let test : State → Answer = asked f c.args.key (expr_of c.args.test.now) in
    let body : State → S.Course = sequential (stmt_of c.args.body.now) (run_of f) in
    let old = c.rounds.self in
    let n = c.rounds.left in
    let answer : test (state_of f old) ≡ Ok c.in-Ok.value = sym c.value.ensures ∙ c.in-Ok.is in
    let holds : is_true c.in-Ok.value ≡ true = sym c.is_true.ensures ∙ c.if-not-is_true.false in
    let begun = c.begin_turn.new.self in
    let b = began f old begun c.begin_turn.result c.begin_turn.ensures.within c.begin_turn.ensures.turns c.begin_turn.ensures.going c.if-not-begin_turn.false in
    let new = c.statement.new.self in
    let goes : Runs f begun new Goes body = subst (λ (k : Course). Runs f begun new k body) c.in-Goes.is c.in_ok-course.ensures in
    let some : suc (n - 1) ≡ n = omega (arith, c.if-left-eq0.false) in
    record {
      meaning = ap (λ (m : ℕ). repeated m (run_of f) test body (state_of f new)) some ∙ sym (repeat-on f n test body old begun new c.in-Ok.value answer holds b goes) ∙ c.rounds.invariant.meaning;
      rest = goes.rest;
    }

pub turn_at-value-requires-clause-fits : goal.turn_at-value-requires-clause-fits
turn_at-value-requires-clause-fits t c = (rest-store c.args.setting.now c.args.self.now.going c.set_scalar.new.self c.set_scalar.ensures.shape c.set_scalar.ensures.undo c.requires.rest).ready.fits

pub turn_at-returns-in-Err : goal.turn_at-returns-in-Err
turn_at-returns-in-Err t c =
    let f = c.args.setting.now in
    let old = c.args.self.now in
    let mid = with_held old c.set_scalar.new.self in
    let test : P.Expr = expr_of c.args.filter.now in
    let body : P.Stmt = stmt_of c.args.body.now in
    let split = turn-split f old c.set_scalar.new.self c.args.key c.args.iterator test body c.args.node c.set_scalar.ensures.store in
    let rest = rest-store f old.going c.set_scalar.new.self c.set_scalar.ensures.shape c.set_scalar.ensures.undo c.requires.rest in
    let p : State → S.Course = sequential body (run_of f) in
    let a : Answer = asked f c.args.key test (state_of f mid) in
    record { course = sym (split ∙ way-fault a p S.Goes (state_of f mid) c.in-Err.fault (sym c.value.ensures ∙ c.in-Err.is)); rest = rest }

pub turn_at-returns-then-is_true : goal.turn_at-returns-then-is_true
turn_at-returns-then-is_true t c =
    let f = c.args.setting.now in
    let old = c.args.self.now in
    let mid = with_held old c.set_scalar.new.self in
    let test : P.Expr = expr_of c.args.filter.now in
    let body : P.Stmt = stmt_of c.args.body.now in
    let split = turn-split f old c.set_scalar.new.self c.args.key c.args.iterator test body c.args.node c.set_scalar.ensures.store in
    let rest = rest-store f old.going c.set_scalar.new.self c.set_scalar.ensures.shape c.set_scalar.ensures.undo c.requires.rest in
    let p : State → S.Course = sequential body (run_of f) in
    let a : Answer = asked f c.args.key test (state_of f mid) in
    let new = c.statement.new.self in
    let way = split ∙ way-yes a p S.Goes (state_of f mid) c.in-Ok.value (sym c.value.ensures ∙ c.in-Ok.is) (sym c.is_true.ensures ∙ c.if-is_true.true) in
    if-ok c.statement.result (λ k. Runs f mid new k p) (λ k. Runs f old new k (turn_of (run_of f) c.args.key c.args.iterator test body c.args.node))
    (λ k h. record { course = h.course ∙ sym way; rest = h.rest }) c.statement.ensures

pub turn_at-returns-else-is_true : goal.turn_at-returns-else-is_true
turn_at-returns-else-is_true t c =
    let f = c.args.setting.now in
    let old = c.args.self.now in
    let mid = with_held old c.set_scalar.new.self in
    let test : P.Expr = expr_of c.args.filter.now in
    let body : P.Stmt = stmt_of c.args.body.now in
    let split = turn-split f old c.set_scalar.new.self c.args.key c.args.iterator test body c.args.node c.set_scalar.ensures.store in
    let rest = rest-store f old.going c.set_scalar.new.self c.set_scalar.ensures.shape c.set_scalar.ensures.undo c.requires.rest in
    let p : State → S.Course = sequential body (run_of f) in
    let a : Answer = asked f c.args.key test (state_of f mid) in
    record { course = sym (split ∙ way-no a p S.Goes (state_of f mid) c.in-Ok.value (sym c.value.ensures ∙ c.in-Ok.is) (sym c.is_true.ensures ∙ c.if-is_true.false)); rest = rest }

pub turns-loop-node-init : goal.turns-loop-node-init
turns-loop-node-init t c =
    let f = c.args.setting.now in
    let count = node_count f.graph.now in
    let all : count - 0 ≡ count = omega arith in
    record {
      meaning = ap (λ (m : ℕ). in_turns (run_of f) (numbers_from 0 m) (turn_of (run_of f) c.args.key c.args.iterator (expr_of c.args.filter.now) (stmt_of c.args.body.now)) (state_of f c.args.self.now)) all;
      rest = c.requires.rest;
    }

pub turns-returns-then-not-begin_turn : goal.turns-returns-then-not-begin_turn
turns-returns-then-not-begin_turn t c =
    let f = c.args.setting.now in
    let count = node_count f.graph.now in
    let body : ℕ → State → S.Course = turn_of (run_of f) c.args.key c.args.iterator (expr_of c.args.filter.now) (stmt_of c.args.body.now) in
    let old = c.loop-node.self in
    let k = c.loop-node.node in
    let lt : k < count = omega (arith, c.loop-node-test.true, c.node_count-node-end.ensures.count) in
    record {
      course = sym (nodes-stop f count body old k lt (sym c.begin_turn.ensures.within ∙ c.if-not-begin_turn.true)) ∙ c.loop-node.invariant.meaning;
      rest = rest-begun f old c.begin_turn.new.self c.begin_turn.ensures.going c.loop-node.invariant.rest;
    }

pub turns-returns-in_default : goal.turns-returns-in_default
turns-returns-in_default t c =
    let f = c.args.setting.now in
    let count = node_count f.graph.now in
    let body : ℕ → State → S.Course = turn_of (run_of f) c.args.key c.args.iterator (expr_of c.args.filter.now) (stmt_of c.args.body.now) in
    let old = c.loop-node.self in
    let k = c.loop-node.node in
    let lt : k < count = omega (arith, c.loop-node-test.true, c.node_count-node-end.ensures.count) in
    let begun = c.begin_turn.new.self in
    let b = began f old begun c.begin_turn.result c.begin_turn.ensures.within c.begin_turn.ensures.turns c.begin_turn.ensures.going c.if-not-begin_turn.false in
    record {
      course = sym (nodes-end f count body old begun c.turn_at.new.self c.in_ok-course.course k lt b c.in_default.not-Goes c.in_ok-course.ensures) ∙ c.loop-node.invariant.meaning;
      rest = c.in_ok-course.ensures.rest;
    }

pub turns-loop-node-preserved : goal.turns-loop-node-preserved
turns-loop-node-preserved t c =
    let f = c.args.setting.now in
    let count = node_count f.graph.now in
    let body : ℕ → State → S.Course = turn_of (run_of f) c.args.key c.args.iterator (expr_of c.args.filter.now) (stmt_of c.args.body.now) in
    let old = c.loop-node.self in
    let k = c.loop-node.node in
    let lt : k < count = omega (arith, c.loop-node-test.true, c.node_count-node-end.ensures.count) in
    let begun = c.begin_turn.new.self in
    let b = began f old begun c.begin_turn.result c.begin_turn.ensures.within c.begin_turn.ensures.turns c.begin_turn.ensures.going c.if-not-begin_turn.false in
    let new = c.turn_at.new.self in
    let goes : Runs f begun new Goes (body k) = subst (λ (j : Course). Runs f begun new j (body k)) c.in-Goes.is c.in_ok-course.ensures in
    record {
      meaning = sym (nodes-next f count body old begun new k lt b goes) ∙ c.loop-node.invariant.meaning;
      rest = goes.rest;
    }

pub turns-returns : goal.turns-returns
turns-returns t c =
    let f = c.args.setting.now in
    let count = node_count f.graph.now in
    let body : ℕ → State → S.Course = turn_of (run_of f) c.args.key c.args.iterator (expr_of c.args.filter.now) (stmt_of c.args.body.now) in
    let old = c.loop-node.self in
    let k = c.loop-node.node in
    let past : count ≤ k = omega (arith, c.loop-node-test.false, c.node_count-node-end.ensures.count) in
    record {
      course = sym (ap (λ (ns : List ℕ). in_turns (run_of f) ns body (state_of f old)) (numbers-none k count past)) ∙ c.loop-node.invariant.meaning;
      rest = c.loop-node.invariant.rest;
    }

pub repeats_after-returns-then-not-begin_turn : goal.repeats_after-returns-then-not-begin_turn
repeats_after-returns-then-not-begin_turn t c =
    let f = c.args.setting.now in
    let old = c.args.self.now in
    let body : P.Stmt = stmt_of c.args.body.now in
    let test : P.Expr = expr_of c.args.test.now in
    record {
      course = do-stops f c.args.key c.args.place body test old (sym c.begin_turn.ensures.within ∙ c.if-not-begin_turn.true);
      rest = rest-begun f old c.begin_turn.new.self c.begin_turn.ensures.going c.requires.rest;
    }

pub repeats_after-returns-in-Goes : goal.repeats_after-returns-in-Goes
repeats_after-returns-in-Goes t c =
    let f = c.args.setting.now in
    let old = c.args.self.now in
    let body : P.Stmt = stmt_of c.args.body.now in
    let test : P.Expr = expr_of c.args.test.now in
    let begun = c.begin_turn.new.self in
    let b = began f old begun c.begin_turn.result c.begin_turn.ensures.within c.begin_turn.ensures.turns c.begin_turn.ensures.going c.if-not-begin_turn.false in
    let mid = c.statement.new.self in
    let new = c.repeats.new.self in
    let goes : Runs f begun mid Goes (sequential body (run_of f)) = subst (λ (k : Course). Runs f begun mid k (sequential body (run_of f))) c.in-Goes.is c.in_ok-course.ensures in
    if-ok c.repeats.result (λ k. Runs f mid new k (repeated (suc f.bound) (run_of f) (asked f c.args.key test) (sequential body (run_of f)))) (λ k. Runs f old new k (sequential (P.Do c.args.key c.args.place body test) (run_of f)))
    (λ k h. do-goes f c.args.key c.args.place body test old begun mid new k b goes h) c.repeats.ensures

pub repeats_after-returns-in_default : goal.repeats_after-returns-in_default
repeats_after-returns-in_default t c =
    let f = c.args.setting.now in
    let old = c.args.self.now in
    let body : P.Stmt = stmt_of c.args.body.now in
    let test : P.Expr = expr_of c.args.test.now in
    let begun = c.begin_turn.new.self in
    let b = began f old begun c.begin_turn.result c.begin_turn.ensures.within c.begin_turn.ensures.turns c.begin_turn.ensures.going c.if-not-begin_turn.false in
    do-ends f c.args.key c.args.place body test old begun c.statement.new.self c.in_ok-course.course b c.in_default.not-Goes c.in_ok-course.ensures

pub repeats-statement-requires : goal.repeats-statement-requires
repeats-statement-requires t c =
    (search rules, (rest-begun c.args.setting.now c.rounds.self c.begin_turn.new.self c.begin_turn.ensures.going c.rounds.invariant.rest, (c.requires.bound, c.requires.body_asked)))

pub repeats_after-repeats-requires : goal.repeats_after-repeats-requires
repeats_after-repeats-requires t c =
    (search rules, (c.in_ok-course.ensures.rest, (c.requires.bound, (c.requires.test_asked, c.requires.body_asked))))

pub turn_at-statement-requires : goal.turn_at-statement-requires
turn_at-statement-requires t c =
    (search rules, (rest-store c.args.setting.now c.args.self.now.going c.set_scalar.new.self c.set_scalar.ensures.shape c.set_scalar.ensures.undo c.requires.rest, (c.requires.bound, c.requires.body_asked)))

pub statement-returns-in-For : goal.statement-returns-in-For
statement-returns-in-For t c =
    let f = c.args.setting.now in
    let old = c.args.self.now in
    let new = c.turns.new.self in
    let r = c.in-For in
    if-ok c.turns.result
    (λ k. Runs f old new k (in_turns (run_of f) (nodes f.graph.now) (turn_of (run_of f) r.key r.head.iterator (expr_of r.filter) (stmt_of (box_value r.body)))))
    (λ k. Runs f old new k (sequential (stmt_of c.args.s.now) (run_of f)))
    (λ k h. rw (r.is, stmt_of-For) (record { course = h.course; rest = h.rest }))
    (rw c.deref-in-For.ensures at c.turns.ensures)

pub statement-returns-in-While : goal.statement-returns-in-While
statement-returns-in-While t c =
    let f = c.args.setting.now in
    let old = c.args.self.now in
    let new = c.repeats.new.self in
    let r = c.in-While in
    if-ok c.repeats.result
    (λ k. Runs f old new k (repeated (suc f.bound) (run_of f) (asked f r.key (expr_of r.test)) (sequential (stmt_of (box_value r.body)) (run_of f))))
    (λ k. Runs f old new k (sequential (stmt_of c.args.s.now) (run_of f)))
    (λ k h. rw (r.is, stmt_of-While) (record { course = h.course; rest = h.rest }))
    (rw c.deref-in-While.ensures at c.repeats.ensures)
