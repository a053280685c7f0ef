use Rattle.std.proofs.Common.{◌≡◌, ◌∙◌, ◌≤◌, ◌+◌, ◌<◌, ℕ, Bool, List, [], ◌∷◌, drop, get_or, length, map, None, Option, take, refl, ap, sym, subst, rules}
use Rattle.std.proofs.lemmas.List.{take_all}
use Rattle.gm_model.specs.Graphs.{Step}
use Rattle.gm_ast.specs.declared.tree.Stmt as S
use Rattle.gm_ast.specs.declared.tree.Stmt.{the_lemmas as stmt_lemmas}
use Rattle.gm_ast.specs.Program as P
use Rattle.gm_ast.specs.Tree.{expr_of, stmt_of}
use Rattle.gm_semantics.specs.declared.faults.Fault.{Fault}
use Rattle.gm_semantics.specs.Expressions.{steps_in, value}
use Rattle.gm_semantics.specs.Iterations as I
use Rattle.gm_semantics.specs.Iterations.{Iteration, does, failed, begun, inner_done, turn_at, view_in}
use Rattle.gm_semantics.specs.Stores.{Store}
use Rattle.gm_store.specs.Held.{shape_of}
use Rattle.gm_store.specs.Laws.{IsRolledBack}
use Rattle.gm_loops.specs.declared.goings.Going.{Going}
use Rattle.gm_loops.specs.declared.ranges.Hop.{Hop}
use Rattle.gm_loops.specs.declared.sights.Sight.{Sight}
use Rattle.gm_graph.specs.Walks.{edge_at}
use Rattle.gm_graph.specs.Serving.{Serve}
use Rattle.gm_loops.specs.Asking.{goes_outward}
use Rattle.gm_loops.specs.Around.{loop_of, mode_in}
use Rattle.gm_loops.specs.Bounds.{bound_of}
use Rattle.gm_loops.specs.Goings.{Does}
use Rattle.gm_loops.specs.Parts.{sooner}
use Rattle.gm_loops.specs.Ranges.{step_of}
use Rattle.gm_loops.specs.Scopes.{no_scope}
use Rattle.gm_loops.specs.Sights.{view_of}
use Rattle.gm_loops.specs.Turns.{Begins, DoesTurn, DoesTurns, Keeps, inner_turn, seen}
use Rattle.gm_loops.proofs.Closing.{inner-done}
use Rattle.gm_loops.proofs.Serving.{stmt_item}
use Rattle.gm_loops.proofs.Effects.{does-as}
use Rattle.gm_loops.proofs.Statements.{below-right, drop-end, drop-next, if-fault, if-no, if-yes, item_bound}
use Rattle.gm_loops.proofs.Trees.{stmt_of-Foreach, stmt_of-If}
use Rattle.gm_loops.proofs.Turning.{has-fault, no-fault, ready-same, turns-at, turns-kept, turns-step, does-none, does-stop, does-then, turn-passed, turn-skipped, turns-anywhere, taken-more, turns-none, turns-once}
use Rattle.gm_loops.proofs.goings.Going.+doing.Goals as goal
use Rattle.gm_loops.proofs.goings.Going.+doing.Goals.{long_inner_turn-then-branch+in_ok-does, long_inner_turn-else-branch}

pub does-returns-in_ok-does-in-Ok : goal.does-returns-in_ok-does-in-Ok
does-returns-in_ok-does-in-Ok t c =
    let a = c.args.around.now in
    let m : I.Mode = mode_in a c.args.mode in
    let i = c.in-If in
    let first : P.Stmt = stmt_of i.yes.value in
    let other : P.Stmt = stmt_of i.no.value in
    let test : P.Expr = expr_of i.test in
    let store = c.args.self.now.store in
    subst (λ (s : P.Stmt). Does a.setting.now m c.args.self.now c.does.new.self (does s m (loop_of a))) (sym (ap stmt_of i.is ∙ stmt_of-If i.key i.test i.yes i.no))
    (does-as a.setting.now m c.args.self.now c.does.new.self (λ it. does first m (loop_of a) it) (λ it. does (P.If i.key test first other) m (loop_of a) it)
    (subst (λ (s : S.Stmt). Does a.setting.now m c.args.self.now c.does.new.self (does (stmt_of s) m (loop_of a))) c.deref.ensures c.in_ok-does-in-Ok.ensures)
    (λ it h. if-yes a c.args.mode i.key test first other store c.in-Ok.holds it
    (sym c.in-Ok.is ∙ c.value.ensures ∙ ap (λ (s : Sight). value test (view_of s no_scope store)) c.sight.ensures)
    (sym c.is_true.ensures ∙ c.if-is_true.true) h))

pub does-returns-in_ok-does-in-Ok-2 : goal.does-returns-in_ok-does-in-Ok-2
does-returns-in_ok-does-in-Ok-2 t c =
    let a = c.args.around.now in
    let m : I.Mode = mode_in a c.args.mode in
    let i = c.in-If in
    let first : P.Stmt = stmt_of i.yes.value in
    let other : P.Stmt = stmt_of i.no.value in
    let test : P.Expr = expr_of i.test in
    let store = c.args.self.now.store in
    let new = c.does-else-is_true.new.self in
    subst (λ (s : P.Stmt). Does a.setting.now m c.args.self.now new (does s m (loop_of a))) (sym (ap stmt_of i.is ∙ stmt_of-If i.key i.test i.yes i.no))
    (does-as a.setting.now m c.args.self.now new (λ it. does other m (loop_of a) it) (λ it. does (P.If i.key test first other) m (loop_of a) it)
    (subst (λ (s : S.Stmt). Does a.setting.now m c.args.self.now new (does (stmt_of s) m (loop_of a))) c.deref-else-is_true.ensures c.in_ok-does-in-Ok-2.ensures)
    (λ it h. if-no a c.args.mode i.key test first other store c.in-Ok.holds it
    (sym c.in-Ok.is ∙ c.value.ensures ∙ ap (λ (s : Sight). value test (view_of s no_scope store)) c.sight.ensures)
    (sym c.is_true.ensures ∙ c.if-is_true.false) h))

pub does-returns-in-Err : goal.does-returns-in-Err
does-returns-in-Err t c =
    let a = c.args.around.now in
    let m : I.Mode = mode_in a c.args.mode in
    let i = c.in-If in
    let first : P.Stmt = stmt_of i.yes.value in
    let other : P.Stmt = stmt_of i.no.value in
    let test : P.Expr = expr_of i.test in
    let store = c.args.self.now.store in
    subst (λ (s : P.Stmt). Does a.setting.now m c.args.self.now c.fail.new.self (does s m (loop_of a))) (sym (ap stmt_of i.is ∙ stmt_of-If i.key i.test i.yes i.no))
    (does-as a.setting.now m c.args.self.now c.fail.new.self (λ it. failed it c.in-Err.fault) (λ it. does (P.If i.key test first other) m (loop_of a) it)
    (c.fail.ensures a.setting.now m)
    (λ it h. if-fault a c.args.mode i.key test first other store c.in-Err.fault it
    (sym c.in-Err.is ∙ c.value.ensures ∙ ap (λ (s : Sight). value test (view_of s no_scope store)) c.sight.ensures) h))

pub does-returns-in_ok-inner_loop-in-Foreach : goal.does-returns-in_ok-inner_loop-in-Foreach
does-returns-in_ok-inner_loop-in-Foreach t c =
    let a = c.args.around.now in
    let l = c.in-Foreach in
    let new = c.inner_loop.new.self in
    subst (λ (m : I.Mode). Does a.setting.now m c.args.self.now new (does (stmt_of c.args.s.now) m (loop_of a))) (sym (ap (mode_in a) c.in-Outermost-mode.is))
    (subst (λ (s : P.Stmt). Does a.setting.now I.Outermost c.args.self.now new (does s I.Outermost (loop_of a)))
    (sym (ap stmt_of l.is ∙ stmt_of-Foreach l.key l.place l.head l.filter l.body))
    (subst (λ (s : S.Stmt). Does a.setting.now I.Outermost c.args.self.now new (does (P.Foreach l.key l.place l.head (expr_of l.filter) (stmt_of s)) I.Outermost (loop_of a)))
    c.deref-in-Outermost-mode.ensures (c.in_ok-inner_loop-in-Foreach.ensures l.place)))

pub does_all-does-requires : goal.does_all-does-requires
does_all-does-requires t c =
    let f = c.args.around.now.setting.now in
    let bound : bound_of (stmt_of c.stmt-item.result) ≤ f.variables =
    item_bound _ _ c.loop-stmt.stmt-index _ _ c.deref-stmt-items.ensures.value c.loop-stmt-test.true c.stmt-item.is c.loop-stmt.invariant.bound in
    let asked : Serve f.in_rows.now (goes_outward (stmt_of c.stmt-item.result)) =
    stmt_item _ _ _ c.loop-stmt.stmt-index _ c.deref-stmt-items.ensures.value c.loop-stmt-test.true c.stmt-item.is c.requires.asked in
    (search (rules, stmt_lemmas), (c.loop-stmt.invariant.ready, (bound, asked)))

pub does_all-loop-stmt-init : goal.does_all-loop-stmt-init
does_all-loop-stmt-init t c = record { ready = c.requires.ready; bound = c.requires.bound; rest = λ new h. h }

left : (stmts : List S.Stmt) (i : ℕ) (x : S.Stmt) → i < length stmts → x ≡ get_or stmts i x → P.sequence (map stmt_of (drop i stmts)) ≡ P.Then (stmt_of x) (P.sequence (map stmt_of (drop (i + 1) stmts)))
left stmts i x lt e = ap (λ (ss : List S.Stmt). P.sequence (map stmt_of ss)) (drop-next stmts i x lt ∙ ap (λ (y : S.Stmt). y ∷ drop (i + 1) stmts) (sym e))

pub does_all-returns-then-is_some : goal.does_all-returns-then-is_some
does_all-returns-then-is_some t c =
    let a = c.args.around.now in
    let f = a.setting.now in
    let m : I.Mode = mode_in a c.args.mode in
    let items = c.args.stmts.now.items in
    let i = c.loop-stmt.stmt-index in
    let lt : i < length items = subst (λ (l : List S.Stmt). i < length l) c.deref-stmt-items.ensures.value c.loop-stmt-test.true in
    let at : c.stmt-item.result ≡ get_or items i c.stmt-item.result = c.stmt-item.is ∙ ap (λ (l : List S.Stmt). get_or l i c.stmt-item.result) c.deref-stmt-items.ensures.value in
    let rest : P.Stmt = P.sequence (map stmt_of (drop (i + 1) items)) in
    let some = has-fault c.does.new.self.fault (sym c.if-is_some.true ∙ c.is_some.ensures) in
    c.loop-stmt.invariant.rest c.does.new.self
    (subst (λ (s : P.Stmt). Does f m c.loop-stmt.self c.does.new.self (does s m (loop_of a))) (sym (left items i c.stmt-item.result lt at))
    (does-stop f m c.loop-stmt.self c.does.new.self (does (stmt_of c.stmt-item.result) m (loop_of a)) (does rest m (loop_of a)) some.0 c.in_ok-does.ensures some.1))

pub does_all-loop-stmt-preserved : goal.does_all-loop-stmt-preserved
does_all-loop-stmt-preserved t c =
    let a = c.args.around.now in
    let f = a.setting.now in
    let m : I.Mode = mode_in a c.args.mode in
    let items = c.args.stmts.now.items in
    let i = c.loop-stmt.stmt-index in
    let lt : i < length items = subst (λ (l : List S.Stmt). i < length l) c.deref-stmt-items.ensures.value c.loop-stmt-test.true in
    let at : c.stmt-item.result ≡ get_or items i c.stmt-item.result = c.stmt-item.is ∙ ap (λ (l : List S.Stmt). get_or l i c.stmt-item.result) c.deref-stmt-items.ensures.value in
    let split = left items i c.stmt-item.result lt at in
    let rest : P.Stmt = P.sequence (map stmt_of (drop (i + 1) items)) in
    record {
      ready = c.in_ok-does.ensures.ready c.loop-stmt.invariant.ready;
      bound = below-right _ _ _ (subst (λ (s : P.Stmt). bound_of s ≤ f.variables) split c.loop-stmt.invariant.bound);
      rest = λ new h. c.loop-stmt.invariant.rest new
          (subst (λ (s : P.Stmt). Does f m c.loop-stmt.self new (does s m (loop_of a))) (sym split)
          (does-then f m c.loop-stmt.self c.does.new.self new (does (stmt_of c.stmt-item.result) m (loop_of a)) (does rest m (loop_of a)) c.in_ok-does.ensures
          (no-fault c.does.new.self.fault (sym c.if-is_some.false ∙ c.is_some.ensures)) h));
    }

pub does_all-returns : goal.does_all-returns
does_all-returns t c =
    let a = c.args.around.now in
    let f = a.setting.now in
    let m : I.Mode = mode_in a c.args.mode in
    let items = c.args.stmts.now.items in
    let i = c.loop-stmt.stmt-index in
    let ge : length items ≤ i = subst (λ (l : List S.Stmt). length l ≤ i) c.deref-stmt-items.ensures.value c.loop-stmt-test.false in
    c.loop-stmt.invariant.rest c.loop-stmt.self
    (subst (λ (ss : List S.Stmt). Does f m c.loop-stmt.self c.loop-stmt.self (does (P.sequence (map stmt_of ss)) m (loop_of a))) (sym (drop-end items i ge))
    (does-none f m c.loop-stmt.self))

pub inner_loop-returns : goal.inner_loop-returns
inner_loop-returns t c = λ at.
    let a = c.args.around.now in
    inner-done a c.args.self.now c.inner_turns.new.self c.close_inner.new.self c.in_ok-least.least
    (λ s. map (λ step. inner_turn (loop_of a) c.args.key (expr_of c.args.filter.now) (stmt_of c.args.body.now) c.args.head.now.iterator step s)
    (steps_in (view_in (loop_of a) I.Outermost (begun s) c.args.key) c.args.head.now))
    c.in_ok-least.ensures (c.in_ok-close_inner.ensures a.setting.now)

pub inner_turn-returns-in_ok-take-in-Some : goal.inner_turn-returns-in_ok-take-in-Some
inner_turn-returns-in_ok-take-in-Some t c =
    let a = c.args.around.now in
    c.in_ok-take-in-Some.ensures a.setting.now (I.AtEdge 0)
    (λ s. inner_turn (loop_of a) c.args.key (expr_of c.args.filter.now) (stmt_of c.args.body.now) c.args.iterator (step_of a.setting.now.graph.now c.args.hop) s)
    _ c.in-Some.ensures.turn

pub long_inner_turn-returns : goal.long_inner_turn-returns
long_inner_turn-returns t c =
    let a = c.args.around.now in
    let f = a.setting.now in
    let m : I.Mode = I.AtEdge (edge_at f.graph.now c.args.hop.row) in
    let test : P.Expr = expr_of c.args.filter.now in
    let body : Iteration → Iteration = does (stmt_of c.args.body.now) m (loop_of a) in
    let turn : (Iteration → Iteration) → Store → Iteration = λ b s. turn_at (loop_of a) m c.args.key test b c.args.iterator c.args.hop.node s in
    let begins : Begins f m c.args.self.now c.begins.new.self c.in_ok-begins.field-0 turn = c.in_ok-begins.ensures in
    let done : DoesTurn f m c.args.self.now c.if-branch.self (turn body) =
    elim c.if-branch.branch [
      | long_inner_turn-then-branch+in_ok-does w ↦ (subst (λ (g : Going). DoesTurn f m c.args.self.now g (turn body)) (sym w.self-is)
          (turn-passed f m c.args.self.now c.begins.new.self w.does.new.self turn body
          (subst (λ (p : Bool). Begins f m c.args.self.now c.begins.new.self p turn) w.if-branch.true begins) w.in_ok-does.ensures))
      | long_inner_turn-else-branch w ↦ (subst (λ (g : Going). DoesTurn f m c.args.self.now g (turn body)) (sym w.self-is)
          (turn-skipped f m c.args.self.now c.begins.new.self turn body
          (subst (λ (p : Bool). Begins f m c.args.self.now c.begins.new.self p turn) w.if-branch.false begins)))
    ] in
    turns-anywhere f (edge_at f.graph.now c.args.hop.row) 0 c.args.self.now _ _ (λ s. turn body s ∷ [])
    (turns-once f m c.args.self.now c.if-branch.self _ (turn body) done
    (subst (λ (mark : ℕ). IsRolledBack mark c.if-branch.self.store c.roll_back.new.self) c.mark-mark.ensures
    (record { store = c.in_ok-roll_back.ensures.store; undo = c.in_ok-roll_back.ensures.undo; shape = c.in_ok-roll_back.ensures.shape }))
    refl refl refl refl)

pub inner_turns-loop-hop-init : goal.inner_turns-loop-hop-init
inner_turns-loop-hop-init t c =
    let f = c.args.around.now.setting.now in
    let old = c.args.self.now in
    let new = c.inner_steps.new.self in
    let k : Keeps old new = c.in_ok-hops.ensures.keeps in
    record {
      ready = ready-same f old new (ap shape_of k.store) k.inner k.outermost k.deferred c.requires.ready;
      turns = turns-kept f (I.AtEdge 0) old old new None (λ s. []) k (turns-none f (I.AtEdge 0) old);
    }

pub inner_turns-loop-hop-preserved : goal.inner_turns-loop-hop-preserved
inner_turns-loop-hop-preserved t c =
    let a = c.args.around.now in
    let f = a.setting.now in
    let turn : Step → Store → Iteration = λ step s. inner_turn (loop_of a) c.args.key (expr_of c.args.filter.now) (stmt_of c.args.body.now) c.args.head.now.iterator step s in
    let h = c.loop-hop.invariant in
    let items : List Hop = c.deref-hop-items.result.now in
    let i = c.loop-hop.hop-index in
    let none : Hop = record { node = 0; row = None } in
    let hop : Hop = get_or items i none in
    record {
      ready = c.in_ok-inner_turn.ensures.ready h.ready;
      turns =
          subst (λ (o : Option Fault). DoesTurns f (I.AtEdge 0) c.args.self.now c.inner_turn.new.self o (λ s. map (λ y. turn y s) (map (step_of f.graph.now) (take (i + 1) items)))) (sym c.keep_least.ensures)
          (subst (λ (steps : List Step). DoesTurns f (I.AtEdge 0) c.args.self.now c.inner_turn.new.self (sooner c.loop-hop.least c.inner_turn.new.self.fault) (λ s. map (λ y. turn y s) steps))
          (sym (taken-more (step_of f.graph.now) items i none c.loop-hop-test.true))
          (turns-step f (I.AtEdge 0) c.args.self.now c.loop-hop.self c.inner_turn.new.self c.loop-hop.least c.inner_turn.new.self.fault turn (map (step_of f.graph.now) (take i items)) (step_of f.graph.now hop) h.turns c.in_ok-inner_turn.ensures));
    }

pub inner_turns-returns : goal.inner_turns-returns
inner_turns-returns t c =
    let a = c.args.around.now in
    let f = a.setting.now in
    let old = c.args.self.now in
    let last = c.loop-hop.self in
    let turn : Step → Store → Iteration = λ step s. inner_turn (loop_of a) c.args.key (expr_of c.args.filter.now) (stmt_of c.args.body.now) c.args.head.now.iterator step s in
    let items : List Hop = c.deref-hop-items.result.now in
    let all : map (step_of f.graph.now) (take c.loop-hop.hop-index items) ≡ steps_in (view_in (loop_of a) I.Outermost (begun (seen f old)) c.args.key) c.args.head.now =
    ap (map (step_of f.graph.now)) (take_all c.loop-hop.hop-index items c.loop-hop-test.false ∙ c.deref-hop-items.ensures.value) ∙ c.in_ok-hops.ensures.steps in
    turns-kept f (I.AtEdge 0) old last _ c.loop-hop.least
    (λ s. map (λ step. turn step s) (steps_in (view_in (loop_of a) I.Outermost (begun s) c.args.key) c.args.head.now))
    (record { store = refl; inner = refl; outermost = refl; deferred = refl; fault = refl })
    (turns-at f (I.AtEdge 0) old last c.loop-hop.least (λ s. map (λ step. turn step s) (map (step_of f.graph.now) (take c.loop-hop.hop-index items)))
    (λ s. map (λ step. turn step s) (steps_in (view_in (loop_of a) I.Outermost (begun s) c.args.key) c.args.head.now))
    (ap (λ (l : List Step). map (λ step. turn step (seen f old)) l) all) c.loop-hop.invariant.turns)
