-- Before the first level.
use Rattle.std.proofs.Common.{◌≡◌, ◌<◌, ℕ, zero, suc, Bool, true, false, cond, [], ◌∷◌, refl, sym, ap, ◌∙◌, arith, Option, Some, None, Ok}
use Rattle.std.specs.Prelude.{pos, nat_eq}
use Rattle.std.proofs.lemmas.Bool.{eqb-true, eq-eqb}
use Rattle.gm_value.specs.declared.operations.Op2.TheVariants.{Eq}
use Rattle.gm_value.specs.declared.values.Value.TheVariants.{I32, Flag, At}
use Rattle.gm_value.specs.Operations.{is_true, result2}
use Rattle.gm_model.specs.Graphs.{node_count}
use Rattle.gm_ast.specs.declared.tree.Key.{Key}
use Rattle.gm_ast.specs.declared.tree.Target.TheVariants as T
use Rattle.gm_ast.specs.Program.{Expr, always, Live, Choose, Stmt, Skip, Then, Assign, sequence}
use Rattle.gm_semantics.specs.declared.slots.Slot.TheVariants.{Scalar}
use Rattle.gm_semantics.specs.Faults.{then_with}
use Rattle.gm_semantics.specs.Levels.{node_in, no_levels, level_of}
use Rattle.gm_semantics.specs.Stores.{Store, write}
use Rattle.gm_semantics.specs.Expressions.{View, Answer, node_held, plain, early, two_of, choice, located, evaluated}
use Rattle.gm_semantics.specs.Iterations.{begun, Outermost, view_in, assigned}
use Rattle.gm_semantics.specs.Statements.{Run, State, Goes, loop_of, view_of, with_value, with_store, then_do, writes, sequential}
use Rattle.gm_semantics.proofs.TargetLaws.{never}
use Rattle.gm_bfs.specs.declared.fresh.Fresh.{Fresh}
use Rattle.gm_bfs.specs.declared.fresh.Site.{Site}
use Rattle.gm_bfs.specs.Variables.{fresh_from, body_key}
use Rattle.gm_bfs.specs.Searches.{number, unreached, scalar, equal, set, set_at, first_levels, begin}
use Rattle.gm_bfs.proofs.LevelFacts.{root-level, level-zero}
use Rattle.gm_bfs.proofs.Cells.{int_eq-pos, cell, cell-found, cell-far}
use Rattle.gm_bfs.proofs.SimpleLoops.{assign-loop}
use Rattle.gm_bfs.proofs.Steps.{To, then-to, set-to, written, unwritten}

module _ (s : Site) (k : ℕ) (run : Run) (r : ℕ) (root : r < node_count run.graph) where
  abbrev f : Fresh
  f = fresh_from k

  abbrev lev : ℕ → Option ℕ
  lev = level_of run.graph r

  abbrev first : Expr
  first = Choose (equal s (scalar s f.node) (scalar s f.root)) (number 0) unreached

  -- the first level is that of the root
  first-cell : (n : ℕ) → cond {A = Answer} (nat_eq n r) (Ok (I32 (pos 0))) (Ok (I32 (pos 2147483647))) ≡ Ok (cell 0 (lev n))
  first-cell n = by (nat_eq n r) refl
    where
      by : (b : Bool) → nat_eq n r ≡ b → cond {A = Answer} b (Ok (I32 (pos 0))) (Ok (I32 (pos 2147483647))) ≡ Ok (cell 0 (lev n))
      by true e = let level = ap lev (eqb-true n r e) ∙ root-level run.graph r root in ap Ok (sym (ap (cell 0) level ∙ cell-found 0 0 (omega arith)))
      by false e = other (lev n) refl
        where
          other : (o : Option ℕ) → lev n ≡ o → ◌≡◌ {A = Answer} (Ok (I32 (pos 2147483647))) (Ok (cell 0 (lev n)))
          other None h = ap (λ o. Ok (cell 0 o)) (sym h)
          other (Some zero) h = never (eq-eqb n r (level-zero run.graph r root n h)) e
          other (Some (suc l)) h = ap Ok (sym (ap (cell 0) h ∙ cell-far 0 (suc l) (omega arith)))

  flag-way : (b : Bool) (u v : Answer) → cond (is_true (Flag b)) u v ≡ cond b u v
  flag-way true u v = refl
  flag-way false u v = refl

  first-told : (w : View) (n : ℕ) → w.store.scalar f.node ≡ At (Some n) → w.store.scalar f.root ≡ At (Some r) → evaluated first w ≡ plain (Ok (cell 0 (lev n)))
  first-told w n at is =
      ap (λ v. choice (two_of (plain (Ok v)) (plain (Ok (w.store.scalar f.root))) (λ a b. located w s.place (result2 Eq a b))) (plain (Ok (I32 (pos 0)))) (plain (Ok (I32 (pos 2147483647))))) at
      ∙ ap (λ v. choice (two_of (plain (Ok (At (Some n)))) (plain (Ok v)) (λ a b. located w s.place (result2 Eq a b))) (plain (Ok (I32 (pos 0)))) (plain (Ok (I32 (pos 2147483647))))) is
      ∙ ap (λ b. plain (cond (is_true (Flag b)) (Ok (I32 (pos 0))) (Ok (I32 (pos 2147483647))))) (int_eq-pos n r)
      ∙ ap plain (flag-way (nat_eq n r) (Ok (I32 (pos 0))) (Ok (I32 (pos 2147483647))) ∙ first-cell n)

  -- what stands then
  pub record Begun (t u : Store) : Type 0 where
    pub scalar : (y : ℕ) → y < k → u.scalar y ≡ t.scalar y
    pub node : (p m : ℕ) → p < k → u.node p m ≡ t.node p m
    pub edge : u.edge ≡ t.edge
    pub found : (m : ℕ) → m < node_count run.graph → u.node f.level m ≡ cell 0 (lev m)
    pub current : u.scalar f.current ≡ I32 (pos 0)
    pub more : u.scalar f.more ≡ Flag true

  pub begins : (key : Key) (y : ℕ) (ts : State) → node_in run.graph (ts.store.scalar y) ≡ Some r → (u : Store) × To run (begin s f key y) ts u × Begun ts.store u
  begins key y ts holds =
      let w = view_of run ts key in
      let t1 = write ts.store (Scalar f.root) (At (Some r)) in
      let at : Store → State = λ t. record ts { store = t } in
      let one : To run (Assign key (T.Scalar f.root s.place) (Live y s.place)) ts t1 =
      ap (λ o. writes ts (assigned w (T.Scalar f.root s.place) (early (then_with (node_held w s.place o) (λ n. Ok (At (Some n))))))) holds in
      let q = assign-loop s f run f.level first (λ n. cell 0 (lev n)) t1 (λ n b.
      let v = view_in (loop_of run no_levels f.node (set_at s f.node f.level first)) Outermost (begun (write t1 (Scalar f.node) (At (Some n)))) (body_key s) in
      first-told v n (written t1 f.node (At (Some n))) (unwritten t1 f.node f.root (At (Some n)) (λ e. omega arith) ∙ written ts.store f.root (At (Some r)))) in
      let t2 = q.0 in
      let t3 = write t2 (Scalar f.current) (I32 (pos 0)) in
      let t4 = write t3 (Scalar f.more) (Flag true) in (
        t4,
        then-to run (Assign key (T.Scalar f.root s.place) (Live y s.place)) (sequence (first_levels s f ∷ set s f.current (number 0) ∷ set s f.more always ∷ [])) ts t1 one
            ∙ then-to run (first_levels s f) (sequence (set s f.current (number 0) ∷ set s f.more always ∷ [])) (at t1) t2 (ap (λ c. with_value c (with_store (at t1))) q.1)
            ∙ then-to run (set s f.current (number 0)) (sequence (set s f.more always ∷ [])) (at t2) t3 (set-to run s f.current (number 0) (I32 (pos 0)) (at t2) refl)
            ∙ then-to run (set s f.more always) Skip (at t3) t4 (set-to run s f.more always (Flag true) (at t3) refl),
        record {
          scalar = λ z b.
              unwritten t3 f.more z (Flag true) (λ e. omega arith) ∙ unwritten t2 f.current z (I32 (pos 0)) (λ e. omega arith) ∙ q.2.scalar z
              ∙ unwritten ts.store f.root z (At (Some r)) (λ e. omega arith);
          node = λ p m b. q.2.others p m (λ e. omega arith);
          edge = q.2.edge;
          found = λ m b. q.2.value m b;
          current = unwritten t3 f.more f.current (Flag true) (λ e. omega arith) ∙ written t2 f.current (I32 (pos 0));
          more = written t3 f.more (Flag true);
        },
      )

-- where the root is no node, the search faults
pub begin-faults : (s : Site) (k : ℕ) (run : Run) (key : Key) (y : ℕ) (ts : State) (rest : Stmt) → node_in run.graph (ts.store.scalar y) ≡ None →
    sequential (Then (begin s (fresh_from k) key y) rest) run ts ≡ with_value {A = ℕ} (node_held (view_of run ts key) s.place None) (λ n. Goes ts)
begin-faults s k run key y ts rest none =
    ap (λ o. then_do (then_do (writes ts (assigned (view_of run ts key) (T.Scalar (fresh_from k).root s.place) (early (then_with (node_held (view_of run ts key) s.place o) (λ n. Ok (At (Some n))))))) (sequential (sequence (first_levels s (fresh_from k) ∷ set s (fresh_from k).current (number 0) ∷ set s (fresh_from k).more always ∷ [])) run)) (sequential rest run)) none
