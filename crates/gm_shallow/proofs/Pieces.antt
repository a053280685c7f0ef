-- Bodies in pieces add a level for each If around a piece, and one for the other side of a condition.
use Rattle.std.proofs.Common.{◌≡◌, ◌≤◌, ◌+◌, ℕ, suc, Bool, true, false, cond, List, [], ◌∷◌, ◌++◌, map, arith}
use Rattle.gm_base.specs.declared.places.Place.{Place}
use Rattle.gm_value.specs.declared.operations.Op1.TheVariants.{Not}
use Rattle.gm_ast.specs.declared.tree.Head.{Head}
use Rattle.gm_ast.specs.declared.tree.Key.{Key}
use Rattle.gm_ast.specs.Program.{Expr, Unary, Both, Stmt, Skip, Then, Foreach, For, If, While, Do, Program, sequence}
use Rattle.gm_forms.specs.Cut.{is_own_loop}
use Rattle.gm_loop_laws.specs.Pieces.{Piece, piece, pieces_of}
use Rattle.gm_dissect.specs.Loops.{each_loop}
use Rattle.gm_cut.specs.Runs.{before, placed, gathered, joins_run, with_runs}
use Rattle.gm_cut.specs.Parts.{parts_of, piece_loop, parted_loop, in_pieces}
use Rattle.gm_depth.specs.Depths.{depth, all_within}
use Rattle.gm_depth.specs.Nesting.{body_nesting, nesting}
use Rattle.gm_depth.proofs.Limits.{Within, AllWithin, parts, whole, longer-one, longer}
use Rattle.gm_shallow.proofs.Statements.{Several, several-both, sequence-within}
use Rattle.gm_shallow.proofs.Nesting.{EachInside, inside-both, sequence-inside}

-- ---- runs of own statements in blocks

module _ (own : Stmt → Bool) (joins : List Stmt → Stmt → Bool) where
  module _ (n : ℕ) where
    before-within : (run : List Stmt) (s : Stmt) → Several n run → AllWithin n s → AllWithin n (before own joins run s)
    before-within [] s h k = k
    before-within (x ∷ xs) s h k = (sequence-within n (x ∷ xs) h, k)

    placed-within : (joined alone : Bool) (run : List Stmt) (s t : Stmt) (rest : List Stmt → Stmt) → Several n run → AllWithin n s → AllWithin n t → ((r : List Stmt) → Several n r → AllWithin n (rest r)) → AllWithin n (placed own joins joined alone run s t rest)
    placed-within true alone run s t rest h k l g = g (run ++ (s ∷ [])) (several-both n run (s ∷ []) h (k, tt))
    placed-within false true run s t rest h k l g = before-within run (rest (s ∷ [])) h (g (s ∷ []) (k, tt))
    placed-within false false run s t rest h k l g = before-within run (Then t (rest [])) h (l, g [] tt)

    gathered-within : (s : Stmt) (run : List Stmt) (rest : List Stmt → Stmt) → AllWithin n s → Several n run → ((r : List Stmt) → Several n r → AllWithin n (rest r)) → AllWithin n (gathered own joins s run rest)
    gathered-within Skip run rest h k g = g run k
    gathered-within (Then a b) run rest h k g = gathered-within a run (λ r. gathered own joins b r rest) h.0 k (λ r l. gathered-within b r rest h.1 l g)
    gathered-within (If key c a b) run rest h k g =
        placed-within (joins run (If key c a b)) (own (If key c a b)) run (If key c a b) (If key c (gathered own joins a [] sequence) (gathered own joins b [] sequence)) rest k h
        (h.0, (gathered-within a [] sequence h.1.0 tt (sequence-within n), gathered-within b [] sequence h.1.1 tt (sequence-within n))) g
    gathered-within s run rest h k g = placed-within (joins run s) (own s) run s s rest k h h g

  module _ (m : ℕ) where
    before-nests : (run : List Stmt) (s : Stmt) → EachInside m run → body_nesting s ≤ m → body_nesting (before own joins run s) ≤ m
    before-nests [] s h k = k
    before-nests (x ∷ xs) s h k = let u : body_nesting (sequence (x ∷ xs)) ≤ m = sequence-inside m (x ∷ xs) h in omega arith

    placed-nests : (joined alone : Bool) (run : List Stmt) (s t : Stmt) (rest : List Stmt → Stmt) → EachInside m run → body_nesting s ≤ m → body_nesting t ≤ m → ((r : List Stmt) → EachInside m r → body_nesting (rest r) ≤ m) → body_nesting (placed own joins joined alone run s t rest) ≤ m
    placed-nests true alone run s t rest h k l g = g (run ++ (s ∷ [])) (inside-both m run (s ∷ []) h (k, tt))
    placed-nests false true run s t rest h k l g = before-nests run (rest (s ∷ [])) h (g (s ∷ []) (k, tt))
    placed-nests false false run s t rest h k l g = before-nests run (Then t (rest [])) h (let u : body_nesting (rest []) ≤ m = g [] tt in omega arith)

  gathered-nests : (m : ℕ) (s : Stmt) (run : List Stmt) (rest : List Stmt → Stmt) → body_nesting s ≤ m → EachInside m run → ((r : List Stmt) → EachInside m r → body_nesting (rest r) ≤ m) → body_nesting (gathered own joins s run rest) ≤ m
  gathered-nests m Skip run rest h k g = g run k
  gathered-nests m (Then a b) run rest h k g = gathered-nests m a run (λ r. gathered own joins b r rest) (omega arith) k (λ r l. gathered-nests m b r rest (omega arith) l g)
  gathered-nests m (If key c a b) run rest h k g =
      let i = body_nesting a in
      let j = body_nesting b in
      let u : body_nesting (gathered own joins a [] sequence) ≤ body_nesting a = gathered-nests i a [] sequence (omega arith) tt (sequence-inside i) in
      let v : body_nesting (gathered own joins b [] sequence) ≤ body_nesting b = gathered-nests j b [] sequence (omega arith) tt (sequence-inside j) in
      placed-nests m (joins run (If key c a b)) (own (If key c a b)) run (If key c a b) (If key c (gathered own joins a [] sequence) (gathered own joins b [] sequence)) rest k h (omega arith) g
  gathered-nests m s run rest h k g = placed-nests m (joins run s) (own s) run s s rest k h h g

runs-within : (n i : ℕ) (body : Stmt) → AllWithin n body → AllWithin n (with_runs i body)
runs-within n i body h = gathered-within (is_own_loop i) (joins_run i) n body [] sequence h tt (sequence-within n)

runs-nest : (i : ℕ) (body : Stmt) → body_nesting (with_runs i body) ≤ body_nesting body
runs-nest i body = let m = body_nesting body in gathered-nests (is_own_loop i) (joins_run i) m body [] sequence (omega arith) tt (sequence-inside m)

-- ---- pieces

-- each of some pieces is within a limit, with its mask
abbrev EachPiece : ℕ → List Piece → Type 0
EachPiece m [] = Unit {0}
EachPiece m (p ∷ ps) = (Within m p.mask × AllWithin m p.part) × EachPiece m ps

pieces-both : (m : ℕ) (xs ys : List Piece) → EachPiece m xs → EachPiece m ys → EachPiece m (xs ++ ys)
pieces-both m [] ys h k = k
pieces-both m (x ∷ xs) ys h k = (h.0, pieces-both m xs ys h.1 k)

either-piece : (m : ℕ) (first : Bool) (xs ys : List Piece) → EachPiece m xs → EachPiece m ys → EachPiece m (cond first xs ys)
either-piece m true xs ys h k = h
either-piece m false xs ys h k = k

module _ (whole : Stmt → Bool) (place : Place) (n m : ℕ) where
  one-within : (mask : Expr) (s : Stmt) → depth mask + body_nesting s ≤ m → suc n + body_nesting s ≤ m → AllWithin n s → EachPiece m (piece mask s)
  one-within mask s h k x = ((omega arith, longer n m (omega arith) s x), tt)

  -- where a mask has room for a level of each If in a part
  pieces-within : (mask : Expr) (s : Stmt) → depth mask + body_nesting s ≤ m → suc n + body_nesting s ≤ m → AllWithin n s → EachPiece m (pieces_of whole place mask s)
  pieces-within mask Skip h k x = tt
  pieces-within mask (Then a b) h k x =
      either-piece m (whole (Then a b)) (piece mask (Then a b)) (pieces_of whole place mask a ++ pieces_of whole place mask b) (one-within mask (Then a b) h k x)
      (pieces-both m (pieces_of whole place mask a) (pieces_of whole place mask b) (pieces-within mask a (omega arith) (omega arith) x.0) (pieces-within mask b (omega arith) (omega arith) x.1))
  pieces-within mask (If key c a b) h k x =
      let low : depth c ≤ n = x.0 in
      let one-side = Both mask c in
      let other-side = Both mask (Unary Not place c) in
      either-piece m (whole (If key c a b)) (piece mask (If key c a b)) (pieces_of whole place one-side a ++ pieces_of whole place other-side b) (one-within mask (If key c a b) h k x)
      (pieces-both m (pieces_of whole place one-side a) (pieces_of whole place other-side b) (pieces-within one-side a (omega arith) (omega arith) x.1.0) (pieces-within other-side b (omega arith) (omega arith) x.1.1))
  pieces-within mask s h k x = one-within mask s h k x

loops-within : (m : ℕ) (k : Key) (at : Place) (hd : Head) (ps : List Piece) → EachPiece m ps → AllWithin m (sequence (map (piece_loop k at hd) ps))
loops-within m k at hd [] h = tt
loops-within m k at hd (p ∷ ps) h = (h.0, loops-within m k at hd ps h.1)

module _ (n l : ℕ) where
  more : n ≤ suc (n + l)
  more = omega arith

  loop-within : (k : Key) (at : Place) (hd : Head) (mask : Expr) (body : Stmt) → Within n mask → AllWithin n body → body_nesting body ≤ l → AllWithin (suc (n + l)) (parted_loop k at hd mask body)
  loop-within k at hd mask body h x few = by (is_own_loop hd.iterator body)
    where
      runs : Stmt
      runs = with_runs hd.iterator body

      few-runs : body_nesting runs ≤ l
      few-runs = let u : body_nesting runs ≤ body_nesting body = runs-nest hd.iterator body in omega arith

      by : (own : Bool) → AllWithin (suc (n + l)) (cond own (Foreach k at hd mask body) (sequence (map (piece_loop k at hd) (parts_of hd.iterator at mask body))))
      by true = (longer-one n (suc (n + l)) more mask h, longer n (suc (n + l)) more body x)
      by false =
          let u : body_nesting runs ≤ l = few-runs in
          loops-within (suc (n + l)) k at hd (parts_of hd.iterator at mask body)
          (pieces-within (is_own_loop hd.iterator) at n (suc (n + l)) mask runs (omega arith) (omega arith) (runs-within n hd.iterator body x))

  phase-within : (s : Stmt) → nesting s ≤ l → AllWithin n s → AllWithin (suc (n + l)) (each_loop parted_loop s)
  phase-within (Then a b) few h = (phase-within a (omega arith) h.0, phase-within b (omega arith) h.1)
  phase-within (Foreach k at hd test body) few h = loop-within k at hd test body h.0 h.1 few
  phase-within (For k at hd test body) few h = (longer-one n (suc (n + l)) more test h.0, phase-within body few h.1)
  phase-within (If k c a b) few h = (longer-one n (suc (n + l)) more c h.0, (phase-within a (omega arith) h.1.0, phase-within b (omega arith) h.1.1))
  phase-within (While k at c body) few h = (longer-one n (suc (n + l)) more c h.0, phase-within body few h.1)
  phase-within (Do k at body c) few h = (phase-within body few h.0, longer-one n (suc (n + l)) more c h.1)
  phase-within s few h = longer n (suc (n + l)) more s h

pub pieces-add : (n l : ℕ) (p : Program) → nesting p.body ≤ l → all_within n p.body ≡ true → all_within (suc (n + l)) (in_pieces p).body ≡ true
pieces-add n l p few h = whole (suc (n + l)) (in_pieces p).body (phase-within n l p.body few (parts n p.body h))
