-- Where bodies go to pieces, no inner loop reads an edge against the way of its message that did not before.
use Rattle.std.proofs.Common.{Bool, true, false, cond, ℕ, List, [], ◌∷◌, ◌++◌, map}
use Rattle.gm_base.specs.declared.places.Place.{Place}
use Rattle.gm_value.specs.declared.operations.Op1.TheVariants.{Not}
use Rattle.gm_ast.specs.declared.tree.Declaration.{Declaration}
use Rattle.gm_ast.specs.declared.tree.Head.{Head}
use Rattle.gm_ast.specs.declared.tree.Key.{Key}
use Rattle.gm_ast.specs.Program.{Expr, Unary, Both, Stmt, Skip, Then, If, Foreach, Program, sequence}
use Rattle.gm_forms.specs.Cut.{is_own_loop}
use Rattle.gm_forms.specs.Ready.{Ready2}
use Rattle.gm_loop_laws.specs.Pieces.{Piece, piece, pieces_of}
use Rattle.gm_cut.specs.Parts.{in_pieces, parts_of, parted_loop, piece_loop}
use Rattle.gm_cut.specs.Runs.{before, placed, gathered, with_runs, joins_run}
use Rattle.gm_parting.proofs.Loops.{sound-of}
use Rattle.gm_one_way.specs.Along.{AllAlong, EachAlong, ReadsAlong}
use Rattle.gm_one_way.proofs.Walks.{each-along}

module _ (ds : List Declaration) (n : ℕ) where
  -- ---- runs in blocks

  more-along : (run : List Stmt) (s : Stmt) → AllAlong ds n (sequence run) → AllAlong ds n s → AllAlong ds n (sequence (run ++ (s ∷ [])))
  more-along [] s e q = (q, tt)
  more-along (x ∷ run) s e q = (e.0, more-along run s e.1 q)

  module _ (own : Stmt → Bool) (joins : List Stmt → Stmt → Bool) where
    before-along : (run : List Stmt) (s : Stmt) → AllAlong ds n (sequence run) → AllAlong ds n s → AllAlong ds n (before own joins run s)
    before-along [] s e q = q
    before-along (x ∷ run) s e q = (e, q)

    placed-along : (b c : Bool) (run : List Stmt) (s t : Stmt) (rest : List Stmt → Stmt) → AllAlong ds n (sequence run) → AllAlong ds n s → AllAlong ds n t → ((run : List Stmt) → AllAlong ds n (sequence run) → AllAlong ds n (rest run)) → AllAlong ds n (placed own joins b c run s t rest)
    placed-along true c run s t rest e p q f = f (run ++ (s ∷ [])) (more-along run s e p)
    placed-along false true run s t rest e p q f = before-along run (rest (s ∷ [])) e (f (s ∷ []) (p, tt))
    placed-along false false run s t rest e p q f = before-along run (Then t (rest [])) e (q, f [] tt)

    pub gathered-along : (s : Stmt) (run : List Stmt) (rest : List Stmt → Stmt) → AllAlong ds n (sequence run) → AllAlong ds n s → ((run : List Stmt) → AllAlong ds n (sequence run) → AllAlong ds n (rest run)) → AllAlong ds n (gathered own joins s run rest)
    gathered-along Skip run rest e p f = f run e
    gathered-along (Then a b) run rest e p f = gathered-along a run (λ r. gathered own joins b r rest) e p.0 (λ r q. gathered-along b r rest q p.1 f)
    gathered-along (If k c a b) run rest e p f =
        placed-along (joins run (If k c a b)) (own (If k c a b)) run (If k c a b) (If k c (gathered own joins a [] sequence) (gathered own joins b [] sequence)) rest e p
        (gathered-along a [] sequence tt p.0 (λ r q. q), gathered-along b [] sequence tt p.1 (λ r q. q)) f
    gathered-along s run rest e p f = placed-along (joins run s) (own s) run s s rest e p p f

  -- ---- pieces

  abbrev PiecesAlong : List Piece → Type 0
  PiecesAlong [] = Unit {0}
  PiecesAlong (p ∷ ps) = AllAlong ds n p.part × PiecesAlong ps

  both-along : (ps qs : List Piece) → PiecesAlong ps → PiecesAlong qs → PiecesAlong (ps ++ qs)
  both-along [] qs e f = f
  both-along (p ∷ ps) qs e f = (e.0, both-along ps qs e.1 f)

  either-along : (o : Bool) (mask : Expr) (s : Stmt) (ps : List Piece) → AllAlong ds n s → PiecesAlong ps → PiecesAlong (cond o (piece mask s) ps)
  either-along true mask s ps e f = (e, tt)
  either-along false mask s ps e f = f

  pieces-along : (whole : Stmt → Bool) (place : Place) (mask : Expr) (s : Stmt) → AllAlong ds n s → PiecesAlong (pieces_of whole place mask s)
  pieces-along whole place mask Skip e = tt
  pieces-along whole place mask (Then a b) e =
      either-along (whole (Then a b)) mask (Then a b) (pieces_of whole place mask a ++ pieces_of whole place mask b) e
      (both-along (pieces_of whole place mask a) (pieces_of whole place mask b) (pieces-along whole place mask a e.0) (pieces-along whole place mask b e.1))
  pieces-along whole place mask (If k c a b) e =
      let p = pieces_of whole place (Both mask c) a in
      let q = pieces_of whole place (Both mask (Unary Not place c)) b in
      either-along (whole (If k c a b)) mask (If k c a b) (p ++ q) e (both-along p q (pieces-along whole place (Both mask c) a e.0) (pieces-along whole place (Both mask (Unary Not place c)) b e.1))
  pieces-along whole place mask s e = (e, tt)

-- their loops
loops-along : (ds : List Declaration) (k : Key) (at : Place) (h : Head) (ps : List Piece) → PiecesAlong ds h.iterator ps → EachAlong ds (sequence (map (piece_loop k at h) ps))
loops-along ds k at h [] e = tt
loops-along ds k at h (p ∷ ps) e = (e.0, loops-along ds k at h ps e.1)

loop-along : (ds : List Declaration) (k : Key) (at : Place) (h : Head) (mask : Expr) (body : Stmt) → AllAlong ds h.iterator body → EachAlong ds (parted_loop k at h mask body)
loop-along ds k at h mask body e = by (is_own_loop h.iterator body)
  where
    by : (o : Bool) → EachAlong ds (cond o (Foreach k at h mask body) (sequence (map (piece_loop k at h) (parts_of h.iterator at mask body))))
    by true = e
    by false =
        loops-along ds k at h (parts_of h.iterator at mask body)
        (pieces-along ds h.iterator (is_own_loop h.iterator) at mask (with_runs h.iterator body) (gathered-along ds h.iterator (is_own_loop h.iterator) (joins_run h.iterator) body [] sequence tt e (λ r q. q)))

pub pieces-keep : (p : Program) → Ready2 p → ReadsAlong p → ReadsAlong (in_pieces p)
pieces-keep p r e = each-along p.declarations p.declarations p.result parted_loop (λ k at h mask body s e. loop-along p.declarations k at h mask body e) p.body (sound-of p r) e
