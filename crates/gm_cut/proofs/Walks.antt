-- The loops of the pieces that a walk finds, one part behind another.
use Rattle.std.proofs.Common.{◌≡◌, ◌<◌, arith, length, Result, Ok, Err, ℕ, Bool, true, false, cond, List, [], ◌∷◌, ◌++◌, map, append-nil, refl, sym, ap, ◌∙◌}
use Rattle.std.specs.Prelude.{◌&&◌, ◌||◌, not, IfOk}
use Rattle.std.proofs.lemmas.Bool.{both_ways}
use Rattle.std.specs.List.{list_any}
use Rattle.gm_base.specs.declared.places.Place.{Place}
use Rattle.gm_ast.specs.declared.tree.Head.{Head}
use Rattle.gm_ast.specs.declared.tree.Key.{Key}
use Rattle.gm_value.specs.declared.operations.Op1.TheVariants.{Not}
use Rattle.gm_ast.specs.Program.{Expr, Unary, Both, Stmt, Skip, Then, Foreach, If, sequence}
use Rattle.gm_forms.specs.Cut.{adds_elsewhere, is_calm, is_own_code, is_own_loop}
use Rattle.gm_forms.proofs.Named.{both-true}
use Rattle.gm_loop_laws.specs.Pieces.{Piece, piece}
use Rattle.gm_cut.specs.Own.{is_safe, adds_beyond, joins_behind}
use Rattle.gm_cut.specs.Parts.{parts_of, piece_loop, parted_loop}
use Rattle.gm_cut.specs.Runs.{joins_run}
use Rattle.gm_cut.specs.Taken.{Taken, run_piece, all_taken, takes}
use Rattle.gm_cut.specs.Walks.{is_block, loops_of, adds_in, walked, branch_pieces, cut_pieces}
use Rattle.gm_cut.proofs.Grouped.{append-assoc}
use Rattle.gm_cut.proofs.OwnTests.{beyond-same, code-calm}
use Rattle.gm_cut.proofs.Taken.{all-walked}

-- a run with one more statement
pub adds_more : (n : ℕ) (run : List Stmt) (s : Stmt) → adds_in n (run ++ (s ∷ [])) ≡ adds_in n run || adds_beyond n s
adds_more n [] s = or-none (adds_beyond n s)
  where
    or-none : (x : Bool) → x || false ≡ x
    or-none true = refl
    or-none false = refl
adds_more n (x ∷ run) s = ap (λ b. adds_beyond n x || b) (adds_more n run s) ∙ by (adds_beyond n x) (adds_in n run) (adds_beyond n s)
  where
    by : (a b c : Bool) → a || (b || c) ≡ (a || b) || c
    by true b c = refl
    by false b c = refl

-- what a run adds is what its statements do
same-adds : (n : ℕ) (run : List Stmt) → adds_in n run ≡ list_any (adds_elsewhere (n ∷ [])) run
same-adds n [] = refl
same-adds n (x ∷ run) = ap (λ b. b || adds_in n run) (beyond-same n x) ∙ ap (λ b. adds_elsewhere (n ∷ []) x || b) (same-adds n run)

-- the walk's test is whether a statement joins the run
pub joins_same : (n : ℕ) (run : List Stmt) (s : Stmt) → joins_behind n (adds_in n run) s ≡ joins_run n run s
joins_same n run s = ap (λ a. is_own_loop n s && (not a || is_safe n s)) (same-adds n run) ∙ by (is_own_loop n s) refl
  where
    by : (b : Bool) → is_own_loop n s ≡ b → b && (not (list_any (adds_elsewhere (n ∷ [])) run) || is_safe n s) ≡ b && (not (list_any (adds_elsewhere (n ∷ [])) run) || is_calm (n ∷ []) s)
    by true h = ap (λ x. not (list_any (adds_elsewhere (n ∷ [])) run) || x) (code-calm n s (both-true (is_own_code n s) _ h).0)
    by false h = refl

-- one statement of a block behind a run that adds so or does not
abbrev one_walked : ℕ → Place → Expr → Bool → Bool → List Stmt → Stmt → Taken
one_walked n at mask joins own run s = takes (is_own_loop n) (joins_run n) at joins own mask run s (cut_pieces n at mask s)

-- is what the walk takes of it
one-walked : (n : ℕ) (at : Place) (mask : Expr) (run : List Stmt) (s : Stmt) → is_block s ≡ false → one_walked n at mask (joins_run n run s) (is_own_loop n s) run s ≡ walked n at mask run s
one-walked n at mask run Skip h = absurd (both_ways true h refl)
one-walked n at mask run (Then a b) h = absurd (both_ways true h refl)
one-walked n at mask run s h = refl

-- by what the walk knows
one-known : (n : ℕ) (at : Place) (mask : Expr) (run : List Stmt) (s : Stmt) (adds joins own : Bool) → is_block s ≡ false → adds ≡ adds_in n run → joins ≡ joins_behind n adds s → own ≡ is_own_loop n s →
    one_walked n at mask joins own run s ≡ walked n at mask run s
one-known n at mask run s adds joins own single known j o =
    ap (λ x. one_walked n at mask x own run s) (j ∙ ap (λ a. joins_behind n a s) known ∙ joins_same n run s) ∙ ap (λ x. one_walked n at mask (joins_run n run s) x run s) o ∙ one-walked n at mask run s single

abbrev pub now : List Piece → List Stmt → Taken
now ps run = record { pieces = ps; run = run }

-- a statement that joins the run, one that begins another, and one that is cut
module _ (n : ℕ) (at : Place) (mask : Expr) (run : List Stmt) (s : Stmt) (adds : Bool) (single : is_block s ≡ false) (known : adds ≡ adds_in n run) where
  pub joined-walk : (o : Bool) → true ≡ joins_behind n adds s → is_own_loop n s ≡ o → now [] (run ++ (s ∷ [])) ≡ walked n at mask run s
  joined-walk o j e = one-known n at mask run s adds true o single known j (sym e)

  pub alone-walk : false ≡ joins_behind n adds s → true ≡ is_own_loop n s → now (run_piece mask run) (s ∷ []) ≡ walked n at mask run s
  alone-walk j o = one-known n at mask run s adds false true single known j o

  pub cut-walk : false ≡ joins_behind n adds s → false ≡ is_own_loop n s → now (run_piece mask run ++ cut_pieces n at mask s) [] ≡ walked n at mask run s
  cut-walk j o = one-known n at mask run s adds false false single known j o

-- a block is one piece
pub block_piece : (n : ℕ) (at : Place) (mask : Expr) (xs : List Stmt) → piece mask (sequence xs) ≡ cut_pieces n at mask (sequence xs)
block_piece n at mask [] = refl
block_piece n at mask (x ∷ xs) = refl

module _ (k : Key) (at : Place) (h : Head) where
  pub loops_append : (ps qs : List Piece) → loops_of k at h (ps ++ qs) ≡ loops_of k at h ps ++ loops_of k at h qs
  loops_append [] qs = refl
  loops_append (p ∷ ps) qs = ap (λ l. piece_loop k at h p ∷ l) (loops_append ps qs)

  -- loops behind others
  pub loops_behind : (xs : List Stmt) (ps qs : List Piece) → (xs ++ loops_of k at h ps) ++ loops_of k at h qs ≡ xs ++ loops_of k at h (ps ++ qs)
  loops_behind xs ps qs = append-assoc xs (loops_of k at h ps) (loops_of k at h qs) ∙ ap (λ l. xs ++ l) (sym (loops_append ps qs))

  -- one more statement of a block
  pub step_loops : (mask : Expr) (run run' : List Stmt) (s rest : Stmt) (xs xs' : List Stmt) → xs' ≡ xs ++ loops_of k at h (walked h.iterator at mask run s).pieces → run' ≡ (walked h.iterator at mask run s).run →
      xs' ++ loops_of k at h (walked h.iterator at mask run' rest).pieces ≡ xs ++ loops_of k at h (walked h.iterator at mask run (Then s rest)).pieces
  step_loops mask run run' s rest xs xs' e f =
      let first = (walked h.iterator at mask run s).pieces in
      ap (λ l. l ++ loops_of k at h (walked h.iterator at mask run' rest).pieces) e
      ∙ ap (λ r. (xs ++ loops_of k at h first) ++ loops_of k at h (walked h.iterator at mask r rest).pieces) f
      ∙ loops_behind xs first (walked h.iterator at mask (walked h.iterator at mask run s).run rest).pieces

  pub step_run : (mask : Expr) (run run' : List Stmt) (s rest : Stmt) → run' ≡ (walked h.iterator at mask run s).run → (walked h.iterator at mask run' rest).run ≡ (walked h.iterator at mask run (Then s rest)).run
  step_run mask run run' s rest f = ap (λ r. (walked h.iterator at mask r rest).run) f

  -- both branches of a condition
  pub both_branches : (mask c other : Expr) (key : Key) (a b s : Stmt) (xs ys zs : List Stmt) → s ≡ If key c a b → other ≡ Unary Not at c →
      ys ≡ xs ++ loops_of k at h (branch_pieces h.iterator at (Both mask c) a) → zs ≡ ys ++ loops_of k at h (branch_pieces h.iterator at (Both mask other) b) →
      zs ≡ xs ++ loops_of k at h (cut_pieces h.iterator at mask s)
  both_branches mask c other key a b s xs ys zs seen side e g =
      let yes = branch_pieces h.iterator at (Both mask c) a in
      let no = branch_pieces h.iterator at (Both mask (Unary Not at c)) b in
      g ∙ ap (λ o. ys ++ loops_of k at h (branch_pieces h.iterator at (Both mask o) b)) side ∙ ap (λ l. l ++ loops_of k at h no) e
      ∙ loops_behind xs yes no ∙ ap (λ x. xs ++ loops_of k at h (cut_pieces h.iterator at mask x)) (sym seen)

  -- a branch, with the loop of its last run
  pub branch_end : (mask whole : Expr) (s : Stmt) (run last xs ys zs : List Stmt) → mask ≡ whole → run ≡ [] →
      ys ≡ xs ++ loops_of k at h (walked h.iterator at mask run s).pieces → last ≡ (walked h.iterator at mask run s).run → zs ≡ ys ++ loops_of k at h (run_piece mask last) →
      zs ≡ xs ++ loops_of k at h (branch_pieces h.iterator at whole s)
  branch_end mask whole s run last xs ys zs same none e f g =
      let taken = walked h.iterator at mask run s in
      g ∙ ap (λ l. ys ++ loops_of k at h (run_piece mask l)) f ∙ ap (λ l. l ++ loops_of k at h (run_piece mask taken.run)) e
      ∙ loops_behind xs taken.pieces (run_piece mask taken.run)
      ∙ ap (λ r. xs ++ loops_of k at h (all_taken mask (walked h.iterator at mask r s))) none ∙ ap (λ m. xs ++ loops_of k at h (branch_pieces h.iterator at m s)) same

  -- a run without statements leaves no loop, and any other leaves one
  pub closed_none : {A : Type 0} (g : A → Stmt) (mask : Expr) (xs : List Stmt) (run : List A) → length run ≡ 0 → xs ≡ xs ++ loops_of k at h (run_piece mask (map g run))
  closed_none g mask xs [] e = sym (append-nil xs)
  closed_none g mask xs (x ∷ run) e = absurd (omega arith)

  pub closed_some : {A : Type 0} (g : A → Stmt) (mask : Expr) (run : List A) → 0 < length run → loops_of k at h (run_piece mask (map g run)) ≡ Foreach k at h mask (sequence (map g run)) ∷ []
  closed_some g mask [] e = absurd (omega arith)
  closed_some g mask (x ∷ run) e = refl

  -- the loops of all pieces
  pub parted_walk : (mask : Expr) (body : Stmt) → is_own_loop h.iterator body ≡ false → sequence (loops_of k at h (branch_pieces h.iterator at mask body)) ≡ parted_loop k at h mask body
  parted_walk mask body e =
      ap (λ ps. sequence (loops_of k at h ps)) (sym (all-walked h.iterator at mask body))
      ∙ ap (λ b. cond b (Foreach k at h mask body) (sequence (map (piece_loop k at h) (parts_of h.iterator at mask body)))) (sym e)

  pub whole_walk : (mask : Expr) (body : Stmt) → is_own_loop h.iterator body ≡ true → Foreach k at h mask body ≡ parted_loop k at h mask body
  whole_walk mask body e = ap (λ b. cond b (Foreach k at h mask body) (sequence (map (piece_loop k at h) (parts_of h.iterator at mask body)))) (sym e)

-- what holds of a result follows from two facts about it
pub ok-both : {A E : Type 0} {P Q R : A → Type 0} (r : Result A E) → IfOk r P → IfOk r Q → ((x : A) → P x → Q x → R x) → IfOk r R
ok-both (Ok x) p q f = f x p q
ok-both (Err e) p q f = tt
