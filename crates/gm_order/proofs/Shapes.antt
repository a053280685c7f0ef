-- The blocks of a text are statements one after another.
use Rattle.std.proofs.Common.{◌≡◌, Bool, true, false, List, [], ◌∷◌, ◌++◌, refl}
use Rattle.std.specs.Prelude.{◌&&◌}
use Rattle.std.specs.Cmp.Derive.{both_true}
use Rattle.gm_base.specs.declared.places.Place.{Place}
use Rattle.gm_token.specs.Tokens.{Token}
use Rattle.gm_ast.specs.Surface.{SurfaceExpr, SurfaceStmt, SurfaceProcedure, sequence}
use Rattle.gm_ast.specs.Surface as S
use Rattle.gm_parse.specs.Trees.{ReadsStmt, ReadsMany, ReadsBlock, ReadsReverse, ReadsProcedure}
use Rattle.gm_forms.proofs.Named.{both-true}

-- whether the blocks in a statement, or in the rest of a block, are statements one after another
abbrev pub shaped : Bool → SurfaceStmt → Bool
shaped rest S.Skip = true
shaped rest (S.Then a b) = shaped false a && shaped true b
shaped true _ = false
shaped false (S.Loop at word h filter body) = shaped false body
shaped false (S.If at c a b) = shaped false a && shaped false b
shaped false (S.While at c body) = shaped false body
shaped false (S.Do at body c) = shaped false body
shaped false (S.InBfs at v g root filter body) = shaped false body
shaped false (S.InBfsBoth at v g root filter body reverse back_filter back) = shaped false body && shaped false back
shaped false _ = true

behind : (ss : List SurfaceStmt) (s : SurfaceStmt) → shaped true (sequence ss) ≡ true → shaped false s ≡ true → shaped true (sequence (ss ++ s ∷ [])) ≡ true
behind [] s h k = both_true k refl
behind (t ∷ ss) s h k = let r = both-true (shaped false t) (shaped true (sequence ss)) h in both_true r.0 (behind ss s r.1 k)

as-block : (ss : List SurfaceStmt) → shaped true (sequence ss) ≡ true → shaped false (sequence ss) ≡ true
as-block [] h = h
as-block (s ∷ ss) h = h

mutual
  stmt-shaped : {us vs : List Token} {s : SurfaceStmt} → ReadsStmt us s vs → shaped false s ≡ true
  stmt-shaped (ReadsStmt.block b) = block-shaped b
  stmt-shaped (ReadsStmt.empty w) = refl
  stmt-shaped (ReadsStmt.declare t n w) = refl
  stmt-shaped (ReadsStmt.declare_as t n a e w) = refl
  stmt-shaped (ReadsStmt.assign t a e w) = refl
  stmt-shaped (ReadsStmt.defer t a e x w) = refl
  stmt-shaped (ReadsStmt.reduce t o e x w) = refl
  stmt-shaped (ReadsStmt.reduce_tuple ts o es x w) = refl
  stmt-shaped (ReadsStmt.increment t o w) = refl
  stmt-shaped (ReadsStmt.loop w k s) = stmt-shaped s
  stmt-shaped (ReadsStmt.if_then w c s o) = both_true (stmt-shaped s) refl
  stmt-shaped (ReadsStmt.if_else w c s e t) = both_true (stmt-shaped s) (stmt-shaped t)
  stmt-shaped (ReadsStmt.while w c s) = stmt-shaped s
  stmt-shaped (ReadsStmt.do_while w b v c e) = block-shaped b
  stmt-shaped (ReadsStmt.breadth w f b o) = block-shaped b
  stmt-shaped (ReadsStmt.breadth_both w f b r) = both_true (block-shaped b) (reverse-shaped r)
  stmt-shaped (ReadsStmt.return_nothing w e) = refl
  stmt-shaped (ReadsStmt.return_value w e c) = refl

  many-shaped : {us vs : List Token} {ss : List SurfaceStmt} → ReadsMany us ss vs → shaped true (sequence ss) ≡ true
  many-shaped ReadsMany.none = refl
  many-shaped (ReadsMany.more {ss} {s} r t) = behind ss s (many-shaped r) (stmt-shaped t)

  block-shaped : {us vs : List Token} {ss : List SurfaceStmt} → ReadsBlock us ss vs → shaped false (sequence ss) ≡ true
  block-shaped (ReadsBlock.braces {ss} l r c) = as-block ss (many-shaped r)

  reverse-shaped : {us vs : List Token} {q : Place} {f : SurfaceExpr} {ss : List SurfaceStmt} → ReadsReverse us q f ss vs → shaped false (sequence ss) ≡ true
  reverse-shaped (ReadsReverse.reverse w f b) = block-shaped b

statements-shaped : {us vs : List Token} {ss : List SurfaceStmt} → ReadsBlock us ss vs → shaped true (sequence ss) ≡ true
statements-shaped (ReadsBlock.braces l r c) = many-shaped r

pub procedure-shaped : {us vs : List Token} {p : SurfaceProcedure} → ReadsProcedure us p vs → shaped true p.body ≡ true
procedure-shaped (ReadsProcedure.procedure w n l ins outs r t b) = statements-shaped b
