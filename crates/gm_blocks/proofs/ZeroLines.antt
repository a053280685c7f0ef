-- The locals that begin anew, gone through one by one.
use Rattle.std.proofs.Common.{◌≡◌, ℕ, suc, Bool, true, false, cond, List, [], ◌∷◌, ◌++◌, length, map, drop, refl, ap, ◌∙◌, sym, append-nil}
use Rattle.std.specs.Prelude.{◌≤◌, if◌then◌else◌, filter}
use Rattle.std.proofs.lemmas.List.{drop_all}
use Rattle.gm_ast.specs.declared.tree.Declaration.{Declaration}
use Rattle.gm_ast.specs.Program.{Stmt}
use Rattle.gm_semantics.specs.Levels.{numbers_from}
use Rattle.gm_image.specs.Program.{Line}
use Rattle.gm_lowering.specs.Layouts.{Layout}
use Rattle.gm_lowering.specs.Blocks.{is_read_first, zero_line, zero_lines}
use Rattle.gm_blocks.specs.Firsts.{zero_lines_from}

pub zero_lines_are : (c : Layout) (body : Stmt) (x : ℕ) (ds : List Declaration) → map (zero_line c) (filter (is_read_first c body) (numbers_from x (length ds))) ≡ zero_lines_from c body x ds
zero_lines_are c body x [] = refl
zero_lines_are c body x (d ∷ ds) = by (is_read_first c body x) (zero_lines_are c body (suc x) ds) where
  rest : List ℕ
  rest = filter (is_read_first c body) (numbers_from (suc x) (length ds))

  by : (b : Bool) → map (zero_line c) rest ≡ zero_lines_from c body (suc x) ds
      → map (zero_line c) (cond b (x ∷ rest) rest) ≡ (if b then zero_line c x ∷ [] else []) ++ zero_lines_from c body (suc x) ds
  by true e = ap (λ z. zero_line c x ∷ z) e
  by false e = e

-- behind the last local
pub zero_lines_end : (c : Layout) (body : Stmt) (x index : ℕ) (ds : List Declaration) (old out : List Line)
    → out ++ zero_lines_from c body x (drop index ds) ≡ old ++ zero_lines_from c body 0 ds
    → length ds ≤ index
    → ds ≡ c.declarations
    → out ≡ old ++ zero_lines c body
zero_lines_end c body x index ds old out made past all =
    sym (append-nil out)
    ∙ ap (λ z. out ++ zero_lines_from c body x z) (sym (drop_all index ds past))
    ∙ made
    ∙ ap (λ z. old ++ zero_lines_from c body 0 z) all
    ∙ ap (λ z. old ++ z) (sym (zero_lines_are c body 0 c.declarations))
