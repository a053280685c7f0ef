-- The program that a text stands for, and its iterators.
use Rattle.std.proofs.Common.{◌≡◌, ◌≤◌, ℕ, Bool, true, false, List, [], ◌∷◌, refl, ap, ◌∙◌, sym, arith}
use Rattle.std.specs.Prelude.{◌||◌, nat_eq}
use Rattle.std.proofs.lemmas.Bool.{eqb-true}
use Rattle.gm_ast.specs.declared.tree.Declaration.{Declaration}
use Rattle.gm_ast.specs.Procedures.{IsTyped}
use Rattle.gm_ast.specs.Program.{Program}
use Rattle.gm_ast.specs.Ways.{is_in}
use Rattle.gm_semantics.specs.Statements.{variable_at, variable_or}
use Rattle.gm_parting.specs.Iterators.{all_inner_iterators}
use Rattle.gm_preparable.proofs.Facts.{all-inner}
use Rattle.gm_preparable.proofs.Tables.{Outer, Inner}
use Rattle.gm_preparable.proofs.Texts.{Any}
use Rattle.gm_preparable.proofs.Together.{any-stands}
use Rattle.gm_ready.proofs.ReadFacts.{Every}
use Rattle.gm_interface.proofs.Kept.{passes-keep-tables}
use Rattle.gm_interface.proofs.Source.{typed-table}
use Rattle.gm_interface.proofs.Texts.{texts-are-named}
use Rattle.gm_interface.specs.Tables.{HasTable}
use Rattle.gm_desugaring.specs.Desugaring.{with_plain_loops}
use Rattle.gm_compilable.specs.Laws.{AcceptedIsOfText, TypedIterateNoParameter}
use Rattle.gm_compilable.specs.Parted.{with_levels}

pub accepted-of-text : AcceptedIsOfText
accepted-of-text text p h = record {
  typed = record { source = h.tree; clean = h.stands.typed.clean; is = h.stands.typed.is };
  named = texts-are-named text h.spelled.listing h.tree p h.spelled.scanned h.spelled.spelled h.stands.typed.is;
}

-- ---- iterators

-- what is declared outside of loops iterates no inner loop
pub not-inner : (ds : List Declaration) (xs : List ℕ) (x : ℕ) → (variable_at ds x).depth ≡ 0 → Every (Inner ds) xs → is_in xs x ≡ false
not-inner ds [] x flat h = refl
not-inner ds (y ∷ xs) x flat h = by (nat_eq x y) refl (not-inner ds xs x flat h.1) where
  by : (b : Bool) → nat_eq x y ≡ b → is_in xs x ≡ false → b || is_in xs x ≡ false
  by false e rest = rest
  by true e rest =
      let same : x ≡ y = eqb-true x y e in
      let deep : (variable_at ds y).depth ≡ h.0.0.depth = ap (λ o. (variable_or o).depth) h.0.1.0 in
      let far : 2 ≤ h.0.0.depth = h.0.1.1 in
      let near : (variable_at ds y).depth ≡ 0 = ap (λ z. (variable_at ds z).depth) (sym same) ∙ flat in
      absurd (omega (arith, deep, far, near))

-- the table once searches are loops over levels
pub levelled-table : (p : Program) → IsTyped p → HasTable (with_levels p)
levelled-table p typed = let l = with_plain_loops p in passes-keep-tables.searches l tt (passes-keep-tables.plain_loops p tt (typed-table p typed))

pub no-parameter : TypedIterateNoParameter
no-parameter p typed x lt =
    let q = with_levels p in
    let ds = q.declarations in
    not-inner ds (all_inner_iterators q.body) x ((levelled-table p typed).interface.outside x lt) (all-inner Any (Outer ds) (Inner ds) q.body (any-stands p typed))
