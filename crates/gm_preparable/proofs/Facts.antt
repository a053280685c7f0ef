-- What is asked of loops that are prepared holds where iterators stand as deep as their loops and parallel code checks nothing.
use Rattle.std.proofs.Common.{◌≡◌, ℕ, Bool, true, false, List, [], ◌∷◌, refl, Option, Some, None}
use Rattle.std.specs.Prelude.{◌||◌}
use Rattle.std.specs.List.{list_all}
use Rattle.std.specs.Cmp.Derive.{both_true}
use Rattle.gm_ast.specs.declared.tree.Target.{Target}
use Rattle.gm_ast.specs.Program.{Expr, Live, Unary, Binary, Both, Either, Choose, Stmt, Then, Declare, Assign, Defer, Combine, Foreach, For, If, While, Do, Program}
use Rattle.gm_forms.specs.Cut.{is_own_loop}
use Rattle.gm_cut.specs.Parts.{each_passes}
use Rattle.gm_parting.specs.Iterators.{inner_iterators, all_inner_iterators, outer_iterators, has_iterators_apart}
use Rattle.gm_parting.specs.Locals.{checks_none, may_check_none, checks_nothing, has_no_checks}
use Rattle.gm_ready.proofs.Disjoint.{disjoint-from}
use Rattle.gm_ready.proofs.ReadFacts.{Every, every-append}
use Rattle.gm_preparable.proofs.Standing.{Inside, MayBeInside, AreInside, Body, Phase}
use Rattle.gm_preparable.proofs.Tables.{Outer, Inner, never-both}

-- ---- iterators

module _ (goes : List Target → Type 0) (outer inner : ℕ → Type 0) where
  inner-within : (s : Stmt) → Body goes inner s → Every inner (inner_iterators s)
  inner-within (Then a b) h = every-append inner (inner_iterators a) (inner_iterators b) (inner-within a h.0) (inner-within b h.1)
  inner-within (If k c a b) h = every-append inner (inner_iterators a) (inner_iterators b) (inner-within a h.1.0) (inner-within b h.1.1)
  inner-within (Foreach k at hd test s) h = (h.0, tt)
  inner-within s h = tt

  pub all-inner : (s : Stmt) → Phase goes outer inner s → Every inner (all_inner_iterators s)
  all-inner (Then a b) h = every-append inner (all_inner_iterators a) (all_inner_iterators b) (all-inner a h.0) (all-inner b h.1)
  all-inner (Foreach k at hd test s) h = inner-within s h.1.1
  all-inner (For k at hd test s) h = all-inner s h.1
  all-inner (If k c a b) h = every-append inner (all_inner_iterators a) (all_inner_iterators b) (all-inner a h.1.0) (all-inner b h.1.1)
  all-inner (While k at c s) h = all-inner s h.1
  all-inner (Do k at s c) h = all-inner s h.0
  all-inner s h = tt

  all-outer : (s : Stmt) → Phase goes outer inner s → Every outer (outer_iterators s)
  all-outer (Then a b) h = every-append outer (outer_iterators a) (outer_iterators b) (all-outer a h.0) (all-outer b h.1)
  all-outer (Foreach k at hd test s) h = (h.0, tt)
  all-outer (For k at hd test s) h = all-outer s h.1
  all-outer (If k c a b) h = every-append outer (outer_iterators a) (outer_iterators b) (all-outer a h.1.0) (all-outer b h.1.1)
  all-outer (While k at c s) h = all-outer s h.1
  all-outer (Do k at s c) h = all-outer s h.0
  all-outer s h = tt

pub iterators-apart : (goes : List Target → Type 0) (p : Program) → Phase goes (Outer p.declarations) (Inner p.declarations) p.body → has_iterators_apart p ≡ true
iterators-apart goes p h =
    let ds = p.declarations in
    disjoint-from (Outer ds) (Inner ds) (never-both ds) (outer_iterators p.body) (all_inner_iterators p.body) (all-outer goes (Outer ds) (Inner ds) p.body h) (all-inner goes (Outer ds) (Inner ds) p.body h)

-- ---- checks

pub or-right : (a b : Bool) → b ≡ true → a || b ≡ true
or-right true b h = refl
or-right false b h = h

module _ (goes : List Target → Type 0) (inner : ℕ → Type 0) where
  none-checked : (e : Expr) → Inside inner e → checks_none e ≡ true
  none-checked (Live x at) h = h
  none-checked (Unary op at e) h = none-checked e h
  none-checked (Binary op at a b) h = both_true (none-checked a h.0) (none-checked b h.1)
  none-checked (Both a b) h = both_true (none-checked a h.0) (none-checked b h.1)
  none-checked (Either a b) h = both_true (none-checked a h.0) (none-checked b h.1)
  none-checked (Choose c a b) h = both_true (none-checked c h.0) (both_true (none-checked a h.1.0) (none-checked b h.1.1))
  none-checked e h = refl

  may-checked : (o : Option Expr) → MayBeInside inner o → may_check_none o ≡ true
  may-checked None h = refl
  may-checked (Some e) h = none-checked e h

  all-checked : (es : List Expr) → AreInside inner es → list_all checks_none es ≡ true
  all-checked [] h = refl
  all-checked (e ∷ es) h = both_true (none-checked e h.0) (all-checked es h.1)

  nothing-checked : (s : Stmt) → Body goes inner s → checks_nothing s ≡ true
  nothing-checked (Then a b) h = both_true (nothing-checked a h.0) (nothing-checked b h.1)
  nothing-checked (Declare k x e) h = may-checked e h
  nothing-checked (Assign k t e) h = none-checked e h
  nothing-checked (Defer k t e) h = none-checked e h
  nothing-checked (Combine k total r ts es) h = all-checked es h.1
  nothing-checked (If k c a b) h = both_true (none-checked c h.0) (both_true (nothing-checked a h.1.0) (nothing-checked b h.1.1))
  nothing-checked (Foreach k at hd test s) h = both_true (none-checked test h.1.0) (nothing-checked s h.1.1)
  nothing-checked s h = refl

module _ (goes : List Target → Type 0) (outer inner : ℕ → Type 0) where
  no-loop-checks : (s : Stmt) → Phase goes outer inner s → each_passes (λ k at h test body. is_own_loop h.iterator body || checks_nothing body) s ≡ true
  no-loop-checks (Then a b) h = both_true (no-loop-checks a h.0) (no-loop-checks b h.1)
  no-loop-checks (Foreach k at hd test s) h = or-right (is_own_loop hd.iterator s) (checks_nothing s) (nothing-checked goes inner s h.1.1)
  no-loop-checks (For k at hd test s) h = no-loop-checks s h.1
  no-loop-checks (If k c a b) h = both_true (no-loop-checks a h.1.0) (no-loop-checks b h.1.1)
  no-loop-checks (While k at c s) h = no-loop-checks s h.1
  no-loop-checks (Do k at s c) h = no-loop-checks s h.0
  no-loop-checks s h = refl

pub checks-nothing : (goes : List Target → Type 0) (outer inner : ℕ → Type 0) (p : Program) → Phase goes outer inner p.body → has_no_checks p ≡ true
checks-nothing goes outer inner p h = no-loop-checks goes outer inner p.body h
