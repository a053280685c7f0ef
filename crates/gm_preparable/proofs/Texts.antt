-- In the program that a text stands for iterators stand as deep as their loops, and no node variable is checked. Its reductions are those that it is said to have.
use Rattle.std.proofs.Common.{◌≤◌, ◌+◌, ℕ, Bool, false, List, [], ◌∷◌, arith, Option, Some, None}
use Rattle.gm_ast.specs.declared.tree.Declaration.{Declaration}
use Rattle.gm_ast.specs.declared.tree.Target.{Target}
use Rattle.gm_ast.specs.Names.{an_iterator}
use Rattle.gm_ast.specs.Program.{Expr, Live, Unary, Binary, Both, Either, Choose, Folded, Stmt, Then, Declare, Assign, Defer, Combine, Group, Foreach, For, If, While, Do, InBfs, InBfsBoth, Return, Program}
use Rattle.gm_ast.specs.Procedures.{IsTyped}
use Rattle.gm_ready.proofs.Placing.{IsIteratorAt, PlacedIn, MayBePlaced, AllPlaced, Placed}
use Rattle.gm_ready.proofs.PlacedProcedures.{program-placed}
use Rattle.gm_preparable.proofs.Standing.{Inside, MayBeInside, AreInside, Body, Outside, MayBeOutside, AreOutside, Phase}
use Rattle.gm_preparable.proofs.Tables.{Outer, Inner}
use Rattle.gm_preparable.proofs.Unchecked.{Unchecked}
use Rattle.gm_preparable.proofs.UncheckedStatements.{MayBeUnchecked, AllUnchecked, UncheckedIn, program-unchecked}

-- goes: which targets one reduction may have
module _ (goes : List Target → Type 0) where
  -- those of a body have such
  abbrev pub Given : Stmt → Type 0
  Given (Then a b) = Given a × Given b
  Given (Combine k total r ts es) = goes ts
  Given (If k c a b) = Given a × Given b
  Given (Foreach k at h test body) = Given body
  Given s = Unit {0}

  -- and so have those of the bodies of a sequential phase
  abbrev pub AllGiven : Stmt → Type 0
  AllGiven (Then a b) = AllGiven a × AllGiven b
  AllGiven (Foreach k at h test body) = Given body
  AllGiven (For k at h test body) = AllGiven body
  AllGiven (If k c a b) = AllGiven a × AllGiven b
  AllGiven (While k at c body) = AllGiven body
  AllGiven (Do k at body c) = AllGiven body
  AllGiven (InBfs k at s test body) = Given body
  AllGiven (InBfsBoth k at s test body back_key back_test back) = Given body × Given back
  AllGiven s = Unit {0}

-- any targets are some
abbrev pub Any : List Target → Type 0
Any ts = Unit {0}

any-given : (s : Stmt) → Given Any s
any-given (Then a b) = (any-given a, any-given b)
any-given (Combine k total r ts es) = tt
any-given (If k c a b) = (any-given a, any-given b)
any-given (Foreach k at h test body) = any-given body
any-given s = tt

pub all-given : (s : Stmt) → AllGiven Any s
all-given (Then a b) = (all-given a, all-given b)
all-given (Foreach k at h test body) = any-given body
all-given (For k at h test body) = all-given body
all-given (If k c a b) = (all-given a, all-given b)
all-given (While k at c body) = all-given body
all-given (Do k at body c) = all-given body
all-given (InBfs k at s test body) = any-given body
all-given (InBfsBoth k at s test body back_key back_test back) = (any-given body, any-given back)
all-given s = tt

module _ (ds : List Declaration) (goes : List Target → Type 0) where
  deep : (d i : ℕ) → 1 ≤ d → IsIteratorAt ds (d + 1) i → Inner ds i
  deep d i one h = (an_iterator (d + 1), (h, omega arith))

  flat : (i : ℕ) → IsIteratorAt ds (0 + 1) i → Outer ds i
  flat i h = (an_iterator 1, (h, omega arith))

  -- ---- parallel code

  inside : (d : ℕ) (edge : Bool) (e : Expr) → 1 ≤ d → PlacedIn ds d edge e → Unchecked e → Inside (Inner ds) e
  inside d edge (Live x at) one h u = u
  inside d edge (Unary op at e) one h u = inside d edge e one h u
  inside d edge (Binary op at a b) one h u = (inside d edge a one h.0 u.0, inside d edge b one h.1 u.1)
  inside d edge (Both a b) one h u = (inside d edge a one h.0 u.0, inside d edge b one h.1 u.1)
  inside d edge (Either a b) one h u = (inside d edge a one h.0 u.0, inside d edge b one h.1 u.1)
  inside d edge (Choose c a b) one h u = (inside d edge c one h.0 u.0, (inside d edge a one h.1.0 u.1.0, inside d edge b one h.1.1 u.1.1))
  inside d edge (Folded f hd test e) one h u =
      let more : 1 ≤ d + 1 = omega arith in (deep d hd.iterator one h.0, (inside (d + 1) edge test more h.1.0 u.0, inside (d + 1) edge e more h.1.1 u.1))
  inside d edge e one h u = tt

  may-inside : (d : ℕ) (edge : Bool) (o : Option Expr) → 1 ≤ d → MayBePlaced ds d edge o → MayBeUnchecked o → MayBeInside (Inner ds) o
  may-inside d edge None one h u = tt
  may-inside d edge (Some e) one h u = inside d edge e one h u

  are-inside : (d : ℕ) (edge : Bool) (es : List Expr) → 1 ≤ d → AllPlaced ds d edge es → AllUnchecked es → AreInside (Inner ds) es
  are-inside d edge [] one h u = tt
  are-inside d edge (e ∷ es) one h u = (inside d edge e one h.0 u.0, are-inside d edge es one h.1 u.1)

  body : (d : ℕ) (edge : Bool) (s : Stmt) → 1 ≤ d → Placed ds d edge s → UncheckedIn s → Given goes s → Body goes (Inner ds) s
  body d edge (Then a b) one h u g = (body d edge a one h.0 u.0 g.0, body d h.1.0 b one h.1.1.1 u.1 g.1)
  body d edge (Declare k x e) one h u g = may-inside d edge e one h.1 u
  body d edge (Assign k t e) one h u g = inside d edge e one h.1 u
  body d edge (Defer k t e) one h u g = inside d edge e one h.1 u
  body d edge (Combine k total r ts es) one h u g = (g, are-inside d edge es one h.0.1 u)
  body d edge (If k c a b) one h u g = (inside d edge c one h.0 u.0, (body d edge a one h.1.0 u.1.0 g.0, body d edge b one h.1.1 u.1.1 g.1))
  body d edge (Foreach k at hd test s) one h u g =
      let more : 1 ≤ d + 1 = omega arith in (deep d hd.iterator one h.0, (inside (d + 1) edge test more h.1.0 u.0, body (d + 1) edge s more h.1.1 u.1 g))
  body d edge s one h u g = tt

  -- ---- sequential phases

  one : 1 ≤ 1
  one = omega arith

  outside : (edge : Bool) (e : Expr) → PlacedIn ds 0 edge e → Unchecked e → Outside (Outer ds) (Inner ds) e
  outside edge (Unary op at e) h u = outside edge e h u
  outside edge (Binary op at a b) h u = (outside edge a h.0 u.0, outside edge b h.1 u.1)
  outside edge (Both a b) h u = (outside edge a h.0 u.0, outside edge b h.1 u.1)
  outside edge (Either a b) h u = (outside edge a h.0 u.0, outside edge b h.1 u.1)
  outside edge (Choose c a b) h u = (outside edge c h.0 u.0, (outside edge a h.1.0 u.1.0, outside edge b h.1.1 u.1.1))
  outside edge (Folded f hd test e) h u = (flat hd.iterator h.0, (inside 1 edge test one h.1.0 u.0, inside 1 edge e one h.1.1 u.1))
  outside edge e h u = tt

  may-outside : (edge : Bool) (o : Option Expr) → MayBePlaced ds 0 edge o → MayBeUnchecked o → MayBeOutside (Outer ds) (Inner ds) o
  may-outside edge None h u = tt
  may-outside edge (Some e) h u = outside edge e h u

  are-outside : (edge : Bool) (es : List Expr) → AllPlaced ds 0 edge es → AllUnchecked es → AreOutside (Outer ds) (Inner ds) es
  are-outside edge [] h u = tt
  are-outside edge (e ∷ es) h u = (outside edge e h.0 u.0, are-outside edge es h.1 u.1)

  phase : (edge : Bool) (s : Stmt) → Placed ds 0 edge s → UncheckedIn s → AllGiven goes s → Phase goes (Outer ds) (Inner ds) s
  phase edge (Then a b) h u g = (phase edge a h.0 u.0 g.0, phase h.1.0 b h.1.1.1 u.1 g.1)
  phase edge (Declare k x e) h u g = may-outside edge e h.1 u
  phase edge (Assign k t e) h u g = outside edge e h.1 u
  phase edge (Combine k total r ts es) h u g = are-outside edge es h.0.1 u
  phase edge (Group k at x p e) h u g =
      let low : h.0.0.0.depth ≤ 0 = h.0.0.1.1.1 in
      ((h.0.0.0, (h.0.0.1.0, omega arith)), inside 1 edge e one h.1 u)
  phase edge (Foreach k at hd test s) h u g = (flat hd.iterator h.0, (inside 1 edge test one h.1.0 u.0, body 1 edge s one h.1.1 u.1 g))
  phase edge (For k at hd test s) h u g = (outside edge test h.1.0 u.0, phase edge s h.1.1 u.1 g)
  phase edge (If k c a b) h u g = (outside edge c h.0 u.0, (phase edge a h.1.0 u.1.0 g.0, phase edge b h.1.1 u.1.1 g.1))
  phase edge (While k at c s) h u g = (outside edge c h.0 u.0, phase edge s h.1 u.1 g)
  phase edge (Do k at s c) h u g = (phase edge s h.0 u.0 g, outside edge c h.1 u.1)
  phase edge (InBfs k at search test s) h u g = (flat search.iterator h.0, (inside 1 edge test one h.1.0 u.0, body 1 edge s one h.1.1 u.1 g))
  phase edge (InBfsBoth k at search test s back_key back_test back) h u g = (
    flat search.iterator h.0,
    ((inside 1 edge test one h.1.0.0 u.0, body 1 edge s one h.1.0.1 u.1.0 g.0), (inside 1 edge back_test one h.1.1.0 u.1.1.0, body 1 edge back one h.1.1.1 u.1.1.1 g.1)),
  )
  phase edge (Return k at e) h u g = may-outside edge e h u
  phase edge s h u g = tt

pub program-stands : (goes : List Target → Type 0) (p : Program) → IsTyped p → AllGiven goes p.body → Phase goes (Outer p.declarations) (Inner p.declarations) p.body
program-stands goes p typed given = phase p.declarations goes false p.body (program-placed p typed) (program-unchecked typed.source p typed.is) given
