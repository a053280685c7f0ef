-- Statements whose iterators stand as deep as their loops, and whose parallel code checks no node variable and reduces such targets together as belong together.
use Rattle.std.proofs.Common.{◌≡◌, ℕ, true, false, List, [], ◌∷◌, ◌++◌, Option, Some, None}
use Rattle.gm_ast.specs.declared.tree.Target.{Target}
use Rattle.gm_ast.specs.Program.{Expr, Live, Unary, Binary, Both, Either, Choose, Folded, Stmt, Then, Declare, Assign, Defer, Combine, Group, Foreach, For, If, While, Do, InBfs, InBfsBoth, Return, sequence}

-- inner: what may iterate the loops within others
module _ (inner : ℕ → Type 0) where
  -- an expression of parallel code
  abbrev pub Inside : Expr → Type 0
  Inside (Live x at) = false ≡ true
  Inside (Unary op at e) = Inside e
  Inside (Binary op at a b) = Inside a × Inside b
  Inside (Both a b) = Inside a × Inside b
  Inside (Either a b) = Inside a × Inside b
  Inside (Choose c a b) = Inside c × (Inside a × Inside b)
  Inside (Folded f h test e) = inner h.iterator × (Inside test × Inside e)
  Inside e = Unit {0}

  abbrev pub MayBeInside : Option Expr → Type 0
  MayBeInside None = Unit {0}
  MayBeInside (Some e) = Inside e

  abbrev pub AreInside : List Expr → Type 0
  AreInside [] = Unit {0}
  AreInside (e ∷ es) = Inside e × AreInside es

-- goes: which targets one reduction of parallel code may have
module _ (goes : List Target → Type 0) (inner : ℕ → Type 0) where
  -- a body of a parallel loop
  abbrev pub Body : Stmt → Type 0
  Body (Then a b) = Body a × Body b
  Body (Declare k x e) = MayBeInside inner e
  Body (Assign k t e) = Inside inner e
  Body (Defer k t e) = Inside inner e
  Body (Combine k total r ts es) = goes ts × AreInside inner es
  Body (If k c a b) = Inside inner c × (Body a × Body b)
  Body (Foreach k at h test body) = inner h.iterator × (Inside inner test × Body body)
  Body s = Unit {0}

  -- each of some statements of one
  abbrev pub Bodies : List Stmt → Type 0
  Bodies [] = Unit {0}
  Bodies (s ∷ ss) = Body s × Bodies ss

  pub bodies-both : (xs ys : List Stmt) → Bodies xs → Bodies ys → Bodies (xs ++ ys)
  bodies-both [] ys h k = k
  bodies-both (x ∷ xs) ys h k = (h.0, bodies-both xs ys h.1 k)

  pub sequence-body : (ss : List Stmt) → Bodies ss → Body (sequence ss)
  sequence-body [] h = tt
  sequence-body (s ∷ ss) h = (h.0, sequence-body ss h.1)

-- outer: what may iterate the loops over nodes
module _ (outer inner : ℕ → Type 0) where
  -- an expression of a sequential phase, whose reductions are loops over nodes
  abbrev pub Outside : Expr → Type 0
  Outside (Unary op at e) = Outside e
  Outside (Binary op at a b) = Outside a × Outside b
  Outside (Both a b) = Outside a × Outside b
  Outside (Either a b) = Outside a × Outside b
  Outside (Choose c a b) = Outside c × (Outside a × Outside b)
  Outside (Folded f h test e) = outer h.iterator × (Inside inner test × Inside inner e)
  Outside e = Unit {0}

  abbrev pub MayBeOutside : Option Expr → Type 0
  MayBeOutside None = Unit {0}
  MayBeOutside (Some e) = Outside e

  abbrev pub AreOutside : List Expr → Type 0
  AreOutside [] = Unit {0}
  AreOutside (e ∷ es) = Outside e × AreOutside es

module _ (goes : List Target → Type 0) (outer inner : ℕ → Type 0) where
  -- a sequential phase
  abbrev pub Phase : Stmt → Type 0
  Phase (Then a b) = Phase a × Phase b
  Phase (Declare k x e) = MayBeOutside outer inner e
  Phase (Assign k t e) = Outside outer inner e
  Phase (Combine k total r ts es) = AreOutside outer inner es
  Phase (Group k at g p e) = outer g × Inside inner e
  Phase (Foreach k at h test body) = outer h.iterator × (Inside inner test × Body goes inner body)
  Phase (For k at h test body) = Outside outer inner test × Phase body
  Phase (If k c a b) = Outside outer inner c × (Phase a × Phase b)
  Phase (While k at c body) = Outside outer inner c × Phase body
  Phase (Do k at body c) = Phase body × Outside outer inner c
  Phase (InBfs k at s test body) = outer s.iterator × (Inside inner test × Body goes inner body)
  Phase (InBfsBoth k at s test body back_key back_test back) =
      outer s.iterator × ((Inside inner test × Body goes inner body) × (Inside inner back_test × Body goes inner back))
  Phase (Return k at e) = MayBeOutside outer inner e
  Phase s = Unit {0}

  -- each of some statements of one
  abbrev pub Phases : List Stmt → Type 0
  Phases [] = Unit {0}
  Phases (s ∷ ss) = Phase s × Phases ss

  pub phases-both : (xs ys : List Stmt) → Phases xs → Phases ys → Phases (xs ++ ys)
  phases-both [] ys h k = k
  phases-both (x ∷ xs) ys h k = (h.0, phases-both xs ys h.1 k)

  pub sequence-phase : (ss : List Stmt) → Phases ss → Phase (sequence ss)
  sequence-phase [] h = tt
  sequence-phase (s ∷ ss) h = (h.0, sequence-phase ss h.1)

-- ---- where more may iterate

module _ (inner wider : ℕ → Type 0) (more : (x : ℕ) → inner x → wider x) where
  pub inside-more : (e : Expr) → Inside inner e → Inside wider e
  inside-more (Unary op at e) h = inside-more e h
  inside-more (Binary op at a b) h = (inside-more a h.0, inside-more b h.1)
  inside-more (Both a b) h = (inside-more a h.0, inside-more b h.1)
  inside-more (Either a b) h = (inside-more a h.0, inside-more b h.1)
  inside-more (Choose c a b) h = (inside-more c h.0, (inside-more a h.1.0, inside-more b h.1.1))
  inside-more (Folded f hd test e) h = (more hd.iterator h.0, (inside-more test h.1.0, inside-more e h.1.1))
  inside-more e h = h

  may-more : (o : Option Expr) → MayBeInside inner o → MayBeInside wider o
  may-more None h = tt
  may-more (Some e) h = inside-more e h

  are-more : (es : List Expr) → AreInside inner es → AreInside wider es
  are-more [] h = tt
  are-more (e ∷ es) h = (inside-more e h.0, are-more es h.1)

  module _ (goes may : List Target → Type 0) (together : (ts : List Target) → goes ts → may ts) where
    pub body-more : (s : Stmt) → Body goes inner s → Body may wider s
    body-more (Then a b) h = (body-more a h.0, body-more b h.1)
    body-more (Declare k x e) h = may-more e h
    body-more (Assign k t e) h = inside-more e h
    body-more (Defer k t e) h = inside-more e h
    body-more (Combine k total r ts es) h = (together ts h.0, are-more es h.1)
    body-more (If k c a b) h = (inside-more c h.0, (body-more a h.1.0, body-more b h.1.1))
    body-more (Foreach k at hd test s) h = (more hd.iterator h.0, (inside-more test h.1.0, body-more s h.1.1))
    body-more s h = h

module _ (outer inner wide wider : ℕ → Type 0) (out : (x : ℕ) → outer x → wide x) (more : (x : ℕ) → inner x → wider x) where
  outside-more : (e : Expr) → Outside outer inner e → Outside wide wider e
  outside-more (Unary op at e) h = outside-more e h
  outside-more (Binary op at a b) h = (outside-more a h.0, outside-more b h.1)
  outside-more (Both a b) h = (outside-more a h.0, outside-more b h.1)
  outside-more (Either a b) h = (outside-more a h.0, outside-more b h.1)
  outside-more (Choose c a b) h = (outside-more c h.0, (outside-more a h.1.0, outside-more b h.1.1))
  outside-more (Folded f hd test e) h = (out hd.iterator h.0, (inside-more inner wider more test h.1.0, inside-more inner wider more e h.1.1))
  outside-more e h = h

  may-outside : (o : Option Expr) → MayBeOutside outer inner o → MayBeOutside wide wider o
  may-outside None h = tt
  may-outside (Some e) h = outside-more e h

  are-outside : (es : List Expr) → AreOutside outer inner es → AreOutside wide wider es
  are-outside [] h = tt
  are-outside (e ∷ es) h = (outside-more e h.0, are-outside es h.1)

  module _ (goes may : List Target → Type 0) (together : (ts : List Target) → goes ts → may ts) where
    pub phase-more : (s : Stmt) → Phase goes outer inner s → Phase may wide wider s
    phase-more (Then a b) h = (phase-more a h.0, phase-more b h.1)
    phase-more (Declare k x e) h = may-outside e h
    phase-more (Assign k t e) h = outside-more e h
    phase-more (Combine k total r ts es) h = are-outside es h
    phase-more (Group k at g p e) h = (out g h.0, inside-more inner wider more e h.1)
    phase-more (Foreach k at hd test s) h = (out hd.iterator h.0, (inside-more inner wider more test h.1.0, body-more inner wider more goes may together s h.1.1))
    phase-more (For k at hd test s) h = (outside-more test h.0, phase-more s h.1)
    phase-more (If k c a b) h = (outside-more c h.0, (phase-more a h.1.0, phase-more b h.1.1))
    phase-more (While k at c s) h = (outside-more c h.0, phase-more s h.1)
    phase-more (Do k at s c) h = (phase-more s h.0, outside-more c h.1)
    phase-more (InBfs k at search test s) h = (out search.iterator h.0, (inside-more inner wider more test h.1.0, body-more inner wider more goes may together s h.1.1))
    phase-more (InBfsBoth k at search test s back_key back_test back) h =
        (out search.iterator h.0, ((inside-more inner wider more test h.1.0.0, body-more inner wider more goes may together s h.1.0.1), (inside-more inner wider more back_test h.1.1.0, body-more inner wider more goes may together back h.1.1.1)))
    phase-more (Return k at e) h = may-outside e h
    phase-more s h = h
