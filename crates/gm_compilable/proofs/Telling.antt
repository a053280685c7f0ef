-- Statements whose constants may stand in an image, and which tell such variables alone as may be told where they stand.
use Rattle.std.proofs.Common.{◌≡◌, ℕ, true, List, [], ◌∷◌, ◌++◌, Option, Some, None}
use Rattle.gm_base.specs.declared.places.Place.{Place}
use Rattle.gm_value.specs.Reductions.{reduces}
use Rattle.gm_ast.specs.declared.tree.Head.{Head}
use Rattle.gm_ast.specs.declared.tree.Key.{Key}
use Rattle.gm_ast.specs.Program.{Expr, Const, Var, Unary, Binary, Both, Either, Choose, Folded, Stmt, Then, Declare, Assign, Defer, Combine, Group, Foreach, For, If, While, Do, InBfs, InBfsBoth, Return, sequence}
use Rattle.gm_semantics.specs.Expressions.{reduce_of}
use Rattle.gm_dissect.specs.Loops.{each_loop}
use Rattle.gm_sound_lowering.specs.Asked.{is_plain_constant}

-- told: what may be told. A reduction fits its type
module _ (told : ℕ → Type 0) where
  abbrev pub Tells : Expr → Type 0
  Tells (Const v) = is_plain_constant v ≡ true
  Tells (Var x at) = told x
  Tells (Unary op at e) = Tells e
  Tells (Binary op at a b) = Tells a × Tells b
  Tells (Both a b) = Tells a × Tells b
  Tells (Either a b) = Tells a × Tells b
  Tells (Choose c a b) = Tells c × (Tells a × Tells b)
  Tells (Folded f h test e) = (reduces (reduce_of f.word) f.vtype ≡ true) × (Tells test × Tells e)
  Tells e = Unit {0}

  abbrev pub MayTell : Option Expr → Type 0
  MayTell None = Unit {0}
  MayTell (Some e) = Tells e

  abbrev pub AllTell : List Expr → Type 0
  AllTell [] = Unit {0}
  AllTell (e ∷ es) = Tells e × AllTell es

  -- a body of a parallel loop
  abbrev pub Body : Stmt → Type 0
  Body (Then a b) = Body a × Body b
  Body (Declare k x e) = MayTell e
  Body (Assign k t e) = Tells e
  Body (Defer k t e) = Tells e
  Body (Combine k total r ts es) = AllTell es
  Body (If k c a b) = Tells c × (Body a × Body b)
  Body (Foreach k at h test body) = Tells test × Body body
  Body s = Unit {0}

  -- each of some statements of one
  abbrev pub Bodies : List Stmt → Type 0
  Bodies [] = Unit {0}
  Bodies (s ∷ ss) = Body s × Bodies ss

  pub bodies-both : (xs ys : List Stmt) → Bodies xs → Bodies ys → Bodies (xs ++ ys)
  bodies-both [] ys h k = k
  bodies-both (x ∷ xs) ys h k = (h.0, bodies-both xs ys h.1 k)

  pub sequence-body : (ss : List Stmt) → Bodies ss → Body (sequence ss)
  sequence-body [] h = tt
  sequence-body (s ∷ ss) h = (h.0, sequence-body ss h.1)

-- fors: what iterates Fors; out: what may be told outside of parallel loops; inn: in a loop with an iterator
module _ (fors out : ℕ → Type 0) (inn : ℕ → ℕ → Type 0) where
  -- a sequential phase
  abbrev pub Phase : Stmt → Type 0
  Phase (Then a b) = Phase a × Phase b
  Phase (Declare k x e) = MayTell out e
  Phase (Assign k t e) = Tells out e
  Phase (Combine k total r ts es) = AllTell out es
  Phase (Group k at g p e) = Tells (inn g) e
  Phase (Foreach k at h test body) = Tells (inn h.iterator) test × Body (inn h.iterator) body
  Phase (For k at h test body) = fors h.iterator × (Tells out test × Phase body)
  Phase (If k c a b) = Tells out c × (Phase a × Phase b)
  Phase (While k at c body) = Tells out c × Phase body
  Phase (Do k at body c) = Phase body × Tells out c
  Phase (InBfs k at s test body) = Tells (inn s.iterator) test × Body (inn s.iterator) body
  Phase (InBfsBoth k at s test body back_key back_test back) =
      (Tells (inn s.iterator) test × Body (inn s.iterator) body) × (Tells (inn s.iterator) back_test × Body (inn s.iterator) back)
  Phase (Return k at e) = MayTell out e
  Phase s = Unit {0}

  -- each of some statements of one
  abbrev pub Phases : List Stmt → Type 0
  Phases [] = Unit {0}
  Phases (s ∷ ss) = Phase s × Phases ss

  pub phases-both : (xs ys : List Stmt) → Phases xs → Phases ys → Phases (xs ++ ys)
  phases-both [] ys h k = k
  phases-both (x ∷ xs) ys h k = (h.0, phases-both xs ys h.1 k)

  pub sequence-phase : (ss : List Stmt) → Phases ss → Phase (sequence ss)
  sequence-phase [] h = tt
  sequence-phase (s ∷ ss) h = (h.0, sequence-phase ss h.1)

  -- loops over nodes that are written as others
  pub loops-tell : (f : Key → Place → Head → Expr → Stmt → Stmt)
      → ((k : Key) (at : Place) (hd : Head) (test : Expr) (body : Stmt) → Tells (inn hd.iterator) test → Body (inn hd.iterator) body → Phase (f k at hd test body)) → (s : Stmt) → Phase s → Phase (each_loop f s)
  loops-tell f fine (Then a b) h = (loops-tell f fine a h.0, loops-tell f fine b h.1)
  loops-tell f fine (Foreach k at hd test body) h = fine k at hd test body h.0 h.1
  loops-tell f fine (For k at hd test body) h = (h.0, (h.1.0, loops-tell f fine body h.1.1))
  loops-tell f fine (If k c a b) h = (h.0, (loops-tell f fine a h.1.0, loops-tell f fine b h.1.1))
  loops-tell f fine (While k at c body) h = (h.0, loops-tell f fine body h.1)
  loops-tell f fine (Do k at body c) h = (loops-tell f fine body h.0, h.1)
  loops-tell f fine s h = h

-- ---- where more may be told

module _ (told wider : ℕ → Type 0) (more : (x : ℕ) → told x → wider x) where
  pub tells-more : (e : Expr) → Tells told e → Tells wider e
  tells-more (Var x at) h = more x h
  tells-more (Unary op at e) h = tells-more e h
  tells-more (Binary op at a b) h = (tells-more a h.0, tells-more b h.1)
  tells-more (Both a b) h = (tells-more a h.0, tells-more b h.1)
  tells-more (Either a b) h = (tells-more a h.0, tells-more b h.1)
  tells-more (Choose c a b) h = (tells-more c h.0, (tells-more a h.1.0, tells-more b h.1.1))
  tells-more (Folded f hd test e) h = (h.0, (tells-more test h.1.0, tells-more e h.1.1))
  tells-more e h = h

  pub may-more : (o : Option Expr) → MayTell told o → MayTell wider o
  may-more None h = tt
  may-more (Some e) h = tells-more e h

  pub all-more : (es : List Expr) → AllTell told es → AllTell wider es
  all-more [] h = tt
  all-more (e ∷ es) h = (tells-more e h.0, all-more es h.1)

  pub body-more : (s : Stmt) → Body told s → Body wider s
  body-more (Then a b) h = (body-more a h.0, body-more b h.1)
  body-more (Declare k x e) h = may-more e h
  body-more (Assign k t e) h = tells-more e h
  body-more (Defer k t e) h = tells-more e h
  body-more (Combine k total r ts es) h = all-more es h
  body-more (If k c a b) h = (tells-more c h.0, (body-more a h.1.0, body-more b h.1.1))
  body-more (Foreach k at hd test s) h = (tells-more test h.0, body-more s h.1)
  body-more s h = h
