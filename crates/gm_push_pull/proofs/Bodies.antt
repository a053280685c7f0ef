-- The demands of a body's statements, and what its actions write; its reductions, with what their supports read.
use Rattle.std.proofs.Common.{◌≡◌, ℕ, Bool, true, false, ◌||◌, List, [], ◌∷◌, ◌++◌, refl, sym, ap, subst, ◌∙◌, ◌⊎◌, inl, inr, Some, None}
use Rattle.std.specs.Prelude.{nat_eq, flat_map}
use Rattle.std.proofs.lemmas.Bool.{or_left}
use Rattle.gm_ast.specs.declared.tree.Target.{Target}
use Rattle.gm_ast.specs.Program.{Expr, Stmt, Skip, Then, Declare, DeclareEdge, Assign, Defer, Combine, Group, Foreach, For, If, While, Do, InBfs, InBfsBoth, Return}
use Rattle.gm_ast.specs.Ways.{Mention, mentions, held_of, Action, actions}
use Rattle.gm_ast.specs.Loops.{any}
use Rattle.gm_push_pull.specs.Tests.{Test, passes_alone, passes}
use Rattle.gm_push_pull.specs.Sweeps.{compared, is_written, written, Demand, Demands}
use Rattle.gm_push_pull.proofs.Ors.{or-assoc, or-swap, or-nothing}
use Rattle.gm_push_pull.proofs.Among.{Among, among-left, among-right, among-cases, any-append}
use Rattle.gm_push_pull.proofs.Supports.{Closed, either_way}

-- a test of what is mentioned beside conditions
beside : (p : Mention → Bool) (ms cs : List Mention) → any p (ms ++ cs) ≡ (any p cs || any p ms)
beside p ms cs = any-append p ms cs ∙ or-swap (any p ms) (any p cs)

-- and of what a reduction looks at, where its values are mentioned before what its targets hold
pub looked-at : (p : Mention → Bool) (ts : List Target) (es : List Expr) (cs : List Mention) → any p (flat_map mentions es ++ (flat_map held_of ts ++ cs)) ≡ (any p cs || any p (compared ts es))
looked-at p ts es cs =
    let held = flat_map held_of ts in
    let values = flat_map mentions es in
    beside p values (held ++ cs) ∙ ap (λ b. b || any p values) (beside p held cs) ∙ or-assoc (any p cs) (any p held) (any p values) ∙ ap (λ b. any p cs || b) (sym (any-append p held values))

module _ (i : ℕ) (known : ℕ → Bool) (t : Test) (B : ℕ → Bool) where
  -- answers that are closed under what a list of actions writes
  abbrev IsClosed : List Action → Type 0
  IsClosed all = Closed known (passes_alone i t) B all

  closed-left : (xs ys : List Action) → IsClosed (xs ++ ys) → IsClosed xs
  closed-left xs ys h a k = h a (among-left a xs ys k)

  closed-right : (xs ys : List Action) → IsClosed (xs ++ ys) → IsClosed ys
  closed-right xs ys h a k = h a (among-right a xs ys k)

  closed-both : (xs ys : List Action) → IsClosed xs → IsClosed ys → IsClosed (xs ++ ys)
  closed-both xs ys h k a q = on (among-cases a xs ys q)
    where
      on : (Among a xs ⊎ Among a ys) → Demand known B (written a.targets) (any (either_way (passes_alone i t) B) a.mentioned)
      on (inl r) = h a r
      on (inr r) = k a r

  closed-one : (a : Action) → Demand known B (written a.targets) (any (either_way (passes_alone i t) B) a.mentioned) → IsClosed (a ∷ [])
  closed-one a d b (inl e) = subst (λ (x : Action). Demand known B (written x.targets) (any (either_way (passes_alone i t) B) x.mentioned)) (sym e) d
  closed-one a d b (inr k) = absurd k

  -- answers that are closed meet the demands of a statement
  pub demands-closed : (s : Stmt) (cs : List Mention) → IsClosed (actions s cs) → Demands i known t B s (any (passes i t B) cs)
  demands-closed (Then a b) cs h = (demands-closed a cs (closed-left (actions a cs) (actions b cs) h), demands-closed b cs (closed-right (actions a cs) (actions b cs) h))
  demands-closed (If k c a b) cs h =
      let ds = mentions c ++ cs in
      let e = beside (passes i t B) (mentions c) cs in (
        subst (Demands i known t B a) e (demands-closed a ds (closed-left (actions a ds) (actions b ds) h)),
        subst (Demands i known t B b) e (demands-closed b ds (closed-right (actions a ds) (actions b ds) h)),
      )
  demands-closed (Declare k x (Some e)) cs h = λ y a b q.
      h (record { reduces = false; targets = Target.Scalar x (record { line = 0; col = 0 }) ∷ []; mentioned = (mentions e ++ []) ++ cs }) (inl refl) y a (or_left (nat_eq x y) false b)
      (beside (passes i t B) (mentions e ++ []) cs ∙ ap (λ c. any (passes i t B) cs || c) (any-append (passes i t B) (mentions e) [] ∙ or-nothing (any (passes i t B) (mentions e))) ∙ q)
  demands-closed (Declare k x None) cs h = λ y a b q.
      h (record { reduces = false; targets = Target.Scalar x (record { line = 0; col = 0 }) ∷ []; mentioned = cs }) (inl refl) y a (or_left (nat_eq x y) false b) q
  demands-closed (Assign k target e) cs h = λ y a b q.
      h (record { reduces = false; targets = target ∷ []; mentioned = (mentions e ++ []) ++ cs }) (inl refl) y a (or_left (is_written target y) false b)
      (beside (passes i t B) (mentions e ++ []) cs ∙ ap (λ c. any (passes i t B) cs || c) (any-append (passes i t B) (mentions e) [] ∙ or-nothing (any (passes i t B) (mentions e))) ∙ q)
  demands-closed (Combine k total r ts es) cs h = λ y a b q.
      h (record { reduces = true; targets = ts; mentioned = flat_map mentions es ++ (flat_map held_of ts ++ cs) }) (inl refl) y a b (looked-at (passes i t B) ts es cs ∙ q)
  demands-closed Skip cs h = tt
  demands-closed (DeclareEdge x y at) cs h = tt
  demands-closed (Defer key target e) cs h = tt
  demands-closed (Group key at g p e) cs h = tt
  demands-closed (Foreach key at head f s) cs h = tt
  demands-closed (For key at head f s) cs h = tt
  demands-closed (While key at e s) cs h = tt
  demands-closed (Do key at s e) cs h = tt
  demands-closed (InBfs key at search f s) cs h = tt
  demands-closed (InBfsBoth key at search f s kb fb sb) cs h = tt
  demands-closed (Return key at e) cs h = tt

  -- answers that meet the demands of a statement are closed
  pub closed-demands : (s : Stmt) (cs : List Mention) → Demands i known t B s (any (passes i t B) cs) → IsClosed (actions s cs)
  closed-demands (Then a b) cs d = closed-both (actions a cs) (actions b cs) (closed-demands a cs d.0) (closed-demands b cs d.1)
  closed-demands (If k c a b) cs d =
      let ds = mentions c ++ cs in
      let e = beside (passes i t B) (mentions c) cs in
      closed-both (actions a ds) (actions b ds) (closed-demands a ds (subst (Demands i known t B a) (sym e) d.0)) (closed-demands b ds (subst (Demands i known t B b) (sym e) d.1))
  closed-demands (Declare k x (Some e)) cs d = closed-one (record { reduces = false; targets = Target.Scalar x (record { line = 0; col = 0 }) ∷ []; mentioned = (mentions e ++ []) ++ cs })
      (λ y a b q. d y a (sym (or-nothing (nat_eq x y)) ∙ b)
      (sym (beside (passes i t B) (mentions e ++ []) cs ∙ ap (λ c. any (passes i t B) cs || c) (any-append (passes i t B) (mentions e) [] ∙ or-nothing (any (passes i t B) (mentions e)))) ∙ q))
  closed-demands (Declare k x None) cs d = closed-one (record { reduces = false; targets = Target.Scalar x (record { line = 0; col = 0 }) ∷ []; mentioned = cs })
      (λ y a b q. d y a (sym (or-nothing (nat_eq x y)) ∙ b) q)
  closed-demands (Assign k target e) cs d = closed-one (record { reduces = false; targets = target ∷ []; mentioned = (mentions e ++ []) ++ cs })
      (λ y a b q. d y a (sym (or-nothing (is_written target y)) ∙ b)
      (sym (beside (passes i t B) (mentions e ++ []) cs ∙ ap (λ c. any (passes i t B) cs || c) (any-append (passes i t B) (mentions e) [] ∙ or-nothing (any (passes i t B) (mentions e)))) ∙ q))
  closed-demands (Combine k total r ts es) cs d = closed-one (record { reduces = true; targets = ts; mentioned = flat_map mentions es ++ (flat_map held_of ts ++ cs) })
      (λ y a b q. d y a b (sym (looked-at (passes i t B) ts es cs) ∙ q))
  closed-demands Skip cs d = λ a k. absurd k
  closed-demands (DeclareEdge x y at) cs d = λ a k. absurd k
  closed-demands (Defer key target e) cs d = λ a k. absurd k
  closed-demands (Group key at g p e) cs d = λ a k. absurd k
  closed-demands (Foreach key at head f s) cs d = λ a k. absurd k
  closed-demands (For key at head f s) cs d = λ a k. absurd k
  closed-demands (While key at e s) cs d = λ a k. absurd k
  closed-demands (Do key at s e) cs d = λ a k. absurd k
  closed-demands (InBfs key at search f s) cs d = λ a k. absurd k
  closed-demands (InBfsBoth key at search f s kb fb sb) cs d = λ a k. absurd k
  closed-demands (Return key at e) cs d = λ a k. absurd k
