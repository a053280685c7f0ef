-- What is of a body with its runs in blocks, where it is put together from the parts of a block.
use Rattle.std.proofs.Common.{◌≡◌, Bool, true, false, List, [], ◌∷◌, ◌++◌, refl, sym, ap, ◌∙◌}
use Rattle.gm_ast.specs.declared.tree.Key.{Key}
use Rattle.gm_ast.specs.Program.{Expr, Stmt, Skip, Then, If, sequence}
use Rattle.gm_cut.specs.Runs.{before, placed, gathered, grouped}

-- f: what is of a body: that of a block is put together by op from those of its parts, which may stand in whatever blocks; and that of an If rests on those of its branches
module _ (own : Stmt → Bool) (joins : List Stmt → Stmt → Bool) {A : Type 0} (f : Stmt → A) (op : A → A → A) (none : A) (f-skip : f Skip ≡ none) (f-then : (a b : Stmt) → f (Then a b) ≡ op (f a) (f b))
    (assoc : (x y z : A) → op (op x y) z ≡ op x (op y z)) (left : (x : A) → op none x ≡ x) (right : (x : A) → op x none ≡ x)
    (f-if : (k : Key) (c : Expr) (a b a' b' : Stmt) → f a ≡ f a' → f b ≡ f b' → f (If k c a b) ≡ f (If k c a' b')) where
  skip-first : (x : A) → op (f Skip) x ≡ x
  skip-first x = ap (λ y. op y x) f-skip ∙ left x

  one : (s : Stmt) → f (sequence (s ∷ [])) ≡ f s
  one s = f-then s Skip ∙ ap (op (f s)) f-skip ∙ right (f s)

  last : (run : List Stmt) (s : Stmt) → f (sequence (run ++ (s ∷ []))) ≡ op (f (sequence run)) (f s)
  last [] s = one s ∙ sym (skip-first (f s))
  last (x ∷ run) s = f-then x (sequence (run ++ (s ∷ []))) ∙ ap (op (f x)) (last run s) ∙ sym (assoc (f x) (f (sequence run)) (f s)) ∙ ap (λ y. op y (f s)) (sym (f-then x (sequence run)))

  first : (run : List Stmt) (s : Stmt) → f (before own joins run s) ≡ op (f (sequence run)) (f s)
  first [] s = sym (skip-first (f s))
  first (x ∷ run) s = f-then (sequence (x ∷ run)) s

  -- what comes behind a run adds the same to each
  abbrev pub Adds : (List Stmt → Stmt) → A → Type 0
  Adds rest x = (run : List Stmt) → f (rest run) ≡ op (f (sequence run)) x

  place : (b c : Bool) (run : List Stmt) (s t : Stmt) (rest : List Stmt → Stmt) (x : A) → f t ≡ f s → Adds rest x → f (placed own joins b c run s t rest) ≡ op (f (sequence run)) (op (f s) x)
  place true c run s t rest x e h = h (run ++ (s ∷ [])) ∙ ap (λ y. op y x) (last run s) ∙ assoc (f (sequence run)) (f s) x
  place false true run s t rest x e h = first run (rest (s ∷ [])) ∙ ap (op (f (sequence run))) (h (s ∷ []) ∙ ap (λ y. op y x) (one s))
  place false false run s t rest x e h =
      first run (Then t (rest [])) ∙ ap (op (f (sequence run))) (f-then t (rest []) ∙ ap (λ y. op y (f (rest []))) e ∙ ap (op (f s)) (h [] ∙ skip-first x))

  pub gather : (s : Stmt) (run : List Stmt) (rest : List Stmt → Stmt) (x : A) → Adds rest x → f (gathered own joins s run rest) ≡ op (f (sequence run)) (op (f s) x)
  gather Skip run rest x h = h run ∙ ap (op (f (sequence run))) (sym (skip-first x))
  gather (Then a b) run rest x h =
      gather a run (λ r. gathered own joins b r rest) (op (f b) x) (λ r. gather b r rest x h)
      ∙ ap (op (f (sequence run))) (sym (assoc (f a) (f b) x) ∙ ap (λ y. op y x) (sym (f-then a b)))
  gather (If k c a b) run rest x h =
      place (joins run (If k c a b)) (own (If k c a b)) run (If k c a b) (If k c (gathered own joins a [] sequence) (gathered own joins b [] sequence)) rest x
      (f-if k c (gathered own joins a [] sequence) (gathered own joins b [] sequence) a b
      (gather a [] sequence none (λ r. sym (right (f (sequence r)))) ∙ skip-first (op (f a) none) ∙ right (f a))
      (gather b [] sequence none (λ r. sym (right (f (sequence r)))) ∙ skip-first (op (f b) none) ∙ right (f b))) h
  gather s run rest x h = place (joins run s) (own s) run s s rest x refl h

  pub grouped-same : (s : Stmt) → f (grouped own joins s) ≡ f s
  grouped-same s = gather s [] sequence none (λ r. sym (right (f (sequence r)))) ∙ skip-first (op (f s) none) ∙ right (f s)
