-- What is asked of a body's parts holds of it with its runs in blocks.
use Rattle.std.proofs.Common.{◌≡◌, ℕ, Bool, true, false, List, [], ◌++◌, append-nil, refl, sym, ap, ◌∙◌}
use Rattle.std.specs.Prelude.{◌&&◌, ◌||◌, not}
use Rattle.std.specs.List.{list_all}
use Rattle.gm_ast.specs.declared.tree.Declaration.{Declaration}
use Rattle.gm_ast.specs.declared.tree.Key.{Key}
use Rattle.gm_ast.specs.Program.{Expr, Stmt, Skip, Then, If}
use Rattle.gm_forms.specs.Cut.{touched}
use Rattle.gm_forms.specs.Sharing.{told_in}
use Rattle.gm_dissect.specs.Conditions.{holds_cut}
use Rattle.gm_cut.specs.Runs.{grouped}
use Rattle.gm_cut.proofs.Grouped.{two-same, append-assoc, and-one}
use Rattle.gm_cut.proofs.Runs.{grouped-same}
use Rattle.gm_parting.specs.InnerLoops.{inner_loops_apart, inner_iterators_deep}
use Rattle.gm_parting.specs.Lasting.{is_lasting, conditions_last}
use Rattle.gm_parting.specs.Locals.{names_pass}
use Rattle.gm_parting.specs.Tuples.{reduces_evenly}

and-assoc : (x y z : Bool) → (x && y) && z ≡ x && (y && z)
and-assoc true y z = refl
and-assoc false y z = refl

or-assoc : (x y z : Bool) → (x || y) || z ≡ x || (y || z)
or-assoc true y z = refl
or-assoc false y z = refl

or-none : (x : Bool) → x || false ≡ x
or-none true = refl
or-none false = refl

module _ (own : Stmt → Bool) (joins : List Stmt → Stmt → Bool) where
  abbrev Same : (Stmt → Bool) → Type 0
  Same f = (s : Stmt) → f (grouped own joins s) ≡ f s

  -- a test of both parts of a block, and of both branches
  tests : (f : Stmt → Bool) → f Skip ≡ true → ((a b : Stmt) → f (Then a b) ≡ f a && f b) → ((k : Key) (c : Expr) (a b : Stmt) → f (If k c a b) ≡ f a && f b) → Same f
  tests f e t i =
      grouped-same own joins f (λ x y. x && y) true e t and-assoc (λ x. refl) and-one
      (λ k c a b a' b' p q. i k c a b ∙ two-same (λ x y. x && y) (f a) (f a') (f b) (f b') p q ∙ back k c a' b')
    where
      back : (k : Key) (c : Expr) (a b : Stmt) → f a && f b ≡ f (If k c a b)
      back k c a b = sym (i k c a b)

  pub even-same : (ds : List Declaration) (s : Stmt) → reduces_evenly ds (grouped own joins s) ≡ reduces_evenly ds s
  even-same ds = tests (reduces_evenly ds) refl (λ a b. refl) (λ k c a b. refl)

  pub apart-same : (ds : List Declaration) (n : ℕ) (s : Stmt) → inner_loops_apart ds n (grouped own joins s) ≡ inner_loops_apart ds n s
  apart-same ds n = tests (inner_loops_apart ds n) refl (λ a b. refl) (λ k c a b. refl)

  pub names-same : (may : List ℕ → ℕ → Bool) (its : List ℕ) (s : Stmt) → names_pass may its (grouped own joins s) ≡ names_pass may its s
  names-same may its =
      grouped-same own joins (names_pass may its) (λ x y. x && y) true refl (λ a b. refl) and-assoc (λ x. refl) and-one
      (λ k c a b a' b' p q. ap (λ x. list_all (may its) (told_in c) && x) (two-same (λ x y. x && y) (names_pass may its a) (names_pass may its a') (names_pass may its b) (names_pass may its b') p q))

  pub deep-same : (ds : List Declaration) (s : Stmt) → inner_iterators_deep ds (grouped own joins s) ≡ inner_iterators_deep ds s
  deep-same ds = tests (inner_iterators_deep ds) refl (λ a b. refl) (λ k c a b. refl)

  -- what a body writes, whether it holds what is cut, and whether its conditions last
  pub record Written : Type 0 where
    pub writes : List ℕ
    pub holds : Bool
    pub lasts : Bool

  abbrev put : List ℕ → Bool → Bool → Written
  put xs a c = record { writes = xs; holds = a; lasts = c }

  abbrev joined : Written → Written → Written
  joined p q = put (p.writes ++ q.writes) (p.holds || q.holds) (p.lasts && q.lasts)

  abbrev nothing : Written
  nothing = put [] false true

  made : (xs ys : List ℕ) (a b c d : Bool) → xs ≡ ys → a ≡ b → c ≡ d → put xs a c ≡ put ys b d
  made xs ys a b c d e f g = ap (λ l. put l a c) e ∙ ap (λ h. put ys h c) f ∙ ap (put ys b) g

  module _ (ds : List Declaration) (n : ℕ) where
    abbrev of : Stmt → Written
    of s = put (touched s) (holds_cut n s) (conditions_last ds n s)

    abbrev branches : Expr → Written → Written → Written
    branches c p q = put (p.writes ++ q.writes) (p.holds || q.holds) ((not (p.holds || q.holds) || is_lasting ds n (p.writes ++ q.writes) c) && (p.lasts && q.lasts))

    all-same : (s : Stmt) → of (grouped own joins s) ≡ of s
    all-same =
        grouped-same own joins of joined nothing refl (λ a b. refl)
        (λ p q r. made ((p.writes ++ q.writes) ++ r.writes) (p.writes ++ (q.writes ++ r.writes)) ((p.holds || q.holds) || r.holds) (p.holds || (q.holds || r.holds)) ((p.lasts && q.lasts) && r.lasts) (p.lasts && (q.lasts && r.lasts))
        (append-assoc p.writes q.writes r.writes) (or-assoc p.holds q.holds r.holds) (and-assoc p.lasts q.lasts r.lasts))
        (λ p. refl)
        (λ p. made (p.writes ++ []) p.writes (p.holds || false) p.holds (p.lasts && true) p.lasts (append-nil p.writes) (or-none p.holds) (and-one p.lasts))
        (λ k c a b a' b' e h. two-same (branches c) (of a) (of a') (of b) (of b') e h)

    pub last-same : (s : Stmt) → (touched (grouped own joins s) ≡ touched s) × (conditions_last ds n (grouped own joins s) ≡ conditions_last ds n s)
    last-same s = (ap (λ (w : Written). w.writes) (all-same s), ap (λ (w : Written). w.lasts) (all-same s))
