-- An inner loop that reads along does so with marks of its own locals alone.
use Rattle.std.proofs.Common.{◌≡◌, ℕ, zero, Bool, true, false, cond, List, [], ◌∷◌, ◌++◌, arith, refl, ap, ◌∙◌}
use Rattle.std.specs.Prelude.{◌&&◌, not, nat_eq, nat_lt}
use Rattle.std.specs.List.{list_all}
use Rattle.std.proofs.lemmas.Bool.{both_ways, eqb-true, eq-eqb, ltb-true}
use Rattle.gm_ast.specs.Loops.{any}
use Rattle.gm_ast.specs.Ways.{Mention, mentions, reads_through, is_edge_read}
use Rattle.gm_ast.specs.declared.tree.Declaration.{Declaration}
use Rattle.gm_ast.specs.declared.tree.Head.{Head}
use Rattle.gm_ast.specs.declared.tree.Target.{Target}
use Rattle.gm_ast.specs.declared.tree.Target.TheVariants as T
use Rattle.gm_ast.specs.Program.{Expr, Stmt, Skip, Then, Declare, DeclareEdge, Assign, Defer, Combine, Group, Foreach, For, If, While, Do, InBfs, InBfsBoth, Return}
use Rattle.gm_forms.specs.Forms.{depth_at, is_flat, is_inner_body, is_inner_head, is_outer_body}
use Rattle.gm_forms.specs.Sharing.{are_at_once, variables_of, written}
use Rattle.gm_forms.specs.Uses.{suits, uses_of}
use Rattle.gm_semantics.specs.Statements.{variable_at}
use Rattle.gm_forms.proofs.Named.{both-true}
use Rattle.gm_forms.proofs.Weaker.{and-true}
use Rattle.gm_parting.specs.Iterators.{placed_from, iterates}
use Rattle.gm_parting.proofs.PlacedFacts.{FitAll, Fit}
use Rattle.gm_parting.proofs.PlacedLaws.{outer-fits, depth-new}
use Rattle.gm_one_way.specs.Along.{GoesAlong, AllAlong}
use Rattle.gm_one_way.proofs.Slim.{Agree, marks-less, along-less}

-- marks of what is declared inside of two loops, but for the outer iterator
abbrev slim : List Declaration → ℕ → (ℕ → Bool) → ℕ → Bool
slim ds n marked x = marked x && (nat_lt 1 (depth_at ds x) && not (nat_eq x n))

slim-less : (ds : List Declaration) (n : ℕ) (marked : ℕ → Bool) (x : ℕ) → slim ds n marked x ≡ true → marked x ≡ true
slim-less ds n marked x h = (both-true (marked x) (nat_lt 1 (depth_at ds x) && not (nat_eq x n)) h).0

and-none : (a b : Bool) → b ≡ false → a && b ≡ false
and-none true b h = h
and-none false b h = refl

slim-outer : (ds : List Declaration) (n : ℕ) (marked : ℕ → Bool) → slim ds n marked n ≡ false
slim-outer ds n marked = and-none (marked n) (nat_lt 1 (depth_at ds n) && not (nat_eq n n)) (and-none (nat_lt 1 (depth_at ds n)) (not (nat_eq n n)) (ap not (eq-eqb n n refl)))

slim-deep : (ds : List Declaration) (n : ℕ) (marked : ℕ → Bool) (x : ℕ) → nat_lt 1 (depth_at ds x) ≡ false → slim ds n marked x ≡ false
slim-deep ds n marked x h = and-none (marked x) (nat_lt 1 (depth_at ds x) && not (nat_eq x n)) (ap (λ b. b && not (nat_eq x n)) h)

-- an inner loop that reads along so
pub record Slim (ds : List Declaration) (n : ℕ) (h : Head) (test : Expr) (body : Stmt) : Type 0 where
  pub along : GoesAlong ds n h test body
  pub edges_outer : along.edges n ≡ false
  pub ends_outer : along.ends n ≡ false
  pub edges_deep : (x : ℕ) → nat_lt 1 (depth_at ds x) ≡ false → along.edges x ≡ false
  pub ends_deep : (x : ℕ) → nat_lt 1 (depth_at ds x) ≡ false → along.ends x ≡ false

abbrev pub AllSlim : List Declaration → ℕ → Stmt → Type 0
AllSlim ds n (Then a b) = AllSlim ds n a × AllSlim ds n b
AllSlim ds n (If k c a b) = AllSlim ds n a × AllSlim ds n b
AllSlim ds n (Foreach k at h test body) = Slim ds n h test body
AllSlim ds n _ = Unit {0}

pub slim-along : (ds : List Declaration) (n : ℕ) (s : Stmt) → AllSlim ds n s → AllAlong ds n s
slim-along ds n (Then a b) e = (slim-along ds n a e.0, slim-along ds n b e.1)
slim-along ds n (If k c a b) e = (slim-along ds n a e.0, slim-along ds n b e.1)
slim-along ds n (Foreach k at h test body) e = e.along
slim-along ds n s e = tt

-- n: the outer iterator, which iterates
module _ (ds : List Declaration) (n : ℕ) (iter : iterates (variable_at ds n) ≡ true) where
  -- a table in which it is no deeper than the procedure
  abbrev flat : List Declaration
  flat = placed_from [] zero ds

  at-top : depth_at flat n ≡ 0
  at-top = depth-new [] ds n iter

  -- what is declared inside of two loops, as deep there, is no such iterator
  other : (x : ℕ) → nat_lt 1 (depth_at ds x) ≡ true → depth_at flat x ≡ depth_at ds x → nat_eq x n ≡ false
  other x d same = by (nat_eq x n) refl
    where
      by : (b : Bool) → nat_eq x n ≡ b → nat_eq x n ≡ false
      by true e =
          let top : depth_at flat x ≡ 0 = ap (depth_at flat) (eqb-true x n e) ∙ at-top in
          let deep = ltb-true 1 (depth_at ds x) d in
          absurd (omega (arith, top, same, deep))
      by false e = e

  module _ (marked : ℕ → Bool) (reads : Mention → Bool) where
    abbrev Same : List ℕ → Type 0
    Same xs = Agree ds n reads (slim ds n marked) marked (slim-less ds n marked) xs

    one-same : (x : ℕ) → nat_lt 1 (depth_at ds x) ≡ true → depth_at flat x ≡ depth_at ds x → marked x ≡ true → slim ds n marked x ≡ true
    one-same x d same m = and-true (marked x) (nat_lt 1 (depth_at ds x) && not (nat_eq x n)) m (and-true (nat_lt 1 (depth_at ds x)) (not (nat_eq x n)) d (ap not (other x d same)))

    two-deep : (x : ℕ) → nat_eq (depth_at ds x) 2 ≡ true → nat_lt 1 (depth_at ds x) ≡ true
    two-deep x h = ap (λ d. nat_lt 1 d) (eqb-true (depth_at ds x) 2 h)

    once-same : (ts : List Target) → FitAll ds flat ts → are_at_once ds n true ts ≡ true → Same (variables_of ts)
    once-same [] f h = tt
    once-same (T.Scalar x at ∷ ts) f h = let r = both-true (nat_lt 1 (depth_at ds x)) (are_at_once ds n true ts) h in (one-same x r.0 f.0, once-same ts f.1 r.1)
    once-same (T.Property x p at ∷ ts) f h = absurd (both_ways false refl h)

    joined : (xs ys : List ℕ) → Same xs → Same ys → Same (xs ++ ys)
    joined [] ys p q = q
    joined (x ∷ xs) ys p q = (p.0, joined xs ys p.1 q)

    -- what an inner body sets
    sets-same : (its : List ℕ) (s : Stmt) → is_inner_body ds its true s ≡ true → Fit ds flat s → Same (written ds n true s)
    sets-same its Skip g f = tt
    sets-same its (Then a b) g f = let r = both-true (is_inner_body ds its true a) (is_inner_body ds its true b) g in joined (written ds n true a) (written ds n true b) (sets-same its a r.0 f.0) (sets-same its b r.1 f.1)
    sets-same its (Declare k x e) g f = (one-same x (two-deep x (both-true (nat_eq (depth_at ds x) 2) _ g).0) f.0, tt)
    sets-same its (DeclareEdge x y at) g f = tt
    sets-same its (Assign k (T.Scalar x at) e) g f = (one-same x (two-deep x (both-true (nat_eq (depth_at ds x) 2) _ g).0) f.0, tt)
    sets-same its (Assign k (T.Property x p at) e) g f = absurd (both_ways false refl g)
    sets-same its (Defer k t e) g f = absurd (both_ways false refl g)
    sets-same its (Combine k total r ts es) g f = by (are_at_once ds n true ts) refl
      where
        by : (o : Bool) → are_at_once ds n true ts ≡ o → Same (cond o (variables_of ts) [])
        by true e = once-same ts f.0 e
        by false e = tt
    sets-same its (Group k at u p e) g f = absurd (both_ways false refl g)
    sets-same its (Foreach k at hd test body) g f = absurd (both_ways false refl g)
    sets-same its (For k at hd test body) g f = absurd (both_ways false refl g)
    sets-same its (If k c a b) g f =
        let o = both-true (is_flat its true c) (is_inner_body ds its true a && is_inner_body ds its true b) g in
        let r = both-true (is_inner_body ds its true a) (is_inner_body ds its true b) o.1 in
        joined (written ds n true a) (written ds n true b) (sets-same its a r.0 f.1) (sets-same its b r.1 f.2)
    sets-same its (While k at c body) g f = absurd (both_ways false refl g)
    sets-same its (Do k at body c) g f = absurd (both_ways false refl g)
    sets-same its (InBfs k at hd c body) g f = absurd (both_ways false refl g)
    sets-same its (InBfsBoth k at hd c body bk d back) g f = absurd (both_ways false refl g)
    sets-same its (Return k at e) g f = absurd (both_ways false refl g)

  inner-slim : (h : Head) (test : Expr) (body : Stmt) → is_inner_body ds (n ∷ h.iterator ∷ []) true body ≡ true → Fit ds flat body → GoesAlong ds n h test body → Slim ds n h test body
  inner-slim h test body g f e =
      let its = n ∷ h.iterator ∷ [] in
      let less-edges = slim-less ds n e.edges in
      let less-ends = slim-less ds n e.ends in
      record {
        along = record {
          edges = slim ds n e.edges;
          ends = slim ds n e.ends;
          edges_marked = marks-less ds n is_edge_read (slim ds n e.edges) e.edges less-edges false false body (λ o. o) (sets-same e.edges is_edge_read its body g f) e.edges_marked;
          ends_marked = marks-less ds n (reads_through h.iterator) (slim ds n e.ends) e.ends less-ends false false body (λ o. o) (sets-same e.ends (reads_through h.iterator) its body g f) e.ends_marked;
          along = let a = any (reads_through h.iterator) (mentions test) in let b = any is_edge_read (mentions test) in along-less ds n h e.edges e.ends (slim ds n e.edges) (slim ds n e.ends) less-edges less-ends a a b b body (λ o. o) (λ o. o) e.along;
        };
        edges_outer = slim-outer ds n e.edges;
        ends_outer = slim-outer ds n e.ends;
        edges_deep = slim-deep ds n e.edges;
        ends_deep = slim-deep ds n e.ends;
      }

  fits-slim : (s : Stmt) → is_outer_body ds false n s ≡ true → Fit ds flat s → AllAlong ds n s → AllSlim ds n s
  fits-slim (Then a b) g f e = let r = both-true (is_outer_body ds false n a) (is_outer_body ds false n b) g in (fits-slim a r.0 f.0 e.0, fits-slim b r.1 f.1 e.1)
  fits-slim (If k c a b) g f e =
      let o = both-true (is_flat (n ∷ []) false c) (is_outer_body ds false n a && is_outer_body ds false n b) g in
      let r = both-true (is_outer_body ds false n a) (is_outer_body ds false n b) o.1 in
      (fits-slim a r.0 f.1 e.0, fits-slim b r.1 f.2 e.1)
  fits-slim (Foreach k at h test body) g f e =
      let its = n ∷ h.iterator ∷ [] in
      let o = both-true (is_inner_head false n h) (is_flat its true test && is_inner_body ds its true body) g in
      inner-slim h test body (both-true (is_flat its true test) (is_inner_body ds its true body) o.1).1 f.3 e
  fits-slim s g f e = tt

  -- the inner loops of a body that is so and names variables as they stand
  pub all-slim : (s : Stmt) → is_outer_body ds false n s ≡ true → list_all (suits ds) (uses_of s) ≡ true → AllAlong ds n s → AllSlim ds n s
  all-slim s g u e = fits-slim s g (outer-fits [] ds n s u g) e
