-- The levels of a search are those from 0 on below its depth.
use Rattle.std.proofs.Common.{◌≡◌, ◌<◌, ◌≤◌, ◌+◌, ◌-◌, ℕ, zero, suc, Bool, true, false, List, [], ◌∷◌, map, refl, sym, ap, subst, ◌∙◌, arith, Option, Some, None, ⊎_elim, inl}
use Rattle.std.specs.Prelude.{filter}
use Rattle.std.specs.List.{list_any}
use Rattle.std.proofs.lemmas.Bool.{eqb-true, eq-eqb, cases_lt}
use Rattle.gm_value.specs.Bag.{IsIn}
use Rattle.gm_model.specs.Graphs.{NumberedGraph, node_count}
use Rattle.gm_semantics.specs.Levels.{numbers_from, nodes, level_of, levels, is_level, is_some_node}
use Rattle.gm_semantics.proofs.ContributionLaws.{IsIn-filter}
use Rattle.gm_semantics.proofs.TargetLaws.{never}
use Rattle.gm_bfs.proofs.LevelFacts.{in-filter, node-in, in-any, any-in, level-below, level-node, level-above}

module _ (g : NumberedGraph) (r : ℕ) (root : r < node_count g) where
  -- the nodes of a level
  abbrev pub at-level : ℕ → List ℕ
  at-level j = filter (λ n. is_level (level_of g r n) j) (nodes g)

  -- a node of a level
  abbrev pub HasLevel : ℕ → Type 0
  HasLevel j = (n : ℕ) × (level_of g r n ≡ Some j)

  level-of-some : (j n : ℕ) → is_level (level_of g r n) j ≡ true → level_of g r n ≡ Some j
  level-of-some j n e = by (level_of g r n) e
    where
      by : (o : Option ℕ) → is_level o j ≡ true → o ≡ Some j
      by None e = never e refl
      by (Some l) e = ap Some (eqb-true l j e)

  level-of-is : (j n : ℕ) → level_of g r n ≡ Some j → is_level (level_of g r n) j ≡ true
  level-of-is j n e = ap (λ o. is_level o j) e ∙ eq-eqb j j refl

  pub in-level : (j n : ℕ) → level_of g r n ≡ Some j → IsIn n (at-level j)
  in-level j n e = in-filter (λ n. is_level (level_of g r n) j) n (nodes g) (node-in g n (level-node g r root n j e)) (level-of-is j n e)

  pub level-in : (j n : ℕ) → IsIn n (at-level j) → level_of g r n ≡ Some j
  level-in j n i = level-of-some j n (IsIn-filter (λ n. is_level (level_of g r n) j) n (nodes g) i).1

  pub some-on : (j : ℕ) → HasLevel j → list_any (λ n. is_level (level_of g r n) j) (nodes g) ≡ true
  some-on j h = in-any (λ n. is_level (level_of g r n) j) h.0 (nodes g) (node-in g h.0 (level-node g r root h.0 j h.1)) (level-of-is j h.0 h.1)

  pub none-on : (j : ℕ) → (HasLevel j → ⊥) → list_any (λ n. is_level (level_of g r n) j) (nodes g) ≡ false
  none-on j none = by (list_any (λ n. is_level (level_of g r n) j) (nodes g)) refl
    where
      by : (b : Bool) → list_any (λ n. is_level (level_of g r n) j) (nodes g) ≡ b → b ≡ false
      by true e = let n = any-in (λ n. is_level (level_of g r n) j) (nodes g) e in absurd (none (n.0, level-of-some j n.0 n.2))
      by false e = refl

  empty-beyond : (c a : ℕ) → ((i : ℕ) → a ≤ i → HasLevel i → ⊥) → filter is_some_node (map at-level (numbers_from a c)) ≡ []
  empty-beyond zero a none = refl
  empty-beyond (suc c) a none = by (at-level a) refl (empty-beyond c (suc a) (λ i le. none i (omega arith)))
    where
      by : (ns : List ℕ) → at-level a ≡ ns → filter is_some_node (map at-level (numbers_from (suc a) c)) ≡ [] → filter is_some_node (ns ∷ map at-level (numbers_from (suc a) c)) ≡ []
      by [] e rest = rest
      by (n ∷ ns) e rest = absurd (none a (omega arith) (n, level-in a n (subst (IsIn n) (sym e) (inl refl))))

  -- so many levels from one on
  record Depth (a c : ℕ) : Type 0 where
    count : ℕ
    lists : filter is_some_node (map at-level (numbers_from a c)) ≡ map at-level (numbers_from a count)
    full : (i : ℕ) → a ≤ i → i < a + count → HasLevel i
    last : HasLevel (a + count) → ⊥

  depth-from : (c a : ℕ) → c + a ≡ node_count g → Depth a c
  depth-from zero a e = record { count = 0; lists = refl; full = λ i low high. absurd (omega arith); last = λ h. let b = level-below g r root h.0 (a + 0) h.1 in absurd (omega arith) }
  depth-from (suc c) a e = by (at-level a) refl (depth-from c (suc a) (omega arith))
    where
      by : (ns : List ℕ) → at-level a ≡ ns → Depth (suc a) c → Depth a (suc c)
      by [] e d =
          let none : HasLevel a → ⊥ = λ h. absurd (subst (IsIn h.0) e (in-level a h.0 h.1)) in
          let beyond : (i : ℕ) → a ≤ i → HasLevel i → ⊥ = λ i le h. let is : i ≡ (i - a) + a = omega arith in none (level-above g r root h.0 a (i - a) (h.1 ∙ ap Some is)) in
          record {
            count = 0;
            lists = empty-beyond (suc c) a beyond;
            full = λ i low high. absurd (omega arith);
            last = beyond (a + 0) (omega arith);
          }
      by (n ∷ ns) e d =
          let here : HasLevel a = (n, level-in a n (subst (IsIn n) (sym e) (inl refl))) in
          let next : a + suc d.count ≡ suc a + d.count = omega arith in
          record {
            count = suc d.count;
            lists = ap (λ xs. filter is_some_node (xs ∷ map at-level (numbers_from (suc a) c))) e ∙ ap (λ xs. xs ∷ filter is_some_node (map at-level (numbers_from (suc a) c))) (sym e) ∙ ap (λ xss. at-level a ∷ xss) d.lists;
            full = λ i low high. ⊎_elim (λ (more : a < i). d.full i more (omega arith)) (λ (less : i ≤ a). let is : i ≡ a = omega arith in subst HasLevel (sym is) here) (cases_lt a i);
            last = λ h. d.last (subst HasLevel next h);
          }

  -- the levels
  pub record AllLevels : Type 0 where
    pub depth : ℕ
    pub lists : levels g r ≡ map at-level (numbers_from 0 depth)
    pub full : (i : ℕ) → i < depth → HasLevel i
    pub last : HasLevel depth → ⊥

  pub all-levels : AllLevels
  all-levels =
      let d = depth-from (node_count g) 0 (omega arith) in
      let is : 0 + d.count ≡ d.count = omega arith in
      record { depth = d.count; lists = d.lists; full = λ i b. d.full i (omega arith) (omega arith); last = λ h. d.last (subst HasLevel (sym is) h) }
