-- The rounds of a search give each node its level.
use Rattle.std.proofs.Common.{◌≡◌, ◌≢◌, ℕ, zero, suc, ◌+◌, ◌<◌, ◌≤◌, Bool, true, false, cond, List, [], ◌∷◌, ◌++◌, refl, sym, ap, subst, ◌∙◌, arith, Some, ⊎_elim, inl, inr, length, get_or, set, replicate}
use Rattle.std.specs.Prelude.{◌||◌, ◌&&◌, ◌⊎◌, nat_eq, filter, All}
use Rattle.std.specs.List.{enumerate_from}
use Rattle.std.proofs.lemmas.Bool.{cases_Bool, both_ways, eqb-true, eqb-false, eq-eqb, cases_eq, cases_lt}
use Rattle.std.proofs.lemmas.List.{get_or-set_same, get_or-set_other, get_or_past, get_or-replicate, length-set, length-replicate}
use Rattle.std.proofs.lemmas.List.Elements.{All-from_get_or, All-nil, All-cons}
use Rattle.std.proofs.lemmas.List.Sums.{sum_by-set, count_by-le-length}
use Rattle.gm_value.specs.Bag.{IsIn}
use Rattle.gm_model.specs.Graphs.{NumberedGraph, Edge, Step, IsGraph, HasNode, node_count, nodes_of, out_steps}
use Rattle.gm_semantics.specs.Levels.{is_among}
use Rattle.gm_levels.specs.Views.{level_in}
use Rattle.gm_levels.specs.Walks.{Walk, start, onward, edge}
use Rattle.gm_levels.specs.Searches.{AreMarked, AreReached, cell_at, is_open, open_count, targets_of}
use Rattle.gm_levels.specs.declared.searches.Search.{Search}
use Rattle.gm_levels.specs.declared.searches.Reached.{Reached}
use Rattle.gm_levels.proofs.Grouping.{holds_level}
use Rattle.gm_levels.proofs.Walking.{map_in, in_map, filter_in, in_filter, enumerated_in, in_enumerated, among_in, in_among, last_step, no_step, level_from_walk, no_level}

-- a member of two lists together
in_append : {A : Type 0} (x : A) (xs ys : List A) → IsIn x (xs ++ ys) → IsIn x xs ⊎ IsIn x ys
in_append x [] ys h = inr h
in_append x (z ∷ zs) ys h =
    ⊎_elim
    (λ (e : x ≡ z). inl (inl e))
    (λ (rest : IsIn x (zs ++ ys)). elim (in_append x zs ys rest) [ inl a ↦ inl (inr a) | inr b ↦ inr b ])
    h

append_in_left : {A : Type 0} (x : A) (xs ys : List A) → IsIn x xs → IsIn x (xs ++ ys)
append_in_left x [] ys h = absurd h
append_in_left x (z ∷ zs) ys h = ⊎_elim (λ (e : x ≡ z). inl e) (λ (rest : IsIn x zs). inr (append_in_left x zs ys rest)) h

append_in_right : {A : Type 0} (x : A) (xs ys : List A) → IsIn x ys → IsIn x (xs ++ ys)
append_in_right x [] ys h = h
append_in_right x (z ∷ zs) ys h = inr (append_in_right x zs ys h)

module _ (g : NumberedGraph) where
  -- a node that a node's edge leads to
  target_edge : (n m : ℕ) → IsIn m (nodes_of (out_steps g n)) → IsIn (edge n m) g.edges
  target_edge n m h =
      let s = map_in (λ (s : Step). s.node) m (out_steps g n) h in
      let f = map_in (λ (e : ℕ × Edge). record { node = e.1.to; edge = e.0 }) s.item (filter (λ e. nat_eq e.1.from n) (enumerate_from 0 g.edges)) s.within in
      let k = filter_in (λ (e : ℕ × Edge). nat_eq e.1.from n) f.item (enumerate_from 0 g.edges) f.within in
      let e_in = enumerated_in f.item.0 0 f.item.1 g.edges k.0 in
      let from : f.item.1.from ≡ n = eqb-true f.item.1.from n k.1 in
      let to : f.item.1.to ≡ m = sym (s.is ∙ ap (λ (s : Step). s.node) f.is) in
      subst (λ x. IsIn (edge n x) g.edges) to (subst (λ x. IsIn (edge x f.item.1.to) g.edges) from e_in)

  edge_target : (n m : ℕ) → IsIn (edge n m) g.edges → IsIn m (nodes_of (out_steps g n))
  edge_target n m h =
      let p = in_enumerated 0 (edge n m) g.edges h in
      let k = in_filter (λ (e : ℕ × Edge). nat_eq e.1.from n) (p.place, edge n m) (enumerate_from 0 g.edges) p.within (eq-eqb n n refl) in
      let f = in_map (λ (e : ℕ × Edge). record { node = e.1.to; edge = e.0 }) (p.place, edge n m) (filter (λ e. nat_eq e.1.from n) (enumerate_from 0 g.edges)) k in
      in_map (λ (s : Step). s.node) (record { node = m; edge = p.place }) (out_steps g n) f

  -- where the edges from some nodes lead
  from_some : (ns : List ℕ) (m : ℕ) → IsIn m (targets_of g ns) → (n : ℕ) × IsIn n ns × IsIn (edge n m) g.edges
  from_some [] m h = absurd h
  from_some (n ∷ ns) m h =
      ⊎_elim
      (λ (here : IsIn m (nodes_of (out_steps g n))). (n, inl refl, target_edge n m here))
      (λ (rest : IsIn m (targets_of g ns)). let r = from_some ns m rest in (r.0, inr r.1, r.2))
      (in_append m (nodes_of (out_steps g n)) (targets_of g ns) h)

  to_some : (ns : List ℕ) (n m : ℕ) → IsIn n ns → IsIn (edge n m) g.edges → IsIn m (targets_of g ns)
  to_some [] n m h e = absurd h
  to_some (x ∷ ns) n m h e =
      ⊎_elim
      (λ (here : n ≡ x). append_in_left m (nodes_of (out_steps g x)) (targets_of g ns) (subst (λ y. IsIn m (nodes_of (out_steps g y))) here (edge_target n m e)))
      (λ (rest : IsIn n ns). append_in_right m (nodes_of (out_steps g x)) (targets_of g ns) (to_some ns n m rest e))
      h

-- a search at the end of a round: the nodes of the levels up to one have them, those of that level are the found ones, and the others are open
pub record IsSearched (g : NumberedGraph) (root level : ℕ) (s : Search) : Type 0 where
  pub long : length s.cells.items ≡ node_count g
  pub found : (n : ℕ) → is_among s.found.items n ≡ true → cell_at s.cells.items n ≡ level
  pub whole : (n : ℕ) → cell_at s.cells.items n ≡ level → is_among s.found.items n ≡ true
  pub walk : (n : ℕ) → cell_at s.cells.items n ≢ 4294967295 → Walk g root (cell_at s.cells.items n) n
  pub first : (n i : ℕ) → cell_at s.cells.items n ≢ 4294967295 → i < cell_at s.cells.items n → Walk g root i n → ⊥
  pub most : (n : ℕ) → cell_at s.cells.items n ≢ 4294967295 → cell_at s.cells.items n ≤ level
  pub others : (n i : ℕ) → cell_at s.cells.items n ≡ 4294967295 → i ≤ level → Walk g root i n → ⊥
  pub some : (k : ℕ) → k < level → (n : ℕ) × (n < length s.cells.items) × (cell_at s.cells.items n ≡ k)
  pub room : level + (length s.found.items + open_count s.cells.items) ≤ node_count g

-- what a round does to a node: nothing, it gets the level, or it stays open
record Kept (old new : ℕ) (found : Bool) : Type 0 where
  closed : old ≢ 4294967295
  same : new ≡ old
  away : found ≡ false

record Given (targets : List ℕ) (level n old new : ℕ) (found : Bool) : Type 0 where
  open_before : old ≡ 4294967295
  target : IsIn n targets
  is : new ≡ level
  here : found ≡ true

record Left (targets : List ℕ) (n old new : ℕ) (found : Bool) : Type 0 where
  open_before : old ≡ 4294967295
  no_target : IsIn n targets → ⊥
  is : new ≡ 4294967295
  away : found ≡ false

node_cases : (targets : List ℕ) (level n : ℕ) (a b : Search) → a.found.items ≡ [] → AreMarked targets level a b → Kept (cell_at a.cells.items n) (cell_at b.cells.items n) (is_among b.found.items n) ⊎ (Given targets level n (cell_at a.cells.items n) (cell_at b.cells.items n) (is_among b.found.items n) ⊎ Left targets n (cell_at a.cells.items n) (cell_at b.cells.items n) (is_among b.found.items n))
node_cases targets level n a b empty marked =
    let none : is_among a.found.items n ≡ false = ap (λ xs. is_among xs n) empty in
    let found : is_among b.found.items n ≡ (is_open a.cells.items n && is_among targets n) = marked.found n ∙ ap (λ f. f || (is_open a.cells.items n && is_among targets n)) none in
    ⊎_elim
    (λ (holds : is_open a.cells.items n ≡ true).
    let was : cell_at a.cells.items n ≡ 4294967295 = eqb-true (cell_at a.cells.items n) 4294967295 holds in
    ⊎_elim
    (λ (here : is_among targets n ≡ true). inr (inl (record {
      open_before = was;
      target = among_in targets n here;
      is = marked.cells n ∙ ap (λ e. cond (e && is_among targets n) level (cell_at a.cells.items n)) holds ∙ ap (λ t. cond t level (cell_at a.cells.items n)) here;
      here = found ∙ ap (λ e. e && is_among targets n) holds ∙ here;
    })))
    (λ (away : is_among targets n ≡ false). inr (inr (record {
      open_before = was;
      no_target = λ h. both_ways (is_among targets n) away (in_among targets n h);
      is = marked.cells n ∙ ap (λ e. cond (e && is_among targets n) level (cell_at a.cells.items n)) holds ∙ ap (λ t. cond t level (cell_at a.cells.items n)) away ∙ was;
      away = found ∙ ap (λ e. e && is_among targets n) holds ∙ away;
    })))
    (cases_Bool (is_among targets n)))
    (λ (fails : is_open a.cells.items n ≡ false). inl (record {
      closed = eqb-false (cell_at a.cells.items n) 4294967295 fails;
      same = marked.cells n ∙ ap (λ e. cond (e && is_among targets n) level (cell_at a.cells.items n)) fails;
      away = found ∙ ap (λ e. e && is_among targets n) fails;
    }))
    (cases_Bool (is_open a.cells.items n))

-- a member of a list that is not empty
some_member : (ns : List ℕ) → 0 < length ns → (n : ℕ) × (is_among ns n ≡ true)
some_member [] h = absurd (omega arith)
some_member (n ∷ ns) h = (n, in_among (n ∷ ns) n (inl refl))

-- a cell that holds a level is a node's
cell_within : (cells : List ℕ) (n : ℕ) → cell_at cells n ≢ 4294967295 → n < length cells
cell_within cells n h =
    ⊎_elim
    (λ (within : n < length cells). within)
    (λ (past : length cells ≤ n). absurd (h (get_or_past cells n 4294967295 past)))
    (cases_lt n (length cells))

module _ (g : NumberedGraph) (root : ℕ) (ok : IsGraph g) (has : HasNode g root) where
  -- a node that a walk of an edge more ends at has a level up to one more, or is the target of the frontier
  stepped : (k n : ℕ) (s : Search) → IsSearched g root k s → k < 4294967295 → (i : ℕ) → Walk g root (suc i) n → cell_at s.cells.items n ≡ 4294967295 → ((p : ℕ) → Walk g root i p → cell_at s.cells.items p ≡ 4294967295 → ⊥) → IsIn n (targets_of g s.found.items)
  stepped k n s held small i w is_unset never =
      let last = last_step g root (suc i) n i w refl in
      let p = last.0 in
      ⊎_elim
      (λ (unset : cell_at s.cells.items p ≡ 4294967295). absurd (never p last.1 unset))
      (λ (set_before : cell_at s.cells.items p ≢ 4294967295).
      let most = held.most p set_before in
      ⊎_elim
      (λ (less : cell_at s.cells.items p < k).
      let up : suc (cell_at s.cells.items p) ≤ k = omega arith in
      absurd (held.others n (suc (cell_at s.cells.items p)) is_unset up (onward n (held.walk p set_before) last.2)))
      (λ (same : k ≤ cell_at s.cells.items p).
      let is : cell_at s.cells.items p ≡ k = omega arith in
      to_some g s.found.items p n (among_in s.found.items p (held.whole p is)) last.2)
      (cases_lt (cell_at s.cells.items p) k))
      (cases_eq (cell_at s.cells.items p) 4294967295)

  pub round : (k : ℕ) (s a b : Search) → IsSearched g root k s → 0 < length s.found.items → a.cells.items ≡ s.cells.items → a.found.items ≡ [] → AreMarked (targets_of g s.found.items) (k + 1) a b → IsSearched g root (k + 1) b
  round k s a b held more same_cells empty marked =
      let few = ok.few_nodes in
      let room = held.room in
      let small : k + 1 < 4294967295 = omega arith in
      let cases : (n : ℕ) → Kept (cell_at s.cells.items n) (cell_at b.cells.items n) (is_among b.found.items n) ⊎ (Given (targets_of g s.found.items) (k + 1) n (cell_at s.cells.items n) (cell_at b.cells.items n) (is_among b.found.items n) ⊎ Left (targets_of g s.found.items) n (cell_at s.cells.items n) (cell_at b.cells.items n) (is_among b.found.items n)) = λ n.
      subst (λ cells. Kept (cell_at cells n) (cell_at b.cells.items n) (is_among b.found.items n) ⊎ (Given (targets_of g s.found.items) (k + 1) n (cell_at cells n) (cell_at b.cells.items n) (is_among b.found.items n) ⊎ Left (targets_of g s.found.items) n (cell_at cells n) (cell_at b.cells.items n) (is_among b.found.items n))) same_cells (node_cases (targets_of g s.found.items) (k + 1) n a b empty marked) in
      let kept_cell : (n j : ℕ) → j ≤ k → cell_at s.cells.items n ≡ j → cell_at b.cells.items n ≡ j = λ n j low is.
      elim (cases n) [
        | inl kept ↦ kept.same ∙ is
        | inr (inl given) ↦ absurd (omega (arith, given.open_before))
        | inr (inr left) ↦ absurd (omega (arith, left.open_before))
      ] in
      record {
        long = marked.long ∙ ap length same_cells ∙ held.long;
        found = λ n here. elim (cases n) [
          | inl kept ↦ absurd (both_ways _ kept.away here)
          | inr (inl given) ↦ given.is
          | inr (inr left) ↦ absurd (both_ways _ left.away here)
        ];
        whole = λ n is. elim (cases n) [
          | inl kept ↦ absurd (omega (arith, kept.same, held.most n kept.closed))
          | inr (inl given) ↦ given.here
          | inr (inr left) ↦ absurd (omega (arith, left.is))
        ];
        walk = λ n closed. elim (cases n) [
          | inl kept ↦ subst (λ j. Walk g root j n) (sym kept.same) (held.walk n kept.closed)
          | inr (inl given) ↦
              (let from = from_some g s.found.items n given.target in
              let at : cell_at s.cells.items from.0 ≡ k = held.found from.0 (in_among s.found.items from.0 from.1) in
              let closed_before : cell_at s.cells.items from.0 ≢ 4294967295 = λ e. absurd (omega (arith, at, e)) in
              let w : Walk g root k from.0 = subst (λ j. Walk g root j from.0) at (held.walk from.0 closed_before) in
              let is : suc k ≡ cell_at b.cells.items n = omega (arith, given.is) in
              subst (λ j. Walk g root j n) is (onward n w from.2))
          | inr (inr left) ↦ absurd (closed left.is)
        ];
        first = λ n i closed less w. elim (cases n) [
          | inl kept ↦ held.first n i kept.closed (omega (arith, kept.same)) w
          | inr (inl given) ↦ held.others n i given.open_before (omega (arith, given.is)) w
          | inr (inr left) ↦ closed left.is
        ];
        most = λ n closed. elim (cases n) [
          | inl kept ↦ omega (arith, kept.same, held.most n kept.closed)
          | inr (inl given) ↦ omega (arith, given.is)
          | inr (inr left) ↦ absurd (closed left.is)
        ];
        others = λ n i is low w. elim (cases n) [
          | inl kept ↦ kept.closed (sym kept.same ∙ is)
          | inr (inl given) ↦ absurd (omega (arith, given.is))
          | inr (inr left) ↦
              (⊎_elim
              (λ (before : i < k + 1). held.others n i left.open_before (omega arith) w)
              (λ (last : k + 1 ≤ i).
              let is_last : i ≡ suc k = omega arith in
              let w' : Walk g root (suc k) n = subst (λ j. Walk g root j n) is_last w in
              left.no_target (stepped k n s held (omega arith) k w' left.open_before (λ p v unset. held.others p k unset (omega arith) v)))
              (cases_lt i (k + 1)))
        ];
        some = λ j less. ⊎_elim
            (λ (before : j < k).
            let at = held.some j before in
            let is = kept_cell at.0 j (omega arith) at.2 in
            (at.0, omega (arith, at.1, marked.long, ap length same_cells), is))
            (λ (last : k ≤ j).
            let at = some_member s.found.items more in
            let was = held.found at.0 at.1 in
            let same : k ≡ j = omega arith in
            let is : cell_at b.cells.items at.0 ≡ j = kept_cell at.0 k (omega arith) was ∙ same in
            (at.0, cell_within b.cells.items at.0 (λ e. absurd (omega (arith, e, is))), is))
            (cases_lt j k);
        room =
            let none : length a.found.items ≡ 0 = ap length empty in
            let opens : open_count a.cells.items ≡ open_count s.cells.items = ap open_count same_cells in
            omega (arith, marked.count);
      }

  -- at the end no frontier is left, and nothing more can be reached
  never : (k : ℕ) (s : Search) → IsSearched g root k s → s.found.items ≡ [] → k < 4294967295 → (i n : ℕ) → cell_at s.cells.items n ≡ 4294967295 → Walk g root i n → ⊥
  never k s held empty small zero n is w = held.others n 0 is (omega arith) w
  never k s held empty small (suc i) n is w =
      let target = stepped k n s held small i w is (λ p v unset. never k s held empty small i p unset v) in
      subst (λ ns. IsIn n (targets_of g ns)) empty target

  pub reached : (k : ℕ) (s : Search) (r : Reached) → IsSearched g root k s → s.found.items ≡ [] → r.cells.items ≡ s.cells.items → r.count ≡ k → AreReached g root r
  reached k s r held empty same_cells same_count =
      let few = ok.few_nodes in
      let room = held.room in
      let small : k < 4294967295 = omega arith in
      let below : (n : ℕ) → cell_at s.cells.items n ≢ 4294967295 → cell_at s.cells.items n < k = λ n closed.
      let most = held.most n closed in
      ⊎_elim
      (λ (less : cell_at s.cells.items n < k). less)
      (λ (same : k ≤ cell_at s.cells.items n).
      let is : cell_at s.cells.items n ≡ k = omega arith in
      let there : is_among [] n ≡ true = ap (λ ns. is_among ns n) (sym empty) ∙ held.whole n is in
      absurd (both_ways false refl there))
      (cases_lt (cell_at s.cells.items n) k) in
      record {
        long = ap length same_cells ∙ held.long;
        levels = λ n. ap (λ cells. level_in (cell_at cells n)) same_cells ∙ ⊎_elim
            (λ (unset : cell_at s.cells.items n ≡ 4294967295).
            ap level_in unset ∙ sym (no_level g root n (λ i w. never k s held empty small i n unset w)))
            (λ (closed : cell_at s.cells.items n ≢ 4294967295).
            let lower = below n closed in
            let shows : level_in (cell_at s.cells.items n) ≡ Some (cell_at s.cells.items n) = holds_level (cell_at s.cells.items n) (omega arith) in
            shows ∙ sym (level_from_walk g root n (cell_at s.cells.items n) ok (omega arith) (held.walk n closed) (λ i less w. held.first n i closed less w)))
            (cases_eq (cell_at s.cells.items n) 4294967295);
        below = All-from_get_or (λ cell. (cell ≡ 4294967295) ⊎ (cell < r.count)) r.cells.items 4294967295 (λ n within.
            let same = ap (λ cells. cell_at cells n) same_cells in
            ⊎_elim
            (λ (unset : cell_at s.cells.items n ≡ 4294967295). inl (same ∙ unset))
            (λ (closed : cell_at s.cells.items n ≢ 4294967295). inr (omega (arith, same, below n closed)))
            (cases_eq (cell_at s.cells.items n) 4294967295));
        some = λ j less.
            let at = held.some j (omega arith) in
            (at.0, omega (arith, at.1, ap length same_cells), ap (λ cells. cell_at cells at.0) same_cells ∙ at.2);
        few = omega arith;
        few_nodes = ok.few_nodes;
      }

  pub begun : (s : Search) → s.cells.items ≡ set (replicate (node_count g) 4294967295) root 0 → s.found.items ≡ root ∷ [] → IsSearched g root 0 s
  begun s cells_are found_are =
      let opens : List ℕ = replicate (node_count g) 4294967295 in
      let within : root < length opens = omega (arith, length-replicate {A = ℕ} (node_count g) 4294967295) in
      let at_root : cell_at s.cells.items root ≡ 0 = ap (λ cells. cell_at cells root) cells_are ∙ get_or-set_same opens root 0 4294967295 within in
      let elsewhere : (n : ℕ) → n ≢ root → cell_at s.cells.items n ≡ 4294967295 = λ n differs.
      ap (λ cells. cell_at cells n) cells_are ∙ get_or-set_other opens root n 0 4294967295 differs ∙ ⊎_elim
      (λ (inside : n < node_count g). get_or-replicate (node_count g) n 4294967295 4294967295 inside)
      (λ (past : node_count g ≤ n). get_or_past opens n 4294967295 (omega (arith, length-replicate {A = ℕ} (node_count g) 4294967295)))
      (cases_lt n (node_count g)) in
      let is_root : (n : ℕ) → cell_at s.cells.items n ≢ 4294967295 → n ≡ root = λ n closed.
      ⊎_elim (λ (e : n ≡ root). e) (λ (differs : n ≢ root). absurd (closed (elsewhere n differs))) (cases_eq n root) in
      let zero_cell : (n : ℕ) → cell_at s.cells.items n ≢ 4294967295 → cell_at s.cells.items n ≡ 0 = λ n closed.
      ap (cell_at s.cells.items) (is_root n closed) ∙ at_root in
      record {
        long = ap length cells_are ∙ (length-set opens root 0 ∙ length-replicate {A = ℕ} (node_count g) 4294967295);
        found = λ n here.
            let member : IsIn n (root ∷ []) = subst (λ ns. IsIn n ns) found_are (among_in s.found.items n here) in
            ⊎_elim (λ (e : n ≡ root). ap (cell_at s.cells.items) e ∙ at_root) (λ none. absurd none) member;
        whole = λ n is.
            let e = is_root n (λ unset. absurd (omega arith)) in
            in_among s.found.items n (subst (λ ns. IsIn n ns) (sym found_are) (inl e));
        walk = λ n closed.
            subst (λ j. Walk g root j n) (sym (zero_cell n closed)) (subst (Walk g root 0) (sym (is_root n closed)) start);
        first = λ n i closed less w. absurd (omega (arith, zero_cell n closed));
        most = λ n closed. omega (arith, zero_cell n closed);
        others = λ n i unset low w.
            let is = no_step g root i n w (omega arith) in
            let at : cell_at s.cells.items n ≡ 0 = ap (cell_at s.cells.items) is ∙ at_root in
            absurd (omega arith);
        some = λ j less. absurd (omega arith);
        room =
            let f : ℕ → ℕ = λ cell. cond (nat_eq cell 4294967295) 1 0 in
            let was = get_or-replicate (node_count g) root 4294967295 4294967295 has in
            let changed = sum_by-set f opens root 0 4294967295 within in
            let one : f (get_or opens root 4294967295) ≡ 1 = ap f was in
            let most = count_by-le-length (λ cell. nat_eq cell 4294967295) opens in
            let opened = ap open_count cells_are in
            let single : length s.found.items ≡ 1 = ap length found_are in
            omega (arith, length-replicate {A = ℕ} (node_count g) 4294967295);
      }

-- what every member is, all elements are
all_from_in : (P : ℕ → Type 0) (xs : List ℕ) → ((x : ℕ) → IsIn x xs → P x) → All P xs
all_from_in P [] h = All-nil P
all_from_in P (x ∷ xs) h = All-cons P x xs (h x (inl refl)) (all_from_in P xs (λ y within. h y (inr within)))

-- the found ones are nodes
pub found_within : (g : NumberedGraph) (root k : ℕ) (s : Search) (ns : List ℕ) → IsGraph g → IsSearched g root k s → ns ≡ s.found.items → All (HasNode g) ns
found_within g root k s ns ok held same = all_from_in (HasNode g) ns (λ n within.
    let few = ok.few_nodes in
    let room = held.room in
    let is : cell_at s.cells.items n ≡ k = held.found n (in_among s.found.items n (subst (λ xs. IsIn n xs) same within)) in
    let inside : n < length s.cells.items = cell_within s.cells.items n (λ e. absurd (omega arith)) in
    omega (arith, held.long))
