-- What one mark after another does to a search.
use Rattle.std.proofs.Common.{inl, inr, take_all, ◌≡◌, ℕ, ◌+◌, ◌<◌, ◌≤◌, Bool, true, false, cond, not, List, [], ◌∷◌, ◌++◌, refl, sym, ap, subst, ◌∙◌, arith, length, get_or, take, append-nil, append_assoc}
use Rattle.std.specs.Prelude.{◌||◌, ◌&&◌, nat_eq}
use Rattle.std.proofs.lemmas.Bool.{cases_Bool, ne_eqb}
use Rattle.std.proofs.lemmas.List.{take_more, length-map}
use Rattle.std.proofs.lemmas.List.Folds.{list_any-append}
use Rattle.gm_model.specs.Graphs.{NumberedGraph, nodes_of, out_steps}
use Rattle.gm_semantics.specs.Levels.{is_among}
use Rattle.gm_levels.specs.Searches.{AreMarked, cell_at, is_open, targets_of}
use Rattle.gm_levels.specs.declared.searches.Search.{Search}

-- whether a cell is still open
still_open : (level a b : ℕ) (t : Bool) → nat_eq level 4294967295 ≡ false → b ≡ cond (nat_eq a 4294967295 && t) level a → nat_eq b 4294967295 ≡ (nat_eq a 4294967295 && not t)
still_open level a b t some is =
    elim (cases_Bool (nat_eq a 4294967295)) [
      | inl holds ↦ (elim (cases_Bool t) [
        | inl here ↦ rw (is, holds, here) some
        | inr away ↦ rw (is, holds, away) holds
      ])
      | inr fails ↦ rw (is, fails) fails
    ]

-- the cell after two marks, and whether the node is found
twice_cell : (ea t u eb : Bool) (level a b : ℕ) → eb ≡ (ea && not t) → b ≡ cond (ea && t) level a → cond (eb && u) level b ≡ cond (ea && (t || u)) level a
twice_cell true true u eb level a b e is = rw (e, is) refl
twice_cell true false u eb level a b e is = rw (e, is) refl
twice_cell false t u eb level a b e is = rw (e, is) refl

twice_found : (ea t u eb f : Bool) → eb ≡ (ea && not t) → ((f || (ea && t)) || (eb && u)) ≡ (f || (ea && (t || u)))
twice_found true true u eb true e = refl
twice_found true true u eb false e = refl
twice_found true false u eb true e = refl
twice_found true false u eb false e = rw e refl
twice_found false t u eb true e = refl
twice_found false t u eb false e = rw e refl

and_false : (b : Bool) → (b && false) ≡ false
and_false true = refl
and_false false = refl

or_false : (b : Bool) → (b || false) ≡ b
or_false true = refl
or_false false = refl

-- without targets nothing is marked
pub marked-none : (level : ℕ) (s : Search) → AreMarked [] level s s
marked-none level s = record {
  long = refl;
  cells = λ n. ap (λ b. cond b level (cell_at s.cells.items n)) (sym (and_false (is_open s.cells.items n)));
  found = λ n. sym (ap (λ b. is_among s.found.items n || b) (and_false (is_open s.cells.items n)) ∙ or_false (is_among s.found.items n));
  count = refl;
}

-- marks after marks
pub marked-append : (ts us : List ℕ) (level : ℕ) (a b c : Search) → level < 4294967295 → AreMarked ts level a b → AreMarked us level b c → AreMarked (ts ++ us) level a c
marked-append ts us level a b c small first second = record {
  long = second.long ∙ first.long;
  cells = λ n.
      let some : nat_eq level 4294967295 ≡ false = ne_eqb level 4294967295 (λ e. absurd (omega arith)) in
      let still = still_open level (cell_at a.cells.items n) (cell_at b.cells.items n) (is_among ts n) some (first.cells n) in
      let joined = list_any-append (nat_eq n) ts us in
      second.cells n ∙ twice_cell (is_open a.cells.items n) (is_among ts n) (is_among us n) (is_open b.cells.items n) level (cell_at a.cells.items n) (cell_at b.cells.items n) still (first.cells n) ∙ ap (λ t. cond (is_open a.cells.items n && t) level (cell_at a.cells.items n)) (sym joined);
  found = λ n.
      let some : nat_eq level 4294967295 ≡ false = ne_eqb level 4294967295 (λ e. absurd (omega arith)) in
      let still = still_open level (cell_at a.cells.items n) (cell_at b.cells.items n) (is_among ts n) some (first.cells n) in
      let joined = list_any-append (nat_eq n) ts us in
      second.found n ∙ ap (λ f. f || (is_open b.cells.items n && is_among us n)) (first.found n) ∙ twice_found (is_open a.cells.items n) (is_among ts n) (is_among us n) (is_open b.cells.items n) (is_among a.found.items n) still ∙ ap (λ t. is_among a.found.items n || (is_open a.cells.items n && t)) (sym joined);
  count = omega (arith, first.count, second.count);
}

-- the targets of some nodes and of one more
targets-push : (g : NumberedGraph) (ns : List ℕ) (n : ℕ) → targets_of g (ns ++ n ∷ []) ≡ targets_of g ns ++ nodes_of (out_steps g n)
targets-push g [] n = append-nil (nodes_of (out_steps g n))
targets-push g (m ∷ ns) n = ap (λ ts. nodes_of (out_steps g m) ++ ts) (targets-push g ns n) ∙ sym (append_assoc (nodes_of (out_steps g m)) (targets_of g ns) (nodes_of (out_steps g n)))

-- one more target, and the targets of one more node
pub marked-more : (ts : List ℕ) (k t level : ℕ) (a b c : Search) → level < 4294967295 → k < length ts → get_or ts k 0 ≡ t → AreMarked (take k ts) level a b → AreMarked (t ∷ []) level b c → AreMarked (take (k + 1) ts) level a c
marked-more ts k t level a b c small within is first second =
    let more : take (k + 1) ts ≡ take k ts ++ t ∷ [] = take_more ts k 0 within ∙ ap (λ x. take k ts ++ x ∷ []) is in
    subst (λ xs. AreMarked xs level a c) (sym more) (marked-append (take k ts) (t ∷ []) level a b c small first second)

pub marked-on : (g : NumberedGraph) (ns : List ℕ) (k n level : ℕ) (a b c : Search) → level < 4294967295 → k < length ns → get_or ns k 0 ≡ n → AreMarked (targets_of g (take k ns)) level a b → AreMarked (nodes_of (out_steps g n)) level b c → AreMarked (targets_of g (take (k + 1) ns)) level a c
marked-on g ns k n level a b c small within is first second =
    let more : take (k + 1) ns ≡ take k ns ++ n ∷ [] = take_more ns k 0 within ∙ ap (λ x. take k ns ++ x ∷ []) is in
    let targets : targets_of g (take (k + 1) ns) ≡ targets_of g (take k ns) ++ nodes_of (out_steps g n) = ap (targets_of g) more ∙ targets-push g (take k ns) n in
    subst (λ xs. AreMarked xs level a c) (sym targets) (marked-append (targets_of g (take k ns)) (nodes_of (out_steps g n)) level a b c small first second)

-- all targets of a node, and of all nodes
pub marked-targets : (g : NumberedGraph) (n k level : ℕ) (a b : Search) → length (out_steps g n) ≤ k → AreMarked (take k (nodes_of (out_steps g n))) level a b → AreMarked (nodes_of (out_steps g n)) level a b
marked-targets g n k level a b all marked =
    let whole : take k (nodes_of (out_steps g n)) ≡ nodes_of (out_steps g n) = take_all k (nodes_of (out_steps g n)) (omega (arith, length-map (out_steps g n) (λ s. s.node))) in
    subst (λ xs. AreMarked xs level a b) whole marked

pub marked-all : (g : NumberedGraph) (ns : List ℕ) (k level : ℕ) (a b : Search) → length ns ≤ k → AreMarked (targets_of g (take k ns)) level a b → AreMarked (targets_of g ns) level a b
marked-all g ns k level a b all marked = subst (λ xs. AreMarked (targets_of g xs) level a b) (take_all k ns all) marked
