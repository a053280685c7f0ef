-- What a graph is made of determines it.
use Rattle.std.proofs.Common.{◌≡◌, ◌<◌, ◌≤◌, ◌+◌, inl, inr, ℕ, suc, List, [], ◌∷◌, map, length, get_or, refl, sym, subst, ◌∙◌, ap, arith}
use Rattle.std.specs.Prelude.{slice_index, All, Contains}
use Rattle.std.specs.List.Sorted.{IsStrictlyIncreasing}
use Rattle.std.proofs.lemmas.List.Elements.{All-head, All-tail}
use Rattle.std.proofs.lemmas.List.{get_or_default}
use Rattle.gm_graph.specs.declared.builds.RawGraph.{RawGraph}
use Rattle.gm_model.specs.Graphs.{Edge, NumberedGraph, IsWithin}
use Rattle.gm_graph.specs.Builds.{IsBuiltOf, spread_out}
use Rattle.gm_graph.proofs.Ascending.{rising, rising-le, one_place}
use Rattle.gm_graph.proofs.Building.{contains-first, contains-later, contains-cases}

increasing-tail : (x : ℕ) (xs : List ℕ) → IsStrictlyIncreasing (x ∷ xs) → IsStrictlyIncreasing xs
increasing-tail x xs up k h =
    let next : suc k + 1 ≡ suc (k + 1) = omega arith in
    let P : ℕ → Type 0 = λ m. get_or xs k 0 < get_or (x ∷ xs) m 0 in
    subst P next (up (suc k) (omega arith))

-- the first of ascending numbers is the least
first-least : (x : ℕ) (xs : List ℕ) (n : ℕ) → IsStrictlyIncreasing (x ∷ xs) → Contains (x ∷ xs) n → x ≤ n
first-least x xs n up h =
    let least = rising-le (x ∷ xs) up 0 h.0 (omega arith) h.1 in
    let at = get_or_default (x ∷ xs) h.0 0 n h.1 in
    omega (arith, least, at, h.2)

first-below : (x : ℕ) (xs : List ℕ) (n : ℕ) → IsStrictlyIncreasing (x ∷ xs) → Contains xs n → x < n
first-below x xs n up h =
    let least = rising (x ∷ xs) up 0 (suc h.0) (omega arith) (omega (arith, h.1)) in
    let at = get_or_default xs h.0 0 n h.1 in
    omega (arith, least, at, h.2)

same-rest : (x y : ℕ) (xs ys : List ℕ) → x ≡ y → IsStrictlyIncreasing (x ∷ xs) → ((n : ℕ) → Contains (x ∷ xs) n → Contains (y ∷ ys) n) → (n : ℕ) → Contains xs n → Contains ys n
same-rest x y xs ys same up inside n h =
    let above = first-below x xs n up h in
    elim (contains-cases y ys n (inside n (contains-later x xs n h))) [
      | inl here ↦ absurd (omega arith)
      | inr there ↦ there
    ]

-- ascending numbers with the same members are the same
pub same-numbers : (xs ys : List ℕ) → IsStrictlyIncreasing xs → IsStrictlyIncreasing ys → ((n : ℕ) → Contains xs n → Contains ys n) → ((n : ℕ) → Contains ys n → Contains xs n) → xs ≡ ys
same-numbers [] [] a b there back = refl
same-numbers [] (y ∷ ys) a b there back = absurd (let none = back y (contains-first y ys) in omega (arith, none.1))
same-numbers (x ∷ xs) [] a b there back = absurd (let none = there x (contains-first x xs) in omega (arith, none.1))
same-numbers (x ∷ xs) (y ∷ ys) a b there back =
    let low = first-least x xs y a (back y (contains-first y ys)) in
    let high = first-least y ys x b (there x (contains-first x xs)) in
    let same : x ≡ y = omega arith in
    let rest : xs ≡ ys = same-numbers xs ys (increasing-tail x xs a) (increasing-tail y ys b) (same-rest x y xs ys same a there) (same-rest y x ys xs (sym same) b back) in
    cc

same-edge : (e f : Edge) → e.from ≡ f.from → e.to ≡ f.to → e ≡ f
same-edge e f a b =
    let moved : e ≡ record { from = f.from; to = e.to } = ap (λ n. let w : Edge = record { from = n; to = e.to } in w) a in
    moved ∙ ap (λ n. let w : Edge = record { from = f.from; to = n } in w) b

-- edges whose ends have the same numbers are the same
pub same-edges : (numbers : List ℕ) → IsStrictlyIncreasing numbers → (es fs : List Edge) → All (IsWithin (length numbers)) es → All (IsWithin (length numbers)) fs → map (λ e. slice_index numbers e.from) es ≡ map (λ e. slice_index numbers e.from) fs → map (λ e. slice_index numbers e.to) es ≡ map (λ e. slice_index numbers e.to) fs → es ≡ fs
same-edges numbers up [] [] a b from to = refl
same-edges numbers up [] (f ∷ fs) a b from to = absurd (cc)
same-edges numbers up (e ∷ es) [] a b from to = absurd (cc)
same-edges numbers up (e ∷ es) (f ∷ fs) a b from to =
    let P : Edge → Type 0 = IsWithin (length numbers) in
    let e_in = All-head P e es a in
    let f_in = All-head P f fs b in
    let from_here : slice_index numbers e.from ≡ slice_index numbers f.from = cc in
    let to_here : slice_index numbers e.to ≡ slice_index numbers f.to = cc in
    let from_rest : map (λ e. slice_index numbers e.from) es ≡ map (λ e. slice_index numbers e.from) fs = cc in
    let to_rest : map (λ e. slice_index numbers e.to) es ≡ map (λ e. slice_index numbers e.to) fs = cc in
    let here : e ≡ f = same-edge e f (one_place numbers up e.from f.from e_in.from_node f_in.from_node from_here) (one_place numbers up e.to f.to e_in.to_node f_in.to_node to_here) in
    let rest : es ≡ fs = same-edges numbers up es fs (All-tail P e es a) (All-tail P f fs b) from_rest to_rest in
    cc

same-graph : (g h : NumberedGraph) → g.numbers ≡ h.numbers → g.edges ≡ h.edges → g.node_columns ≡ h.node_columns → g.edge_columns ≡ h.edge_columns → g ≡ h
same-graph g h a b d e =
    ap (λ n. let w : NumberedGraph = record { numbers = n; edges = g.edges; node_columns = g.node_columns; edge_columns = g.edge_columns } in w) a
    ∙ (ap (λ n. let w : NumberedGraph = record { numbers = h.numbers; edges = n; node_columns = g.node_columns; edge_columns = g.edge_columns } in w) b
    ∙ (ap (λ n. let w : NumberedGraph = record { numbers = h.numbers; edges = h.edges; node_columns = n; edge_columns = g.edge_columns } in w) d
    ∙ ap (λ n. let w : NumberedGraph = record { numbers = h.numbers; edges = h.edges; node_columns = h.node_columns; edge_columns = n } in w) e))

pub one-graph : (raw : RawGraph) (g h : NumberedGraph) → IsBuiltOf raw g → IsBuiltOf raw h → g ≡ h
one-graph raw g h a b =
    let numbers : g.numbers ≡ h.numbers = same-numbers g.numbers h.numbers a.ascending b.ascending (λ n m. (b.members n).1 ((a.members n).0 m)) (λ n m. (a.members n).1 ((b.members n).0 m)) in
    let P : List ℕ → Type 0 = λ l. All (IsWithin (length l)) h.edges in
    let Q : List ℕ → Type 0 = λ l. map (λ (e : Edge). slice_index l e.from) h.edges ≡ raw.from in
    let R : List ℕ → Type 0 = λ l. map (λ (e : Edge). slice_index l e.to) h.edges ≡ raw.to in
    let edges : g.edges ≡ h.edges = same-edges g.numbers a.ascending g.edges h.edges a.within (subst P (sym numbers) b.within)
    (a.from_numbers ∙ sym (subst Q (sym numbers) b.from_numbers)) (a.to_numbers ∙ sym (subst R (sym numbers) b.to_numbers)) in
    let nodes : g.node_columns ≡ h.node_columns = a.node_columns ∙ (ap (λ l. map (spread_out l raw.extra) raw.node_columns) numbers ∙ sym b.node_columns) in
    same-graph g h numbers edges nodes (a.edge_columns ∙ sym b.edge_columns)
