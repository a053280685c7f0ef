-- What is no node has no edges, and what is no index is no node.
use Rattle.std.proofs.Common.{◌≡◌, ◌<◌, ◌≤◌, ◌+◌, ℕ, suc, cond, nat_eq, List, [], ◌∷◌, map, filter, length, ℤ, pos, negsuc, Some, None, refl, sym, ap, ◌∙◌, arith, rules, ⊎_elim}
use Rattle.std.specs.Prelude.{All}
use Rattle.std.specs.List.{enumerate_from}
use Rattle.std.specs.Int.{FitsUnsigned}
use mir.Syntax.{w32}
use Rattle.std.proofs.lemmas.Bool.{ne_eqb, le-ltb, cases_lt}
use Rattle.gm_value.specs.declared.values.Value.TheVariants.{At}
use Rattle.gm_model.specs.Graphs.{NumberedGraph, Edge, Step, IsGraph, IsWithin, node_count, out_steps, in_steps}
use Rattle.gm_machine.specs.Expressions.{node_with}

none-from : (base nodes n : ℕ) (es : List Edge) → All (IsWithin nodes) es → nodes ≤ n → filter (λ e. nat_eq e.1.from n) (enumerate_from base es) ≡ []
none-from base nodes n [] within h = refl
none-from base nodes n (e ∷ es) within h =
    let first : 0 < length (e ∷ es) = omega arith in
    let below : e.from < nodes = (within 0 e first).from_node in
    let rest = filter (λ d. nat_eq d.1.from n) (enumerate_from (base + 1) es) in
    ap (λ b. cond b ((base, e) ∷ rest) rest) (ne_eqb e.from n (λ is. omega arith))
    ∙ none-from (base + 1) nodes n es (λ k d l. let l' : suc k < length (e ∷ es) = omega arith in within (suc k) d l') h

none-to : (base nodes n : ℕ) (es : List Edge) → All (IsWithin nodes) es → nodes ≤ n → filter (λ e. nat_eq e.1.to n) (enumerate_from base es) ≡ []
none-to base nodes n [] within h = refl
none-to base nodes n (e ∷ es) within h =
    let first : 0 < length (e ∷ es) = omega arith in
    let below : e.to < nodes = (within 0 e first).to_node in
    let rest = filter (λ d. nat_eq d.1.to n) (enumerate_from (base + 1) es) in
    ap (λ b. cond b ((base, e) ∷ rest) rest) (ne_eqb e.to n (λ is. omega arith))
    ∙ none-to (base + 1) nodes n es (λ k d l. let l' : suc k < length (e ∷ es) = omega arith in within (suc k) d l') h

pub out-none : (g : NumberedGraph) (n nodes : ℕ) → IsGraph g → nodes ≡ node_count g → nodes ≤ n → 0 ≡ length (out_steps g n)
out-none g n nodes known is h =
    let above : node_count g ≤ n = omega arith in
    let step : (ℕ × Edge) → Step = λ e. record { node = e.1.to; edge = e.0 } in
    sym (ap (λ l. length (map step l)) (none-from 0 (node_count g) n g.edges known.within above))

pub in-none : (g : NumberedGraph) (n nodes : ℕ) → IsGraph g → nodes ≡ node_count g → nodes ≤ n → 0 ≡ length (in_steps g n)
in-none g n nodes known is h =
    let above : node_count g ≤ n = omega arith in
    let step : (ℕ × Edge) → Step = λ e. record { node = e.1.from; edge = e.0 } in
    sym (ap (λ l. length (map step l)) (none-to 0 (node_count g) n g.edges known.within above))

-- a number that does not fit 32 bits is no node's index
beyond-none : (g : NumberedGraph) (z : ℤ) → node_count g ≤ 2147483647 → (FitsUnsigned w32 z → ⊥) → At None ≡ node_with g z
beyond-none g (pos k) few beyond =
    ⊎_elim
    (λ (less : k < 4294967296). absurd (beyond (search (rules, less))))
    (λ (above : 4294967296 ≤ k). let out : node_count g ≤ k = omega arith in sym (ap (λ b. cond b (At (Some k)) (At None)) (le-ltb k (node_count g) out)))
    (cases_lt k 4294967296)
beyond-none g (negsuc k) few beyond = refl

pub no-node : (g : NumberedGraph) (z number : ℤ) → node_count g ≤ 2147483647 → (FitsUnsigned w32 z → ⊥) → z ≡ number → At None ≡ node_with g number
no-node g z number few beyond is = beyond-none g z few beyond ∙ ap (node_with g) is
