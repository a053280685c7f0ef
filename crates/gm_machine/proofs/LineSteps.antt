-- Steps along lists of expressions and of edges.
use Rattle.std.proofs.Common.{◌≡◌, ℕ, zero, suc, Option, Some, Result, Ok, Err, List, [], ◌∷◌, ◌++◌, drop, ◌+◌, add-one, sym, ap, ◌∙◌}
use Rattle.std.specs.Prelude.{slice_get}
use Rattle.gm_model.specs.Graphs.{Step, nodes_of, edges_of}
use Rattle.gm_machine.specs.declared.faults.Fault.{Fault}
use Rattle.gm_image.specs.Program.{Line}
use Rattle.gm_machine.specs.Faults.{lesser}
use Rattle.gm_machine.specs.Vertex.{VertexContext, VertexState, After, lines_after, turns_after}
use Rattle.gm_machine.specs.VertexViews.{after_lines}

-- what was found, and then what is left
abbrev pub after_these : {A : Type 0} → List A → Result (List A) Fault → Result (List A) Fault
after_these found (Ok rest) = Ok (found ++ rest)
after_these found (Err f) = Err f

-- a step by its node and its edge
pub step-of : (steps : List Step) (k node edge : ℕ) → slice_get (nodes_of steps) k ≡ Some node → slice_get (edges_of steps) k ≡ Some edge →
    slice_get steps k ≡ Some (record { node = node; edge = edge })
step-of [] k node edge a b = cc
step-of (s ∷ steps) zero node edge a b =
    let n : s.node ≡ node = cc in
    let e : s.edge ≡ edge = cc in
    let made : ℕ → ℕ → Step = λ x y. record { node = x; edge = y } in
    ap (λ x. Some (made x s.edge)) n ∙ ap (λ y. Some (made node y)) e
step-of (s ∷ steps) (suc k) node edge a b = step-of steps k node edge a b

-- the rest of a list from an element that is got
pub drop-got : {X : Type 0} (xs : List X) (k : ℕ) (x : X) → slice_get xs k ≡ Some x → drop k xs ≡ x ∷ drop (suc k) xs
drop-got [] k x e = cc
drop-got (y ∷ xs) zero x e = let is : y ≡ x = cc in ap (λ z. z ∷ xs) is
drop-got (y ∷ xs) (suc k) x e = drop-got xs k x e

-- one more turn
pub turns-more : (s : VertexContext) (ls : List Line) (es : List Step) (k : ℕ) (e : Step) (w w' : VertexState) (f one f' : Option Fault) (all : After) →
    slice_get es k ≡ Some e → after_lines w' one ≡ lines_after (record s { near = e }) ls 0 w → f' ≡ lesser f one →
    turns_after s ls (drop k es) w f ≡ all → turns_after s ls (drop (k + 1) es) w' f' ≡ all
turns-more s ls es k e w w' f one f' all got ran fault so_far =
    ap (λ n. turns_after s ls (drop n es) w' f') (add-one k)
    ∙ ap (λ g. turns_after s ls (drop (suc k) es) w' g) fault
    ∙ ap (λ a. turns_after s ls (drop (suc k) es) a.state (lesser f a.fault)) ran
    ∙ sym (ap (λ xs. turns_after s ls xs w f) (drop-got es k e got))
    ∙ so_far
