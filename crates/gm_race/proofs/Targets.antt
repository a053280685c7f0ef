-- Lists of targets, compared from the front.
use Rattle.std.proofs.Common.{◌≡◌, ℕ, ◌-◌, ◌<◌, ◌≤◌, Bool, false, nat_eq, List, [], ◌∷◌, map, drop, length, length-drop, ap, sym, ◌∙◌, arith}
use Rattle.std.proofs.lemmas.Bool.Decides.{nat_tests}
use Rattle.gm_ast.specs.declared.tree.Target.{Target}
use Rattle.gm_ast.specs.Races.{variables_eq}
use Rattle.gm_ast.specs.Loops.{target_variable}
use Rattle.gm_race.proofs.Items.{nothing-left}

-- whether two lists write the same variables
abbrev same : List Target → List Target → Bool
same a b = variables_eq (map target_variable a) (map target_variable b)

-- more targets than none
more : (r s : List Target) → 0 < length r → s ≡ [] → same r s ≡ false
more [] s lt e = absurd (omega arith)
more (x ∷ r) s lt e = ap (λ t. same (x ∷ r) t) e

-- a list that is longer than the other is another
pub too-few : (a b : List Target) (i : ℕ) → i < length a → length b ≤ i → same (drop i a) (drop i b) ≡ same a b → false ≡ same a b
too-few a b i lt le h =
    let l : 0 < length (drop i a) = omega (arith, length-drop i a) in
    sym (more (drop i a) (drop i b) l (nothing-left b i le)) ∙ h

-- no target is left of the first list
no-more : (s : List Target) (m n : ℕ) → length s ≡ n - m → m ≤ n → nat_eq m n ≡ same [] s
no-more [] m n e le = grind (arith, nat_tests)
no-more (x ∷ s) m n e le = grind (arith, nat_tests)

pub ended : (a b : List Target) (i : ℕ) → length a ≤ i → i ≤ length a → i ≤ length b → same (drop i a) (drop i b) ≡ same a b → nat_eq (length a) (length b) ≡ same a b
ended a b i ge le within h =
    let e : length a ≡ i = omega arith in
    let l : length (drop i b) ≡ length b - i = length-drop i b in
    ap (λ (n : ℕ). nat_eq n (length b)) e ∙ no-more (drop i b) i (length b) l within ∙ ap (λ r. same r (drop i b)) (sym (nothing-left a i ge)) ∙ h
