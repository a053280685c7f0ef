-- Lines of conditions in code are those of the definition.
use Rattle.std.proofs.Common.{◌≡◌, ℕ, suc, true, false, cond, List, [], ◌∷◌, ◌++◌, length, map, refl, ap, ◌∙◌, sym, arith}
use Rattle.std.proofs.lemmas.Bool.{ne_eqb}
use Rattle.std.specs.Prelude.{◌+◌, ◌==◌}
use Rattle.gm_value.specs.declared.values.Value.TheVariants.{Flag, I32, I64, At}
use Rattle.gm_image.specs.declared.lines.MasterLine.{MasterLine}
use Rattle.gm_image.specs.Program.{Test, Jump}
use Rattle.gm_image.specs.Term as M
use Rattle.gm_image.specs.Term.{Term}
use Rattle.gm_image.specs.Views.{command}
use Rattle.gm_bodies.specs.Sites.{is_always}
use Rattle.gm_lowering.specs.Lowered.{choice, test_lines}

length-map : {A B : Type 0} (f : A → B) (xs : List A) → length (map f xs) ≡ length xs
length-map f [] = refl
length-map f (x ∷ xs) = ap suc (length-map f xs)

-- a choice, by whether there is another way
pub choice_is : (t : Term) (behind : ℕ) (a b : List MasterLine) → choice t behind (map command a) (map command b)
    ≡ cond (length b == 0) (Test behind t ∷ map command a) (Test (suc behind) t ∷ (map command a ++ (Jump (suc behind + length b) ∷ map command b)))
choice_is t behind a [] = refl
choice_is t behind a (m ∷ ms) =
    let some : (suc (length ms) == 0) ≡ false = ne_eqb (suc (length ms)) 0 (λ e. omega arith) in
    ap (λ n. Test (suc behind) t ∷ (map command a ++ (Jump (suc behind + suc n) ∷ map command (m ∷ ms)))) (length-map command ms)
    ∙ sym (ap (λ b. cond b (Test behind t ∷ map command a) (Test (suc behind) t ∷ (map command a ++ (Jump (suc behind + suc (length ms)) ∷ map command (m ∷ ms))))) some)

-- a condition before the lines of a turn, by whether it always holds
pub test_lines_are : (to : ℕ) (t : Term) → test_lines to t ≡ cond (is_always t) [] (Test to t ∷ [])
test_lines_are to (M.Const (Flag true)) = refl
test_lines_are to (M.Const (Flag false)) = refl
test_lines_are to (M.Const (I32 n)) = refl
test_lines_are to (M.Const (I64 n)) = refl
test_lines_are to (M.Const (At n)) = refl
test_lines_are to (M.Global g) = refl
test_lines_are to M.NodeCount = refl
test_lines_are to M.EdgeCount = refl
test_lines_are to (M.Field f) = refl
test_lines_are to M.Self = refl
test_lines_are to M.OutDegree = refl
test_lines_are to M.InDegree = refl
test_lines_are to (M.Register r) = refl
test_lines_are to (M.Message i) = refl
test_lines_are to M.Neighbour = refl
test_lines_are to (M.Column w) = refl
test_lines_are to (M.NodeAt a) = refl
test_lines_are to (M.Live p a) = refl
test_lines_are to (M.Unary op p a) = refl
test_lines_are to (M.Binary op p a b) = refl
test_lines_are to (M.And a b) = refl
test_lines_are to (M.Or a b) = refl
test_lines_are to (M.Choose c a b) = refl
