-- Lines of a handler that leave out none of those behind them.
use Rattle.std.proofs.Common.{◌≡◌, ◌≤◌, ℕ, zero, suc, Bool, true, false, List, [], ◌∷◌, ◌++◌, Option, Some, None, refl, ap, sym, length, if◌then◌else◌, arith}
use Rattle.std.specs.Prelude.{Result, Ok, Err, nat_le}
use Rattle.std.proofs.lemmas.Bool.{leb-true, and_parts}
use Rattle.gm_image.specs.Program.{Line, SetField, Fold, SetRegister, Put, Send, Skip, Each}
use Rattle.gm_machine.specs.declared.faults.Fault.{Fault}
use Rattle.gm_machine.specs.Expressions.{value, values}
use Rattle.gm_machine.specs.Vertex.{VertexContext, VertexState, After, view, gives, line_ends, leaves, line_after, lines_after, go_by, goes_on}
use Rattle.gm_batch_steps.specs.LineRuns.{reach, stays}

-- how many lines are left out
ends-skip : {A : Type 0} (w : VertexState) (r : Result A Fault) (go : A → After) (n : ℕ) → ((x : A) → (go x).skip ≤ n) → (line_ends w r go).skip ≤ n
ends-skip w (Ok x) go n h = h x
ends-skip w (Err f) go n h = omega arith

if-skip : (b : Bool) (n : ℕ) → (if b then 0 else n) ≤ n
if-skip true n = omega arith
if-skip false n = omega arith

line-skip : (s : VertexContext) (l : Line) (w : VertexState) → (line_after s l w).skip ≤ reach l
line-skip s (SetField f a) w = ends-skip w (value (view s w) a) _ 0 (λ v. omega arith)
line-skip s (Fold r place ts) w = ends-skip w (gives (view s w) r place ts) _ 0 (λ v. omega arith)
line-skip s (SetRegister r a) w = ends-skip w (value (view s w) a) _ 0 (λ v. omega arith)
line-skip s (Put r place ts) w = ends-skip w (gives (view s w) r place ts) _ 0 (λ v. omega arith)
line-skip s (Send kind to ts) w = ends-skip w (value (view s w) to) _ 0 (λ v. ends-skip w (values (view s w) ts) _ 0 (λ vs. omega arith))
line-skip s (Skip n a) w = ends-skip w (value (view s w) a) _ n (λ v. if-skip _ n)
line-skip s (Each d n) w = omega arith

-- lines that stay, and then others
pub split : (s : VertexContext) (ls more : List Line) (k : ℕ) (w : VertexState) → k ≤ length ls → stays ls ≡ true
    → lines_after s (ls ++ more) k w ≡ goes_on (lines_after s ls k w) (λ j w'. lines_after s more 0 w')
split s [] more zero w h st = refl
split s [] more (suc k) w h st = absurd (omega (arith, h))
split s (l ∷ ls) more (suc k) w h st = split s ls more k w (omega (arith, h)) (and_parts (nat_le (reach l) (length ls)) (stays ls) st).1
split s (l ∷ ls) more zero w h st =
    let parts : (nat_le (reach l) (length ls) ≡ true) × (stays ls ≡ true) = and_parts (nat_le (reach l) (length ls)) (stays ls) st in
    let within : reach l ≤ length ls = leb-true (reach l) (length ls) parts.0 in
    step (λ k w' le. split s ls more k w' le parts.1)
    (line_after s l w).fault (line_after s l w) refl (omega (arith, line-skip s l w, within))
  where
    step : ((k : ℕ) (w' : VertexState) → k ≤ length ls → lines_after s (ls ++ more) k w' ≡ goes_on (lines_after s ls k w') (λ j w'. lines_after s more 0 w'))
        → (f : Option Fault) (a : After) → a.fault ≡ f → a.skip ≤ length ls
        → go_by f a (λ k w'. lines_after s (ls ++ more) k w')
        ≡ goes_on (go_by f a (λ k w'. lines_after s ls k w')) (λ j w'. lines_after s more 0 w')
    step rest None a e le = rest a.skip a.state le
    step rest (Some f) a e le = sym (ap (λ g. go_by g a (λ j w'. lines_after s more 0 w')) e)

-- as many lines are left out as there are, or more
pub past : (s : VertexContext) (ls : List Line) (k : ℕ) (w : VertexState) → length ls ≤ k → lines_after s ls k w ≡ leaves w
past s [] k w h = refl
past s (l ∷ ls) zero w h = absurd (omega (arith, h))
past s (l ∷ ls) (suc k) w h = past s ls k w (omega (arith, h))
