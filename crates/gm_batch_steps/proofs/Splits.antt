-- Lines that leave out none of those behind them.
use Rattle.std.proofs.Common.{◌≡◌, ◌∙◌, ◌≤◌, ℕ, zero, suc, Bool, true, false, List, [], ◌∷◌, ◌++◌, Option, Some, None, refl, ap, sym, length, take, if◌then◌else◌, arith}
use Rattle.std.specs.Prelude.{Result, Ok, Err, nat_le}
use Rattle.std.proofs.lemmas.Bool.{leb-true}
use Rattle.std.proofs.lemmas.Bool.{and_parts}
use Rattle.std.proofs.lemmas.List.{take-append-le}
use Rattle.gm_image.specs.Program.{Line, SetField, Fold, SetRegister, Put, Send, Skip, Each}
use Rattle.gm_machine.specs.declared.faults.Fault.{Fault}
use Rattle.gm_machine.specs.Faults.{lesser}
use Rattle.gm_machine.specs.Expressions.{value, values}
use Rattle.gm_machine.specs.Taking.{settled}
use Rattle.gm_machine.specs.Vertex.{VertexContext, VertexState, After, view, gives, line_ends, leaves, line_after, go_by, goes_on, turns_after, steps, ended, folded, body_line_after, body_after}
use Rattle.gm_batch_steps.specs.LineRuns.{reach, stays}

-- how many lines are left out
ends-skip : {A : Type 0} (w : VertexState) (r : Result A Fault) (go : A → After) (n : ℕ) → ((x : A) → (go x).skip ≤ n) → (line_ends w r go).skip ≤ n
ends-skip w (Ok x) go n h = h x
ends-skip w (Err f) go n h = omega arith

if-skip : (b : Bool) (n : ℕ) → (if b then 0 else n) ≤ n
if-skip true n = omega arith
if-skip false n = omega arith

line-skip : (s : VertexContext) (l : Line) (w : VertexState) → (line_after s l w).skip ≤ reach l
line-skip s (SetField f a) w = ends-skip w (value (view s w) a) _ 0 (λ v. omega arith)
line-skip s (Fold r place ts) w = ends-skip w (gives (view s w) r place ts) _ 0 (λ v. omega arith)
line-skip s (SetRegister r a) w = ends-skip w (value (view s w) a) _ 0 (λ v. omega arith)
line-skip s (Put r place ts) w = ends-skip w (gives (view s w) r place ts) _ 0 (λ v. omega arith)
line-skip s (Send kind to ts) w = ends-skip w (value (view s w) to) _ 0 (λ v. ends-skip w (values (view s w) ts) _ 0 (λ vs. omega arith))
line-skip s (Skip n a) w = ends-skip w (value (view s w) a) _ n (λ v. if-skip _ n)
line-skip s (Each d n) w = omega arith

ended-skip : (w : VertexState) (f : Option Fault) (k n : ℕ) → k ≤ n → (ended w f k).skip ≤ n
ended-skip w None k n h = h
ended-skip w (Some f) k n h = omega arith

folded-skip : (places : ℕ) (a : After) (n : ℕ) → a.skip ≤ n → (folded places a).skip ≤ n
folded-skip places a n h = ended-skip _ (lesser a.fault (settled places a.state.folds a.state.fields).fault) a.skip n h

body_line-skip : (places : ℕ) (s : VertexContext) (l : Line) (ls : List Line) (w : VertexState) → (body_line_after places s l ls w).skip ≤ reach l
body_line-skip places s (SetField f a) ls w = line-skip s (SetField f a) w
body_line-skip places s (Fold r place ts) ls w = folded-skip places (line_after s (Fold r place ts) w) 0 (line-skip s (Fold r place ts) w)
body_line-skip places s (SetRegister r a) ls w = line-skip s (SetRegister r a) w
body_line-skip places s (Put r place ts) ls w = line-skip s (Put r place ts) w
body_line-skip places s (Send kind to ts) ls w = line-skip s (Send kind to ts) w
body_line-skip places s (Skip n a) ls w = line-skip s (Skip n a) w
body_line-skip places s (Each d n) ls w = folded-skip places (record (turns_after s (take n ls) (steps d s.graph s.node) w None) { skip = n }) n (omega arith)

-- a line does not look at lines that it cannot reach
body_line-front : (places : ℕ) (s : VertexContext) (l : Line) (ls more : List Line) (w : VertexState) → reach l ≤ length ls
    → body_line_after places s l (ls ++ more) w ≡ body_line_after places s l ls w
body_line-front places s (SetField f a) ls more w h = refl
body_line-front places s (Fold r place ts) ls more w h = refl
body_line-front places s (SetRegister r a) ls more w h = refl
body_line-front places s (Put r place ts) ls more w h = refl
body_line-front places s (Send kind to ts) ls more w h = refl
body_line-front places s (Skip n a) ls more w h = refl
body_line-front places s (Each d n) ls more w h =
    ap (λ t. folded places (record (turns_after s t (steps d s.graph s.node) w None) { skip = n })) (take-append-le n ls more h)

-- lines that stay, and then others
pub split : (places : ℕ) (s : VertexContext) (ls more : List Line) (k : ℕ) (w : VertexState) → k ≤ length ls → stays ls ≡ true
    → body_after places s (ls ++ more) k w ≡ goes_on (body_after places s ls k w) (λ j w'. body_after places s more 0 w')
split places s [] more zero w h st = refl
split places s [] more (suc k) w h st = absurd (omega (arith, h))
split places s (l ∷ ls) more (suc k) w h st = split places s ls more k w (omega (arith, h)) (and_parts (nat_le (reach l) (length ls)) (stays ls) st).1
split places s (l ∷ ls) more zero w h st =
    let parts : (nat_le (reach l) (length ls) ≡ true) × (stays ls ≡ true) = and_parts (nat_le (reach l) (length ls)) (stays ls) st in
    let within : reach l ≤ length ls = leb-true (reach l) (length ls) parts.0 in
    ap (λ a. goes_on a (λ k w'. body_after places s (ls ++ more) k w')) (body_line-front places s l ls more w within)
    ∙ step (λ k w' le. split places s ls more k w' le parts.1)
    (body_line_after places s l ls w).fault (body_line_after places s l ls w) refl (omega (arith, body_line-skip places s l ls w, within))
  where
    step : ((k : ℕ) (w' : VertexState) → k ≤ length ls → body_after places s (ls ++ more) k w' ≡ goes_on (body_after places s ls k w') (λ j w'. body_after places s more 0 w'))
        → (f : Option Fault) (a : After) → a.fault ≡ f → a.skip ≤ length ls
        → go_by f a (λ k w'. body_after places s (ls ++ more) k w')
        ≡ goes_on (go_by f a (λ k w'. body_after places s ls k w')) (λ j w'. body_after places s more 0 w')
    step rest None a e le = rest a.skip a.state le
    step rest (Some f) a e le = sym (ap (λ g. go_by g a (λ j w'. body_after places s more 0 w')) e)

-- as many lines are left out as there are, or more
pub past : (places : ℕ) (s : VertexContext) (ls : List Line) (k : ℕ) (w : VertexState) → length ls ≤ k → body_after places s ls k w ≡ leaves w
past places s [] k w h = refl
past places s (l ∷ ls) zero w h = absurd (omega (arith, h))
past places s (l ∷ ls) (suc k) w h = past places s ls k w (omega (arith, h))
