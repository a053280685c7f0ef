-- A body that stands before another one.
use Rattle.std.proofs.Common.{◌≡◌, ◌≤◌, ℕ, zero, suc, Bool, true, false, cond, Option, Some, None, Result, Ok, Err, List, [], ◌∷◌, ◌++◌, map, length, refl, ap, ◌∙◌, arith}
use Rattle.std.specs.Prelude.{slice_set}
use Rattle.std.proofs.lemmas.List.{take-append-le}
use Rattle.gm_value.specs.declared.values.Value.{Value}
use Rattle.gm_value.specs.declared.values.VType.{VType}
use Rattle.gm_value.specs.Numbers.{zero_of}
use Rattle.gm_value.specs.Operations.{is_true}
use Rattle.gm_image.specs.Program.{Line, SetField, Fold, SetRegister, Put, Send, Skip, Each}
use Rattle.gm_machine.specs.declared.faults.Fault.{Fault}
use Rattle.gm_machine.specs.Faults.{lesser}
use Rattle.gm_machine.specs.Expressions.{value, values}
use Rattle.gm_machine.specs.Taking.{settled}
use Rattle.gm_machine.specs.Vertex.{VertexContext, VertexState, After, view, gives, line_ends, leaves, line_after, go_by, goes_on, ended, folded, steps, turns_after, each_after, body_line_after, body_after}
use Rattle.gm_merge_laws.specs.Joins.{restart}

-- how many of the lines below it a line may leave out
abbrev pub span : Line → ℕ
span (Skip n a) = n
span (Each d n) = n
span (SetField f a) = 0
span (Fold r place ts) = 0
span (SetRegister r a) = 0
span (Put r place ts) = 0
span (Send kind to ts) = 0

-- no line leaves out more lines than there are
abbrev pub Stays : List Line → Type 0
Stays [] = Unit {0}
Stays (l ∷ ls) = (span l ≤ length ls) × Stays ls

ends-short : {A : Type 0} (w : VertexState) (n : ℕ) (r : Result A Fault) (go : A → After) → ((x : A) → (go x).skip ≤ n) → (line_ends w r go).skip ≤ n
ends-short w n (Ok x) go h = h x
ends-short w n (Err f) go h = omega arith

ended-short : (w : VertexState) (f : Option Fault) (k : ℕ) → (ended w f k).skip ≤ k
ended-short w None k = omega arith
ended-short w (Some f) k = omega arith

short-by : (b : Bool) (n : ℕ) → cond b 0 n ≤ n
short-by true n = omega arith
short-by false n = omega arith

line-short : (s : VertexContext) (l : Line) (w : VertexState) → (line_after s l w).skip ≤ span l
line-short s (SetField f a) w = ends-short w 0 (value (view s w) a) (λ v. leaves (record w { fields = slice_set w.fields f v })) (λ v. omega arith)
line-short s (Fold r place ts) w = ends-short w 0 (gives (view s w) r place ts) (λ given. leaves (record w { folds = w.folds ++ given })) (λ v. omega arith)
line-short s (SetRegister r a) w = ends-short w 0 (value (view s w) a) (λ v. leaves (record w { registers = slice_set w.registers r v })) (λ v. omega arith)
line-short s (Put r place ts) w = ends-short w 0 (gives (view s w) r place ts) (λ given. leaves (record w { puts = w.puts ++ given })) (λ v. omega arith)
line-short s (Send kind to ts) w = ends-short w 0 (value (view s w) to) _ (λ v. ends-short w 0 (values (view s w) ts) _ (λ vs. omega arith))
line-short s (Skip n a) w = ends-short w n (value (view s w) a) (λ v. record { state = w; fault = None; skip = cond (is_true v) 0 n }) (λ v. short-by (is_true v) n)
line-short s (Each d n) w = omega arith

folded-short : (places : ℕ) (a : After) → (folded places a).skip ≤ a.skip
folded-short places a =
    let after = settled places a.state.folds a.state.fields in
    ended-short (record (a.state) { folds = []; fields = after.values }) (lesser a.fault after.fault) a.skip

body-line-short : (places : ℕ) (s : VertexContext) (l : Line) (ls : List Line) (w : VertexState) → (body_line_after places s l ls w).skip ≤ span l
body-line-short places s (Each d n) ls w = folded-short places (each_after s d n ls w)
body-line-short places s (Fold r place ts) ls w = let a = folded-short places (line_after s (Fold r place ts) w) in let b = line-short s (Fold r place ts) w in omega arith
body-line-short places s (SetField f a) ls w = line-short s (SetField f a) w
body-line-short places s (SetRegister r a) ls w = line-short s (SetRegister r a) w
body-line-short places s (Put r place ts) ls w = line-short s (Put r place ts) w
body-line-short places s (Send kind to ts) ls w = line-short s (Send kind to ts) w
body-line-short places s (Skip n a) ls w = line-short s (Skip n a) w

-- what stands below a line's own lines does not matter to it
line-alone : (places : ℕ) (s : VertexContext) (l : Line) (ls ys : List Line) (w : VertexState) → span l ≤ length ls → body_line_after places s l (ls ++ ys) w ≡ body_line_after places s l ls w
line-alone places s (Each d n) ls ys w h = ap (λ ms. folded places (record (turns_after s ms (steps d s.graph s.node) w None) { skip = n })) (take-append-le n ls ys h)
line-alone places s (Fold r place ts) ls ys w h = refl
line-alone places s (SetField f a) ls ys w h = refl
line-alone places s (SetRegister r a) ls ys w h = refl
line-alone places s (Put r place ts) ls ys w h = refl
line-alone places s (Send kind to ts) ls ys w h = refl
line-alone places s (Skip n a) ls ys w h = refl

-- a body before another one: the other runs where the first ended without a fault
pub body-append : (places : ℕ) (s : VertexContext) (ys xs : List Line) → Stays xs → (k : ℕ) (w : VertexState) → k ≤ length xs →
    body_after places s (xs ++ ys) k w ≡ goes_on (body_after places s xs k w) (λ k w'. body_after places s ys 0 w')
body-append places s ys [] h zero w l = refl
body-append places s ys [] h (suc k) w l = absurd (omega arith)
body-append places s ys (x ∷ xs) h (suc k) w l = let l' : k ≤ length xs = omega arith in body-append places s ys xs h.1 k w l'
body-append places s ys (x ∷ xs) h zero w l =
    ap (λ a. goes_on a (λ k w'. body_after places s (xs ++ ys) k w')) (line-alone places s x xs ys w h.0)
    ∙ by (body_line_after places s x xs w) (body_line_after places s x xs w).fault refl short (λ k w' m. body-append places s ys xs h.1 k w' m)
  where
    short : (body_line_after places s x xs w).skip ≤ length xs
    short = let a = body-line-short places s x xs w in let b = h.0 in omega arith

    by : (a : After) (o : Option Fault) → o ≡ a.fault → a.skip ≤ length xs →
        ((k : ℕ) (w' : VertexState) → k ≤ length xs → body_after places s (xs ++ ys) k w' ≡ goes_on (body_after places s xs k w') (λ k w'. body_after places s ys 0 w')) →
        go_by o a (λ k w'. body_after places s (xs ++ ys) k w') ≡ goes_on (go_by o a (λ k w'. body_after places s xs k w')) (λ k w'. body_after places s ys 0 w')
    by a None e m go = go a.skip a.state m
    by a (Some f) e m go = ap (λ o. go_by o a (λ k w'. body_after places s ys 0 w')) e

-- registers set to the values with which a step begins
abbrev pub restarted : List (ℕ × VType) → List Value → List Value
restarted [] registers = registers
restarted (at ∷ ats) registers = restarted ats (slice_set registers at.0 (zero_of at.1))

pub body-restarts : (places : ℕ) (s : VertexContext) (ys : List Line) (ats : List (ℕ × VType)) (w : VertexState) →
    body_after places s (map restart ats ++ ys) 0 w ≡ body_after places s ys 0 (record w { registers = restarted ats w.registers })
body-restarts places s ys [] w = refl
body-restarts places s ys (at ∷ ats) w = body-restarts places s ys ats (record w { registers = slice_set w.registers at.0 (zero_of at.1) })
