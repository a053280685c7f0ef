-- A vertex has as many fields after its step as before.
use Rattle.std.proofs.Common.{◌≡◌, ℕ, zero, suc, List, [], ◌∷◌, ◌++◌, Option, Some, None, Result, Ok, Err, if◌then◌else◌, length, map, take, set, refl, ◌∙◌}
use Rattle.std.specs.List.{enumerate_from}
use Rattle.std.proofs.lemmas.List.{length-set, length-map}
use Rattle.std.proofs.lemmas.List.FromFn.{length-enumerate_from}
use Rattle.gm_value.specs.declared.values.Value.{Value}
use Rattle.gm_value.specs.Operations.{is_true}
use Rattle.gm_model.specs.Graphs.{Step}
use Rattle.gm_image.specs.Program.{Program, Block, Line, SetField, Fold, SetRegister, Put, Send, Skip, Each}
use Rattle.gm_machine.specs.declared.faults.Fault.{Fault}
use Rattle.gm_machine.specs.Taking.{Contribution}
use Rattle.gm_machine.specs.Faults.{lesser}
use Rattle.gm_machine.specs.Expressions.{value, values}
use Rattle.gm_machine.specs.Taking.{settled, value_after}
use Rattle.gm_machine.specs.Vertex.{Message, VertexContext, VertexState, After, view, gives, messages_to, line_ends, leaves, line_after, goes_on, lines_after, turns_after, steps, ended, folded, each_after, body_line_after, body_after, begun, handled, handler_run, gathered, vertex_after}

-- how many fields there are after lines
abbrev pub width : After → ℕ
width a = length a.state.fields

ends-wide : {A : Type 0} (n : ℕ) (w : VertexState) (r : Result A Fault) (go : A → After) → length w.fields ≡ n → ((x : A) → width (go x) ≡ n) → width (line_ends w r go) ≡ n
ends-wide n w (Ok x) go is goes = goes x
ends-wide n w (Err f) go is goes = is

line-wide : (s : VertexContext) (l : Line) (w : VertexState) → width (line_after s l w) ≡ length w.fields
line-wide s (SetField f a) w =
    ends-wide (length w.fields) w (value (view s w) a) (λ v. leaves (record w { fields = set w.fields f v })) refl (λ v. length-set w.fields f v)
line-wide s (Fold r p ts) w = ends-wide (length w.fields) w (gives (view s w) r p ts) (λ given. leaves (record w { folds = w.folds ++ given })) refl (λ given. refl)
line-wide s (SetRegister i a) w = ends-wide (length w.fields) w (value (view s w) a) (λ v. leaves (record w { registers = set w.registers i v })) refl (λ v. refl)
line-wide s (Put r p ts) w = ends-wide (length w.fields) w (gives (view s w) r p ts) (λ given. leaves (record w { puts = w.puts ++ given })) refl (λ given. refl)
line-wide s (Send k to ts) w =
    ends-wide (length w.fields) w (value (view s w) to) (λ t. line_ends w (values (view s w) ts) (λ vs. leaves (record w { messages = w.messages ++ messages_to t k vs }))) refl
    (λ t. ends-wide (length w.fields) w (values (view s w) ts) (λ vs. leaves (record w { messages = w.messages ++ messages_to t k vs })) refl (λ vs. refl))
line-wide s (Skip n a) w = ends-wide (length w.fields) w (value (view s w) a) (λ x. record { state = w; fault = None; skip = if is_true x then 0 else n }) refl (λ x. refl)
line-wide s (Each d n) w = refl

goes-wide : (n : ℕ) (v : VertexState) (f : Option Fault) (k : ℕ) (go : ℕ → VertexState → After) → length v.fields ≡ n →
    ((j : ℕ) (u : VertexState) → width (go j u) ≡ length u.fields) → width (goes_on (record { state = v; fault = f; skip = k }) go) ≡ n
goes-wide n v None k go is goes = goes k v ∙ is
goes-wide n v (Some f) k go is goes = is

lines-wide : (s : VertexContext) (ls : List Line) (k : ℕ) (w : VertexState) → width (lines_after s ls k w) ≡ length w.fields
lines-wide s [] k w = refl
lines-wide s (l ∷ ls) (suc k) w = lines-wide s ls k w
lines-wide s (l ∷ ls) zero w =
    let a : After = line_after s l w in
    goes-wide (length w.fields) a.state a.fault a.skip (λ k u. lines_after s ls k u) (line-wide s l w) (λ k u. lines-wide s ls k u)

turns-wide : (s : VertexContext) (ls : List Line) (es : List Step) (w : VertexState) (f : Option Fault) → width (turns_after s ls es w f) ≡ length w.fields
turns-wide s ls [] w f = refl
turns-wide s ls (e ∷ es) w f =
    let one : After = lines_after (record s { near = e }) ls 0 w in
    turns-wide s ls es one.state (lesser f one.fault) ∙ lines-wide (record s { near = e }) ls 0 w

ended-wide : (w : VertexState) (f : Option Fault) (k : ℕ) → width (ended w f k) ≡ length w.fields
ended-wide w None k = refl
ended-wide w (Some f) k = refl

settled-wide : (places : ℕ) (cs : List Contribution) (held : List Value) → length (settled places cs held).values ≡ length held
settled-wide places cs held = length-map (enumerate_from 0 held) (value_after places cs held) ∙ length-enumerate_from 0 held

folded-wide : (places : ℕ) (a : After) → width (folded places a) ≡ width a
folded-wide places a =
    let after = settled places a.state.folds a.state.fields in
    ended-wide (record (a.state) { folds = []; fields = after.values }) (lesser a.fault after.fault) a.skip ∙ settled-wide places a.state.folds a.state.fields

body_line-wide : (places : ℕ) (s : VertexContext) (l : Line) (ls : List Line) (w : VertexState) → width (body_line_after places s l ls w) ≡ length w.fields
body_line-wide places s (Each d n) ls w = folded-wide places (each_after s d n ls w) ∙ turns-wide s (take n ls) (steps d s.graph s.node) w None
body_line-wide places s (Fold r p ts) ls w = folded-wide places (line_after s (Fold r p ts) w) ∙ line-wide s (Fold r p ts) w
body_line-wide places s (SetField f a) ls w = line-wide s (SetField f a) w
body_line-wide places s (SetRegister r a) ls w = line-wide s (SetRegister r a) w
body_line-wide places s (Put r p ts) ls w = line-wide s (Put r p ts) w
body_line-wide places s (Send k to ts) ls w = line-wide s (Send k to ts) w
body_line-wide places s (Skip n a) ls w = line-wide s (Skip n a) w

body-wide : (places : ℕ) (s : VertexContext) (ls : List Line) (k : ℕ) (w : VertexState) → width (body_after places s ls k w) ≡ length w.fields
body-wide places s [] k w = refl
body-wide places s (l ∷ ls) (suc k) w = body-wide places s ls k w
body-wide places s (l ∷ ls) zero w =
    let a : After = body_line_after places s l ls w in
    goes-wide (length w.fields) a.state a.fault a.skip (λ k u. body_after places s ls k u) (body_line-wide places s l ls w) (λ k u. body-wide places s ls k u)

pub vertex-wide : (p : Program) (b : Block) (s : VertexContext) (inbox : List Message) (fields : List Value) → width (vertex_after p b s inbox fields) ≡ length fields
vertex-wide p b s inbox fields =
    let start : VertexState = begun p.registers fields in
    let a : After = handled (length p.places) p.registers s b.handlers inbox fields in
    goes-wide (length fields) a.state a.fault a.skip (λ k w. body_after (length p.places) s b.body 0 w)
    (folded-wide (length p.places) (gathered start (map (handler_run s b.handlers start) inbox)))
    (λ k w. body-wide (length p.places) s b.body 0 w)
