-- Lines run the same behind what was sent, put and folded before them, and lines without a set keep the fields.
use Rattle.std.proofs.Common.{◌≡◌, ℕ, zero, suc, Bool, true, false, ◌&&◌, List, [], ◌∷◌, ◌++◌, Option, Some, None, Result, Ok, Err, slice_set, if◌then◌else◌, take, refl, ap, ◌∙◌, append_assoc}
use Rattle.gm_value.specs.declared.values.Value.{Value}
use Rattle.gm_value.specs.Operations.{is_true}
use Rattle.gm_model.specs.Graphs.{Step}
use Rattle.gm_image.specs.Program.{Line, SetField, Fold, SetRegister, Put, Send, Skip, Each}
use Rattle.gm_image.specs.Folds.{sets_no_field}
use Rattle.gm_machine.specs.declared.faults.Fault.{Fault}
use Rattle.gm_machine.specs.Taking.{Contribution}
use Rattle.gm_machine.specs.Faults.{lesser}
use Rattle.gm_machine.specs.Expressions.{value, values}
use Rattle.gm_machine.specs.Taking.{settled}
use Rattle.gm_machine.specs.Vertex.{Message, VertexContext, VertexState, After, view, gives, messages_to, line_ends, leaves, line_after, goes_on, lines_after, turns_after, ended, folded, each_after, steps, body_line_after, body_after, never_sets}
use Rattle.gm_machine.specs.VertexViews.{behind, after_behind}

-- an end of a line, behind
ends-behind : (ms : List Message) (ps fs : List Contribution) {A : Type 0} (w v : VertexState) (r : Result A Fault) (go go' : A → After) → w ≡ behind ms ps fs v →
    ((x : A) → go' x ≡ after_behind ms ps fs (go x)) → line_ends w r go' ≡ after_behind ms ps fs (line_ends v r go)
ends-behind ms ps fs w v (Ok x) go go' is same = same x
ends-behind ms ps fs w v (Err f) go go' is same = let at : VertexState → After = λ u. record { state = u; fault = Some f; skip = 0 } in ap at is

module _ (ms : List Message) (ps fs : List Contribution) where
  pub line-behind : (s : VertexContext) (l : Line) (v : VertexState) → line_after s l (behind ms ps fs v) ≡ after_behind ms ps fs (line_after s l v)
  line-behind s (SetField f a) v =
      ends-behind ms ps fs (behind ms ps fs v) v (value (view s v) a) (λ x. leaves (record v { fields = slice_set v.fields f x })) (λ x. leaves (record (behind ms ps fs v) { fields = slice_set v.fields f x })) refl (λ x. refl)
  line-behind s (Fold r p ts) v =
      ends-behind ms ps fs (behind ms ps fs v) v (gives (view s v) r p ts) (λ given. leaves (record v { folds = v.folds ++ given })) (λ given. leaves (record (behind ms ps fs v) { folds = (fs ++ v.folds) ++ given })) refl
      (λ given. ap (λ xs. leaves (record (behind ms ps fs v) { folds = xs })) (append_assoc fs v.folds given))
  line-behind s (SetRegister f a) v =
      ends-behind ms ps fs (behind ms ps fs v) v (value (view s v) a) (λ x. leaves (record v { registers = slice_set v.registers f x })) (λ x. leaves (record (behind ms ps fs v) { registers = slice_set v.registers f x })) refl (λ x. refl)
  line-behind s (Put r p ts) v =
      ends-behind ms ps fs (behind ms ps fs v) v (gives (view s v) r p ts) (λ given. leaves (record v { puts = v.puts ++ given })) (λ given. leaves (record (behind ms ps fs v) { puts = (ps ++ v.puts) ++ given })) refl
      (λ given. ap (λ xs. leaves (record (behind ms ps fs v) { puts = xs })) (append_assoc ps v.puts given))
  line-behind s (Send k to ts) v =
      ends-behind ms ps fs (behind ms ps fs v) v (value (view s v) to)
      (λ t. line_ends v (values (view s v) ts) (λ vs. leaves (record v { messages = v.messages ++ messages_to t k vs })))
      (λ t. line_ends (behind ms ps fs v) (values (view s v) ts) (λ vs. leaves (record (behind ms ps fs v) { messages = (ms ++ v.messages) ++ messages_to t k vs }))) refl
      (λ t. ends-behind ms ps fs (behind ms ps fs v) v (values (view s v) ts) (λ vs. leaves (record v { messages = v.messages ++ messages_to t k vs })) (λ vs. leaves (record (behind ms ps fs v) { messages = (ms ++ v.messages) ++ messages_to t k vs })) refl
      (λ vs. ap (λ xs. leaves (record (behind ms ps fs v) { messages = xs })) (append_assoc ms v.messages (messages_to t k vs))))
  line-behind s (Skip n a) v =
      ends-behind ms ps fs (behind ms ps fs v) v (value (view s v) a) (λ x. record { state = v; fault = None; skip = if is_true x then 0 else n }) (λ x. record { state = behind ms ps fs v; fault = None; skip = if is_true x then 0 else n }) refl (λ x. refl)
  line-behind s (Each d n) v = refl

  goes-behind : (go : ℕ → VertexState → After) (v : VertexState) (f : Option Fault) (k : ℕ) →
      ((k : ℕ) (v : VertexState) → go k (behind ms ps fs v) ≡ after_behind ms ps fs (go k v)) →
      goes_on (record { state = behind ms ps fs v; fault = f; skip = k }) go ≡ after_behind ms ps fs (goes_on (record { state = v; fault = f; skip = k }) go)
  goes-behind go v None k same = same k v
  goes-behind go v (Some f) k same = refl

  pub lines-behind : (s : VertexContext) (ls : List Line) (k : ℕ) (v : VertexState) →
      lines_after s ls k (behind ms ps fs v) ≡ after_behind ms ps fs (lines_after s ls k v)
  lines-behind s [] k v = refl
  lines-behind s (l ∷ ls) (suc k) v = lines-behind s ls k v
  lines-behind s (l ∷ ls) zero v =
      let a : After = line_after s l v in
      ap (λ x. goes_on x (λ k u. lines_after s ls k u)) (line-behind s l v)
      ∙ goes-behind (λ k u. lines_after s ls k u) a.state a.fault a.skip (λ k u. lines-behind s ls k u)

  turns-behind : (s : VertexContext) (ls : List Line) (es : List Step) (v : VertexState) (f : Option Fault) →
      turns_after s ls es (behind ms ps fs v) f ≡ after_behind ms ps fs (turns_after s ls es v f)
  turns-behind s ls [] v f = refl
  turns-behind s ls (e ∷ es) v f =
      let one : After = lines_after (record s { near = e }) ls 0 v in
      ap (λ a. turns_after s ls es a.state (lesser f a.fault)) (lines-behind (record s { near = e }) ls 0 v)
      ∙ turns-behind s ls es one.state (lesser f one.fault)

-- A body, behind what was sent and put.
module _ (ms : List Message) (ps : List Contribution) where
  ended-behind : (w : VertexState) (f : Option Fault) (k : ℕ) → ended (behind ms ps [] w) f k ≡ after_behind ms ps [] (ended w f k)
  ended-behind w None k = refl
  ended-behind w (Some f) k = refl

  pub folded-behind : (places : ℕ) (a : After) → folded places (after_behind ms ps [] a) ≡ after_behind ms ps [] (folded places a)
  folded-behind places a =
      let after = settled places a.state.folds a.state.fields in
      ended-behind (record (a.state) { folds = []; fields = after.values }) (lesser a.fault after.fault) a.skip

  body_line-behind : (places : ℕ) (s : VertexContext) (l : Line) (ls : List Line) (v : VertexState) →
      body_line_after places s l ls (behind ms ps [] v) ≡ after_behind ms ps [] (body_line_after places s l ls v)
  body_line-behind places s (Each d n) ls v =
      ap (λ a. folded places (record a { skip = n })) (turns-behind ms ps [] s (take n ls) (steps d s.graph s.node) v None)
      ∙ folded-behind places (each_after s d n ls v)
  body_line-behind places s (Fold r p ts) ls v =
      ap (folded places) (line-behind ms ps [] s (Fold r p ts) v) ∙ folded-behind places (line_after s (Fold r p ts) v)
  body_line-behind places s (SetField f a) ls v = line-behind ms ps [] s (SetField f a) v
  body_line-behind places s (SetRegister r a) ls v = line-behind ms ps [] s (SetRegister r a) v
  body_line-behind places s (Put r p ts) ls v = line-behind ms ps [] s (Put r p ts) v
  body_line-behind places s (Send k to ts) ls v = line-behind ms ps [] s (Send k to ts) v
  body_line-behind places s (Skip n a) ls v = line-behind ms ps [] s (Skip n a) v

  pub body-behind : (places : ℕ) (s : VertexContext) (ls : List Line) (k : ℕ) (v : VertexState) →
      body_after places s ls k (behind ms ps [] v) ≡ after_behind ms ps [] (body_after places s ls k v)
  body-behind places s [] k v = refl
  body-behind places s (l ∷ ls) (suc k) v = body-behind places s ls k v
  body-behind places s (l ∷ ls) zero v =
      let a : After = body_line_after places s l ls v in
      ap (λ x. goes_on x (λ k u. body_after places s ls k u)) (body_line-behind places s l ls v)
      ∙ goes-behind ms ps [] (λ k u. body_after places s ls k u) a.state a.fault a.skip (λ k u. body-behind places s ls k u)

-- Lines without a set keep the fields.

and_first : (a b : Bool) → a && b ≡ true → a ≡ true
and_first true b e = refl
and_first false b e = e

and_second : (a b : Bool) → a && b ≡ true → b ≡ true
and_second true b e = e
and_second false b e = cc

ends-keep : {A : Type 0} (w : VertexState) (r : Result A Fault) (go : A → After) → ((x : A) → (go x).state.fields ≡ w.fields) → (line_ends w r go).state.fields ≡ w.fields
ends-keep w (Ok x) go keeps = keeps x
ends-keep w (Err f) go keeps = refl

line-keeps : (s : VertexContext) (l : Line) (w : VertexState) → sets_no_field l ≡ true → (line_after s l w).state.fields ≡ w.fields
line-keeps s (SetField f a) w e = cc
line-keeps s (Fold r p ts) w e = ends-keep w (gives (view s w) r p ts) (λ given. leaves (record w { folds = w.folds ++ given })) (λ given. refl)
line-keeps s (SetRegister i a) w e = ends-keep w (value (view s w) a) (λ x. leaves (record w { registers = slice_set w.registers i x })) (λ x. refl)
line-keeps s (Put r p ts) w e = ends-keep w (gives (view s w) r p ts) (λ given. leaves (record w { puts = w.puts ++ given })) (λ given. refl)
line-keeps s (Send k to ts) w e =
    ends-keep w (value (view s w) to) (λ t. line_ends w (values (view s w) ts) (λ vs. leaves (record w { messages = w.messages ++ messages_to t k vs })))
    (λ t. ends-keep w (values (view s w) ts) (λ vs. leaves (record w { messages = w.messages ++ messages_to t k vs })) (λ vs. refl))
line-keeps s (Skip n a) w e = ends-keep w (value (view s w) a) (λ x. record { state = w; fault = None; skip = if is_true x then 0 else n }) (λ x. refl)
line-keeps s (Each d n) w e = refl

goes-keeps : (go : ℕ → VertexState → After) (fields : List Value) (v : VertexState) (f : Option Fault) (k : ℕ) → v.fields ≡ fields →
    ((k : ℕ) (u : VertexState) → (go k u).state.fields ≡ u.fields) →
    (goes_on (record { state = v; fault = f; skip = k }) go).state.fields ≡ fields
goes-keeps go fields v None k e keeps = keeps k v ∙ e
goes-keeps go fields v (Some f) k e keeps = e

pub lines-keep : (s : VertexContext) (ls : List Line) (k : ℕ) (w : VertexState) → never_sets ls ≡ true → (lines_after s ls k w).state.fields ≡ w.fields
lines-keep s [] k w e = refl
lines-keep s (l ∷ ls) (suc k) w e = lines-keep s ls k w (and_second (sets_no_field l) (never_sets ls) e)
lines-keep s (l ∷ ls) zero w e =
    let a : After = line_after s l w in
    goes-keeps (λ k u. lines_after s ls k u) w.fields a.state a.fault a.skip (line-keeps s l w (and_first (sets_no_field l) (never_sets ls) e)) (λ k u. lines-keep s ls k u (and_second (sets_no_field l) (never_sets ls) e))
