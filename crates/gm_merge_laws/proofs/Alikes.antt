-- A body does the same from two states that agree on what it reads.
use Rattle.std.proofs.Common.{◌≡◌, ℕ, zero, suc, true, false, cond, Option, Some, None, Result, Ok, Err, List, [], ◌∷◌, ◌++◌, take, length, refl, sym, ap, subst, ◌∙◌, arith, append_assoc}
use Rattle.std.specs.Prelude.{slice_set}
use Rattle.std.specs.List.{list_all}
use Rattle.std.proofs.lemmas.Bool.{and_parts}
use Rattle.std.proofs.lemmas.List.{length-set}
use Rattle.gm_value.specs.declared.values.Value.{Value}
use Rattle.gm_value.specs.declared.reductions.Reduce.{Reduce}
use Rattle.gm_value.specs.Operations.{is_true}
use Rattle.gm_model.specs.Graphs.{Step}
use Rattle.gm_image.specs.Term.{Term}
use Rattle.gm_image.specs.Program.{Line, Target, SetField, Fold, SetRegister, Put, Send, Skip, Each}
use Rattle.gm_image.specs.Parts.{all_leaves, terms_of, slots_of, is_among}
use Rattle.gm_machine.specs.declared.faults.Fault.{Fault}
use Rattle.gm_machine.specs.Faults.{then_go, lesser}
use Rattle.gm_machine.specs.Expressions.{value, values, value_at}
use Rattle.gm_machine.specs.Taking.{Contribution, contributed, settled, Settled}
use Rattle.gm_machine.specs.Vertex.{Message, VertexContext, VertexState, After, view, view_with, gives, messages_to, line_ends, leaves, line_after, go_by, goes_on, lines_after, turns_after, steps, ended, folded, each_after, body_line_after, body_after}
use Rattle.gm_merge_laws.specs.Joins.{is_no_global, reads_no_global, is_not_register, reads_not}
use Rattle.gm_merge_laws.proofs.Values.{and-left, and-right, all-take, fails-take}
use Rattle.gm_merge_laws.proofs.Frames.{value-same, values-same}

-- two states that agree on the fields, on some registers and on the folds, where the second has sent and put something before
pub record Alike (P : ℕ → Type 0) (sent : List Message) (given : List Contribution) (w w' : VertexState) : Type 0 where
  pub fields : w.fields ≡ w'.fields
  pub folds : w.folds ≡ w'.folds
  pub long : length w.registers ≡ length w'.registers
  pub registers : (r : ℕ) → P r → value_at w.registers r ≡ value_at w'.registers r
  pub messages : w'.messages ≡ sent ++ w.messages
  pub puts : w'.puts ≡ given ++ w.puts

pub record AlikeAfter (P : ℕ → Type 0) (sent : List Message) (given : List Contribution) (a a' : After) : Type 0 where
  pub state : Alike P sent given a.state a'.state
  pub fault : a.fault ≡ a'.fault
  pub skip : a.skip ≡ a'.skip

-- a value set in two lists of one length
set-same : (some other : List Value) (r : ℕ) (v : Value) (x : ℕ) → length some ≡ length other → value_at some x ≡ value_at other x → value_at (slice_set some r v) x ≡ value_at (slice_set other r v) x
set-same [] [] r v x l e = e
set-same [] (b ∷ other) r v x l e = absurd (omega arith)
set-same (a ∷ some) [] r v x l e = absurd (omega arith)
set-same (a ∷ some) (b ∷ other) zero v zero l e = refl
set-same (a ∷ some) (b ∷ other) zero v (suc x) l e = e
set-same (a ∷ some) (b ∷ other) (suc r) v zero l e = e
set-same (a ∷ some) (b ∷ other) (suc r) v (suc x) l e = let l' : length some ≡ length other = omega arith in set-same some other r v x l' e

module _ (gs : List ℕ) (old new : List Value) (same : (x : ℕ) → is_among x gs ≡ false → value_at old x ≡ value_at new x)
    (P : ℕ → Type 0) (sent : List Message) (given : List Contribution) where
  abbrev before : VertexContext → VertexContext
  before s = record s { globals = old }

  abbrev behind : VertexContext → VertexContext
  behind s = record s { globals = new }

  see : (s : VertexContext) (w w' : VertexState) → Alike P sent given w w' → (t : Term) → all_leaves (is_no_global gs) t ≡ true → ((r : ℕ) → all_leaves (is_not_register r) t ≡ false → P r) →
      value (view (before s) w) t ≡ value (view (behind s) w') t
  see s w w' k t h reads =
      value-same gs old new same (view_with s w.fields []) w.registers w'.registers t h (λ r e. k.registers r (reads r e))
      ∙ ap (λ fs. value (view_with (behind s) fs w'.registers) t) k.fields

  see-all : (s : VertexContext) (w w' : VertexState) → Alike P sent given w w' → (ts : List Term) → list_all (all_leaves (is_no_global gs)) ts ≡ true → ((r : ℕ) → list_all (all_leaves (is_not_register r)) ts ≡ false → P r) →
      values (view (before s) w) ts ≡ values (view (behind s) w') ts
  see-all s w w' k ts h reads =
      values-same gs old new same (view_with s w.fields []) w.registers w'.registers ts h (λ r e. k.registers r (reads r e))
      ∙ ap (λ fs. values (view_with (behind s) fs w'.registers) ts) k.fields

  -- one expression of a line
  see-one : (s : VertexContext) (w w' : VertexState) → Alike P sent given w w' → (t : Term) → list_all (all_leaves (is_no_global gs)) (t ∷ []) ≡ true → ((r : ℕ) → list_all (all_leaves (is_not_register r)) (t ∷ []) ≡ false → P r) →
      value (view (before s) w) t ≡ value (view (behind s) w') t
  see-one s w w' k t h reads = see s w w' k t (and_parts (all_leaves (is_no_global gs) t) true h).0 (λ r e. reads r (and-left (all_leaves (is_not_register r) t) true e))

  given-same : (s : VertexContext) (w w' : VertexState) → Alike P sent given w w' → (r : Reduce) (place : ℕ) (ts : List Target) →
      list_all (all_leaves (is_no_global gs)) (terms_of ts) ≡ true → ((r : ℕ) → list_all (all_leaves (is_not_register r)) (terms_of ts) ≡ false → P r) →
      gives (view (before s) w) r place ts ≡ gives (view (behind s) w') r place ts
  given-same s w w' k r place ts h reads =
      ap (λ q. then_go q (λ vs. Ok (contributed place r (slots_of ts) vs))) (see-all s w w' k (terms_of ts) h reads)

  ends-alike : {A : Type 0} (w w' : VertexState) (r r' : Result A Fault) → r ≡ r' → Alike P sent given w w' → (go go' : A → After) → ((x : A) → AlikeAfter P sent given (go x) (go' x)) →
      AlikeAfter P sent given (line_ends w r go) (line_ends w' r' go')
  ends-alike {A} w w' r r' e k go go' on = subst (λ q. AlikeAfter P sent given (line_ends w r go) (line_ends w' q go')) e (one r) where
    one : (q : Result A Fault) → AlikeAfter P sent given (line_ends w q go) (line_ends w' q go')
    one (Ok x) = on x
    one (Err f) = record { state = k; fault = refl; skip = refl }

  line-alike : (s : VertexContext) (l : Line) (w w' : VertexState) → Alike P sent given w w' → reads_no_global gs l ≡ true → ((r : ℕ) → reads_not r l ≡ false → P r) →
      AlikeAfter P sent given (line_after (before s) l w) (line_after (behind s) l w')
  line-alike s (SetField f a) w w' k h reads =
      ends-alike w w' (value (view (before s) w) a) (value (view (behind s) w') a) (see-one s w w' k a h reads) k
      (λ v. leaves (record w { fields = slice_set w.fields f v })) (λ v. leaves (record w' { fields = slice_set w'.fields f v }))
      (λ v. record {
        state = record { fields = ap (λ fs. slice_set fs f v) k.fields; folds = k.folds; long = k.long; registers = k.registers; messages = k.messages; puts = k.puts };
        fault = refl;
        skip = refl;
      })
  line-alike s (Fold r place ts) w w' k h reads =
      ends-alike w w' (gives (view (before s) w) r place ts) (gives (view (behind s) w') r place ts) (given-same s w w' k r place ts h reads) k
      (λ more. leaves (record w { folds = w.folds ++ more })) (λ more. leaves (record w' { folds = w'.folds ++ more }))
      (λ more. record {
        state = record { fields = k.fields; folds = ap (λ cs. cs ++ more) k.folds; long = k.long; registers = k.registers; messages = k.messages; puts = k.puts };
        fault = refl;
        skip = refl;
      })
  line-alike s (SetRegister r a) w w' k h reads =
      ends-alike w w' (value (view (before s) w) a) (value (view (behind s) w') a) (see-one s w w' k a h reads) k
      (λ v. leaves (record w { registers = slice_set w.registers r v })) (λ v. leaves (record w' { registers = slice_set w'.registers r v }))
      (λ v. record {
        state = record {
          fields = k.fields;
          folds = k.folds;
          long = length-set w.registers r v ∙ k.long ∙ sym (length-set w'.registers r v);
          registers = λ x px. set-same w.registers w'.registers r v x k.long (k.registers x px);
          messages = k.messages;
          puts = k.puts;
        };
        fault = refl;
        skip = refl;
      })
  line-alike s (Put r place ts) w w' k h reads =
      ends-alike w w' (gives (view (before s) w) r place ts) (gives (view (behind s) w') r place ts) (given-same s w w' k r place ts h reads) k
      (λ more. leaves (record w { puts = w.puts ++ more })) (λ more. leaves (record w' { puts = w'.puts ++ more }))
      (λ more. record {
        state = record { fields = k.fields; folds = k.folds; long = k.long; registers = k.registers; messages = k.messages; puts = ap (λ cs. cs ++ more) k.puts ∙ append_assoc given w.puts more };
        fault = refl;
        skip = refl;
      })
  line-alike s (Send kind to ts) w w' k h reads =
      let parts = and_parts (all_leaves (is_no_global gs) to) (list_all (all_leaves (is_no_global gs)) ts) h in
      ends-alike w w' (value (view (before s) w) to) (value (view (behind s) w') to)
      (see s w w' k to parts.0 (λ r e. reads r (and-left (all_leaves (is_not_register r) to) (list_all (all_leaves (is_not_register r)) ts) e))) k
      (λ v. line_ends w (values (view (before s) w) ts) (λ vs. leaves (record w { messages = w.messages ++ messages_to v kind vs })))
      (λ v. line_ends w' (values (view (behind s) w') ts) (λ vs. leaves (record w' { messages = w'.messages ++ messages_to v kind vs })))
      (λ v. ends-alike w w' (values (view (before s) w) ts) (values (view (behind s) w') ts)
      (see-all s w w' k ts parts.1 (λ r e. reads r (and-right (all_leaves (is_not_register r) to) (list_all (all_leaves (is_not_register r)) ts) e))) k
      (λ vs. leaves (record w { messages = w.messages ++ messages_to v kind vs })) (λ vs. leaves (record w' { messages = w'.messages ++ messages_to v kind vs }))
      (λ vs. record {
        state = record { fields = k.fields; folds = k.folds; long = k.long; registers = k.registers; messages = ap (λ ms. ms ++ messages_to v kind vs) k.messages ∙ append_assoc sent w.messages (messages_to v kind vs); puts = k.puts };
        fault = refl;
        skip = refl;
      }))
  line-alike s (Skip n a) w w' k h reads =
      ends-alike w w' (value (view (before s) w) a) (value (view (behind s) w') a) (see-one s w w' k a h reads) k
      (λ v. record { state = w; fault = None; skip = cond (is_true v) 0 n }) (λ v. record { state = w'; fault = None; skip = cond (is_true v) 0 n })
      (λ v. record { state = k; fault = refl; skip = refl })
  line-alike s (Each d n) w w' k h reads = record { state = k; fault = refl; skip = refl }

  go-alike : (a a' : After) → AlikeAfter P sent given a a' → (go go' : ℕ → VertexState → After) → ((k : ℕ) (w w' : VertexState) → Alike P sent given w w' → AlikeAfter P sent given (go k w) (go' k w')) →
      AlikeAfter P sent given (goes_on a go) (goes_on a' go')
  go-alike a a' k go go' on = subst (λ o. AlikeAfter P sent given (goes_on a go) (go_by o a' go')) k.fault (one a.fault) where
    one : (o : Option Fault) → AlikeAfter P sent given (go_by o a go) (go_by o a' go')
    one None = subst (λ n. AlikeAfter P sent given (go a.skip a.state) (go' n a'.state)) k.skip (on a.skip a.state a'.state k.state)
    one (Some f) = k

  pub lines-alike : (s : VertexContext) (ls : List Line) → list_all (reads_no_global gs) ls ≡ true → ((r : ℕ) → list_all (reads_not r) ls ≡ false → P r) → (n : ℕ) (w w' : VertexState) → Alike P sent given w w' →
      AlikeAfter P sent given (lines_after (before s) ls n w) (lines_after (behind s) ls n w')
  lines-alike s [] h reads n w w' k = record { state = k; fault = refl; skip = refl }
  lines-alike s (l ∷ ls) h reads (suc n) w w' k =
      lines-alike s ls (and_parts (reads_no_global gs l) (list_all (reads_no_global gs) ls) h).1 (λ r e. reads r (and-right (reads_not r l) (list_all (reads_not r) ls) e)) n w w' k
  lines-alike s (l ∷ ls) h reads zero w w' k =
      let parts = and_parts (reads_no_global gs l) (list_all (reads_no_global gs) ls) h in
      go-alike (line_after (before s) l w) (line_after (behind s) l w')
      (line-alike s l w w' k parts.0 (λ r e. reads r (and-left (reads_not r l) (list_all (reads_not r) ls) e)))
      (λ n w. lines_after (before s) ls n w) (λ n w. lines_after (behind s) ls n w)
      (λ n w w' k. lines-alike s ls (and_parts (reads_no_global gs l) (list_all (reads_no_global gs) ls) h).1 (λ r e. reads r (and-right (reads_not r l) (list_all (reads_not r) ls) e)) n w w' k)

  turns-alike : (s : VertexContext) (ls : List Line) → list_all (reads_no_global gs) ls ≡ true → ((r : ℕ) → list_all (reads_not r) ls ≡ false → P r) → (es : List Step) (w w' : VertexState) (f f' : Option Fault) → Alike P sent given w w' → f ≡ f' →
      AlikeAfter P sent given (turns_after (before s) ls es w f) (turns_after (behind s) ls es w' f')
  turns-alike s ls h reads [] w w' f f' k e = record { state = k; fault = e; skip = refl }
  turns-alike s ls h reads (x ∷ es) w w' f f' k e =
      let one : AlikeAfter P sent given (lines_after (before (record s { near = x })) ls 0 w) (lines_after (behind (record s { near = x })) ls 0 w') = lines-alike (record s { near = x }) ls h reads 0 w w' k in
      turns-alike s ls h reads es
      (lines_after (before (record s { near = x })) ls 0 w).state (lines_after (behind (record s { near = x })) ls 0 w').state
      (lesser f (lines_after (before (record s { near = x })) ls 0 w).fault) (lesser f' (lines_after (behind (record s { near = x })) ls 0 w').fault)
      one.state
      (ap (λ o. lesser o (lines_after (before (record s { near = x })) ls 0 w).fault) e ∙ ap (lesser f') one.fault)

  ended-alike : (w w' : VertexState) → Alike P sent given w w' → (f f' : Option Fault) → f ≡ f' → (n n' : ℕ) → n ≡ n' → AlikeAfter P sent given (ended w f n) (ended w' f' n')
  ended-alike w w' k f f' e n n' i = subst (λ o. AlikeAfter P sent given (ended w f n) (ended w' o n')) e (subst (λ m. AlikeAfter P sent given (ended w f n) (ended w' f m)) i (one f)) where
    one : (o : Option Fault) → AlikeAfter P sent given (ended w o n) (ended w' o n)
    one None = record { state = k; fault = refl; skip = refl }
    one (Some x) = record { state = k; fault = refl; skip = refl }

  folded-alike : (places : ℕ) (a a' : After) → AlikeAfter P sent given a a' → AlikeAfter P sent given (folded places a) (folded places a')
  folded-alike places a a' k =
      let taken : settled places a.state.folds a.state.fields ≡ settled places a'.state.folds a'.state.fields =
      ap (λ cs. settled places cs a.state.fields) k.state.folds ∙ ap (settled places a'.state.folds) k.state.fields in
      ended-alike
      (record (a.state) { folds = []; fields = (settled places a.state.folds a.state.fields).values })
      (record (a'.state) { folds = []; fields = (settled places a'.state.folds a'.state.fields).values })
      (record { fields = ap (λ t. t.values) taken; folds = refl; long = k.state.long; registers = k.state.registers; messages = k.state.messages; puts = k.state.puts })
      (lesser a.fault (settled places a.state.folds a.state.fields).fault) (lesser a'.fault (settled places a'.state.folds a'.state.fields).fault)
      (ap (λ o. lesser o (settled places a.state.folds a.state.fields).fault) k.fault ∙ ap (λ (t : Settled). lesser a'.fault t.fault) taken)
      a.skip a'.skip k.skip

  body-line-alike : (places : ℕ) (s : VertexContext) (l : Line) (ls : List Line) → reads_no_global gs l ≡ true → list_all (reads_no_global gs) ls ≡ true → ((r : ℕ) → reads_not r l ≡ false → P r) → ((r : ℕ) → list_all (reads_not r) ls ≡ false → P r) →
      (w w' : VertexState) → Alike P sent given w w' → AlikeAfter P sent given (body_line_after places (before s) l ls w) (body_line_after places (behind s) l ls w')
  body-line-alike places s (Each d n) ls h hs one all w w' k =
      let turns : AlikeAfter P sent given (turns_after (before s) (take n ls) (steps d s.graph s.node) w None) (turns_after (behind s) (take n ls) (steps d s.graph s.node) w' None) =
      turns-alike s (take n ls) (all-take (reads_no_global gs) n ls hs) (λ r e. all r (fails-take (reads_not r) n ls e)) (steps d s.graph s.node) w w' None None k refl in
      folded-alike places (each_after (before s) d n ls w) (each_after (behind s) d n ls w') (record { state = turns.state; fault = turns.fault; skip = refl })
  body-line-alike places s (Fold r place ts) ls h hs one all w w' k =
      folded-alike places (line_after (before s) (Fold r place ts) w) (line_after (behind s) (Fold r place ts) w') (line-alike s (Fold r place ts) w w' k h one)
  body-line-alike places s (SetField f a) ls h hs one all w w' k = line-alike s (SetField f a) w w' k h one
  body-line-alike places s (SetRegister r a) ls h hs one all w w' k = line-alike s (SetRegister r a) w w' k h one
  body-line-alike places s (Put r place ts) ls h hs one all w w' k = line-alike s (Put r place ts) w w' k h one
  body-line-alike places s (Send kind to ts) ls h hs one all w w' k = line-alike s (Send kind to ts) w w' k h one
  body-line-alike places s (Skip n a) ls h hs one all w w' k = line-alike s (Skip n a) w w' k h one

  pub body-alike : (places : ℕ) (s : VertexContext) (ls : List Line) → list_all (reads_no_global gs) ls ≡ true → ((r : ℕ) → list_all (reads_not r) ls ≡ false → P r) → (n : ℕ) (w w' : VertexState) → Alike P sent given w w' →
      AlikeAfter P sent given (body_after places (record s { globals = old }) ls n w) (body_after places (record s { globals = new }) ls n w')
  body-alike places s [] h reads n w w' k = record { state = k; fault = refl; skip = refl }
  body-alike places s (l ∷ ls) h reads (suc n) w w' k =
      body-alike places s ls (and_parts (reads_no_global gs l) (list_all (reads_no_global gs) ls) h).1 (λ r e. reads r (and-right (reads_not r l) (list_all (reads_not r) ls) e)) n w w' k
  body-alike places s (l ∷ ls) h reads zero w w' k =
      let parts = and_parts (reads_no_global gs l) (list_all (reads_no_global gs) ls) h in
      go-alike (body_line_after places (before s) l ls w) (body_line_after places (behind s) l ls w')
      (body-line-alike places s l ls parts.0 parts.1
      (λ r e. reads r (and-left (reads_not r l) (list_all (reads_not r) ls) e))
      (λ r e. reads r (and-right (reads_not r l) (list_all (reads_not r) ls) e)) w w' k)
      (λ n w. body_after places (before s) ls n w) (λ n w. body_after places (behind s) ls n w)
      (λ n w w' k. body-alike places s ls (and_parts (reads_no_global gs l) (list_all (reads_no_global gs) ls) h).1 (λ r e. reads r (and-right (reads_not r l) (list_all (reads_not r) ls) e)) n w w' k)
