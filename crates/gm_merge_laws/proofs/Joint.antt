-- The step of a vertex with two joined blocks is that with the first, and then, where nothing faulted, that with the second.
use Rattle.std.proofs.Common.{◌≡◌, ◌<◌, ◌≤◌, ℕ, zero, suc, ◌+◌, Bool, true, false, cond, ◌&&◌, not, Option, Some, None, List, [], ◌∷◌, ◌++◌, map, filter, length, inl, inr, refl, sym, ap, subst, ◌∙◌, arith, ⊎_elim}
use Rattle.std.specs.Prelude.{◌⊎◌, slice_set}
use Rattle.std.specs.List.{AllByRecursion, list_all, enumerate_from}
use Rattle.std.proofs.lemmas.Bool.{cases_eq, cases_lt}
use Rattle.std.proofs.lemmas.List.{length-set, append-nil}
use Rattle.gm_value.specs.declared.values.Value.{Value}
use Rattle.gm_value.specs.declared.values.Value.TheVariants.{At}
use Rattle.gm_value.specs.declared.values.VType.{VType}
use Rattle.gm_value.specs.Numbers.{zero_of}
use Rattle.gm_image.specs.Program.{Program, Block, Line}
use Rattle.gm_image.specs.Parts.{is_among}
use Rattle.gm_machine.specs.declared.faults.Fault.{Fault}
use Rattle.gm_machine.specs.Expressions.{value_at}
use Rattle.gm_machine.specs.Vertex.{Message, VertexContext, After, go_by, goes_on, body_after, handler_run, gathered, begun, handled, vertex_after}
use Rattle.gm_machine.proofs.SlotSteps.{folded-nothing}
use Rattle.gm_merge_laws.specs.Joins.{reads_no_global, reads_not, sets_register, is_left, restart, joined_block}
use Rattle.gm_merge_laws.proofs.Invariants.{go-keeps, all-pass}
use Rattle.gm_merge_laws.proofs.Concats.{Stays, body-append, body-restarts, restarted}
use Rattle.gm_merge_laws.proofs.Alikes.{AlikeAfter, body-alike}
use Rattle.gm_merge_laws.proofs.Steps.{AnyFault, Leaves, Holds, line-leaves, fold-leaves, body-leaves, HasLong, AnyLine, line-long, fold-long, body-long, go-taken, folded-taken, body-taken, set-other}

-- a value that is set is there, where the slot is
set-to : (xs : List Value) (x : ℕ) (z y : Value) → z ≡ y → value_at xs x ≡ y → value_at (slice_set xs x z) x ≡ y
set-to [] x z y e f = f
set-to (v ∷ xs) zero z y e f = e
set-to (v ∷ xs) (suc x) z y e f = set-to xs x z y e f

set-in : (xs : List Value) (x : ℕ) (z : Value) → x < length xs → value_at (slice_set xs x z) x ≡ z
set-in [] x z l = absurd (omega arith)
set-in (v ∷ xs) zero z l = refl
set-in (v ∷ xs) (suc x) z l = let l' : x < length xs = omega arith in set-in xs x z l'

past : (xs : List Value) (x : ℕ) → length xs ≤ x → value_at xs x ≡ At None
past [] x l = refl
past (v ∷ xs) zero l = absurd (omega arith)
past (v ∷ xs) (suc x) l = let l' : length xs ≤ x = omega arith in past xs x l'

length-map : {A B : Type 0} (f : A → B) (xs : List A) → length (map f xs) ≡ length xs
length-map f [] = refl
length-map f (x ∷ xs) = ap suc (length-map f xs)

-- registers that are set to their zeros, from a list of all of them, hold their zeros
above : (i r : ℕ) → i ≤ r → (i ≡ r → ⊥) → i + 1 ≤ r
above i r l other = omega arith

module _ (left : ℕ → Bool) (zeros : List Value) (r : ℕ) where
  -- a register that holds its zero or is still to be set
  abbrev Reached : ℕ → ℕ → List Value → Type 0
  Reached i types registers = (value_at registers r ≡ value_at zeros r) ⊎ ((left r ≡ true) × (i ≤ r) × (r < length registers) × (r < i + types))

  reach-set : (i types : ℕ) (registers : List Value) (z : Value) → value_at zeros i ≡ z → Reached i (suc types) registers → Reached (i + 1) types (slice_set registers i z)
  reach-set i types registers z here h = ⊎_elim
      (λ (is : i ≡ r). inl (subst (λ x. value_at (slice_set registers i z) x ≡ value_at zeros x) is (⊎_elim
      (λ (same : value_at registers r ≡ value_at zeros r). set-to registers i z (value_at zeros i) (sym here) (ap (value_at registers) is ∙ same ∙ sym (ap (value_at zeros) is)))
      (λ (k : (left r ≡ true) × (i ≤ r) × (r < length registers) × (r < i + suc types)). set-in registers i z (let k2 = k.2 in omega arith) ∙ sym here)
      h)))
      (λ (other : i ≡ r → ⊥). ⊎_elim
      (λ (same : value_at registers r ≡ value_at zeros r). inl (set-other registers i r z other ∙ same))
      (λ (k : (left r ≡ true) × (i ≤ r) × (r < length registers) × (r < i + suc types)).
      inr (k.0, above i r k.1 other, subst (λ n. r < n) (sym (length-set registers i z)) k.2, (let k3 = k.3 in omega arith)))
      h)
      (cases_eq i r)

  reach-skip : (i types : ℕ) (registers : List Value) → left i ≡ false → Reached i (suc types) registers → Reached (i + 1) types registers
  reach-skip i types registers e h = ⊎_elim
      (λ (same : value_at registers r ≡ value_at zeros r). inl same)
      (λ (k : (left r ≡ true) × (i ≤ r) × (r < length registers) × (r < i + suc types)). ⊎_elim
      (λ (is : i ≡ r). absurd (let no = ap left is in let yes = k.0 in cc))
      (λ (other : i ≡ r → ⊥). inr (k.0, above i r k.1 other, k.2, (let k3 = k.3 in omega arith)))
      (cases_eq i r))
      h

  restarts-reach : (types : List VType) (i : ℕ) (registers : List Value) → ((k : ℕ) → value_at zeros (i + k) ≡ value_at (map zero_of types) k) → Reached i (length types) registers →
      value_at (restarted (filter (λ at. left at.0) (enumerate_from i types)) registers) r ≡ value_at zeros r
  restarts-reach [] i registers are (inl e) = e
  restarts-reach [] i registers are (inr h) = let h1 = h.1 in let h3 = h.3 in absurd (omega arith)
  restarts-reach (t ∷ types) i registers are h =
      one (left i) refl (restarts-reach types (i + 1))
      (λ k. ap (value_at zeros) (let e : (i + 1) + k ≡ i + suc k = omega arith in e) ∙ are (suc k))
      (ap (value_at zeros) (let e : i ≡ i + 0 = omega arith in e) ∙ are 0)
    where
      rest : List (ℕ × VType)
      rest = filter (λ at. left at.0) (enumerate_from (i + 1) types)

      one : (b : Bool) → left i ≡ b →
          ((registers : List Value) → ((k : ℕ) → value_at zeros ((i + 1) + k) ≡ value_at (map zero_of types) k) → Reached (i + 1) (length types) registers → value_at (restarted rest registers) r ≡ value_at zeros r) →
          ((k : ℕ) → value_at zeros ((i + 1) + k) ≡ value_at (map zero_of types) k) → value_at zeros i ≡ zero_of t →
          value_at (restarted (cond b ((i, t) ∷ rest) rest) registers) r ≡ value_at zeros r
      one true e go more here = go (slice_set registers i (zero_of t)) more (reach-set i (length types) registers (zero_of t) here h)
      one false e go more here = go registers more (reach-skip i (length types) registers e h)

restarted-long : (ats : List (ℕ × VType)) (registers : List Value) → length (restarted ats registers) ≡ length registers
restarted-long [] registers = refl
restarted-long (at ∷ ats) registers = restarted-long ats (slice_set registers at.0 (zero_of at.1)) ∙ length-set registers at.0 (zero_of at.1)

module _ (p : Program) (a : Block) (s : VertexContext) (inbox : List Message) (fields : List Value) where
  abbrev places : ℕ
  places = length p.places

  abbrev start : After
  start = handled places p.registers s a.handlers inbox fields

  abbrev first : After
  first = vertex_after p a s inbox fields

  first-leaves : (r : ℕ) → AllByRecursion (Leaves r) a.body → value_at first.state.registers r ≡ value_at (map zero_of p.registers) r
  first-leaves r h =
      (go-keeps (Holds r (value_at (map zero_of p.registers) r)) AnyFault (Leaves r) tt (λ f g h k. tt) (line-leaves r (value_at (map zero_of p.registers) r)) (fold-leaves r (value_at (map zero_of p.registers) r))
      start start.fault refl
      (fold-leaves r (value_at (map zero_of p.registers) r) places (gathered (begun p.registers fields) (map (handler_run s a.handlers (begun p.registers fields)) inbox)).state
      (gathered (begun p.registers fields) (map (handler_run s a.handlers (begun p.registers fields)) inbox)).fault 0 refl tt)
      (λ k w. body_after places s a.body 0 w)
      (λ k w q. (body-leaves r (value_at (map zero_of p.registers) r) places s a.body h 0 w q, tt))).0

  first-long : length first.state.registers ≡ length (map zero_of p.registers)
  first-long =
      (go-keeps (HasLong (length (map zero_of p.registers))) AnyFault AnyLine tt (λ f g h k. tt) (line-long (length (map zero_of p.registers))) (fold-long (length (map zero_of p.registers)))
      start start.fault refl
      (fold-long (length (map zero_of p.registers)) places (gathered (begun p.registers fields) (map (handler_run s a.handlers (begun p.registers fields)) inbox)).state
      (gathered (begun p.registers fields) (map (handler_run s a.handlers (begun p.registers fields)) inbox)).fault 0 refl tt)
      (λ k w. body_after places s a.body 0 w)
      (λ k w q. (body-long (length (map zero_of p.registers)) places s a.body 0 w q, tt))).0

  first-taken : first.state.folds ≡ []
  first-taken =
      go-taken start start.fault (λ k w. body_after places s a.body 0 w)
      (folded-taken places (gathered (begun p.registers fields) (map (handler_run s a.handlers (begun p.registers fields)) inbox)))
      (λ k w q. body-taken places s a.body 0 w q)

  -- the joined step goes on from the first
  joined-first : (rest : List Line) → Stays a.body →
      goes_on start (λ k w. body_after places s (a.body ++ rest) 0 w) ≡ goes_on first (λ k w. body_after places s rest 0 w)
  joined-first rest stays = by start.fault refl where
    by : (o : Option Fault) → o ≡ start.fault →
        go_by o start (λ k w. body_after places s (a.body ++ rest) 0 w) ≡ goes_on (go_by o start (λ k w. body_after places s a.body 0 w)) (λ k w. body_after places s rest 0 w)
    by None e = body-append places s rest a.body stays 0 start.state (let l : 0 ≤ length a.body = omega arith in l)
    by (Some f) e = ap (λ o. go_by o start (λ k w. body_after places s rest 0 w)) e

  module _ (b : Block) (stays : Stays a.body) where
    abbrev left : ℕ → Bool
    left = is_left a.body b.body

    abbrev ats : List (ℕ × VType)
    ats = filter (λ at. left at.0) (enumerate_from 0 p.registers)

    abbrev joint : After
    joint = vertex_after p (joined_block p.registers a b) s inbox fields

    -- registers that the second body reads hold their zeros
    zeros-read : (r : ℕ) → list_all (reads_not r) b.body ≡ false → value_at (map zero_of p.registers) r ≡ value_at (restarted ats first.state.registers) r
    zeros-read r read =
        sym (restarts-reach left zeros r p.registers 0 first.state.registers (λ k. ap (value_at zeros) (let e : 0 + k ≡ k = omega arith in e)) (by (list_all (λ l. not (sets_register r l)) a.body) refl)) where
          zeros : List Value
          zeros = map zero_of p.registers

          by : (c : Bool) → list_all (λ l. not (sets_register r l)) a.body ≡ c →
              (value_at first.state.registers r ≡ value_at zeros r) ⊎ ((left r ≡ true) × (0 ≤ r) × (r < length first.state.registers) × (r < 0 + length p.registers))
          by true e = inl (first-leaves r (all-pass (λ l. not (sets_register r l)) a.body e))
          by false e =
              let long = first-long in
              let same = length-map zero_of p.registers in
              ⊎_elim
              (λ (l : r < length first.state.registers). inr (ap (λ x. not x && not (list_all (reads_not r) b.body)) e ∙ ap not read, (let z : 0 ≤ r = omega arith in z), l, subst (λ n. r < n) (long ∙ same ∙ (let z : length p.registers ≡ 0 + length p.registers = omega arith in z)) l))
              (λ (l : length first.state.registers ≤ r). inl (past first.state.registers r l ∙ sym (past zeros r (subst (λ n. n ≤ r) long l))))
              (cases_lt r (length first.state.registers))

    -- where the first ends in a fault, so does the joined step, and that is all of it
    pub joint-faults : (f : Fault) → first.fault ≡ Some f → joint ≡ first
    joint-faults f e =
        joined-first (map restart ats ++ b.body) stays
        ∙ ap (λ o. go_by o first (λ k w. body_after places s (map restart ats ++ b.body) 0 w)) e

    second-is : (globals : List Value) → vertex_after p b (record s { globals = globals }) [] first.state.fields ≡ body_after places (record s { globals = globals }) b.body 0 (begun p.registers first.state.fields)
    second-is globals = ap (λ h. goes_on h (λ k w. body_after places (record s { globals = globals }) b.body 0 w)) (folded-nothing places (begun p.registers first.state.fields) None 0 refl)

    -- else it goes on as the second, from the first's fields
    pub joint-goes : (gs : List ℕ) (globals : List Value) → ((x : ℕ) → is_among x gs ≡ false → value_at globals x ≡ value_at s.globals x) → list_all (reads_no_global gs) b.body ≡ true → first.fault ≡ None →
        AlikeAfter (λ r. list_all (reads_not r) b.body ≡ false) first.state.messages first.state.puts
        (vertex_after p b (record s { globals = globals }) [] first.state.fields) joint
    joint-goes gs globals same reads e =
        subst (λ x. AlikeAfter (λ r. list_all (reads_not r) b.body ≡ false) first.state.messages first.state.puts x joint) (sym (second-is globals))
        (subst (λ x. AlikeAfter (λ r. list_all (reads_not r) b.body ≡ false) first.state.messages first.state.puts (body_after places (record s { globals = globals }) b.body 0 (begun p.registers first.state.fields)) x)
        (sym (joined-first (map restart ats ++ b.body) stays
        ∙ ap (λ o. go_by o first (λ k w. body_after places s (map restart ats ++ b.body) 0 w)) e
        ∙ body-restarts places s b.body ats first.state))
        (body-alike gs globals s.globals same (λ r. list_all (reads_not r) b.body ≡ false) first.state.messages first.state.puts places s b.body reads (λ r read. read) 0
        (begun p.registers first.state.fields) (record (first.state) { registers = restarted ats first.state.registers })
        (record { fields = refl; folds = sym first-taken; long = sym (restarted-long ats first.state.registers ∙ first-long); registers = zeros-read; messages = sym (append-nil first.state.messages); puts = sym (append-nil first.state.puts) })))
