-- What a sweep over an inner body does to what is known of its locals.
use Rattle.std.specs.Prelude.{◌≡◌, ℕ, ◌+◌, ◌<◌, ◌≤◌, nat_eq, Bool, true, false, ◌||◌, List, [], ◌∷◌, ◌++◌, Some, None, flat_map}
use Rattle.gm_ast.specs.declared.tree.Target.{Target}
use Rattle.gm_ast.specs.Program.{Expr, Stmt, Then, Declare, Assign, Combine, If}
use Rattle.gm_ast.specs.Ways.{Mention, mentions, held_of, locals, is_in}
use Rattle.gm_ast.specs.Loops.{any}
use Rattle.gm_push_pull.specs.declared.reads.Reads.{Reads}
use Rattle.gm_push_pull.specs.declared.locals.Locals.{Locals}
use Rattle.gm_push_pull.specs.Reads.{reads_rank}
use Rattle.gm_push_pull.specs.Tests.{Test, passes}
use Rattle.gm_push_pull.specs.Locals.{is_known, held_so}

-- whether a variable is what a target writes
abbrev pub is_written : Target → ℕ → Bool
is_written (Target.Scalar y at) x = nat_eq y x
is_written (Target.Property y p at) x = false

-- whether a variable is what one of some targets writes
abbrev pub written : List Target → ℕ → Bool
written ts x = any (λ t. is_written t x) ts

-- what a reduction looks at: what its targets hold, and its values
abbrev pub compared : List Target → List Expr → List Mention
compared ts es = flat_map held_of ts ++ flat_map mentions es

-- an answer is given for the locals that are written, where it holds of what is written
abbrev pub Demand : (ℕ → Bool) → (ℕ → Bool) → (ℕ → Bool) → Bool → Type 0
Demand known of_local writes h = (x : ℕ) → known x ≡ true → writes x ≡ true → h ≡ true → of_local x ≡ true

-- an answer is given for all locals that a statement writes, where it holds of what is written, of what is compared or of the conditions around
abbrev pub Demands : ℕ → (ℕ → Bool) → Test → (ℕ → Bool) → Stmt → Bool → Type 0
Demands i known t B (Then a b) h = Demands i known t B a h × Demands i known t B b h
Demands i known t B (If k c a b) h = Demands i known t B a (h || any (passes i t B) (mentions c)) × Demands i known t B b (h || any (passes i t B) (mentions c))
Demands i known t B (Declare k x None) h = Demand known B (nat_eq x) h
Demands i known t B (Declare k x (Some e)) h = Demand known B (nat_eq x) (h || any (passes i t B) (mentions e))
Demands i known t B (Assign k target e) h = Demand known B (is_written target) (h || any (passes i t B) (mentions e))
Demands i known t B (Combine k total r ts es) h = Demand known B (written ts) (h || any (passes i t B) (compared ts es))
Demands i known t B _ h = Unit {0}

-- whatever is known of locals is among these answers
abbrev pub Below : Locals → Test → (ℕ → Bool) → Type 0
Below l t B = (x : ℕ) → held_so l t x ≡ true → B x ≡ true

-- a number that is smaller the more is known
abbrev pub facts_rank : List (ℕ × Reads) → ℕ
facts_rank [] = 0
facts_rank (e ∷ es) = reads_rank e.1 + facts_rank es

-- more is known of the same locals: no more than what these demands force, and all of that once nothing changes
pub record Grows (old new : Locals) (D : Test → (ℕ → Bool) → Type 0) (changed : Bool) : Type 0 where
  pub iterator : new.iterator ≡ old.iterator
  pub known : (x : ℕ) → is_known new x ≡ is_known old x
  pub sound : (t : Test) (B : ℕ → Bool) → Below old t B → D t B → Below new t B
  pub same : changed ≡ false → new ≡ old
  pub settled : changed ≡ false → (t : Test) → D t (held_so old t)
  pub no_less : facts_rank new.facts.entries ≤ facts_rank old.facts.entries
  pub more : changed ≡ true → facts_rank new.facts.entries < facts_rank old.facts.entries

-- all is known that a statement's demands force, and no more
pub record Settles (old new : Locals) (s : Stmt) : Type 0 where
  pub iterator : new.iterator ≡ old.iterator
  pub known : (x : ℕ) → is_known new x ≡ is_known old x
  pub sound : (t : Test) (B : ℕ → Bool) → Below old t B → Demands old.iterator (is_known old) t B s false → Below new t B
  pub settled : (t : Test) → Demands old.iterator (is_known old) t (held_so new t) s false

-- the locals of an inner body, with all that their values read and no more
pub record IsSettled (l : Locals) (i : ℕ) (s : Stmt) : Type 0 where
  pub iterator : l.iterator ≡ i
  pub known : (x : ℕ) → is_known l x ≡ is_in (locals s) x
  pub sound : (t : Test) (B : ℕ → Bool) → Demands i (is_in (locals s)) t B s false → Below l t B
  pub settled : (t : Test) → Demands i (is_in (locals s)) t (held_so l t) s false
