-- How a checker judges statements: those of a block, and those that are scopes of their own.
use Rattle.std.proofs.Common.{◌≡◌, ℕ, ◌+◌, Bool, true, false, List, [], ◌∷◌, ◌++◌, ap, sym, refl, subst, ◌∙◌, Option, length, map, take, append_assoc, append-nil, length-append, arith}
use Rattle.std.specs.Prelude.{Some, None, Ok, option_map, is_none, if◌then◌else◌}
use Rattle.std.proofs.Math.Seq.{take-append_seam}
use Rattle.std.proofs.lemmas.List.{take-map, length-map}
use Rattle.gm_base.specs.Rules.{least_from}
use Rattle.gm_value.specs.declared.values.VType.{VType}
use Rattle.gm_ast.specs.declared.tree.Key.{Key}
use Rattle.gm_ast.specs.declared.tree.Variable.{Variable}
use Rattle.gm_ast.specs.declared.kinds.Binding.{Binding}
use Rattle.gm_ast.specs.Surface.{SurfaceName, SurfaceStmt, Skip, Then, Declare, DeclareAs, Assign, Defer, Combine, Increment, Call, Loop, If, While, Do, InBfs, InBfsBoth, Return, sequence}
use Rattle.gm_ast.specs.Program as P
use Rattle.gm_ast.specs.Program.{Stmt}
use Rattle.gm_ast.specs.Judged.{Judged, both_of, part_by, judge}
use Rattle.gm_ast.specs.Names.{Known, Env, known_as, known_with, with_name, later, numbered, operators_of}
use Rattle.gm_ast.specs.Statements.{with_names, variable_of, known_after, following, checked}
use Rattle.gm_types.specs.declared.names.Checker.{Checker}
use Rattle.gm_types.specs.Views.{env_of, known_of, known_in, Gives, Judges, Follows}
use Rattle.gm_types.specs.Shapes.{with_last}
use Rattle.gm_types.specs.Blocks.{Extends, then_all, chained, Blocks}
use Rattle.gm_types.proofs.Leasts.{least_from-append}
use Rattle.gm_types.proofs.Walks.{same_counts, judges-by}
use Rattle.gm_types.proofs.Scopes.{env-same}
use Rattle.gm_types.proofs.Sequences.{nothing_broken, later-nothing}

-- ---- the names that a statement leaves known

-- names extend themselves
pub extends-self : (known : List Known) → Extends known known
extends-self known = ([], sym (append-nil known))

-- names after more names after some
pub extends-more : (a b c : List Known) → Extends a b → Extends b c → Extends a c
extends-more a b c (more, h) (other, k) = (more ++ other, k ∙ ap (λ (x : List Known). x ++ other) h ∙ append_assoc a more other)

-- one name more
pub extends-with : (known : List Known) (text : List ℕ) (b : Binding) → Extends known (known_with known text b)
extends-with known text b = go (is_none (known_as known text))
  where
    go : (c : Bool) → Extends known (if c then known ++ (record { text = text; binding = b } ∷ []) else known)
    go true = (record { text = text; binding = b } ∷ [], refl)
    go false = extends-self known

-- several names more
pub extends-names : (v : Variable) (xs : List SurfaceName) (env : Env) → Extends env.known (with_names v xs env).known
extends-names v [] env = extends-self env.known
extends-names v (x ∷ xs) env =
    extends-more env.known (with_name env x v).known _ (extends-with env.known x.text (record { index = env.next; variable = v })) (extends-names v xs (with_name env x v))

-- the names after a statement are those before it and more
pub extends-after : (s : SurfaceStmt) (env : Env) → Extends env.known (known_after s env)
extends-after Skip env = extends-self env.known
extends-after (Then a b) env = extends-self env.known
extends-after (Declare t xs) env = extends-names (variable_of t env.depth) xs env
extends-after (DeclareAs t x at e) env = extends-with env.known x.text (record { index = env.next; variable = variable_of t env.depth })
extends-after (Assign t at e) env = extends-self env.known
extends-after (Defer t at e x) env = extends-self env.known
extends-after (Combine ts r at es x) env = extends-self env.known
extends-after (Increment t at) env = extends-self env.known
extends-after (Call r f es xs) env = extends-self env.known
extends-after (Loop at w h f s) env = extends-self env.known
extends-after (If at c a b) env = extends-self env.known
extends-after (While at c s) env = extends-self env.known
extends-after (Do at s c) env = extends-self env.known
extends-after (InBfs at x g r f s) env = extends-self env.known
extends-after (InBfsBoth at x g r f s reverse h b) env = extends-self env.known
extends-after (Return at e) env = extends-self env.known

-- the names that were known first are the first ones
pub take-extended : (a b : List Known) → Extends a b → take (length a) b ≡ a
take-extended a b (more, h) = ap (take (length a)) h ∙ take-append_seam a more

-- the names after declarations do not hang on statement numbers and keys
names-same : (v : Variable) (xs : List SurfaceName) (env : Env) (n : ℕ) (k : Key) → (with_names v xs (record env { number = n; key = k })).known ≡ (with_names v xs env).known
names-same v [] env n k = refl
names-same v (x ∷ xs) env n k = names-same v xs (with_name env x v) n k

-- the names after a statement do not hang on them either
pub after-same : (s : SurfaceStmt) (env : Env) (n : ℕ) (k : Key) → known_after s (record env { number = n; key = k }) ≡ known_after s env
after-same Skip env n k = refl
after-same (Then a b) env n k = refl
after-same (Declare t xs) env n k = names-same (variable_of t env.depth) xs env n k
after-same (DeclareAs t x at e) env n k = refl
after-same (Assign t at e) env n k = refl
after-same (Defer t at e x) env n k = refl
after-same (Combine ts r at es x) env n k = refl
after-same (Increment t at) env n k = refl
after-same (Call r f es xs) env n k = refl
after-same (Loop at w h f s) env n k = refl
after-same (If at c a b) env n k = refl
after-same (While at c s) env n k = refl
after-same (Do at s c) env n k = refl
after-same (InBfs at x g r f s) env n k = refl
after-same (InBfsBoth at x g r f s reverse h b) env n k = refl
after-same (Return at e) env n k = refl

-- ---- statements with their numbers

-- a checker that began a statement
abbrev pub begun_of : Checker → Checker
begun_of s = record s { number = s.number + 1; key = operators_of s.number }

-- a statement with its number, in a block
pub follows-numbered : {old inner : Checker} {p : Option Stmt} (s : SurfaceStmt)
    → Follows (begun_of old) inner s (checked s (env_of (begun_of old))) p
    → Follows old (record inner { key = old.key }) s (numbered (checked s) (env_of old)) p
follows-numbered {old = old} {inner = inner} s h =
    let x = checked s (env_of (begun_of old)) in
    let names = h.names in
    record {
      stands_for = h.stands_for;
      least = h.least;
      declared = h.declared;
      names = env-same _ _
          (ap (λ (v : Env). v.known) names ∙ after-same s (env_of old) (old.number + 1) (operators_of old.number))
          (ap (λ (v : Env). v.next) names)
          (ap (λ (v : Env). v.number) names ∙ omega arith)
          refl
          (ap (λ (v : Env). v.depth) names) (ap (λ (v : Env). v.group) names) (ap (λ (v : Env). v.iterators) names) (ap (λ (v : Env). v.result) names);
    }

-- a statement whose names are forgotten at its end
pub judges-forgotten : {old inner new : Checker} {p : Option Stmt} {x : Judged Stmt} (s : SurfaceStmt)
    → Follows old inner s x p → new.scope.names.entries ≡ take (length old.scope.names.entries) inner.scope.names.entries → new ≡ record inner { scope = new.scope }
    → Judges old new x p
judges-forgotten {old = old} {inner = inner} {new = new} {x = x} s h cut rest =
    let names = h.names in
    let n : ℕ = length old.scope.names.entries in
    let same_length : n ≡ length (known_in old.scope.names.entries) = sym (length-map old.scope.names.entries known_of) in
    let known : known_in new.scope.names.entries ≡ known_in old.scope.names.entries =
    ap (map known_of) cut ∙ sym (take-map known_of n inner.scope.names.entries) ∙ ap (λ (v : Env). take n v.known) names
    ∙ ap (λ m. take m (known_after s (env_of old))) same_length ∙ take-extended _ _ (extends-after s (env_of old)) in
    record {
      stands_for = h.stands_for;
      least = ap (λ (c : Checker). c.least) rest ∙ h.least;
      declared = ap (λ (c : Checker). c.declarations.items) rest ∙ h.declared;
      names = env-same _ _ known
          (ap (λ (c : Checker). length c.declarations.items) rest ∙ ap (λ (v : Env). v.next) names)
          (ap (λ (c : Checker). c.number) rest ∙ ap (λ (v : Env). v.number) names)
          (ap (λ (c : Checker). c.key) rest ∙ ap (λ (v : Env). v.key) names)
          (ap (λ (c : Checker). c.depth) rest ∙ ap (λ (v : Env). v.depth) names)
          (ap (λ (c : Checker). c.group) rest ∙ ap (λ (v : Env). v.group) names)
          (ap (λ (c : Checker). c.iterators.items) rest ∙ ap (λ (v : Env). v.iterators) names)
          (ap (λ (c : Checker). c.result) rest ∙ ap (λ (v : Env). v.result) names);
    }

-- a statement that is a scope of its own, with its number
pub judges-scoped : {old begun inner new : Checker} {p : Option Stmt} (s : SurfaceStmt)
    → begun ≡ begun_of old → Follows begun inner s (checked s (env_of begun)) p
    → new.scope.names.entries ≡ take (length old.scope.names.entries) inner.scope.names.entries → new ≡ record inner { scope = new.scope; key = old.key }
    → Judges old new (numbered (checked s) (env_of old)) p
judges-scoped {old = old} {begun = begun} {inner = inner} {new = new} {p = p} s is h cut rest =
    let h' : Follows (begun_of old) inner s (checked s (env_of (begun_of old))) p = subst (λ (b : Checker). Follows b inner s (checked s (env_of b)) p) is h in
    judges-forgotten s (follows-numbered s h') cut rest

-- ---- blocks

-- a chain of statements with nothing before it
chained-none : (t : Option Stmt) → chained (Some []) t ≡ t
chained-none None = refl
chained-none (Some t) = refl

-- one statement more before a chain
then_all-last : (ss : List Stmt) (x t : Stmt) → then_all ss (P.Then x t) ≡ then_all (ss ++ (x ∷ [])) t
then_all-last [] x t = refl
then_all-last (s ∷ ss) x t = ap (P.Then s) (then_all-last ss x t)

-- one part more before a chain
chained-last : (ss : Option (List Stmt)) (p t : Option Stmt) → chained ss (part_by (both_of p t) (λ q. Ok (P.Then q.0 q.1))) ≡ chained (with_last ss p) t
chained-last None p t = refl
chained-last (Some ss) None t = refl
chained-last (Some ss) (Some x) None = refl
chained-last (Some ss) (Some x) (Some t) = ap Some (then_all-last ss x t)

-- the whole chain
then_all-end : (ss : List Stmt) → then_all ss P.Skip ≡ P.sequence ss
then_all-end [] = refl
then_all-end (s ∷ ss) = ap (P.Then s) (then_all-end ss)

-- the whole chain, where all parts have types
pub chained-end : (ss : Option (List Stmt)) → chained ss (Some P.Skip) ≡ option_map P.sequence ss
chained-end None = refl
chained-end (Some ss) = ap Some (then_all-end ss)

-- before the first statement of a block
pub blocks-first : (s : Checker) (all : List SurfaceStmt) → Blocks s s (Some []) all all
blocks-first s all = record {
  part = sym (chained-none _);
  least = refl;
  declared = refl;
  number = refl;
  known = extends-self _;
  key = refl;
  depth = refl;
  group = refl;
  iterators = refl;
  result = refl;
}

-- one statement more
pub blocks-next : {initial self inner : Checker} {held : Option (List Stmt)} {p : Option Stmt} (all : List SurfaceStmt) (s : SurfaceStmt) (rest : List SurfaceStmt)
    → Blocks initial self held all (s ∷ rest) → Follows (begun_of self) inner s (checked s (env_of (begun_of self))) p
    → Blocks initial (record inner { key = self.key }) (with_last held p) all rest
blocks-next {initial = initial} {self = self} {inner = inner} {held = held} {p = p} all s rest w h =
    let f = follows-numbered s h in
    let new : Checker = record inner { key = self.key } in
    let a = numbered (checked s) (env_of self) in
    let r = checked (sequence rest) (following s (env_of self) a) in
    let same : checked (sequence rest) (env_of new) ≡ r = ap (checked (sequence rest)) f.names in
    record {
      part = w.part ∙ ap (λ o. chained held (part_by (both_of o r.part) (λ q. Ok (P.Then q.0 q.1)))) (sym f.stands_for) ∙ chained-last held p r.part ∙ ap (λ j. chained (with_last held p) j.part) (sym same);
      least = w.least ∙ ap (λ bs. least_from self.least ((a.broken ++ r.broken) ++ bs)) (nothing_broken (both_of a.part r.part) (λ q. P.Then q.0 q.1))
          ∙ ap (least_from self.least) (append-nil (a.broken ++ r.broken)) ∙ least_from-append self.least a.broken r.broken
          ∙ ap (λ l. least_from l r.broken) (sym f.least) ∙ ap (λ j. least_from new.least j.broken) (sym same);
      declared = w.declared ∙ sym (append_assoc self.declarations.items a.declared r.declared) ∙ ap (λ ds. ds ++ r.declared) (sym f.declared) ∙ ap (λ j. new.declarations.items ++ j.declared) (sym same);
      number =
          let n : new.number ≡ self.number + a.numbers = ap (λ (v : Env). v.number) f.names in
          let m : (checked (sequence rest) (env_of new)).numbers ≡ r.numbers = ap (λ j. j.numbers) same in
          let t : initial.number + (checked (sequence all) (env_of initial)).numbers ≡ self.number + (a.numbers + r.numbers) = w.number in
          omega (arith, n, m, t);
      known = extends-more _ _ _ w.known (subst (λ (ks : List Known). Extends (known_in self.scope.names.entries) ks) (sym (ap (λ (v : Env). v.known) f.names)) (extends-after s (env_of self)));
      key = w.key;
      depth = ap (λ (v : Env). v.depth) f.names ∙ w.depth;
      group = ap (λ (v : Env). v.group) f.names ∙ w.group;
      iterators = ap (λ (v : Env). v.iterators) f.names ∙ w.iterators;
      result = ap (λ (v : Env). v.result) f.names ∙ w.result;
    }

-- after the last statement, whose block's names are forgotten
pub blocks-end : {initial self new : Checker} {held : Option (List Stmt)} {p : Option Stmt} (all : List SurfaceStmt)
    → Blocks initial self held all [] → p ≡ option_map P.sequence held
    → new.scope.names.entries ≡ take (length initial.scope.names.entries) self.scope.names.entries → new ≡ record self { scope = new.scope }
    → Judges initial new (checked (sequence all) (env_of initial)) p
blocks-end {initial = initial} {self = self} {new = new} {held = held} all w is cut rest =
    let n : ℕ = length initial.scope.names.entries in
    let same_length : n ≡ length (known_in initial.scope.names.entries) = sym (length-map initial.scope.names.entries known_of) in
    let known : known_in new.scope.names.entries ≡ known_in initial.scope.names.entries =
    ap (map known_of) cut ∙ sym (take-map known_of n self.scope.names.entries)
    ∙ ap (λ m. take m (known_in self.scope.names.entries)) same_length ∙ take-extended _ _ w.known in
    let declared : self.declarations.items ≡ initial.declarations.items ++ (checked (sequence all) (env_of initial)).declared = sym (w.declared ∙ append-nil self.declarations.items) in
    record {
      stands_for = is ∙ sym (chained-end held) ∙ sym w.part;
      least = ap (λ (c : Checker). c.least) rest ∙ sym w.least;
      declared = ap (λ (c : Checker). c.declarations.items) rest ∙ declared;
      names = env-same _ _ known
          (ap (λ (c : Checker). length c.declarations.items) rest ∙ ap length declared ∙ length-append initial.declarations.items _)
          (ap (λ (c : Checker). c.number) rest ∙ (let t = w.number in omega (arith, t)))
          (ap (λ (c : Checker). c.key) rest ∙ w.key)
          (ap (λ (c : Checker). c.depth) rest ∙ w.depth)
          (ap (λ (c : Checker). c.group) rest ∙ w.group)
          (ap (λ (c : Checker). c.iterators.items) rest ∙ w.iterators)
          (ap (λ (c : Checker). c.result) rest ∙ w.result);
    }

-- something made of parts that were judged
pub judges-made : {A B : Type 0} {old new : Checker} {x : Judged A} {p : Option A} {r : Option B} (f : A → B) → Judges old new x p → r ≡ part_by p (λ q. Ok (f q))
    → Judges old new (judge x (λ q. Ok (f q))) r
judges-made {new = new} {p = p} f h is = judges-by (λ q. Ok (f q)) h is (sym (ap (least_from new.least) (nothing_broken p f))) refl refl

-- after a block the names around it are known
pub follows-block : {old new : Checker} {p : Option Stmt} (ss : List SurfaceStmt) → Judges old new (checked (sequence ss) (env_of old)) p → Follows old new (sequence ss) (checked (sequence ss) (env_of old)) p
follows-block [] h = h
follows-block (s ∷ ss) h = h
