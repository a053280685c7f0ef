-- On what the values of an inner body's locals rest, and how what they read is spread along that.
use Rattle.std.specs.Prelude.{◌≡◌, ℕ, ◌+◌, ◌*◌, ◌<◌, ◌≤◌, Bool, true, false, List, [], ◌∷◌, ◌++◌, All, length, map}
use Rattle.gm_ast.specs.declared.tree.Target.{Target}
use Rattle.gm_ast.specs.Program.{Stmt}
use Rattle.gm_ast.specs.Ways.{Mention, variable_of}
use Rattle.gm_push_pull.specs.declared.reads.Reads.{Reads}
use Rattle.gm_push_pull.specs.declared.locals.Locals.{Locals}
use Rattle.gm_push_pull.specs.declared.web.Node.{Node}
use Rattle.gm_push_pull.specs.declared.web.Link.{Link}
use Rattle.gm_push_pull.specs.declared.web.Seed.{Seed}
use Rattle.gm_push_pull.specs.declared.web.Web.{Web}
use Rattle.gm_push_pull.specs.Tests.{Test, holds}
use Rattle.gm_push_pull.specs.Locals.{is_known, held_by}
use Rattle.gm_push_pull.specs.Sweeps.{Demands, Below, facts_rank}

-- a link from what is mentioned to a site
abbrev pub link_from : ℕ → Mention → Link
link_from k m = record { from = Node.Local (variable_of m); to = Node.Site k }

-- the links from a site to what a target writes
abbrev pub fed : ℕ → Target → List Link
fed k (Target.Scalar x at) = record { from = Node.Site k; to = Node.Local x } ∷ []
fed k (Target.Property x p at) = []

-- links are added
pub record Adds (old new : Web) (ls : List Link) : Type 0 where
  pub seeds : new.seeds.items ≡ old.seeds.items
  pub links : new.links.items ≡ old.links.items ++ ls

-- a site is added within another: it reads this by itself, and what these mention
pub record Opens (old new : Web) (around : ℕ) (reads : Reads) (site : ℕ) (ms : List Mention) : Type 0 where
  pub number : site ≡ length old.seeds.items
  pub seeds : new.seeds.items ≡ old.seeds.items ++ (record { site = site; reads = reads } ∷ [])
  pub links : new.links.items ≡ old.links.items ++ (record { from = Node.Site around; to = Node.Site site } ∷ map (link_from site) ms)

-- the answer for a node, by those for locals and for sites
abbrev pub told : (ℕ → Bool) → (ℕ → Bool) → Node → Bool
told B C (Node.Local x) = B x
told B C (Node.Site k) = C k

-- the answer is given for a node; of variables only those count that are locals
abbrev pub Reached : (ℕ → Bool) → (ℕ → Bool) → (ℕ → Bool) → Node → Type 0
Reached known B C (Node.Local x) = known x ≡ true → B x ≡ true
Reached known B C (Node.Site k) = C k ≡ true

-- an answer at the one end of a link is given at the other
abbrev pub Follows : (ℕ → Bool) → (ℕ → Bool) → (ℕ → Bool) → Link → Type 0
Follows known B C l = told B C l.from ≡ true → Reached known B C l.to

-- a node is a local, or one of so many sites
abbrev pub Inside : ℕ → Node → Type 0
Inside n (Node.Local x) = Unit {0}
Inside n (Node.Site k) = k < n

-- a link among so many sites, along which the answers go
abbrev pub FitsLink : (ℕ → Bool) → (ℕ → Bool) → (ℕ → Bool) → ℕ → Link → Type 0
FitsLink known B C n l = Inside n l.from × Inside n l.to × Follows known B C l

-- one of so many sites, with no more of its own reads than its answer
abbrev pub FitsSeed : Test → (ℕ → Bool) → ℕ → Seed → Type 0
FitsSeed t C n s = (s.site < n) × (holds s.reads t ≡ true → C s.site ≡ true)

-- answers for locals and sites that fit a whole web
pub record FitsWeb (known : ℕ → Bool) (t : Test) (B C : ℕ → Bool) (w : Web) : Type 0 where
  pub seeds : All (FitsSeed t C (length w.seeds.items)) w.seeds.items
  pub links : All (FitsLink known B C (length w.seeds.items)) w.links.items

-- a statement within a site is added: answers for locals that meet its demands, with answers for the sites so far, have answers for its own sites
abbrev pub Weaves : Locals → Web → Web → ℕ → Stmt → Type 0
Weaves l old new around s = (t : Test) (B C : ℕ → Bool) → Below l t B → around < length old.seeds.items → FitsWeb (is_known l) t B C old → Demands l.iterator (is_known l) t B s (C around)
    → (more : ℕ → Bool) × FitsWeb (is_known l) t B more new × (length old.seeds.items ≤ length new.seeds.items) × ((k : ℕ) → k < length old.seeds.items → more k ≡ C k)

-- the web of a body: answers for locals that meet the body's demands have answers for the sites
abbrev pub IsWebOf : Locals → Web → Stmt → Type 0
IsWebOf l w s = (t : Test) (B : ℕ → Bool) → Below l t B → Demands l.iterator (is_known l) t B s false → (C : ℕ → Bool) × FitsWeb (is_known l) t B C w

-- what is known to be read at a node
abbrev pub read_at : Locals → Locals → Node → Reads
read_at l sites (Node.Local x) = held_by l x
read_at l sites (Node.Site k) = held_by sites k

-- more is known of locals and sites, and no more than the answers that meet a condition
pub record Flows (old new sites later : Locals) (P : Test → (ℕ → Bool) → (ℕ → Bool) → Type 0) (changed : Bool) : Type 0 where
  pub iterator : new.iterator ≡ old.iterator
  pub known : (x : ℕ) → is_known new x ≡ is_known old x
  pub sound : (t : Test) (B C : ℕ → Bool) → P t B C → Below old t B → Below sites t C → Below new t B × Below later t C
  pub no_less : facts_rank new.facts.entries + facts_rank later.facts.entries ≤ facts_rank old.facts.entries + facts_rank sites.facts.entries
  pub more : changed ≡ true → facts_rank new.facts.entries + facts_rank later.facts.entries < facts_rank old.facts.entries + facts_rank sites.facts.entries

-- how much may still become known, twice, with the nodes that are still to be visited
abbrev pub to_do : Locals → Locals → List Node → ℕ
to_do l sites work = 2 * (facts_rank l.facts.entries + facts_rank sites.facts.entries) + length work

-- more is known of locals and sites, and no more than the answers that meet a condition; nodes to be visited are added for it
pub record Drives (old new sites later : Locals) (before after : List Node) (P : Test → (ℕ → Bool) → (ℕ → Bool) → Type 0) : Type 0 where
  pub iterator : new.iterator ≡ old.iterator
  pub known : (x : ℕ) → is_known new x ≡ is_known old x
  pub sound : (t : Test) (B C : ℕ → Bool) → P t B C → Below old t B → Below sites t C → Below new t B × Below later t C
  pub left : to_do new later after ≤ to_do old sites before

-- more is known of locals, and no more than the answers that fit a web
pub record SpreadsWeb (old new sites : Locals) (w : Web) : Type 0 where
  pub iterator : new.iterator ≡ old.iterator
  pub known : (x : ℕ) → is_known new x ≡ is_known old x
  pub sound : (t : Test) (B C : ℕ → Bool) → FitsWeb (is_known old) t B C w → Below old t B → Below sites t C → Below new t B

-- more is known of locals, and no more than a statement's demands force
pub record Spreads (old new : Locals) (s : Stmt) : Type 0 where
  pub iterator : new.iterator ≡ old.iterator
  pub known : (x : ℕ) → is_known new x ≡ is_known old x
  pub sound : (t : Test) (B : ℕ → Bool) → Below old t B → Demands old.iterator (is_known old) t B s false → Below new t B
