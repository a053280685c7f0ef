-- How a walk goes over the parts of expressions and statements.
use Rattle.std.proofs.Common.{◌≡◌, ℕ, ◌+◌, List, ◌++◌, ap, ◌∙◌, append_assoc, arith, subst}
use Rattle.gm_base.specs.declared.places.Place.{Place}
use Rattle.gm_ast.specs.declared.accesses.Access.{Access}
use Rattle.gm_ast.specs.declared.tree.Domain.{Domain}
use Rattle.gm_ast.specs.declared.tree.Domain.TheVariants.{Nodes}
use Rattle.gm_ast.specs.declared.tree.Key.{Key}
use Rattle.gm_ast.specs.declared.tree.Head.{Head}
use Rattle.gm_ast.specs.declared.tree.Fold.{Fold}
use Rattle.gm_ast.specs.declared.tree.Search.{Search}
use Rattle.gm_ast.specs.Program as P
use Rattle.gm_ast.specs.Program.{Expr, Stmt}
use Rattle.gm_ast.specs.Accesses.{Around, within, access, write_kind, scalar_read, reads, loops_in, accesses_of, loops_of}
use Rattle.gm_race.specs.declared.walks.Walker.{Walker}
use Rattle.gm_race.specs.Parts.{filtered, loops_filtered}
use Rattle.gm_race.specs.Walks.{around_of, loops_around, Finds, Enters, Leaves}
use Rattle.gm_race.proofs.Walked.{finds-then, finds-after, finds-loop}

-- what a loop finds
abbrev turned : Expr → Stmt → ℕ → Domain → Around → ℕ → List Access
turned test body x d w n = filtered test body (within w n x d) (n + 1)

pub finds-Fold : {old read entered first second new : Walker} (f : Fold) (h : Head) (test body : Expr)
    → Finds old read (scalar_read (around_of old) h.owner h.place) 0 → Enters read entered h.iterator h.domain
    → Finds entered first (reads test (around_of entered) entered.next) (loops_in test) → Finds first second (reads body (around_of first) first.next) (loops_in body) → Leaves second new
    → Finds old new (reads (P.Folded f h test body) (around_of old) old.next) (loops_in (P.Folded f h test body))
finds-Fold {old = old} {entered = entered} f h test body r e a b l =
    let part : Around → ℕ → List Access = λ w n. reads test w n ++ reads body w (n + loops_in test) in
    finds-after (scalar_read (around_of old) h.owner h.place) (λ w n. part (within w n h.iterator h.domain) (n + 1)) r
    (finds-loop part e (finds-then (reads test (around_of entered) entered.next) (reads body) a b) l)

pub finds-Group : {old entered written read new : Walker} (k : Key) (at : Place) (g p : ℕ) (e : Expr)
    → Enters old entered g Nodes → Finds entered written (access (around_of entered) p at (write_kind (loops_around entered) g)) 0
    → Finds written read (reads e (around_of written) written.next) (loops_in e) → Leaves read new
    → Finds old new (accesses_of (P.Group k at g p e) (around_of old) old.next) (loops_of (P.Group k at g p e))
finds-Group {entered = entered} k at g p e i w r l =
    finds-loop (λ v n. access v p at (write_kind v.loops g) ++ reads e v n) i (finds-after (access (around_of entered) p at (write_kind (loops_around entered) g)) (reads e) w r) l

-- a name and then a loop
pub finds-turns : {old read new : Walker} (x : ℕ) (at : Place) (test : Expr) (body : Stmt) (i : ℕ) (d : Domain)
    → Finds old read (scalar_read (around_of old) x at) 0 → Finds read new (turned test body i d (around_of read) read.next) (1 + loops_filtered test body)
    → Finds old new (scalar_read (around_of old) x at ++ turned test body i d (around_of old) old.next) (1 + loops_filtered test body)
finds-turns {old = old} x at test body i d r t = finds-after (scalar_read (around_of old) x at) (turned test body i d) r t

-- a name and then what stands under a condition
pub finds-For : {old read new : Walker} (x : ℕ) (at : Place) (test : Expr) (body : Stmt)
    → Finds old read (scalar_read (around_of old) x at) 0 → Finds read new (filtered test body (around_of read) read.next) (loops_filtered test body)
    → Finds old new (scalar_read (around_of old) x at ++ filtered test body (around_of old) old.next) (loops_filtered test body)
finds-For {old = old} x at test body r t = finds-after (scalar_read (around_of old) x at) (filtered test body) r t

pub finds-If : {old read first new : Walker} (k : Key) (c : Expr) (a b : Stmt)
    → Finds old read (reads c (around_of old) old.next) (loops_in c) → Finds read first (accesses_of a (around_of read) read.next) (loops_of a)
    → Finds first new (accesses_of b (around_of first) first.next) (loops_of b)
    → Finds old new (accesses_of (P.If k c a b) (around_of old) old.next) (loops_of (P.If k c a b))
finds-If {old = old} {read = read} k c a b r s t =
    finds-then (reads c (around_of old) old.next) (λ w n. accesses_of a w n ++ accesses_of b w (n + loops_of a)) r (finds-then (accesses_of a (around_of read) read.next) (accesses_of b) s t)

pub finds-Do : {old walked new : Walker} (k : Key) (at : Place) (s : Stmt) (c : Expr)
    → Finds old walked (accesses_of s (around_of old) old.next) (loops_of s) → Finds walked new (reads c (around_of walked) walked.next) (loops_in c)
    → Finds old new (accesses_of (P.Do k at s c) (around_of old) old.next) (loops_of (P.Do k at s c))
finds-Do {old = old} k at s c w r = finds-then (accesses_of s (around_of old) old.next) (reads c) w r

pub finds-InBfsBoth : {old read forth new : Walker} (k : Key) (at : Place) (f : Search) (test : Expr) (s : Stmt) (l : Key) (back_test : Expr) (b : Stmt)
    → Finds old read (scalar_read (around_of old) f.root f.place) 0 → Finds read forth (turned test s f.iterator Nodes (around_of read) read.next) (1 + loops_filtered test s)
    → Finds forth new (turned back_test b f.iterator Nodes (around_of forth) forth.next) (1 + loops_filtered back_test b)
    → Finds old new (accesses_of (P.InBfsBoth k at f test s l back_test b) (around_of old) old.next) (loops_of (P.InBfsBoth k at f test s l back_test b))
finds-InBfsBoth {old = old} {read = read} {new = new} k at f test s l back_test b r h t =
    let both : Around → ℕ → List Access = λ w n. turned test s f.iterator Nodes w n ++ turned back_test b f.iterator Nodes w (n + (1 + loops_filtered test s)) in
    let w = around_of old in
    let n = old.next in
    let m = n + 1 + loops_in test + loops_of s in
    let e : n + (1 + loops_filtered test s) ≡ m = omega arith in
    let v = within w n f.iterator Nodes in
    let name = scalar_read w f.root f.place in
    let passed = 1 + loops_filtered test s + (1 + loops_filtered back_test b) in
    let back : ℕ → List Access = turned back_test b f.iterator Nodes w in
    let same : name ++ both w n ≡ accesses_of (P.InBfsBoth k at f test s l back_test b) w n =
    ap (λ (i : ℕ). name ++ (filtered test s v (n + 1) ++ back i)) e
    ∙ ap (λ xs. name ++ xs) (append_assoc (reads test v (n + 1)) (accesses_of s v (n + 1 + loops_in test)) (back m)) in
    subst (λ (xs : List Access). Finds old new xs passed) same
    (finds-after name both r (finds-then (turned test s f.iterator Nodes (around_of read) read.next) (turned back_test b f.iterator Nodes) h t))
