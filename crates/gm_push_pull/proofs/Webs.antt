-- How a web is made, one site and link after another, and which answers fit it.
use Rattle.std.proofs.Common.{◌≡◌, ℕ, zero, suc, ◌<◌, ◌≤◌, ◌+◌, Bool, true, false, ◌||◌, cond, List, [], ◌∷◌, ◌++◌, map, length, refl, sym, ap, subst, ◌∙◌, arith, append_assoc, append-nil}
use Rattle.std.specs.Prelude.{nat_eq, flat_map, All, slice_index_or}
use Rattle.std.proofs.lemmas.Bool.{or_left, or_right, eqb-true, eq-eqb}
use Rattle.std.proofs.lemmas.List.{length-append}
use Rattle.std.proofs.lemmas.List.Elements.{All-append}
use Rattle.gm_ast.specs.declared.tree.Target.{Target}
use Rattle.gm_ast.specs.Program.{Stmt, Then}
use Rattle.gm_ast.specs.Ways.{Mention, variable_of}
use Rattle.gm_ast.specs.Loops.{any}
use Rattle.gm_push_pull.specs.declared.reads.Reads.{Reads}
use Rattle.gm_push_pull.specs.declared.locals.Locals.{Locals}
use Rattle.gm_push_pull.specs.declared.web.Node.{Node}
use Rattle.gm_push_pull.specs.declared.web.Link.{Link}
use Rattle.gm_push_pull.specs.declared.web.Seed.{Seed}
use Rattle.gm_push_pull.specs.declared.web.Web.{Web}
use Rattle.gm_push_pull.specs.Reads.{nothing}
use Rattle.gm_push_pull.specs.Tests.{Test, holds, passes_alone, passes}
use Rattle.gm_push_pull.specs.Locals.{is_known, noted_all}
use Rattle.gm_push_pull.specs.Sweeps.{is_written, written, Demand, Demands, Below}
use Rattle.gm_push_pull.specs.Webs.{link_from, fed, Adds, Opens, told, Reached, Inside, FitsLink, FitsSeed, FitsWeb, Weaves, IsWebOf}
use Rattle.gm_push_pull.proofs.Ors.{or-nothing}
use Rattle.gm_push_pull.proofs.Answers.{holds-nothing}
use Rattle.gm_push_pull.proofs.Growing.{noted-below}

-- no links
pub adds-none : (a : Web) → Adds a a []
adds-none a = record { seeds = refl; links = sym (append-nil a.links.items) }

-- some links and then more
pub adds-then : {a b d : Web} (xs ys : List Link) → Adds a b xs → Adds b d ys → Adds a d (xs ++ ys)
adds-then {a = a} xs ys g h = record {
  seeds = h.seeds ∙ g.seeds;
  links = h.links ∙ ap (λ (ls : List Link). ls ++ ys) g.links ∙ append_assoc a.links.items xs ys;
}

-- a site, and then links to it
pub opens-then : {a b d : Web} {around : ℕ} {reads : Reads} {site : ℕ} (ms : List Mention) → Opens a b around reads site [] → Adds b d (map (link_from site) ms) → Opens a d around reads site ms
opens-then {a = a} {around = around} {site = site} ms g h = record {
  number = g.number;
  seeds = h.seeds ∙ g.seeds;
  links = h.links ∙ ap (λ (ls : List Link). ls ++ map (link_from site) ms) g.links ∙ append_assoc a.links.items (record { from = Node.Site around; to = Node.Site site } ∷ []) (map (link_from site) ms);
}

-- answers with that of one site more
abbrev pub extended : (ℕ → Bool) → ℕ → Bool → ℕ → Bool
extended C n b k = cond (nat_eq n k) b (C k)

extended-here : (C : ℕ → Bool) (n : ℕ) (b : Bool) → extended C n b n ≡ b
extended-here C n b = ap (λ (x : Bool). cond x b (C n)) (eq-eqb n n refl)

extended-below : (C : ℕ → Bool) (n : ℕ) (b : Bool) (k : ℕ) → k < n → extended C n b k ≡ C k
extended-below C n b k h = on (nat_eq n k) refl
  where
    on : (x : Bool) → nat_eq n k ≡ x → cond x b (C k) ≡ C k
    on true e = let same = eqb-true n k e in absurd (omega (arith, h, same))
    on false e = refl

-- what holds of each of some, from what holds of each
pub all-through : {A : Type 0} {P Q : A → Type 0} → ((x : A) → P x → Q x) → (xs : List A) → All P xs → All Q xs
all-through f xs h k d lt = f (slice_index_or xs k d) (h k d lt)

-- what holds of none, and of one more
all-none : {A : Type 0} (P : A → Type 0) → All P []
all-none P k d lt = absurd (omega (arith, lt))

all-more : {A : Type 0} (P : A → Type 0) (x : A) (xs : List A) → P x → All P xs → All P (x ∷ xs)
all-more P x xs p q zero d lt = p
all-more P x xs p q (suc k) d lt = q k d (omega (arith, lt))

-- the answers for the sites so far are as they were
abbrev pub Keeps : ℕ → (ℕ → Bool) → (ℕ → Bool) → Type 0
Keeps n C D = (k : ℕ) → k < n → D k ≡ C k

inside-more : (n m : ℕ) (a : Node) → n ≤ m → Inside n a → Inside m a
inside-more n m (Node.Local x) le h = tt
inside-more n m (Node.Site k) le h = omega (arith, le, h)

told-kept : (B C D : ℕ → Bool) (n : ℕ) (a : Node) → Keeps n C D → Inside n a → told B D a ≡ true → told B C a ≡ true
told-kept B C D n (Node.Local x) same h k = k
told-kept B C D n (Node.Site i) same h k = sym (same i h) ∙ k

reached-kept : (known B C D : ℕ → Bool) (n : ℕ) (a : Node) → Keeps n C D → Inside n a → Reached known B C a → Reached known B D a
reached-kept known B C D n (Node.Local x) same h k = k
reached-kept known B C D n (Node.Site i) same h k = same i h ∙ k

link-kept : (known B C D : ℕ → Bool) (n m : ℕ) → Keeps n C D → n ≤ m → (l : Link) → FitsLink known B C n l → FitsLink known B D m l
link-kept known B C D n m same le l h =
    (inside-more n m l.from le h.0, inside-more n m l.to le h.1, λ k. reached-kept known B C D n l.to same h.1 (h.2 (told-kept B C D n l.from same h.0 k)))

seed-kept : (t : Test) (C D : ℕ → Bool) (n m : ℕ) → Keeps n C D → n ≤ m → (s : Seed) → FitsSeed t C n s → FitsSeed t D m s
seed-kept t C D n m same le s h = let lt = h.0 in (omega (arith, le, lt), λ k. same s.site h.0 ∙ h.1 k)

-- links that fit are added
pub fits-added : {a b : Web} (known : ℕ → Bool) (t : Test) (B C : ℕ → Bool) (ls : List Link) → Adds a b ls → FitsWeb known t B C a → All (FitsLink known B C (length a.seeds.items)) ls → FitsWeb known t B C b
fits-added {a = a} {b = b} known t B C ls g h k = record {
  seeds = subst (λ (ss : List Seed). All (FitsSeed t C (length ss)) ss) (sym g.seeds) h.seeds;
  links = subst (λ (ss : List Seed). All (FitsLink known B C (length ss)) b.links.items) (sym g.seeds)
      (subst (All (FitsLink known B C (length a.seeds.items))) (sym g.links) (All-append (FitsLink known B C (length a.seeds.items)) a.links.items ls h.links k));
}

-- a site is added, with its links
pub fits-opened : {a b : Web} {site : ℕ} (l : Locals) (t : Test) (B C : ℕ → Bool) (around : ℕ) (ms : List Mention) → Opens a b around (noted_all l nothing ms) site ms → Below l t B → around < length a.seeds.items → FitsWeb (is_known l) t B C a
    → FitsWeb (is_known l) t B (extended C (length a.seeds.items) (C around || any (passes l.iterator t B) ms)) b
fits-opened {a = a} {b = b} {site = site} l t B C around ms g low lt h = record {
  seeds = subst (λ (ss : List Seed). All (FitsSeed t D (length ss)) ss) (sym g.seeds)
      (subst (λ (m : ℕ). All (FitsSeed t D m) (a.seeds.items ++ (seed ∷ []))) (sym grown)
      (All-append (FitsSeed t D (n + 1)) a.seeds.items (seed ∷ []) (all-through (seed-kept t C D n (n + 1) kept (omega arith)) a.seeds.items h.seeds) (all-more (FitsSeed t D (n + 1)) seed [] own (all-none (FitsSeed t D (n + 1))))));
  links = subst (λ (ss : List Seed). All (FitsLink (is_known l) B D (length ss)) b.links.items) (sym g.seeds)
      (subst (λ (m : ℕ). All (FitsLink (is_known l) B D m) b.links.items) (sym grown)
      (subst (All (FitsLink (is_known l) B D (n + 1))) (sym g.links)
      (All-append (FitsLink (is_known l) B D (n + 1)) a.links.items (record { from = Node.Site around; to = Node.Site site } ∷ map (link_from site) ms)
      (all-through (link-kept (is_known l) B C D n (n + 1) kept (omega arith)) a.links.items h.links) (all-more (FitsLink (is_known l) B D (n + 1)) (record { from = Node.Site around; to = Node.Site site }) (map (link_from site) ms) outer (mentioned ms (λ q. q))))));
}
  where
    n : ℕ
    n = length a.seeds.items

    D : ℕ → Bool
    D = extended C (length a.seeds.items) (C around || any (passes l.iterator t B) ms)

    seed : Seed
    seed = record { site = site; reads = noted_all l nothing ms }

    grown : length (a.seeds.items ++ (seed ∷ [])) ≡ length a.seeds.items + 1
    grown = length-append a.seeds.items (seed ∷ [])

    kept : Keeps (length a.seeds.items) C D
    kept = extended-below C (length a.seeds.items) (C around || any (passes l.iterator t B) ms)

    here : D site ≡ (C around || any (passes l.iterator t B) ms)
    here = ap D g.number ∙ extended-here C (length a.seeds.items) (C around || any (passes l.iterator t B) ms)

    within : site < length a.seeds.items + 1
    within = let e = g.number in omega (arith, e)

    own : FitsSeed t D (length a.seeds.items + 1) seed
    own = (within, λ k. here ∙ or_right (C around) (any (passes l.iterator t B) ms) (plain (noted-below l t B nothing ms low k)))
      where
        plain : (holds nothing t || any (passes l.iterator t B) ms) ≡ true → any (passes l.iterator t B) ms ≡ true
        plain k = sym (ap (λ (x : Bool). x || any (passes l.iterator t B) ms) (holds-nothing t)) ∙ k

    outer : FitsLink (is_known l) B D (length a.seeds.items + 1) (record { from = Node.Site around; to = Node.Site site })
    outer = (omega (arith, lt), within, λ k. here ∙ or_left (C around) (any (passes l.iterator t B) ms) (sym (kept around lt) ∙ k))

    mentioned : (ns : List Mention) → (any (passes l.iterator t B) ns ≡ true → any (passes l.iterator t B) ms ≡ true) → All (FitsLink (is_known l) B D (length a.seeds.items + 1)) (map (link_from site) ns)
    mentioned [] f = all-none (FitsLink (is_known l) B D (length a.seeds.items + 1))
    mentioned (m ∷ ns) f = all-more (FitsLink (is_known l) B D (length a.seeds.items + 1)) (link_from site m) (map (link_from site) ns)
        (tt, within, λ k. here ∙ or_right (C around) (any (passes l.iterator t B) ms) (f (or_left (passes l.iterator t B m) (any (passes l.iterator t B) ns) (or_right (passes_alone l.iterator t m) (B (variable_of m)) k))))
        (mentioned ns (λ q. f (or_right (passes l.iterator t B m) (any (passes l.iterator t B) ns) q)))

-- a site that holds feeds the locals that targets write
fits-fed-one : (known B C : ℕ → Bool) (n k : ℕ) (target : Target) → k < n → Demand known B (is_written target) (C k) → All (FitsLink known B C n) (fed k target)
fits-fed-one known B C n k (Target.Scalar x at) lt d =
    all-more (FitsLink known B C n) (record { from = Node.Site k; to = Node.Local x }) [] (lt, tt, λ h q. d x q (eq-eqb x x refl) h) (all-none (FitsLink known B C n))
fits-fed-one known B C n k (Target.Property x p at) lt d = all-none (FitsLink known B C n)

fits-fed : (known B C : ℕ → Bool) (n k : ℕ) (targets : List Target) → k < n → Demand known B (written targets) (C k) → All (FitsLink known B C n) (flat_map (fed k) targets)
fits-fed known B C n k [] lt d = all-none (FitsLink known B C n)
fits-fed known B C n k (target ∷ targets) lt d = All-append (FitsLink known B C n) (fed k target) (flat_map (fed k) targets)
    (fits-fed-one known B C n k target lt (λ x a b h. d x a (or_left (is_written target x) (written targets x) b) h))
    (fits-fed known B C n k targets lt (λ x a b h. d x a (or_right (is_written target x) (written targets x) b) h))

-- nothing is added
pub weaves-none : (l : Locals) (a : Web) (around : ℕ) (s : Stmt) → Weaves l a a around s
weaves-none l a around s t B C low lt h d = (C, h, omega arith, λ k q. refl)

-- statements of one site, one after another
pub weaves-then : (l : Locals) {a b e : Web} {around : ℕ} (one other : Stmt) → Weaves l a b around one → Weaves l b e around other → Weaves l a e around (Then one other)
weaves-then l {a = a} {b = b} {e = e} {around = around} one other g k t B C low lt h d =
    let first = g t B C low lt h d.0 in
    let le = first.2 in
    let second = k t B first.0 low (omega (arith, lt, le)) first.1 (subst (Demands l.iterator (is_known l) t B other) (sym (first.3 around lt)) d.1) in
    let le2 = second.2 in
    (second.0, second.1, omega (arith, le, le2), λ i q. second.3 i (omega (arith, q, le)) ∙ first.3 i q)

-- the statements under a condition
pub weaves-If : (l : Locals) {a b e z : Web} {around site : ℕ} (ms : List Mention) (one other : Stmt) → Opens a b around (noted_all l nothing ms) site ms → Weaves l b e site one → Weaves l e z site other
    → (t : Test) (B C : ℕ → Bool) → Below l t B → around < length a.seeds.items → FitsWeb (is_known l) t B C a
    → (Demands l.iterator (is_known l) t B one (C around || any (passes l.iterator t B) ms) × Demands l.iterator (is_known l) t B other (C around || any (passes l.iterator t B) ms))
    → (more : ℕ → Bool) × FitsWeb (is_known l) t B more z × (length a.seeds.items ≤ length z.seeds.items) × ((k : ℕ) → k < length a.seeds.items → more k ≡ C k)
weaves-If l {a = a} {b = b} {e = e} {z = z} {around = around} {site = site} ms one other o g k t B C low lt h d =
    let fits = fits-opened l t B C around ms o low lt h in
    let b_of : Bool = C around || any (passes l.iterator t B) ms in
    let D : ℕ → Bool = extended C (length a.seeds.items) (C around || any (passes l.iterator t B) ms) in
    let here : D site ≡ (C around || any (passes l.iterator t B) ms) = ap D o.number ∙ extended-here C (length a.seeds.items) (C around || any (passes l.iterator t B) ms) in
    let grown : length b.seeds.items ≡ length a.seeds.items + 1 = ap length o.seeds ∙ length-append a.seeds.items (record { site = site; reads = noted_all l nothing ms } ∷ []) in
    let at = o.number in
    let both = weaves-then l one other g k t B D low (omega (arith, grown, at)) fits
    (subst (Demands l.iterator (is_known l) t B one) (sym here) d.0, subst (Demands l.iterator (is_known l) t B other) (sym here) d.1) in
    let le = both.2 in
    (both.0, both.1, omega (arith, grown, le), λ i q. both.3 i (omega (arith, grown, q)) ∙ extended-below C (length a.seeds.items) (C around || any (passes l.iterator t B) ms) i q)

-- a statement that writes
pub weaves-write : (l : Locals) {a b e : Web} {around site : ℕ} (ms : List Mention) (targets : List Target) → Opens a b around (noted_all l nothing ms) site ms → Adds b e (flat_map (fed site) targets)
    → (t : Test) (B C : ℕ → Bool) → Below l t B → around < length a.seeds.items → FitsWeb (is_known l) t B C a → Demand (is_known l) B (written targets) (C around || any (passes l.iterator t B) ms)
    → (more : ℕ → Bool) × FitsWeb (is_known l) t B more e × (length a.seeds.items ≤ length e.seeds.items) × ((k : ℕ) → k < length a.seeds.items → more k ≡ C k)
weaves-write l {a = a} {b = b} {e = e} {around = around} {site = site} ms targets o g t B C low lt h d =
    let fits = fits-opened l t B C around ms o low lt h in
    let D : ℕ → Bool = extended C (length a.seeds.items) (C around || any (passes l.iterator t B) ms) in
    let here : D site ≡ (C around || any (passes l.iterator t B) ms) = ap D o.number ∙ extended-here C (length a.seeds.items) (C around || any (passes l.iterator t B) ms) in
    let grown : length b.seeds.items ≡ length a.seeds.items + 1 = ap length o.seeds ∙ length-append a.seeds.items (record { site = site; reads = noted_all l nothing ms } ∷ []) in
    let same : length e.seeds.items ≡ length b.seeds.items = ap length g.seeds in
    let at = o.number in (
      D,
      fits-added (is_known l) t B D (flat_map (fed site) targets) g fits (fits-fed (is_known l) B D (length b.seeds.items) site targets (omega (arith, grown, at)) (subst (Demand (is_known l) B (written targets)) (sym here) d)),
      omega (arith, grown, same),
      extended-below C (length a.seeds.items) (C around || any (passes l.iterator t B) ms),
    )

-- the same, to one target, or to a variable that is declared
pub weaves-one : (l : Locals) {a b e : Web} {around site : ℕ} (ms : List Mention) (target : Target) → Opens a b around (noted_all l nothing ms) site ms → Adds b e (fed site target)
    → (t : Test) (B C : ℕ → Bool) → Below l t B → around < length a.seeds.items → FitsWeb (is_known l) t B C a → Demand (is_known l) B (is_written target) (C around || any (passes l.iterator t B) ms)
    → (more : ℕ → Bool) × FitsWeb (is_known l) t B more e × (length a.seeds.items ≤ length e.seeds.items) × ((k : ℕ) → k < length a.seeds.items → more k ≡ C k)
weaves-one l {b = b} {e = e} {around = around} {site = site} ms target o g t B C low lt h d =
    weaves-write l ms (target ∷ []) o (subst (Adds b e) (sym (append-nil (fed site target))) g) t B C low lt h (λ x a w q. d x a (one x w) q)
  where
    one : (x : ℕ) → written (target ∷ []) x ≡ true → is_written target x ≡ true
    one x w = sym (or-nothing (is_written target x)) ∙ w

-- a declaration without a value rests on the conditions around it alone
pub weaves-declared : (l : Locals) {a b : Web} {around : ℕ} (x : ℕ) → Adds a b (record { from = Node.Site around; to = Node.Local x } ∷ [])
    → (t : Test) (B C : ℕ → Bool) → Below l t B → around < length a.seeds.items → FitsWeb (is_known l) t B C a → Demand (is_known l) B (nat_eq x) (C around)
    → (more : ℕ → Bool) × FitsWeb (is_known l) t B more b × (length a.seeds.items ≤ length b.seeds.items) × ((k : ℕ) → k < length a.seeds.items → more k ≡ C k)
weaves-declared l {a = a} {b = b} {around = around} x g t B C low lt h d =
    let target = Target.Scalar x (record { line = 0; col = 0 }) in
    let same : length b.seeds.items ≡ length a.seeds.items = ap length g.seeds in (
      C,
      fits-added (is_known l) t B C (fed around target) g h (fits-fed-one (is_known l) B C (length a.seeds.items) around target lt d),
      omega (arith, same),
      λ k q. refl,
    )

-- the web of a body, from one with no condition
pub web-whole : {a b : Web} (l : Locals) (s : Stmt) → a.seeds.items ≡ record { site = 0; reads = nothing } ∷ [] → a.links.items ≡ [] → Weaves l a b 0 s → IsWebOf l b s
web-whole {a = a} l s seeds links g t B low d =
    let one : length a.seeds.items ≡ 1 = ap length seeds in
    let r = g t B (λ k. false) low (omega (arith, one)) (record {
      seeds = subst (λ (ss : List Seed). All (FitsSeed t (λ k. false) (length ss)) ss) (sym seeds)
          (all-more (FitsSeed t (λ k. false) 1) (record { site = 0; reads = nothing }) [] (omega arith, λ k. sym (holds-nothing t) ∙ k) (all-none (FitsSeed t (λ k. false) 1)));
      links = subst (All (FitsLink (is_known l) B (λ k. false) (length a.seeds.items))) (sym links) (all-none (FitsLink (is_known l) B (λ k. false) (length a.seeds.items)));
    }) d in
    (r.0, r.1)
