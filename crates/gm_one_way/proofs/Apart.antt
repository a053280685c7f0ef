-- Where statements are made to stand alone, no inner loop reads an edge against the way of its message that did not before.
use Rattle.std.proofs.Common.{◌≡◌, ◌<◌, ◌≤◌, ◌+◌, arith, ℕ, suc, Bool, true, false, cond, List, [], ◌∷◌, ◌++◌, length, refl, ap, ◌∙◌}
use Rattle.std.specs.Prelude.{◌&&◌, ◌||◌, not, nat_eq, nat_lt}
use Rattle.std.specs.List.{list_all}
use Rattle.std.proofs.lemmas.Bool.{both_ways, lt-ltb, ltb-true, eq-eqb, ne_eqb}
use Rattle.gm_base.specs.declared.places.Place.{Place}
use Rattle.gm_value.specs.declared.operations.Op1.TheVariants.{Not}
use Rattle.gm_ast.specs.Ways
use Rattle.gm_ast.specs.Ways.{Mention, mentions, variable_of, reads_through, is_edge_read, owner_of}
use Rattle.gm_ast.specs.declared.tree.Declaration.{Declaration}
use Rattle.gm_ast.specs.declared.tree.Head.{Head}
use Rattle.gm_ast.specs.declared.tree.Key.{Key}
use Rattle.gm_ast.specs.Program.{Expr, Var, Unary, Stmt, Skip, Then, If}
use Rattle.gm_semantics.specs.Frames.{NamesBelow}
use Rattle.gm_semantics.specs.Statements.{variable_at}
use Rattle.gm_forms.proofs.Named.{both-true}
use Rattle.gm_forms.proofs.Weaker.{and-true}
use Rattle.gm_cut.specs.Slices.{statements_of}
use Rattle.gm_parting.specs.Apart.{under, apart}
use Rattle.gm_parting.specs.Numbers.{count_ifs}
use Rattle.gm_one_way.specs.Along.{is_lone, marks, are_marked, goes_along, told_of}
use Rattle.gm_one_way.proofs.Longer.{told-same, marks-same, along-same}

-- ---- statements that stand alone

all-both : {A : Type 0} (p : A → Bool) (xs ys : List A) → list_all p xs ≡ true → list_all p ys ≡ true → list_all p (xs ++ ys) ≡ true
all-both p [] ys a b = b
all-both p (x ∷ xs) ys a b = let r = both-true (p x) (list_all p xs) a in and-true (p x) (list_all p (xs ++ ys)) r.0 (all-both p xs ys r.1 b)

all-parts : {A : Type 0} (p : A → Bool) (xs ys : List A) → list_all p (xs ++ ys) ≡ true → (list_all p xs ≡ true) × (list_all p ys ≡ true)
all-parts p [] ys h = (refl, h)
all-parts p (x ∷ xs) ys h =
    let r = both-true (p x) (list_all p (xs ++ ys)) h in
    let q = all-parts p xs ys r.1 in
    (and-true (p x) (list_all p xs) r.0 q.0, q.1)

abbrev Alone : Stmt → Type 0
Alone s = list_all is_lone (statements_of s) ≡ true

under-alone : (k : Key) (c : Expr) (s : Stmt) → list_all is_lone (statements_of s) ≡ true → list_all is_lone (statements_of (under k c s)) ≡ true
under-alone k c Skip h = refl
under-alone k c (Then a b) h =
    let r = all-parts is_lone (statements_of a) (statements_of b) h in
    all-both is_lone (statements_of (under k c a)) (statements_of (under k c b)) (under-alone k c a r.0) (under-alone k c b r.1)
under-alone k c s h = h

pub apart-alone : (at : Place) (y : ℕ) (s : Stmt) → list_all is_lone (statements_of (apart at y s)) ≡ true
apart-alone at y Skip = refl
apart-alone at y (Then a b) = all-both is_lone (statements_of (apart at y a)) (statements_of (apart at (y + count_ifs a) b)) (apart-alone at y a) (apart-alone at (y + count_ifs a) b)
apart-alone at y (If k c a b) =
    let x = under k (Var y at) (apart at (suc y) a) in
    let z = under k (Unary Not at (Var y at)) (apart at (suc y + count_ifs a) b) in
    all-both is_lone (statements_of x) (statements_of z ++ []) (under-alone k (Var y at) (apart at (suc y) a) (apart-alone at (suc y) a))
    (all-both is_lone (statements_of z) [] (under-alone k (Unary Not at (Var y at)) (apart at (suc y + count_ifs a) b) (apart-alone at (suc y + count_ifs a) b)) refl)
apart-alone at y s = refl

-- ---- the locals that hold conditions

-- reads: which mentions count; marked: the variables that rest on them
module _ (ds : List Declaration) (n : ℕ) (reads : Mention → Bool) (marked : ℕ → Bool) where
  -- whether a local rests on such a read that holds a condition of a part, from the local y on. told: whether a condition around does
  abbrev pub flag_at : Bool → ℕ → Stmt → ℕ → Bool
  flag_at told y (Then a b) x = cond (nat_lt x (y + count_ifs a)) (flag_at told y a x) (flag_at told (y + count_ifs a) b x)
  flag_at told y (If k c a b) x =
      let f = told || told_of ds n reads marked c in
      cond (nat_eq x y) f (cond (nat_lt x (suc y + count_ifs a)) (flag_at f (suc y) a x) (flag_at f (suc y + count_ifs a) b x))
  flag_at told y s x = false

pub not-less : (x k : ℕ) → k ≤ x → nat_lt x k ≡ false
not-less x k l = by (nat_lt x k) refl
  where
    by : (b : Bool) → nat_lt x k ≡ b → nat_lt x k ≡ false
    by true e = let q = ltb-true x k e in absurd (omega (arith, q, l))
    by false e = e

or-nothing : (b : Bool) → b || false ≡ b
or-nothing true = refl
or-nothing false = refl

-- a condition around, told twice
twice : (a b : Bool) → a || (a || b) ≡ a || b
twice true b = refl
twice false b = refl

within : (f p t : Bool) → (p ≡ true → f ≡ true) → f || (p || t) ≡ f || t
within true p t i = refl
within false true t i = absurd (both_ways false refl (i refl))
within false false t i = refl

wider : (p f t : Bool) → (p ≡ true → f ≡ true) → p || t ≡ true → f || t ≡ true
wider true f t i h = ap (λ b. b || t) (i refl)
wider false true t i h = refl
wider false false t i h = h

either-not : (b : Bool) → not b || (b && true) ≡ true
either-not true = refl
either-not false = refl

-- below: marks of a table; behind: marks of what is behind it
abbrev pub mixed : ℕ → (ℕ → Bool) → (ℕ → Bool) → ℕ → Bool
mixed base below behind x = cond (nat_lt x base) (below x) (behind x)

pub low : (base : ℕ) (below behind : ℕ → Bool) (x : ℕ) → x < base → mixed base below behind x ≡ below x
low base below behind x l = ap (λ b. cond b (below x) (behind x)) (lt-ltb x base l)

pub high : (base : ℕ) (below behind : ℕ → Bool) (x : ℕ) → base ≤ x → mixed base below behind x ≡ behind x
high base below behind x l = ap (λ b. cond b (below x) (behind x)) (not-less x base l)

-- ---- what is marked

-- ds: the table; dt: a longer one, with the same variables
module _ (ds dt : List Declaration) (same-row : (x : ℕ) → x < length ds → variable_at dt x ≡ variable_at ds x) (more : length ds ≤ length dt) (n : ℕ) where
  module _ (reads : Mention → Bool) (alone : (x : ℕ) → reads (Ways.Alone x) ≡ false) (marked also : ℕ → Bool) (same : (x : ℕ) → x < length ds → also x ≡ marked x) where
    -- the locals that hold conditions are marked as these tell
    abbrev pub Holds : Bool → ℕ → Stmt → Type 0
    Holds told y s = (x : ℕ) → y ≤ x → x < y + count_ifs s → also x ≡ flag_at ds n reads marked told y s x

    holds-first : (told : Bool) (y : ℕ) (a b : Stmt) → Holds told y (Then a b) → Holds told y a
    holds-first told y a b h x l m = h x l (omega (arith, m)) ∙ ap (λ o. cond o (flag_at ds n reads marked told y a x) (flag_at ds n reads marked told (y + count_ifs a) b x)) (lt-ltb x (y + count_ifs a) m)

    holds-second : (told : Bool) (y : ℕ) (a b : Stmt) → Holds told y (Then a b) → Holds told (y + count_ifs a) b
    holds-second told y a b h x l m = h x (omega (arith, l)) (omega (arith, m)) ∙ ap (λ o. cond o (flag_at ds n reads marked told y a x) (flag_at ds n reads marked told (y + count_ifs a) b x)) (not-less x (y + count_ifs a) l)

    -- the local of an If, and those of its branches
    abbrev f : Bool → Expr → Bool
    f told c = told || told_of ds n reads marked c

    holds-here : (told : Bool) (y : ℕ) (k : Key) (c : Expr) (a b : Stmt) → Holds told y (If k c a b) → also y ≡ told || told_of ds n reads marked c
    holds-here told y k c a b h =
        h y (omega arith) (omega arith) ∙ ap (λ o. cond o (f told c) (cond (nat_lt y (suc y + count_ifs a)) (flag_at ds n reads marked (f told c) (suc y) a y) (flag_at ds n reads marked (f told c) (suc y + count_ifs a) b y))) (eq-eqb y y refl)

    holds-yes : (told : Bool) (y : ℕ) (k : Key) (c : Expr) (a b : Stmt) → Holds told y (If k c a b) → Holds (told || told_of ds n reads marked c) (suc y) a
    holds-yes told y k c a b h x l m =
        h x (omega (arith, l)) (omega (arith, m)) ∙ ap (λ o. cond o (f told c) (cond (nat_lt x (suc y + count_ifs a)) (flag_at ds n reads marked (f told c) (suc y) a x) (flag_at ds n reads marked (f told c) (suc y + count_ifs a) b x))) (ne_eqb x y (λ e. absurd (omega (arith, e, l))))
        ∙ ap (λ o. cond o (flag_at ds n reads marked (f told c) (suc y) a x) (flag_at ds n reads marked (f told c) (suc y + count_ifs a) b x)) (lt-ltb x (suc y + count_ifs a) m)

    holds-no : (told : Bool) (y : ℕ) (k : Key) (c : Expr) (a b : Stmt) → Holds told y (If k c a b) → Holds (told || told_of ds n reads marked c) (suc y + count_ifs a) b
    holds-no told y k c a b h x l m =
        h x (omega (arith, l)) (omega (arith, m)) ∙ ap (λ o. cond o (f told c) (cond (nat_lt x (suc y + count_ifs a)) (flag_at ds n reads marked (f told c) (suc y) a x) (flag_at ds n reads marked (f told c) (suc y + count_ifs a) b x))) (ne_eqb x y (λ e. absurd (omega (arith, e, l))))
        ∙ ap (λ o. cond o (flag_at ds n reads marked (f told c) (suc y) a x) (flag_at ds n reads marked (f told c) (suc y + count_ifs a) b x)) (not-less x (suc y + count_ifs a) l)

    -- under a condition
    under-marks : (told : Bool) (k : Key) (c : Expr) (s : Stmt) → marks dt n reads also (told || told_of dt n reads also c) s ≡ true → marks dt n reads also told (under k c s) ≡ true
    under-marks told k c Skip h = refl
    under-marks told k c (Then a b) h =
        let o = told || told_of dt n reads also c in
        let r = both-true (marks dt n reads also o a) (marks dt n reads also o b) h in
        and-true (marks dt n reads also told (under k c a)) (marks dt n reads also told (under k c b)) (under-marks told k c a r.0) (under-marks told k c b r.1)
    under-marks told k c s h = and-true (marks dt n reads also (told || told_of dt n reads also c) s) true h refl

    -- what a local that holds a condition tells
    pub flag-told : (y : ℕ) (at : Place) → told_of dt n reads also (Var y at) ≡ also y
    flag-told y at = ap (λ b. (b || also y) || false) (alone y) ∙ or-nothing (also y)

    pub marks-apart : (at : Place) (told : Bool) (y : ℕ) (s : Stmt) → NamesBelow (length ds) s → Holds told y s → marks ds n reads marked told s ≡ true → marks dt n reads also told (apart at y s) ≡ true
    marks-apart at told y (Then a b) l h m =
        let r = both-true (marks ds n reads marked told a) (marks ds n reads marked told b) m in
        and-true (marks dt n reads also told (apart at y a)) (marks dt n reads also told (apart at (y + count_ifs a) b)) (marks-apart at told y a l.0 (holds-first told y a b h) r.0) (marks-apart at told (y + count_ifs a) b l.1 (holds-second told y a b h) r.1)
    marks-apart at told y (If k c a b) l h m =
        let o = told || told_of ds n reads marked c in
        let r = both-true (marks ds n reads marked o a) (marks ds n reads marked o b) m in
        let e : also y ≡ o = holds-here told y k c a b h in
        let x = apart at (suc y) a in
        let z = apart at (suc y + count_ifs a) b in
        let on : told || told_of dt n reads also (Var y at) ≡ o = ap (λ b. told || b) (flag-told y at ∙ e) ∙ twice told (told_of ds n reads marked c) in
        let first = under-marks told k (Var y at) x (ap (λ o. marks dt n reads also o x) on ∙ marks-apart at o (suc y) a l.1 (holds-yes told y k c a b h) r.0) in
        let second = under-marks told k (Unary Not at (Var y at)) z (ap (λ o. marks dt n reads also o z) on ∙ marks-apart at o (suc y + count_ifs a) b l.2 (holds-no told y k c a b h) r.1) in
        let own : are_marked dt n reads also (told || told_of dt n reads also c) (y ∷ []) ≡ true =
        ap (λ b. not (told || b) || (also y && true)) (told-same ds dt n reads marked also (length ds) same c l.0) ∙ ap (λ b. not o || (b && true)) e ∙ either-not o in
        and-true (are_marked dt n reads also (told || told_of dt n reads also c) (y ∷ [])) (marks dt n reads also told (under k (Var y at) x) && (marks dt n reads also told (under k (Unary Not at (Var y at)) z) && true)) own
        (and-true (marks dt n reads also told (under k (Var y at) x)) (marks dt n reads also told (under k (Unary Not at (Var y at)) z) && true) first (and-true (marks dt n reads also told (under k (Unary Not at (Var y at)) z)) true second refl))
    marks-apart at told y s l h m = marks-same ds dt same-row more n reads marked also same told s l ∙ m

  -- ---- what goes along

  module _ (hd : Head) (edges ends edges' ends' : ℕ → Bool) (same-edges : (x : ℕ) → x < length ds → edges' x ≡ edges x) (same-ends : (x : ℕ) → x < length ds → ends' x ≡ ends x) where
    abbrev pub goes : Bool → Bool → Stmt → Bool
    goes f e s = goes_along dt n hd edges' ends' f e s

    abbrev by-end : Expr → Bool
    by-end c = told_of dt n (reads_through hd.iterator) ends' c

    abbrev by-edge : Expr → Bool
    by-edge c = told_of dt n is_edge_read edges' c

    under-goes : (f e : Bool) (k : Key) (c : Expr) (s : Stmt) → goes_along dt n hd edges' ends' (f || told_of dt n (reads_through hd.iterator) ends' c) (e || told_of dt n is_edge_read edges' c) s ≡ true → goes_along dt n hd edges' ends' f e (under k c s) ≡ true
    under-goes f e k c Skip h = refl
    under-goes f e k c (Then a b) h =
        let r = both-true (goes (f || by-end c) (e || by-edge c) a) (goes (f || by-end c) (e || by-edge c) b) h in and-true (goes f e (under k c a)) (goes f e (under k c b)) (under-goes f e k c a r.0) (under-goes f e k c b r.1)
    under-goes f e k c s h = and-true (goes (f || by-end c) (e || by-edge c) s) true h refl

    pub no-end : (x : ℕ) → reads_through hd.iterator (Ways.Alone x) ≡ false
    no-end x = refl

    pub no-edge : (x : ℕ) → is_edge_read (Ways.Alone x) ≡ false
    no-edge x = refl

    abbrev HoldsEnds : Bool → ℕ → Stmt → Type 0
    HoldsEnds told y s = Holds (reads_through hd.iterator) no-end ends ends' same-ends told y s

    abbrev HoldsEdges : Bool → ℕ → Stmt → Type 0
    HoldsEdges told y s = Holds is_edge_read no-edge edges edges' same-edges told y s

    -- p, q: whether conditions around tell; f, e: whether they do, or the filter does
    pub goes-apart : (at : Place) (p q f e : Bool) (y : ℕ) (s : Stmt) → NamesBelow (length ds) s → Holds (reads_through hd.iterator) no-end ends ends' same-ends p y s → Holds is_edge_read no-edge edges edges' same-edges q y s → (p ≡ true → f ≡ true) → (q ≡ true → e ≡ true) →
        goes_along ds n hd edges ends f e s ≡ true → goes_along dt n hd edges' ends' f e (apart at y s) ≡ true
    goes-apart at p q f e y (Then a b) l u v i j g =
        let r = both-true (goes_along ds n hd edges ends f e a) (goes_along ds n hd edges ends f e b) g in
        and-true (goes f e (apart at y a)) (goes f e (apart at (y + count_ifs a) b))
        (goes-apart at p q f e y a l.0 (holds-first (reads_through hd.iterator) no-end ends ends' same-ends p y a b u) (holds-first is_edge_read no-edge edges edges' same-edges q y a b v) i j r.0)
        (goes-apart at p q f e (y + count_ifs a) b l.1 (holds-second (reads_through hd.iterator) no-end ends ends' same-ends p y a b u) (holds-second is_edge_read no-edge edges edges' same-edges q y a b v) i j r.1)
    goes-apart at p q f e y (If k c a b) l u v i j g =
        let tf = told_of ds n (reads_through hd.iterator) ends c in
        let te = told_of ds n is_edge_read edges c in
        let r = both-true (goes_along ds n hd edges ends (f || tf) (e || te) a) (goes_along ds n hd edges ends (f || tf) (e || te) b) g in
        let x = apart at (suc y) a in
        let z = apart at (suc y + count_ifs a) b in
        let on : f || by-end (Var y at) ≡ f || tf = ap (λ b. f || b) (flag-told (reads_through hd.iterator) no-end ends ends' same-ends y at ∙ holds-here (reads_through hd.iterator) no-end ends ends' same-ends p y k c a b u) ∙ within f p tf i in
        let of : e || by-edge (Var y at) ≡ e || te = ap (λ b. e || b) (flag-told is_edge_read no-edge edges edges' same-edges y at ∙ holds-here is_edge_read no-edge edges edges' same-edges q y k c a b v) ∙ within e q te j in
        let first = under-goes f e k (Var y at) x
        (ap (λ o. goes o (e || by-edge (Var y at)) x) on ∙ ap (λ o. goes (f || tf) o x) of
        ∙ goes-apart at (p || tf) (q || te) (f || tf) (e || te) (suc y) a l.1 (holds-yes (reads_through hd.iterator) no-end ends ends' same-ends p y k c a b u) (holds-yes is_edge_read no-edge edges edges' same-edges q y k c a b v) (wider p f tf i) (wider q e te j) r.0) in
        let second = under-goes f e k (Unary Not at (Var y at)) z
        (ap (λ o. goes o (e || by-edge (Var y at)) z) on ∙ ap (λ o. goes (f || tf) o z) of
        ∙ goes-apart at (p || tf) (q || te) (f || tf) (e || te) (suc y + count_ifs a) b l.2 (holds-no (reads_through hd.iterator) no-end ends ends' same-ends p y k c a b u) (holds-no is_edge_read no-edge edges edges' same-edges q y k c a b v) (wider p f tf i) (wider q e te j) r.1) in
        and-true (goes f e (under k (Var y at) x)) (goes f e (under k (Unary Not at (Var y at)) z) && true) first (and-true (goes f e (under k (Unary Not at (Var y at)) z)) true second refl)
    goes-apart at p q f e y s l u v i j g = along-same ds dt same-row more n hd edges ends edges' ends' same-edges same-ends f e s l ∙ g
