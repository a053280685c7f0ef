-- Where a local of an outer body is kept in a property of the loop's node, inner loops read along as before: what they set themselves does not change.
use Rattle.std.proofs.Common.{◌≡◌, ℕ, Bool, true, false, cond, List, [], ◌∷◌, ◌++◌, map, refl, sym, ap, ◌∙◌, Option, Some, None}
use Rattle.std.specs.Prelude.{◌&&◌, ◌||◌, not, nat_eq, nat_lt, flat_map}
use Rattle.std.specs.List.{list_any}
use Rattle.std.proofs.lemmas.Bool.{both_ways, eqb-true, eq-eqb}
use Rattle.gm_base.specs.declared.places.Place.{Place}
use Rattle.gm_value.specs.declared.values.VType.{VType}
use Rattle.gm_value.specs.Numbers.{zero_of}
use Rattle.gm_ast.specs.Loops.{any}
use Rattle.gm_ast.specs.Ways
use Rattle.gm_ast.specs.Ways.{Mention, mentions, reads_through, is_edge_read, is_through, owner_of, way_by, is_against}
use Rattle.gm_ast.specs.declared.tree.Declaration.{Declaration}
use Rattle.gm_ast.specs.declared.tree.Head.{Head}
use Rattle.gm_ast.specs.declared.tree.Key.{Key}
use Rattle.gm_ast.specs.declared.tree.Target.{Target}
use Rattle.gm_ast.specs.declared.tree.Target.TheVariants as T
use Rattle.gm_ast.specs.Program.{Expr, Const, Var, Property, Unary, Binary, Both, Either, Choose, Stmt, Skip, Then, Declare, DeclareEdge, Assign, Defer, Combine, Group, Foreach, For, If, While, Do, InBfs, InBfsBoth, Return}
use Rattle.gm_forms.specs.Forms.{depth_at, is_flat, is_range, is_inner_body, is_inner_head, is_outer_body}
use Rattle.gm_forms.specs.Sharing.{are_at_once, variables_of, written_at_once}
use Rattle.gm_forms.proofs.Named.{both-true}
use Rattle.gm_loop_laws.specs.Localised.{moved_in, moved_target, moved_declared, moved}
use Rattle.gm_one_way.specs.Along.{tells, marks, are_marked, goes_along, stands, parts_tell, told_of}
use Rattle.gm_one_way.proofs.Longer.{or-same, and-same, or-assoc}
use Rattle.gm_one_way.proofs.Silent.{no-true}
use Rattle.gm_one_way.proofs.Slimmed.{Slim, AllSlim}
use Rattle.gm_one_way.proofs.Ways.{way}

nat-other : (t n : ℕ) → nat_eq t n ≡ false → nat_eq n t ≡ false
nat-other t n h = by (nat_eq n t) refl
  where
    by : (b : Bool) → nat_eq n t ≡ b → nat_eq n t ≡ false
    by true e = absurd (both_ways (nat_eq t n) h (eq-eqb t n (sym (eqb-true n t e))))
    by false e = e

-- dt: the table; x: the local; q: its property; n: the iterator; ty: the local's type
module _ (dt : List Declaration) (x q n : ℕ) (at : Place) (ty : VType) (deep : nat_eq (depth_at dt x) 1 ≡ true) where
  abbrev mi : Expr → Expr
  mi e = moved_in x q n at (zero_of ty) e

  abbrev mt : Target → Target
  mt t = moved_target x q n at (zero_of ty) t

  abbrev mv : Stmt → Stmt
  mv s = moved x q n at (zero_of ty) s

  -- it is no local of an inner body
  shallow : (y : ℕ) → nat_lt 1 (depth_at dt y) ≡ true → nat_eq y x ≡ false
  shallow y d = by (nat_eq y x) refl
    where
      by : (b : Bool) → nat_eq y x ≡ b → nat_eq y x ≡ false
      by true e = absurd (both_ways (nat_lt 1 (depth_at dt y)) (ap (λ z. nat_lt 1 (depth_at dt z)) (eqb-true y x e) ∙ ap (λ d. nat_lt 1 d) (eqb-true (depth_at dt x) 1 deep)) d)
      by false e = e

  two : (y : ℕ) → nat_eq (depth_at dt y) 2 ≡ true → nat_eq y x ≡ false
  two y d = shallow y (ap (λ d. nat_lt 1 d) (eqb-true (depth_at dt y) 2 d))

  outer-low : nat_lt 1 (depth_at dt x) ≡ false
  outer-low = ap (λ d. nat_lt 1 d) (eqb-true (depth_at dt x) 1 deep)

  -- what is reduced at once
  once-same : (ts : List Target) → are_at_once dt n true (map mt ts) ≡ are_at_once dt n true ts
  once-same [] = refl
  once-same (T.Scalar y p ∷ ts) = by (once-same ts) (nat_eq y x) refl
    where
      by : are_at_once dt n true (map mt ts) ≡ are_at_once dt n true ts → (b : Bool) → nat_eq y x ≡ b → are_at_once dt n true (cond b (T.Property n q p) (T.Scalar y p) ∷ map mt ts) ≡ nat_lt 1 (depth_at dt y) && are_at_once dt n true ts
      by rest true e = sym (ap (λ b. b && are_at_once dt n true ts) (ap (λ z. nat_lt 1 (depth_at dt z)) (eqb-true y x e) ∙ outer-low))
      by rest false e = ap (λ b. nat_lt 1 (depth_at dt y) && b) rest
  once-same (T.Property y r p ∷ ts) = refl

  -- targets of it stay
  stay : (ts : List Target) → are_at_once dt n true ts ≡ true → map mt ts ≡ ts
  stay [] h = refl
  stay (T.Scalar y p ∷ ts) h =
      let r = both-true (nat_lt 1 (depth_at dt y)) (are_at_once dt n true ts) h in ap (λ b. cond b (T.Property n q p) (T.Scalar y p) ∷ map mt ts) (shallow y r.0) ∙ ap (λ l. T.Scalar y p ∷ l) (stay ts r.1)
  stay (T.Property y r p ∷ ts) h = absurd (both_ways false refl h)

  written-same : (ts : List Target) → written_at_once dt n true (map mt ts) ≡ written_at_once dt n true ts
  written-same ts = ap (λ o. cond o (variables_of (map mt ts)) []) (once-same ts) ∙ by (are_at_once dt n true ts) refl
    where
      by : (o : Bool) → are_at_once dt n true ts ≡ o → cond o (variables_of (map mt ts)) [] ≡ cond o (variables_of ts) []
      by true e = ap variables_of (stay ts e)
      by false e = refl

  -- f: a test of mentions, of which the property's read passes where the local's does
  module _ (f : Mention → Bool) (same : f (Ways.Through n) ≡ f (Ways.Alone x)) where
    any-split : (ps qs : List Mention) → any f (ps ++ qs) ≡ any f ps || any f qs
    any-split [] qs = refl
    any-split (m ∷ ps) qs = ap (λ b. f m || b) (any-split ps qs) ∙ sym (or-assoc (f m) (any f ps) (any f qs))

    both-same : (ps qs us vs : List Mention) → any f ps ≡ any f us → any f qs ≡ any f vs → any f (ps ++ qs) ≡ any f (us ++ vs)
    both-same ps qs us vs p q = any-split ps qs ∙ or-same (any f ps) (any f qs) (any f us) (any f vs) p q ∙ sym (any-split us vs)

    any-moved : (e : Expr) → any f (mentions (mi e)) ≡ any f (mentions e)
    any-moved (Var y p) = by (nat_eq y x) refl
      where
        by : (b : Bool) → nat_eq y x ≡ b → any f (mentions (cond b (Property n q p) (Var y p))) ≡ f (Ways.Alone y) || false
        by true e = ap (λ b. b || false) (same ∙ ap (λ z. f (Ways.Alone z)) (sym (eqb-true y x e)))
        by false e = refl
    any-moved (Unary op p e) = any-moved e
    any-moved (Binary op p a b) = both-same (mentions (mi a)) (mentions (mi b)) (mentions a) (mentions b) (any-moved a) (any-moved b)
    any-moved (Both a b) = both-same (mentions (mi a)) (mentions (mi b)) (mentions a) (mentions b) (any-moved a) (any-moved b)
    any-moved (Either a b) = both-same (mentions (mi a)) (mentions (mi b)) (mentions a) (mentions b) (any-moved a) (any-moved b)
    any-moved (Choose c a b) =
        both-same (mentions (mi c)) (mentions (mi a) ++ mentions (mi b)) (mentions c) (mentions a ++ mentions b) (any-moved c) (both-same (mentions (mi a)) (mentions (mi b)) (mentions a) (mentions b) (any-moved a) (any-moved b))
    any-moved e = refl

  -- reads: a kind of reads; marked: what rests on them
  module _ (reads : Mention → Bool) (alone : (y : ℕ) → reads (Ways.Alone y) ≡ false) (outer : reads (Ways.Through n) ≡ false) (marked : ℕ → Bool) (at-n : marked n ≡ false) (at-x : marked x ≡ false) where
    abbrev tell : Mention → Bool
    tell m = tells dt n reads marked m

    told-moved : (e : Expr) → told_of dt n reads marked (mi e) ≡ told_of dt n reads marked e
    told-moved e =
        any-moved tell (or-same (reads (Ways.Through n)) (marked n) false false outer at-n ∙ sym (or-same (reads (Ways.Alone x)) (marked x) false false (alone x) at-x)) e

    all-told : (es : List Expr) → list_any (told_of dt n reads marked) (map mi es) ≡ list_any (told_of dt n reads marked) es
    all-told [] = refl
    all-told (e ∷ es) = or-same (told_of dt n reads marked (mi e)) (list_any (told_of dt n reads marked) (map mi es)) (told_of dt n reads marked e) (list_any (told_of dt n reads marked) es) (told-moved e) (all-told es)

    owners-same : (ts : List Target) → any (tells dt n reads marked) (flat_map owner_of (map mt ts)) ≡ any (tells dt n reads marked) (flat_map owner_of ts)
    owners-same [] = refl
    owners-same (T.Scalar y p ∷ ts) = by (owners-same ts) (nat_eq y x)
      where
        by : any (tells dt n reads marked) (flat_map owner_of (map mt ts)) ≡ any (tells dt n reads marked) (flat_map owner_of ts) → (b : Bool) → any (tells dt n reads marked) (flat_map owner_of (cond b (T.Property n q p) (T.Scalar y p) ∷ map mt ts)) ≡ any (tells dt n reads marked) (flat_map owner_of ts)
        by rest true = or-same (reads (Ways.Alone n) || marked n) (any tell (flat_map owner_of (map mt ts))) false (any tell (flat_map owner_of ts)) (or-same (reads (Ways.Alone n)) (marked n) false false (alone n) at-n) rest
        by rest false = rest
    owners-same (T.Property y r p ∷ ts) = ap (λ b. tell (Ways.Alone y) || b) (owners-same ts)

    pub parts-same : (h : Head) (edges ends : ℕ → Bool) (ts : List Target) (es : List Expr) → parts_tell dt n h edges ends reads marked (map mt ts) (map mi es) ≡ parts_tell dt n h edges ends reads marked ts es
    parts-same h edges ends ts es = or-same (any tell (flat_map owner_of (map mt ts))) (list_any (told_of dt n reads marked) (map mi es)) (any tell (flat_map owner_of ts)) (list_any (told_of dt n reads marked) es) (owners-same ts) (all-told es)

    pub marks-moved : (its : List ℕ) (told : Bool) (s : Stmt) → is_inner_body dt its true s ≡ true → marks dt n reads marked told (mv s) ≡ marks dt n reads marked told s
    marks-moved its told Skip g = refl
    marks-moved its told (Then a b) g =
        let r = both-true (is_inner_body dt its true a) (is_inner_body dt its true b) g in
        and-same (marks dt n reads marked told (mv a)) (marks dt n reads marked told (mv b)) (marks dt n reads marked told a) (marks dt n reads marked told b) (marks-moved its told a r.0) (marks-moved its told b r.1)
    marks-moved its told (Declare k y None) g = ap (λ b. marks dt n reads marked told (cond b (Assign k (T.Property n q at) (Const (zero_of ty))) (Declare k y None))) (two y (both-true (nat_eq (depth_at dt y) 2) true g).0)
    marks-moved its told (Declare k y (Some e)) g =
        ap (λ b. marks dt n reads marked told (cond b (Assign k (T.Property n q at) (mi e)) (Declare k y (Some (mi e))))) (two y (both-true (nat_eq (depth_at dt y) 2) (is_flat its true e) g).0)
        ∙ ap (λ b. are_marked dt n reads marked (told || b) (y ∷ [])) (told-moved e)
    marks-moved its told (DeclareEdge y z p) g = refl
    marks-moved its told (Assign k (T.Scalar y p) e) g =
        ap (λ b. marks dt n reads marked told (Assign k (cond b (T.Property n q p) (T.Scalar y p)) (mi e))) (two y (both-true (nat_eq (depth_at dt y) 2) (is_flat its true e) g).0)
        ∙ ap (λ b. are_marked dt n reads marked (told || b) (y ∷ [])) (told-moved e)
    marks-moved its told (Assign k (T.Property y r p) e) g = absurd (both_ways false refl g)
    marks-moved its told (Defer k t e) g = absurd (both_ways false refl g)
    marks-moved its told (Combine k total r ts es) g =
        let f : List ℕ → Bool → Bool = λ xs o. are_marked dt n reads marked (told || (list_any marked xs || o)) xs in
        ap (λ xs. f xs (list_any (told_of dt n reads marked) (map mi es))) (written-same ts) ∙ ap (f (written_at_once dt n true ts)) (all-told es)
    marks-moved its told (Group k p u r e) g = absurd (both_ways false refl g)
    marks-moved its told (Foreach k p hd test body) g = absurd (both_ways false refl g)
    marks-moved its told (For k p hd test body) g = absurd (both_ways false refl g)
    marks-moved its told (If k c a b) g =
        let o = both-true (is_flat its true c) (is_inner_body dt its true a && is_inner_body dt its true b) g in
        let r = both-true (is_inner_body dt its true a) (is_inner_body dt its true b) o.1 in
        let f = told || told_of dt n reads marked c in
        ap (λ f. marks dt n reads marked f (mv a) && marks dt n reads marked f (mv b)) (ap (λ b. told || b) (told-moved c))
        ∙ and-same (marks dt n reads marked f (mv a)) (marks dt n reads marked f (mv b)) (marks dt n reads marked f a) (marks dt n reads marked f b) (marks-moved its f a r.0) (marks-moved its f b r.1)
    marks-moved its told (While k p c body) g = absurd (both_ways false refl g)
    marks-moved its told (Do k p body c) g = absurd (both_ways false refl g)
    marks-moved its told (InBfs k p hd c body) g = absurd (both_ways false refl g)
    marks-moved its told (InBfsBoth k p hd c body bk d back) g = absurd (both_ways false refl g)
    marks-moved its told (Return k p e) g = absurd (both_ways false refl g)

  -- ---- ways

  through-same : (t : ℕ) → nat_eq n t ≡ false → (ts : List Target) → any (is_through t) (map mt ts) ≡ any (is_through t) ts
  through-same t o [] = refl
  through-same t o (T.Scalar y p ∷ ts) = by (through-same t o ts) (nat_eq y x)
    where
      by : any (is_through t) (map mt ts) ≡ any (is_through t) ts → (b : Bool) → any (is_through t) (cond b (T.Property n q p) (T.Scalar y p) ∷ map mt ts) ≡ any (is_through t) ts
      by rest true = ap (λ b. b || any (is_through t) (map mt ts)) o ∙ rest
      by rest false = rest
  through-same t o (T.Property y r p ∷ ts) = ap (λ b. nat_eq y t || b) (through-same t o ts)

  module _ (h : Head) (other : nat_eq n h.iterator ≡ false) (edges ends : ℕ → Bool) (edges-n : edges n ≡ false) (edges-x : edges x ≡ false) (ends-n : ends n ≡ false) (ends-x : ends x ≡ false) where
    abbrev thr : Mention → Bool
    thr = reads_through h.iterator

    abbrev end-of : Expr → Bool
    end-of e = told_of dt n (reads_through h.iterator) ends e

    abbrev edge-of : Expr → Bool
    edge-of e = told_of dt n is_edge_read edges e

    end-moved : (e : Expr) → told_of dt n (reads_through h.iterator) ends (mi e) ≡ told_of dt n (reads_through h.iterator) ends e
    end-moved e = told-moved thr (λ y. refl) other ends ends-n ends-x e

    edge-moved : (e : Expr) → told_of dt n is_edge_read edges (mi e) ≡ told_of dt n is_edge_read edges e
    edge-moved e = told-moved is_edge_read (λ y. refl) refl edges edges-n edges-x e

    along-moved : (f e : Bool) (s : Stmt) → goes_along dt n h edges ends f e (mv s) ≡ goes_along dt n h edges ends f e s
    along-moved f e (Then a b) = and-same (goes_along dt n h edges ends f e (mv a)) (goes_along dt n h edges ends f e (mv b)) (goes_along dt n h edges ends f e a) (goes_along dt n h edges ends f e b) (along-moved f e a) (along-moved f e b)
    along-moved f e (Declare k y None) = by (nat_eq y x)
      where
        by : (b : Bool) → goes_along dt n h edges ends f e (cond b (Assign k (T.Property n q at) (Const (zero_of ty))) (Declare k y None)) ≡ true
        by true = refl
        by false = refl
    along-moved f e (Declare k y (Some v)) = by (nat_eq y x)
      where
        by : (b : Bool) → goes_along dt n h edges ends f e (cond b (Assign k (T.Property n q at) (mi v)) (Declare k y (Some (mi v)))) ≡ true
        by true = refl
        by false = refl
    along-moved f e (Combine k total r ts es) =
        let pf = parts_tell dt n h edges ends thr ends ts es in
        let pe = parts_tell dt n h edges ends is_edge_read edges ts es in
        let pf' = parts_tell dt n h edges ends thr ends (map mt ts) (map mi es) in
        let pe' = parts_tell dt n h edges ends is_edge_read edges (map mt ts) (map mi es) in
        let g : Bool → Bool → Bool → Bool = λ p u v. not (v && is_against h.domain (way h.domain p u v)) in
        or-same (are_at_once dt n true (map mt ts)) (stands dt n h edges ends (map mt ts) (f || pf') (e || pe')) (are_at_once dt n true ts) (stands dt n h edges ends ts (f || pf) (e || pe)) (once-same ts)
        (ap (λ p. g p (f || pf') (e || pe')) (through-same h.iterator other ts) ∙ ap (λ b. g (any (is_through h.iterator) ts) (f || b) (e || pe')) (parts-same thr (λ y. refl) other ends ends-n ends-x h edges ends ts es)
        ∙ ap (λ b. g (any (is_through h.iterator) ts) (f || pf) (e || b)) (parts-same is_edge_read (λ y. refl) refl edges edges-n edges-x h edges ends ts es))
    along-moved f e (If k c a b) =
        let u = f || end-of c in
        let v = e || edge-of c in
        let g : Bool → Bool → Bool = λ u v. goes_along dt n h edges ends u v (mv a) && goes_along dt n h edges ends u v (mv b) in
        ap (λ b. g (f || b) (e || edge-of (mi c))) (end-moved c) ∙ ap (λ b. g u (e || b)) (edge-moved c)
        ∙ and-same (goes_along dt n h edges ends u v (mv a)) (goes_along dt n h edges ends u v (mv b)) (goes_along dt n h edges ends u v a) (goes_along dt n h edges ends u v b) (along-moved u v a) (along-moved u v b)
    along-moved f e s = refl

  -- ---- inner loops

  inner-moved : (h : Head) (test : Expr) (body : Stmt) → is_inner_head false n h ≡ true → is_inner_body dt (n ∷ h.iterator ∷ []) true body ≡ true → Slim dt n h test body → Slim dt n h (mi test) (mv body)
  inner-moved h test body head form e =
      let its = n ∷ h.iterator ∷ [] in
      let apart = both-true (nat_eq h.owner n) (not (nat_eq h.iterator n)) (both-true (is_range false h.domain) (nat_eq h.owner n && not (nat_eq h.iterator n)) head).1 in
      let other = nat-other h.iterator n (no-true (nat_eq h.iterator n) apart.1) in
      let edges-x = e.edges_deep x outer-low in
      let ends-x = e.ends_deep x outer-low in
      let g : Bool → Bool → Bool = λ u v. goes_along dt n h e.along.edges e.along.ends u v (mv body) in
      record {
        along = record {
          edges = e.along.edges;
          ends = e.along.ends;
          edges_marked = marks-moved is_edge_read (λ y. refl) refl e.along.edges e.edges_outer edges-x its false body form ∙ e.along.edges_marked;
          ends_marked = marks-moved (reads_through h.iterator) (λ y. refl) other e.along.ends e.ends_outer ends-x its false body form ∙ e.along.ends_marked;
          along =
              ap (λ u. g u (any is_edge_read (mentions (mi test)))) (any-moved (reads_through h.iterator) other test) ∙ ap (g (any (reads_through h.iterator) (mentions test))) (any-moved is_edge_read refl test)
              ∙ along-moved h other e.along.edges e.along.ends e.edges_outer edges-x e.ends_outer ends-x (any (reads_through h.iterator) (mentions test)) (any is_edge_read (mentions test)) body ∙ e.along.along;
        };
        edges_outer = e.edges_outer;
        ends_outer = e.ends_outer;
        edges_deep = e.edges_deep;
        ends_deep = e.ends_deep;
      }

  declared-moved : (k : Key) (y : ℕ) (e : Option Expr) → AllSlim dt n (moved_declared x q n at (zero_of ty) k y e)
  declared-moved k y None = by (nat_eq y x)
    where
      by : (b : Bool) → AllSlim dt n (cond b (Assign k (T.Property n q at) (Const (zero_of ty))) (Declare k y None))
      by true = tt
      by false = tt
  declared-moved k y (Some v) = by (nat_eq y x)
    where
      by : (b : Bool) → AllSlim dt n (cond b (Assign k (T.Property n q at) (mi v)) (Declare k y (Some (mi v))))
      by true = tt
      by false = tt

  pub all-moved : (s : Stmt) → is_outer_body dt false n s ≡ true → AllSlim dt n s → AllSlim dt n (mv s)
  all-moved (Then a b) g e = let r = both-true (is_outer_body dt false n a) (is_outer_body dt false n b) g in (all-moved a r.0 e.0, all-moved b r.1 e.1)
  all-moved (If k c a b) g e =
      let o = both-true (is_flat (n ∷ []) false c) (is_outer_body dt false n a && is_outer_body dt false n b) g in
      let r = both-true (is_outer_body dt false n a) (is_outer_body dt false n b) o.1 in
      (all-moved a r.0 e.0, all-moved b r.1 e.1)
  all-moved (Foreach k p h test body) g e =
      let its = n ∷ h.iterator ∷ [] in
      let o = both-true (is_inner_head false n h) (is_flat its true test && is_inner_body dt its true body) g in
      inner-moved h test body o.0 (both-true (is_flat its true test) (is_inner_body dt its true body) o.1).1 e
  all-moved (Declare k y v) g e = declared-moved k y v
  all-moved s g e = tt
