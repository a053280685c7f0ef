-- Marks of variables that an inner body does not set may go.
use Rattle.std.proofs.Common.{◌≡◌, ℕ, Bool, true, false, List, [], ◌∷◌, ◌++◌, refl, ap, subst, Some, None}
use Rattle.std.specs.Prelude.{◌&&◌, ◌||◌, not, flat_map}
use Rattle.std.specs.List.{list_all, list_any}
use Rattle.std.proofs.lemmas.Bool.{both_ways}
use Rattle.gm_ast.specs.Loops.{any}
use Rattle.gm_ast.specs.Ways
use Rattle.gm_ast.specs.Ways.{Mention, mentions, reads_through, is_edge_read, is_through, owner_of, pulls_by_range, way_by, is_against}
use Rattle.gm_ast.specs.declared.tree.Declaration.{Declaration}
use Rattle.gm_ast.specs.declared.tree.Domain.{Domain}
use Rattle.gm_ast.specs.declared.tree.Domain.TheVariants.{Nodes, OutNbrs, InNbrs, UpNbrs, DownNbrs}
use Rattle.gm_ast.specs.declared.tree.Head.{Head}
use Rattle.gm_ast.specs.declared.tree.Target.{Target}
use Rattle.gm_ast.specs.Program.{Expr, Stmt, Then, Declare, Assign, Combine, If}
use Rattle.gm_forms.specs.Sharing.{are_at_once, written, written_at_once}
use Rattle.gm_forms.proofs.Named.{both-true}
use Rattle.gm_forms.proofs.Weaker.{and-true}
use Rattle.gm_one_way.specs.Along.{tells, marks, are_marked, goes_along, stands, parts_tell, told_of}
use Rattle.gm_one_way.proofs.Ways.{way}

pub or-less : (a b c d : Bool) → (a ≡ true → c ≡ true) → (b ≡ true → d ≡ true) → a || b ≡ true → c || d ≡ true
or-less true b c d f g h = ap (λ z. z || d) (f refl)
or-less false b true d f g h = refl
or-less false b false d f g h = g h

-- a reduction that rests on less stands where it stood
pub stands-less : (ds : List Declaration) (n : ℕ) (h : Head) (edges ends edges' ends' : ℕ → Bool) (ts : List Target) (f f' e e' : Bool) → (f' ≡ true → f ≡ true) → (e' ≡ true → e ≡ true) → stands ds n h edges ends ts f e ≡ true → stands ds n h edges' ends' ts f' e' ≡ true
stands-less ds n h edges ends edges' ends' ts f f' e false i j s = refl
stands-less ds n h edges ends edges' ends' ts f f' e true i j s = by h.domain (any (is_through h.iterator) ts) f f' i (subst (λ e. not (e && is_against h.domain (way h.domain (any (is_through h.iterator) ts) f e)) ≡ true) (j refl) s)
  where
    by : (d : Domain) (p f f' : Bool) → (f' ≡ true → f ≡ true) → not (is_against d (way d p f true)) ≡ true → not (is_against d (way d p f' true)) ≡ true
    by d true f f' i s = s
    by d false true true i s = s
    by d false false true i s = absurd (both_ways false refl (i refl))
    by Nodes false f false i s = refl
    by OutNbrs false f false i s = refl
    by InNbrs false f false i s = refl
    by UpNbrs false true false i s = s
    by UpNbrs false false false i s = s
    by DownNbrs false true false i s = s
    by DownNbrs false false false i s = s

module _ (ds : List Declaration) (n : ℕ) where
  -- fewer marks
  module _ (reads : Mention → Bool) (small big : ℕ → Bool) (less : (x : ℕ) → small x ≡ true → big x ≡ true) where
    tells-less : (m : Mention) → tells ds n reads small m ≡ true → tells ds n reads big m ≡ true
    tells-less (Ways.Alone x) h = or-less (reads (Ways.Alone x)) (small x) (reads (Ways.Alone x)) (big x) (λ e. e) (less x) h
    tells-less (Ways.Through x) h = or-less (reads (Ways.Through x)) (small x) (reads (Ways.Through x)) (big x) (λ e. e) (less x) h
    tells-less (Ways.OfEdge x at) h = h

    any-less : (ms : List Mention) → any (tells ds n reads small) ms ≡ true → any (tells ds n reads big) ms ≡ true
    any-less [] h = h
    any-less (m ∷ ms) h = or-less (tells ds n reads small m) (any (tells ds n reads small) ms) (tells ds n reads big m) (any (tells ds n reads big) ms) (tells-less m) (any-less ms) h

    told-less : (e : Expr) → told_of ds n reads small e ≡ true → told_of ds n reads big e ≡ true
    told-less e h = any-less (mentions e) h

    all-told-less : (es : List Expr) → list_any (told_of ds n reads small) es ≡ true → list_any (told_of ds n reads big) es ≡ true
    all-told-less [] h = h
    all-told-less (e ∷ es) h = or-less (told_of ds n reads small e) (list_any (told_of ds n reads small) es) (told_of ds n reads big e) (list_any (told_of ds n reads big) es) (told-less e) (all-told-less es) h

    some-less : (xs : List ℕ) → list_any small xs ≡ true → list_any big xs ≡ true
    some-less [] h = h
    some-less (x ∷ xs) h = or-less (small x) (list_any small xs) (big x) (list_any big xs) (less x) (some-less xs) h

    -- on what is set both say the same
    abbrev pub Agree : List ℕ → Type 0
    Agree [] = Unit {0}
    Agree (x ∷ xs) = (big x ≡ true → small x ≡ true) × Agree xs

    agree-first : (xs ys : List ℕ) → Agree (xs ++ ys) → Agree xs
    agree-first [] ys a = tt
    agree-first (x ∷ xs) ys a = (a.0, agree-first xs ys a.1)

    agree-second : (xs ys : List ℕ) → Agree (xs ++ ys) → Agree ys
    agree-second [] ys a = a
    agree-second (x ∷ xs) ys a = agree-second xs ys a.1

    all-agree : (xs : List ℕ) → Agree xs → list_all big xs ≡ true → list_all small xs ≡ true
    all-agree [] a h = refl
    all-agree (x ∷ xs) a h = let r = both-true (big x) (list_all big xs) h in and-true (small x) (list_all small xs) (a.0 r.0) (all-agree xs a.1 r.1)

    marked-less : (told told' : Bool) (xs : List ℕ) → (told' ≡ true → told ≡ true) → Agree xs → are_marked ds n reads big told xs ≡ true → are_marked ds n reads small told' xs ≡ true
    marked-less told false xs i a h = refl
    marked-less told true xs i a h = all-agree xs a (subst (λ b. not b || list_all big xs ≡ true) (i refl) h)

    pub marks-less : (told told' : Bool) (s : Stmt) → (told' ≡ true → told ≡ true) → Agree (written ds n true s) → marks ds n reads big told s ≡ true → marks ds n reads small told' s ≡ true
    marks-less told told' (Then a b) i g h =
        let r = both-true (marks ds n reads big told a) (marks ds n reads big told b) h in
        let x = written ds n true a in
        let y = written ds n true b in
        and-true (marks ds n reads small told' a) (marks ds n reads small told' b) (marks-less told told' a i (agree-first x y g) r.0) (marks-less told told' b i (agree-second x y g) r.1)
    marks-less told told' (Declare k x None) i g h = marked-less told told' (x ∷ []) i g h
    marks-less told told' (Declare k x (Some e)) i g h =
        marked-less (told || told_of ds n reads big e) (told' || told_of ds n reads small e) (x ∷ []) (or-less told' (told_of ds n reads small e) told (told_of ds n reads big e) i (told-less e)) g h
    marks-less told told' (Assign k t e) i g h =
        marked-less (told || told_of ds n reads big e) (told' || told_of ds n reads small e) (written ds n true (Assign k t e)) (or-less told' (told_of ds n reads small e) told (told_of ds n reads big e) i (told-less e)) g h
    marks-less told told' (Combine k total r ts es) i g h =
        let xs = written_at_once ds n true ts in
        let some = list_any (told_of ds n reads small) es in
        let more = list_any (told_of ds n reads big) es in
        marked-less (told || (list_any big xs || more)) (told' || (list_any small xs || some)) xs
        (or-less told' (list_any small xs || some) told (list_any big xs || more) i (or-less (list_any small xs) some (list_any big xs) more (some-less xs) (all-told-less es))) g h
    marks-less told told' (If k c a b) i g h =
        let o = told || told_of ds n reads big c in
        let o' = told' || told_of ds n reads small c in
        let r = both-true (marks ds n reads big o a) (marks ds n reads big o b) h in
        let x = written ds n true a in
        let y = written ds n true b in
        let j = or-less told' (told_of ds n reads small c) told (told_of ds n reads big c) i (told-less c) in
        and-true (marks ds n reads small o' a) (marks ds n reads small o' b) (marks-less o o' a j (agree-first x y g) r.0) (marks-less o o' b j (agree-second x y g) r.1)
    marks-less told told' s i g h = refl

    pub parts-less : (h : Head) (edges ends edges' ends' : ℕ → Bool) (ts : List Target) (es : List Expr) → parts_tell ds n h edges' ends' reads small ts es ≡ true → parts_tell ds n h edges ends reads big ts es ≡ true
    parts-less h edges ends edges' ends' ts es =
        or-less (any (tells ds n reads small) (flat_map owner_of ts)) (list_any (told_of ds n reads small) es) (any (tells ds n reads big) (flat_map owner_of ts)) (list_any (told_of ds n reads big) es) (any-less (flat_map owner_of ts)) (all-told-less es)

  pub along-less : (h : Head) (edges ends edges' ends' : ℕ → Bool) → ((x : ℕ) → edges' x ≡ true → edges x ≡ true) → ((x : ℕ) → ends' x ≡ true → ends x ≡ true) → (f f' e e' : Bool) (s : Stmt) → (f' ≡ true → f ≡ true) → (e' ≡ true → e ≡ true) →
      goes_along ds n h edges ends f e s ≡ true → goes_along ds n h edges' ends' f' e' s ≡ true
  along-less h edges ends edges' ends' less-edges less-ends f f' e e' (Then a b) i j g =
      let r = both-true (goes_along ds n h edges ends f e a) (goes_along ds n h edges ends f e b) g in
      and-true (goes_along ds n h edges' ends' f' e' a) (goes_along ds n h edges' ends' f' e' b) (along-less h edges ends edges' ends' less-edges less-ends f f' e e' a i j r.0) (along-less h edges ends edges' ends' less-edges less-ends f f' e e' b i j r.1)
  along-less h edges ends edges' ends' less-edges less-ends f f' e e' (Combine k total r ts es) i j g =
      let thr : Mention → Bool = reads_through h.iterator in
      let pf = parts_tell ds n h edges ends thr ends ts es in
      let pf' = parts_tell ds n h edges' ends' thr ends' ts es in
      let pe = parts_tell ds n h edges ends is_edge_read edges ts es in
      let pe' = parts_tell ds n h edges' ends' is_edge_read edges' ts es in
      or-less (are_at_once ds n true ts) (stands ds n h edges ends ts (f || pf) (e || pe)) (are_at_once ds n true ts) (stands ds n h edges' ends' ts (f' || pf') (e' || pe')) (λ o. o)
      (stands-less ds n h edges ends edges' ends' ts (f || pf) (f' || pf') (e || pe) (e' || pe') (or-less f' pf' f pf i (parts-less thr ends' ends less-ends h edges ends edges' ends' ts es)) (or-less e' pe' e pe j (parts-less is_edge_read edges' edges less-edges h edges ends edges' ends' ts es))) g
  along-less h edges ends edges' ends' less-edges less-ends f f' e e' (If k c a b) i j g =
      let thr : Mention → Bool = reads_through h.iterator in
      let o = f || told_of ds n thr ends c in
      let o' = f' || told_of ds n thr ends' c in
      let u = e || told_of ds n is_edge_read edges c in
      let u' = e' || told_of ds n is_edge_read edges' c in
      let r = both-true (goes_along ds n h edges ends o u a) (goes_along ds n h edges ends o u b) g in
      let p = or-less f' (told_of ds n thr ends' c) f (told_of ds n thr ends c) i (told-less thr ends' ends less-ends c) in
      let q = or-less e' (told_of ds n is_edge_read edges' c) e (told_of ds n is_edge_read edges c) j (told-less is_edge_read edges' edges less-edges c) in
      and-true (goes_along ds n h edges' ends' o' u' a) (goes_along ds n h edges' ends' o' u' b) (along-less h edges ends edges' ends' less-edges less-ends o o' u u' a p q r.0) (along-less h edges ends edges' ends' less-edges less-ends o o' u u' b p q r.1)
  along-less h edges ends edges' ends' less-edges less-ends f f' e e' s i j g = refl
