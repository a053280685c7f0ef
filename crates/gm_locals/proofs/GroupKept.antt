-- A loop that keeps locals in properties together keeps what every pass keeps, and its form.
use Rattle.std.proofs.Common.{◌≡◌, ◌<◌, ◌≤◌, arith, ℕ, suc, Bool, true, false, cond, List, [], ◌∷◌, ◌++◌, length, map, refl, sym, ap, subst, ◌∙◌, Option, append_assoc, ⊎_elim}
use Rattle.std.specs.Prelude.{◌&&◌, ◌||◌, nat_eq, nat_lt}
use Rattle.std.specs.List.{list_all}
use Rattle.std.proofs.lemmas.Bool.{both_ways, eq-eqb, eqb-true, lt-ltb}
use Rattle.gm_base.specs.declared.places.Place.{Place}
use Rattle.gm_value.specs.Bag.{IsIn}
use Rattle.gm_value.specs.declared.values.VType.{VType}
use Rattle.gm_value.specs.declared.values.VType.TheVariants as V
use Rattle.gm_value.specs.declared.values.Value.{Value}
use Rattle.gm_value.specs.Numbers.{zero_of}
use Rattle.gm_value.specs.Operations.{same_type}
use Rattle.gm_ast.specs.declared.tree.Declaration.{Declaration}
use Rattle.gm_ast.specs.declared.tree.Head.{Head}
use Rattle.gm_ast.specs.declared.tree.Key.{Key}
use Rattle.gm_ast.specs.declared.tree.Sort.{Sort}
use Rattle.gm_ast.specs.declared.tree.Sort.TheVariants as Sorts
use Rattle.gm_ast.specs.declared.tree.Target.TheVariants as T
use Rattle.gm_ast.specs.declared.tree.Variable.{Variable}
use Rattle.gm_ast.specs.Loops.{is_nodes}
use Rattle.gm_ast.specs.Names.{sort_eq}
use Rattle.gm_ast.specs.Program.{Expr, Var, Stmt, Skip, Foreach, sequence}
use Rattle.gm_semantics.specs.Frames.{ReadsBelow, NamesBelow}
use Rattle.gm_semantics.specs.Statements.{variable_at}
use Rattle.gm_forms.specs.Order.{second_key, begins, loop_in_order}
use Rattle.gm_forms.specs.Forms.{depth_at, is_flat, is_outer_body, is_flat_loop}
use Rattle.gm_forms.specs.Typing.{type_at, has_type, is_typed_in}
use Rattle.gm_forms.specs.Uses.{Role, Iterates, Owner, NodeValue, Told, has_role, use_as, owner_role, suits, uses_in, uses_of_head, uses_of}
use Rattle.gm_forms.proofs.Named.{both-true, all-append, names-below}
use Rattle.gm_forms.proofs.Weaker.{and-true}
use Rattle.gm_loop_laws.specs.Localised.{moved_in, moved, names_plainly}
use Rattle.gm_dissect.specs.Conditions.{holds_cut}
use Rattle.gm_dissect.specs.Deferred.{copy_of}
use Rattle.gm_dissect.specs.Locals.{declares, set_to}
use Rattle.gm_dissect.proofs.DeferredKept.{type-itself, owns, length-one, last-variable}
use Rattle.gm_dissect.proofs.DeferredLaws.{variable-longer}
use Rattle.gm_dissect.proofs.DeferredLoops.{use-of}
use Rattle.gm_dissect.proofs.Kept.{Sound, sound-then, sound-skip}
use Rattle.gm_dissect.proofs.LocalLoops.{IsLocal, declared-local}
use Rattle.gm_dissect.proofs.Longer.{all-suit, vtype-same, typed-same, shares-same, outer-body-same}
use Rattle.gm_dissect.proofs.Moved.{named-in, named-moved, has-type-moved, typed-moved, flat-moved, outer-moved}
use Rattle.gm_dissect.proofs.MovedOrder.{loop-moved}
use Rattle.gm_dissect.proofs.Setting.{set-stands}
use Rattle.gm_dissect.proofs.Undeferred.{append-true}
use Rattle.gm_locals.specs.Groups.{may_move_within, may_keep, keeps_locals, locals_row, locals_loop, kept_loop}
use Rattle.gm_locals.proofs.TargetKinds.{kinds, kinds-first, kinds-stay, kinds-alike}
use Rattle.gm_locals.proofs.SharesBeside.{shares_with, shares-beside, shares-again, shares-beside-moved}
use Rattle.gm_locals.proofs.Staying.{reads-below, names-below-moved}
use Rattle.gm_locals.proofs.UpTo.{reads-up-to, names-up-to}

-- a scalar is no property
no-property : (v : Variable) → sort_eq Sorts.Scalar v.sort ≡ true → has_role v NodeValue ≡ true → ⊥
no-property v = by v.sort
  where
    by : (s : Sort) → sort_eq Sorts.Scalar s ≡ true → sort_eq Sorts.NodeProperty s ≡ true → ⊥
    by Sorts.Graph h i = both_ways false refl h
    by Sorts.Iterator h i = both_ways false refl h
    by Sorts.Scalar h i = both_ways false refl i
    by Sorts.Edge h i = both_ways false refl h
    by Sorts.NodeProperty h i = both_ways false refl h
    by Sorts.EdgeProperty h i = both_ways false refl h

-- a scalar may be told
scalar-told : (v : Variable) → sort_eq Sorts.Scalar v.sort ≡ true → has_role v Told ≡ true
scalar-told v h = ap (λ b. b || (sort_eq Sorts.Iterator v.sort || sort_eq Sorts.Graph v.sort)) h

pub longer-length : (xs ys : List Declaration) → length xs ≤ length (xs ++ ys)
longer-length [] ys = omega arith
longer-length (x ∷ xs) ys = let h = longer-length xs ys in omega (arith, h)

-- ds: the table of the program; dt: a longer one
module _ (ds dt : List Declaration) where
  -- properties like some variables stand in the longer table from a number on
  abbrev pub Added : ℕ → List ℕ → Type 0
  Added q [] = Unit {0}
  Added q (x ∷ xs) = (q < length dt) × ((variable_at dt q ≡ (copy_of ds x).variable) × Added (suc q) xs)

-- those that are added behind a table do
pub added-behind : (ds before : List Declaration) (xs : List ℕ) → Added ds (before ++ map (copy_of ds) xs) (length before) xs
added-behind ds before [] = tt
added-behind ds before (x ∷ xs) =
    let c = copy_of ds x in
    let rest = map (copy_of ds) xs in
    let together : (before ++ (c ∷ [])) ++ rest ≡ before ++ (c ∷ rest) = append_assoc before (c ∷ []) rest in
    let one = length-one before c in
    let within = longer-length (before ++ (c ∷ [])) rest in
    let inside : length before < length (before ++ (c ∷ [])) = omega (arith, one) in
    subst (λ l. Added ds l (length before) (x ∷ xs)) together
    (omega (arith, one, within), (variable-longer (before ++ (c ∷ [])) rest (length before) inside ∙ last-variable before c, subst (λ k. Added ds ((before ++ (c ∷ [])) ++ rest) k xs) one (added-behind ds (before ++ (c ∷ [])) xs)))

-- res: the result's type
module _ (ds dt : List Declaration) (same : (x : ℕ) → x < length ds → variable_at dt x ≡ variable_at ds x) (more : length ds ≤ length dt) (res : Option VType) (key : Key) (at : Place) (hd : Head) (range : is_nodes hd.domain ≡ true)
    (head : list_all (suits dt) (uses_of_head hd) ≡ true) where
  abbrev n : ℕ
  n = hd.iterator

  abbrev first_of : ℕ → Value
  first_of x = zero_of (variable_at ds x).vtype

  suit : (y : ℕ) (role : Role) → y < length dt → has_role (variable_at dt y) role ≡ true → list_all (suits dt) (use_as role y) ≡ true
  suit y role l h = and-true (nat_lt y (length dt) && has_role (variable_at dt y) role) true (and-true (nat_lt y (length dt)) (has_role (variable_at dt y) role) (lt-ltb y (length dt) l) h) refl

  iterator : (n < length dt) × (has_role (variable_at dt n) Iterates ≡ true)
  iterator = use-of dt Iterates n (all-append (suits dt) (use_as Iterates n) (use_as (owner_role hd.domain) hd.owner) head).0

  owner-use : list_all (suits dt) (use_as Owner n) ≡ true
  owner-use = suit n Owner iterator.0 (owns (variable_at dt n) iterator.1)

  here : nat_eq n n || false ≡ true
  here = ap (λ b. b || false) (eq-eqb n n refl)

  -- what is known of the loop, whose next property has a number, and of which some locals are left to go
  record Stands (q : ℕ) (xs : List ℕ) (test : Expr) (body : Stmt) : Type 0 where
    iterates : n < q
    reads : ReadsBelow q test
    names : NamesBelow q body
    told : list_all (suits dt) (uses_in test) ≡ true
    named : list_all (suits dt) (uses_of body) ≡ true
    flag : has_type dt V.Flag test ≡ true
    typed : is_typed_in dt res body ≡ true
    order : begins (n ∷ []) key hd.place test body && loop_in_order (n ∷ []) key test body ≡ true
    share : shares_with true dt n test body ≡ true
    flat : is_flat (n ∷ []) false test ≡ true
    form : is_outer_body dt false n body ≡ true
    kind : kinds xs n body ≡ true

  -- what is known of a local
  record Goes (x : ℕ) : Type 0 where
    below : x < length ds
    deep : nat_eq (depth_at dt x) 1 ≡ true
    scalar : sort_eq Sorts.Scalar (variable_at dt x).sort ≡ true

  abbrev AllGo : List ℕ → Type 0
  AllGo [] = Unit {0}
  AllGo (x ∷ xs) = Goes x × AllGo xs

  module _ (q x : ℕ) (xs : List ℕ) (test : Expr) (body : Stmt) (stands : Stands q (x ∷ xs) test body) (goes : Goes x) (added : Added ds dt q (x ∷ xs)) where
    abbrev t : VType
    t = (variable_at ds x).vtype

    abbrev asked : Expr
    asked = moved_in x q n at (first_of x) test

    abbrev inside : Stmt
    inside = moved x q n at (first_of x) body

    property-use : list_all (suits dt) (use_as NodeValue q) ≡ true
    property-use = suit q NodeValue added.0 (ap (λ (v : Variable). has_role v NodeValue) added.1.0)

    told-use : list_all (suits dt) (use_as Told x) ≡ true
    told-use = suit x Told (let l = goes.below in let m = more in omega (arith, l, m)) (scalar-told (variable_at dt x) goes.scalar)

    typed : type_at dt x ≡ t
    typed = vtype-same ds dt same more x goes.below

    types : type_at dt q ≡ type_at dt x
    types = ap (λ (v : Variable). v.vtype) added.1.0 ∙ sym typed

    plain : (p : ℕ) → list_all (suits dt) (use_as NodeValue p) ≡ true → nat_eq p x ≡ false
    plain p h = by (nat_eq p x) refl
      where
        by : (b : Bool) → nat_eq p x ≡ b → b ≡ false
        by true e = absurd (no-property (variable_at dt x) goes.scalar (subst (λ z. has_role (variable_at dt z) NodeValue ≡ true) (eqb-true p x e) (use-of dt NodeValue p h).1))
        by false e = refl

    first-sound : Sound dt res (set_to q x at hd)
    first-sound = record {
      named = append-true (suits dt) (uses_of_head hd) ((use_as Owner n ++ use_as NodeValue q) ++ use_as Told x) head
          (append-true (suits dt) (use_as Owner n ++ use_as NodeValue q) (use_as Told x) (append-true (suits dt) (use_as Owner n) (use_as NodeValue q) owner-use property-use) told-use);
      typed = ap (λ z. same_type z (type_at dt x)) types ∙ type-itself (type_at dt x);
      order = set-stands (n ∷ []) (n ∷ []) hd.place second_key (T.Property n q at) (Var x at) refl refl;
      share = refl;
      form = and-true (is_nodes hd.domain) (nat_eq n n && true) range (ap (λ z. z && true) (eq-eqb n n refl));
    }

    stands-still : Stands (suc q) xs asked inside
    stands-still = record {
      iterates = let a = stands.iterates in omega (arith, a);
      reads = reads-below x q n at (first_of x) stands.iterates test stands.reads;
      names = names-below-moved x q n at (first_of x) stands.iterates body stands.names;
      told = named-in dt x q n at t owner-use property-use test stands.told;
      named = named-moved dt x q n at t owner-use property-use body stands.named;
      flag = has-type-moved dt x q n at t types typed V.Flag test ∙ stands.flag;
      typed = typed-moved dt x q n at t types typed res body ∙ stands.typed;
      order = loop-moved x q n at t (n ∷ []) here key hd.place test body ∙ stands.order;
      share = shares-beside-moved dt x q q n at t (omega arith) stands.iterates iterator.1 goes.deep plain true true refl test body stands.reads stands.names stands.named stands.share;
      flat = flat-moved dt x q n at t goes.deep (n ∷ []) false here test ∙ stands.flat;
      form = outer-moved dt x q n at t goes.deep body ∙ stands.form;
      kind = kinds-stay x q n at (first_of x) xs body stands.names stands.kind;
    }

  loop-sound : (q : ℕ) (test : Expr) (body : Stmt) → Stands q [] test body → Sound dt res (Foreach key at hd test body)
  loop-sound q test body stands = record {
    named = append-true (suits dt) (uses_of_head hd) (uses_in test ++ uses_of body) head (append-true (suits dt) (uses_in test) (uses_of body) stands.told stands.named);
    typed = and-true (has_type dt V.Flag test) (is_typed_in dt res body) stands.flag stands.typed;
    order = stands.order;
    share = shares-again dt n test body stands.share (kinds-alike n body stands.kind);
    form = and-true (is_nodes hd.domain) (is_flat (n ∷ []) false test && is_outer_body dt false n body) range (and-true (is_flat (n ∷ []) false test) (is_outer_body dt false n body) stands.flat stands.form);
  }

  row-sound : (xs : List ℕ) (q : ℕ) (test : Expr) (body : Stmt) → Stands q xs test body → AllGo xs → Added ds dt q xs → Sound dt res (sequence (locals_row ds xs q key at hd test body))
  row-sound [] q test body stands all added = sound-then dt res (Foreach key at hd test body) Skip (loop-sound q test body stands) (sound-skip dt res)
  row-sound (x ∷ xs) q test body stands all added =
      let asks = moved_in x q n at (first_of x) test in
      let does = moved x q n at (first_of x) body in
      sound-then dt res (set_to q x at hd) (sequence (locals_row ds xs (suc q) key at hd asks does)) (first-sound q x xs test body stands all.0 added)
      (row-sound xs (suc q) asks does (stands-still q x xs test body stands all.0 added) all.1 added.1.1)

  locals-sound : (xs : List ℕ) (q : ℕ) (test : Expr) (body : Stmt) → Stands q xs test body → AllGo xs → Added ds dt q xs → Sound dt res (locals_loop ds xs q key at hd test body)
  locals-sound [] q test body stands all added = loop-sound q test body stands
  locals-sound (x ∷ xs) q test body stands all added = row-sound (x ∷ xs) q test body stands all added

-- a loop that keeps locals keeps what it should, in a longer table that has their properties
module _ (ds dt : List Declaration) (same : (x : ℕ) → x < length ds → variable_at dt x ≡ variable_at ds x) (more : length ds ≤ length dt) (res : Option VType) where
  module _ (key : Key) (at : Place) (hd : Head) (test : Expr) (body : Stmt) (sound : Sound ds res (Foreach key at hd test body)) where
    abbrev it : ℕ
    it = hd.iterator

    below : NamesBelow (length ds) (Foreach key at hd test body)
    below = names-below ds (Foreach key at hd test body) sound.named

    -- the loop as it is
    pub longer-loop : Sound dt res (Foreach key at hd test body)
    longer-loop = record {
      named = all-suit ds dt same more (uses_of (Foreach key at hd test body)) sound.named;
      typed = typed-same ds dt same more res (Foreach key at hd test body) below ∙ sound.typed;
      order = sound.order;
      share = shares-same ds dt same more it test body below.3 ∙ sound.share;
      form = ap (λ b. is_nodes hd.domain && (is_flat (it ∷ []) false test && b)) (outer-body-same ds dt same more it body below.3) ∙ sound.form;
    }

    head-named : list_all (suits dt) (uses_of_head hd) ≡ true
    head-named = (all-append (suits dt) (uses_of_head hd) (uses_in test ++ uses_of body) longer-loop.named).0

    range : is_nodes hd.domain ≡ true
    range = (both-true (is_nodes hd.domain) (is_flat_loop dt false it test body) longer-loop.form).0

    local-of : (x : ℕ) → declares x body ≡ true → IsLocal ds it x
    local-of x d =
        let f = both-true (is_nodes hd.domain) (is_flat_loop ds false it test body) sound.form in
        let g = both-true (is_flat (it ∷ []) false test) (is_outer_body ds false it body) f.1 in
        let r = all-append (suits ds) (uses_of_head hd) (uses_in test ++ uses_of body) sound.named in
        let s = all-append (suits ds) (uses_in test) (uses_of body) r.1 in
        declared-local ds it x body g.1 s.1 d

    module _ (xs : List ℕ) where
      abbrev May : List ℕ → Type 0
      May ys = list_all (may_keep ds xs it test body) ys ≡ true

      abbrev AllGoing : List ℕ → Type 0
      AllGoing ys = AllGo ds dt same more res key at hd range head-named ys

      all-go : (ys : List ℕ) → May ys → AllGoing ys
      all-go [] m = tt
      all-go (x ∷ ys) m =
          let r = both-true (may_keep ds xs it test body x) (list_all (may_keep ds xs it test body) ys) m in
          let a = both-true (sort_eq Sorts.Scalar (variable_at ds x).sort) (declares x body && (names_plainly x test && may_move_within xs x it body)) r.0 in
          let b = both-true (declares x body) (names_plainly x test && may_move_within xs x it body) a.1 in
          let is = local-of x b.0 in
          (record { below = is.0; deep = ap (λ (v : Variable). nat_eq v.depth 1) (same x is.0) ∙ is.1.0; scalar = ap (λ (v : Variable). sort_eq Sorts.Scalar v.sort) (same x is.0) ∙ a.0 }, all-go ys r.1)

      within-all : (ys : List ℕ) → May ys → (x : ℕ) → IsIn x ys → may_move_within xs x it body ≡ true
      within-all [] m x i = absurd i
      within-all (y ∷ ys) m x i =
          let r = both-true (may_keep ds xs it test body y) (list_all (may_keep ds xs it test body) ys) m in
          let a = both-true (sort_eq Sorts.Scalar (variable_at ds y).sort) (declares y body && (names_plainly y test && may_move_within xs y it body)) r.0 in
          let b = both-true (declares y body) (names_plainly y test && may_move_within xs y it body) a.1 in
          let c = both-true (names_plainly y test) (may_move_within xs y it body) b.1 in
          ⊎_elim (λ (e : x ≡ y). subst (λ z. may_move_within xs z it body ≡ true) (sym e) c.1) (λ j. within-all ys r.1 x j) i

      stands-first : (q : ℕ) → length ds ≤ q → May xs → Stands ds dt same more res key at hd range head-named q xs test body
      stands-first q least may =
          let u = all-append (suits dt) (uses_in test) (uses_of body) (all-append (suits dt) (uses_of_head hd) (uses_in test ++ uses_of body) longer-loop.named).1 in
          let w = both-true (has_type dt V.Flag test) (is_typed_in dt res body) longer-loop.typed in
          let f = both-true (is_nodes hd.domain) (is_flat_loop dt false it test body) longer-loop.form in
          let g = both-true (is_flat (it ∷ []) false test) (is_outer_body dt false it body) f.1 in
          let s = shares-beside dt it test body longer-loop.share in
          record {
            iterates = let a = below.0 in omega (arith, a, least);
            reads = reads-up-to (length ds) q least test below.2;
            names = names-up-to (length ds) q least body below.3;
            told = u.0;
            named = u.1;
            flag = w.0;
            typed = w.1;
            order = longer-loop.order;
            share = s.1;
            flat = g.0;
            form = g.1;
            kind = kinds-first xs it body (within-all xs may) s.0;
          }

      -- locals that may all be kept together, in properties from a number on
      pub together-sound : (q : ℕ) → length ds ≤ q → May xs → Added ds dt q xs → Sound dt res (locals_loop ds xs q key at hd test body)
      together-sound q least may added = locals-sound ds dt same more res key at hd range head-named xs q test body (stands-first q least may) (all-go xs may) added

-- the loops that keep some locals keep what they should
module _ (ds : List Declaration) (xs : List ℕ) (res : Option VType) where
  abbrev dt : List Declaration
  dt = ds ++ map (copy_of ds) xs

  same : (y : ℕ) → y < length ds → variable_at dt y ≡ variable_at ds y
  same y h = variable-longer ds (map (copy_of ds) xs) y h

  pub more : length ds ≤ length dt
  more = longer-length ds (map (copy_of ds) xs)

  pub group-sound : (key : Key) (at : Place) (hd : Head) (test : Expr) (body : Stmt) → Sound ds res (Foreach key at hd test body) → Sound dt res (kept_loop ds xs (length ds) key at hd test body)
  group-sound key at hd test body sound = by (keeps_locals ds xs hd.iterator test body) refl
    where
      by : (b : Bool) → keeps_locals ds xs hd.iterator test body ≡ b → Sound dt res (cond b (locals_loop ds xs (length ds) key at hd test body) (Foreach key at hd test body))
      by true e =
          let may = (both-true (holds_cut hd.iterator body) (list_all (may_keep ds xs hd.iterator test body) xs) e).1 in
          together-sound ds dt same more res key at hd test body sound xs (length ds) (omega arith) may (added-behind ds ds xs)
      by false e = longer-loop ds dt same more res key at hd test body sound
