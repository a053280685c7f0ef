-- The targets of one reduction are scalars, or properties through one variable, and none stands twice.
use Rattle.std.proofs.Common.{◌≡◌, ℕ, inl, inr, Bool, true, false, List, [], ◌∷◌, ◌++◌, map, refl, sym, ap, subst, ◌∙◌, Option, Some, None}
use Rattle.std.specs.Prelude.{◌&&◌, ◌||◌, not, nat_eq, is_none, is_some, slice_get, if◌then◌else◌, Ok}
use Rattle.std.specs.List.{list_all}
use Rattle.std.specs.Str.{bytes_eq}
use Rattle.std.specs.Cmp.Derive.{both_true}
use Rattle.std.proofs.lemmas.Bool.{both_ways, eqb-true, eq-eqb}
use Rattle.std.proofs.lemmas.Option.{none-some}
use Rattle.gm_base.specs.declared.places.Place.{Place}
use Rattle.gm_base.specs.declared.rules.Rule.TheVariants.{T7, T12}
use Rattle.gm_ast.specs.declared.tree.Declaration.{Declaration}
use Rattle.gm_ast.specs.declared.tree.Sort.{Sort}
use Rattle.gm_ast.specs.declared.tree.Sort.TheVariants as Sorts
use Rattle.gm_ast.specs.declared.tree.Target.{Target}
use Rattle.gm_ast.specs.declared.tree.Target.TheVariants as T
use Rattle.gm_ast.specs.declared.kinds.Binding.{Binding}
use Rattle.gm_ast.specs.declared.kinds.Goal.{Goal}
use Rattle.gm_ast.specs.Surface.{SurfaceName, SurfaceTarget}
use Rattle.gm_ast.specs.Judged.{both_of, ok_of, refused, unless}
use Rattle.gm_ast.specs.Names.{Known, Env, is, is_node, used, known_as, known_answer, later, both}
use Rattle.gm_ast.specs.Statements.{scalar_goal_as, scalar_goal, property_goal, goal_at, goals, name_eq, properties_eq, target_eq, goes_with, is_repeated, apart, apart_from_first}
use Rattle.gm_forms.proofs.Named.{both-true}
use Rattle.gm_forms.specs.Sharing.{is_scalar, is_through, are_alike, are_distinct, variables_of}
use Rattle.gm_ast.specs.Ways.{is_in}
use Rattle.gm_ready.proofs.Judging.{IfPart, if-by, if-both, if-else, append-empty}
use Rattle.gm_ready.proofs.Placing.{Knows, Alike}
use Rattle.gm_ready.proofs.Racing.{Member, member-left, member-right}

-- the variable of a target
abbrev variable_at : Target → ℕ
variable_at (T.Scalar x at) = x
variable_at (T.Property x p at) = p

abbrev or_else : Option Binding → Binding → Binding
or_else None z = z
or_else (Some y) z = y

abbrev index_of : Option Binding → ℕ
index_of None = 0
index_of (Some z) = z.index

-- ---- letters

text-same : (xs ys : List ℕ) → bytes_eq xs ys ≡ true → xs ≡ ys
text-same [] [] h = refl
text-same [] (y ∷ ys) h = absurd (both_ways false refl h)
text-same (x ∷ xs) [] h = absurd (both_ways false refl h)
text-same (x ∷ xs) (y ∷ ys) h = let r = both-true (nat_eq x y) (bytes_eq xs ys) h in ap (λ z. z ∷ xs) (eqb-true x y r.0) ∙ ap (λ zs. y ∷ zs) (text-same xs ys r.1)

same-text : (xs ys : List ℕ) → xs ≡ ys → bytes_eq xs ys ≡ true
same-text xs ys e = subst (λ zs. bytes_eq xs zs ≡ true) e (self xs)
  where
    self : (xs : List ℕ) → bytes_eq xs xs ≡ true
    self [] = refl
    self (x ∷ xs) = both_true (eq-eqb x x refl) (self xs)

from-unless : (b : Bool) (at : Place) → unless b T12 at ≡ [] → b ≡ true
from-unless true at h = refl
from-unless false at h = absurd (both_ways false refl (ap none_in h))
  where
    none_in : {A : Type 0} → List A → Bool
    none_in [] = true
    none_in (x ∷ xs) = false

if-not : (b : Bool) → not b ≡ true → b ≡ false
if-not true h = sym h
if-not false h = refl

or-neither : (a b : Bool) → a || b ≡ false → (a ≡ false) × (b ≡ false)
or-neither true b h = absurd (both_ways true h refl)
or-neither false b h = (refl, h)

false-of : (b : Bool) → (b ≡ true → ⊥) → b ≡ false
false-of true h = absurd (h refl)
false-of false h = refl

only : (b : Bool) → b || false ≡ true → b ≡ true
only true e = refl
only false e = e

-- ---- what targets mean

-- the target that names spell, among the names that are known
abbrev Spelled : List Known → Place → Binding → Option SurfaceName → Target → Type 0
Spelled ks at b None t = t ≡ T.Scalar b.index at
Spelled ks at b (Some p) t = (c : Binding) × ((known_as ks p.text ≡ Some c) × (t ≡ T.Property b.index c.index at))

abbrev pub Spells : List Known → SurfaceTarget → Goal → Type 0
Spells ks s g = (b : Binding) × ((known_as ks s.owner.text ≡ Some b) × Spelled ks s.owner.place b s.property g.target)

abbrev pub AllSpell : List Known → List SurfaceTarget → List Goal → Type 0
AllSpell ks [] [] = Unit {0}
AllSpell ks (s ∷ ss) (g ∷ gs) = Spells ks s g × AllSpell ks ss gs
AllSpell ks [] (g ∷ gs) = ⊥
AllSpell ks (s ∷ ss) [] = ⊥

known-part : (x : SurfaceName) (ks : List Known) (o : Option Binding) → known_as ks x.text ≡ o → IfPart (λ b. known_as ks x.text ≡ Some b) (ok_of (known_answer x o))
known-part x ks None e = tt
known-part x ks (Some b) e = e

scalar-spelled : (ks : List Known) (x : SurfaceName) (s : Sort) (b : Binding) → known_as ks x.text ≡ Some b
    → IfPart (Spells ks (record { owner = x; property = None })) (ok_of (scalar_goal_as s false x.place b))
scalar-spelled ks x Sorts.Scalar b h = (b, (h, refl))
scalar-spelled ks x Sorts.NodeProperty b h = (b, (h, refl))
scalar-spelled ks x Sorts.Graph b h = tt
scalar-spelled ks x Sorts.Iterator b h = tt
scalar-spelled ks x Sorts.Edge b h = tt
scalar-spelled ks x Sorts.EdgeProperty b h = tt

goal-spells : (x : SurfaceName) (p : Option SurfaceName) (env : Env) → IfPart (Spells env.known (record { owner = x; property = p })) (goal_at false x p env).part
goal-spells x None env =
    if-by (λ b. known_as env.known x.text ≡ Some b) (Spells env.known (record { owner = x; property = None })) (used x env).part (scalar_goal false x.place)
    (known-part x env.known (known_as env.known x.text) refl) (λ b h. scalar-spelled env.known x b.variable.sort b h)
goal-spells x (Some p) env =
    let ks = env.known in
    let Q = Spells ks (record { owner = x; property = Some p }) in
    if-by (λ bs. (known_as env.known x.text ≡ Some bs.0) × (known_as env.known p.text ≡ Some bs.1)) (Spells env.known (record { owner = x; property = Some p })) (both (used x) (used p) env).part (property_goal x.place)
    (if-both (λ b. known_as env.known x.text ≡ Some b) (λ b. known_as env.known p.text ≡ Some b) (used x env).part (used p (later env (used x env))).part (known-part x env.known (known_as env.known x.text) refl) (known-part p env.known (known_as env.known p.text) refl))
    (λ bs h. if-else (Spells env.known (record { owner = x; property = Some p })) (is_node bs.0.variable && is Sorts.NodeProperty bs.1.variable) _ (if is Sorts.Edge bs.0.variable && is Sorts.EdgeProperty bs.1.variable then refused T12 x.place else refused T7 x.place)
    (λ _. (bs.0, (h.0, (bs.1, (h.1, refl)))))
    (λ _. if-else (Spells env.known (record { owner = x; property = Some p })) (is Sorts.Edge bs.0.variable && is Sorts.EdgeProperty bs.1.variable) (refused T12 x.place) (refused T7 x.place) (λ _. tt) (λ _. tt)))

pub goals-spell : (ss : List SurfaceTarget) (env : Env) → IfPart (AllSpell env.known ss) (goals ss env).part
goals-spell [] env = tt
goals-spell (s ∷ ss) env =
    let first = goal_at false s.owner s.property env in
    let rest = goals ss (later env first) in
    if-by (λ p. Spells env.known s p.0 × AllSpell env.known ss p.1) (AllSpell env.known (s ∷ ss)) (both_of first.part rest.part) (λ p. Ok (p.0 ∷ p.1))
    (if-both (Spells env.known s) (AllSpell env.known ss) first.part rest.part (goal-spells s.owner s.property env) (goals-spell ss (later env first))) (λ p h. h)

module _ (ds : List Declaration) (d : ℕ) (edge : Bool) (ks : List Known) (knows : Knows ds d edge ks) where
  -- a name that is known stands in the table under its letters
  named : (rest : List Known) → Knows ds d edge rest → (text : List ℕ) (b : Binding) → known_as rest text ≡ Some b → slice_get ds b.index ≡ Some (record { name = text; variable = b.variable })
  named [] k text b h = absurd (none-some b h)
  named (x ∷ xs) k text b h = by (bytes_eq text x.text) refl h (λ e. named xs k.1 text b e)
    where
      by : (same : Bool) → bytes_eq text x.text ≡ same → (if same then Some x.binding else known_as xs text) ≡ Some b
          → (known_as xs text ≡ Some b → slice_get ds b.index ≡ Some (record { name = text; variable = b.variable })) → slice_get ds b.index ≡ Some (record { name = text; variable = b.variable })
      by true e h rest =
          let is_it : x.binding ≡ b = ap (λ o. or_else o x.binding) h in
          let as_text : slice_get ds x.binding.index ≡ Some (record { name = text; variable = x.binding.variable }) = k.0.0 ∙ ap (λ t. Some (record { name = t; variable = x.binding.variable })) (sym (text-same text x.text e)) in
          subst (λ z. slice_get ds z.index ≡ Some (record { name = text; variable = z.variable })) is_it as_text
      by false e h rest = rest h

  abbrev letters : Option Declaration → List ℕ
  letters None = []
  letters (Some x) = x.name

  -- names that mean one variable have the same letters
  one-name : (x y : List ℕ) (b c : Binding) → known_as ks x ≡ Some b → known_as ks y ≡ Some c → b.index ≡ c.index → x ≡ y
  one-name x y b c h k e =
      ap letters (sym (named ks knows x b h)) ∙ ap (λ n. letters (slice_get ds n)) e ∙ ap letters (named ks knows y c k)

  one-variable : (x y : List ℕ) (b c : Binding) → known_as ks x ≡ Some b → known_as ks y ≡ Some c → bytes_eq x y ≡ true → b.index ≡ c.index
  one-variable x y b c h k e = ap index_of (sym h ∙ ap (λ t. known_as ks t) (text-same x y e) ∙ k)

  -- targets that go with one first, and are spelled differently, are different variables
  apart-targets : (first s u : SurfaceTarget) (g h : Goal) → Spells ks s g → Spells ks u h → goes_with first s ≡ true → goes_with first u ≡ true → target_eq s u ≡ false
      → is_in (variables_of (g.target ∷ [])) (variable_at h.target) ≡ false
  apart-targets first s u g h p q a b n = by first.property s.property u.property p.1.1 q.1.1 a b n
    where
      by : (o os ou : Option SurfaceName) → Spelled ks s.owner.place p.0 os g.target → Spelled ks u.owner.place q.0 ou h.target
          → (if is_some o then is_some os && name_eq first.owner s.owner else is_none os) ≡ true → (if is_some o then is_some ou && name_eq first.owner u.owner else is_none ou) ≡ true
          → name_eq s.owner u.owner && properties_eq os ou ≡ false → is_in (variables_of (g.target ∷ [])) (variable_at h.target) ≡ false
      by o None None x y a b n =
          ap (λ t. is_in (variables_of (t ∷ [])) (variable_at h.target)) x ∙ ap (λ t. nat_eq (variable_at t) p.0.index || false) y
          ∙ false-of (nat_eq q.0.index p.0.index || false) (λ e. both_ways (name_eq s.owner u.owner && true) n (both_true (same-text s.owner.text u.owner.text (one-name s.owner.text u.owner.text p.0 q.0 p.1.0 q.1.0 (sym (eqb-true q.0.index p.0.index (only (nat_eq q.0.index p.0.index) e))))) refl))
      by (Some f) (Some sp) (Some up) x y a b n =
          ap (λ t. is_in (variables_of (t ∷ [])) (variable_at h.target)) x.1.1 ∙ ap (λ t. nat_eq (variable_at t) x.0.index || false) y.1.1
          ∙ false-of (nat_eq y.0.index x.0.index || false)
          (λ e. both_ways (name_eq s.owner u.owner && name_eq sp up) n
          (both_true (same-text s.owner.text u.owner.text (sym (text-same first.owner.text s.owner.text a) ∙ text-same first.owner.text u.owner.text b))
          (same-text sp.text up.text (one-name sp.text up.text x.0 y.0 x.1.0 y.1.0 (sym (eqb-true y.0.index x.0.index (only (nat_eq y.0.index x.0.index) e)))))))
      by None None (Some up) x y a b n = absurd (both_ways false refl b)
      by None (Some sp) ou x y a b n = absurd (both_ways false refl a)
      by (Some f) None ou x y a b n = absurd (both_ways false refl a)
      by (Some f) (Some sp) None x y a b n = absurd (both_ways false refl b)

  not-among : (s u : SurfaceTarget) (seen : List SurfaceTarget) → Member u seen → is_repeated s seen ≡ false → target_eq s u ≡ false
  not-among s u [] m n = absurd m
  not-among s u (x ∷ xs) (inl e) n = ap (target_eq s) e ∙ (or-neither (target_eq s x) (is_repeated s xs) n).0
  not-among s u (x ∷ xs) (inr m) n = not-among s u xs m (or-neither (target_eq s x) (is_repeated s xs) n).1

  -- what the rule says of the next target
  next-apart : (first : SurfaceTarget) (seen : List SurfaceTarget) (s : SurfaceTarget) (ss : List SurfaceTarget) → apart first seen (s ∷ ss) ≡ []
      → ((goes_with first s ≡ true) × (is_repeated s seen ≡ false)) × (apart first (seen ++ (s ∷ [])) ss ≡ [])
  next-apart first seen s ss h =
      let r = append-empty (unless (goes_with first s && not (is_repeated s seen)) T12 s.owner.place) (apart first (seen ++ (s ∷ [])) ss) h in
      let q = both-true (goes_with first s) (not (is_repeated s seen)) (from-unless (goes_with first s && not (is_repeated s seen)) s.owner.place r.0) in
      ((q.0, if-not (is_repeated s seen) q.1), r.1)

  split-in : (g : Target) (gs : List Target) (x : ℕ) → is_in (variables_of (g ∷ [])) x ≡ false → is_in (variables_of gs) x ≡ false → is_in (variables_of (g ∷ gs)) x ≡ false
  split-in (T.Scalar y at) gs x h k = by (nat_eq x y) (is_in (variables_of gs) x) h k
    where
      by : (a b : Bool) → a || false ≡ false → b ≡ false → a || b ≡ false
      by true b h k = h
      by false b h k = k
  split-in (T.Property y p at) gs x h k = by (nat_eq x p) (is_in (variables_of gs) x) h k
    where
      by : (a b : Bool) → a || false ≡ false → b ≡ false → a || b ≡ false
      by true b h k = h
      by false b h k = k

  later-apart : (first u : SurfaceTarget) (h : Goal) → Spells ks u h → goes_with first u ≡ true → (seen ss : List SurfaceTarget) (gs : List Goal) → Member u seen → apart first seen ss ≡ [] → AllSpell ks ss gs
      → is_in (variables_of (map (λ g. g.target) gs)) (variable_at h.target) ≡ false
  later-apart first u h q b seen [] [] m e all = refl
  later-apart first u h q b seen [] (g ∷ gs) m e all = absurd all
  later-apart first u h q b seen (s ∷ ss) [] m e all = absurd all
  later-apart first u h q b seen (s ∷ ss) (g ∷ gs) m e all =
      let r = next-apart first seen s ss e in
      split-in g.target (map (λ g. g.target) gs) (variable_at h.target)
      (apart-targets first s u g h all.0 q r.0.0 b (not-among s u seen m r.0.1))
      (later-apart first u h q b (seen ++ (s ∷ [])) ss gs (member-left u seen (s ∷ []) m) r.1 all.1)

  add-distinct : (t : Target) (ts : List Target) → is_in (variables_of ts) (variable_at t) ≡ false → are_distinct (variables_of ts) ≡ true → are_distinct (variables_of (t ∷ ts)) ≡ true
  add-distinct (T.Scalar x at) ts n h = both_true (ap not n) h
  add-distinct (T.Property x p at) ts n h = both_true (ap not n) h

  distinct : (first : SurfaceTarget) (seen ss : List SurfaceTarget) (gs : List Goal) → apart first seen ss ≡ [] → AllSpell ks ss gs → are_distinct (variables_of (map (λ g. g.target) gs)) ≡ true
  distinct first seen [] [] e all = refl
  distinct first seen [] (g ∷ gs) e all = absurd all
  distinct first seen (s ∷ ss) [] e all = absurd all
  distinct first seen (s ∷ ss) (g ∷ gs) e all =
      let r = next-apart first seen s ss e in
      add-distinct g.target (map (λ g. g.target) gs) (later-apart first s g all.0 r.0.0 (seen ++ (s ∷ [])) ss gs (member-right s seen (s ∷ []) (inl refl)) r.1 all.1)
      (distinct first (seen ++ (s ∷ [])) ss gs r.1 all.1)

  -- targets go with the first
  scalars : (first : SurfaceTarget) → first.property ≡ None → (seen ss : List SurfaceTarget) (gs : List Goal) → apart first seen ss ≡ [] → AllSpell ks ss gs → list_all is_scalar (map (λ g. g.target) gs) ≡ true
  scalars first o seen [] [] e all = refl
  scalars first o seen [] (g ∷ gs) e all = absurd all
  scalars first o seen (s ∷ ss) [] e all = absurd all
  scalars first o seen (s ∷ ss) (g ∷ gs) e all =
      let r = next-apart first seen s ss e in
      let a : is_none s.property ≡ true = sym (ap (λ o. if is_some o then is_some s.property && name_eq first.owner s.owner else is_none s.property) o) ∙ r.0.0 in
      both_true (by s.property all.0.1.1 a) (scalars first o (seen ++ (s ∷ [])) ss gs r.1 all.1)
    where
      by : (o : Option SurfaceName) → Spelled ks s.owner.place all.0.0 o g.target → is_none o ≡ true → is_scalar g.target ≡ true
      by None x a = ap is_scalar x
      by (Some p) x a = absurd (both_ways false refl a)

  throughs : (first : SurfaceTarget) (f : SurfaceName) (b : Binding) → first.property ≡ Some f → known_as ks first.owner.text ≡ Some b → (seen ss : List SurfaceTarget) (gs : List Goal) → apart first seen ss ≡ [] → AllSpell ks ss gs
      → list_all (is_through b.index) (map (λ g. g.target) gs) ≡ true
  throughs first f b o k seen [] [] e all = refl
  throughs first f b o k seen [] (g ∷ gs) e all = absurd all
  throughs first f b o k seen (s ∷ ss) [] e all = absurd all
  throughs first f b o k seen (s ∷ ss) (g ∷ gs) e all =
      let r = next-apart first seen s ss e in
      let a : is_some s.property && name_eq first.owner s.owner ≡ true = sym (ap (λ o. if is_some o then is_some s.property && name_eq first.owner s.owner else is_none s.property) o) ∙ r.0.0 in
      both_true (by s.property all.0.1.1 a) (throughs first f b o k (seen ++ (s ∷ [])) ss gs r.1 all.1)
    where
      by : (o : Option SurfaceName) → Spelled ks s.owner.place all.0.0 o g.target → is_some o && name_eq first.owner s.owner ≡ true → is_through b.index g.target ≡ true
      by None x a = absurd (both_ways false refl a)
      by (Some p) x a =
          ap (is_through b.index) x.1.1 ∙ eq-eqb all.0.0.index b.index (sym (one-variable first.owner.text s.owner.text b all.0.0 k all.0.1.0 a))

  self-goes : (first : SurfaceTarget) (o : Option SurfaceName) → (if is_some o then is_some o && name_eq first.owner first.owner else is_none o) ≡ true
  self-goes first None = refl
  self-goes first (Some p) = same-text first.owner.text first.owner.text refl

  pub alike : (ss : List SurfaceTarget) (gs : List Goal) → AllSpell ks ss gs → apart_from_first ss ≡ [] → Alike (map (λ g. g.target) gs)
  alike [] [] all e = refl
  alike [] (g ∷ gs) all e = absurd all
  alike (s ∷ ss) [] all e = absurd all
  alike (s ∷ ss) (g ∷ gs) all e =
      both_true (by s.property refl all.0.1.1)
      (add-distinct g.target (map (λ g. g.target) gs) (later-apart s s g all.0 (self-goes s s.property) (s ∷ []) ss gs (inl refl) e all.1) (distinct s (s ∷ []) ss gs e all.1))
    where
      by : (o : Option SurfaceName) → s.property ≡ o → Spelled ks s.owner.place all.0.0 o g.target → are_alike (g.target ∷ map (λ g. g.target) gs) ≡ true
      by None is x = ap (λ t. are_alike (t ∷ map (λ g. g.target) gs)) x ∙ scalars s is (s ∷ []) ss gs e all.1
      by (Some p) is x = ap (λ t. are_alike (t ∷ map (λ g. g.target) gs)) x.1.1 ∙ throughs s p all.0.0 is all.0.1.0 (s ∷ []) ss gs e all.1
