-- What holds of judged parts, and goes from parts to what is made of them.
use Rattle.std.proofs.Common.{◌≡◌, ◌+◌, ℕ, Bool, true, false, List, [], ◌∷◌, ◌++◌, length, refl, ap, Option, Some, None}
use Rattle.std.specs.Prelude.{if◌then◌else◌, is_none, Ok, Err}
use Rattle.std.specs.Str.{bytes_eq}
use Rattle.std.proofs.lemmas.Bool.{both_ways}
use Rattle.gm_base.specs.declared.places.Place.{Place}
use Rattle.gm_base.specs.declared.rules.Rule.{Rule}
use Rattle.gm_base.specs.declared.rules.Rule.TheVariants.{T2}
use Rattle.gm_ast.specs.declared.tree.Declaration.{Declaration}
use Rattle.gm_ast.specs.declared.tree.Key.{Key}
use Rattle.gm_ast.specs.declared.kinds.Binding.{Binding}
use Rattle.gm_ast.specs.Surface.{SurfaceName}
use Rattle.gm_ast.specs.Judged.{Judged, Answer, judge, beside, both_of, part_by, broken_by, ok_of, refused_unless, then_answer, unless}
use Rattle.gm_ast.specs.Names.{Known, Env, known_as, known_answer, used, both, later, an_iterator, inside, iterated, keyed, counted, operators_of, numbered}
use Rattle.gm_ready.proofs.Tables.{Has, has-append, Binds, binds-at, AllKnown, known-with}

-- what holds of a part, if there is one
abbrev pub IfPart : {A : Type 0} → (A → Type 0) → Option A → Type 0
IfPart P None = Unit {0}
IfPart P (Some a) = P a

pub if-by : {A B : Type 0} (P : A → Type 0) (Q : B → Type 0) (o : Option A) (rule : A → Answer B)
    → IfPart P o → ((a : A) → P a → IfPart Q (ok_of (rule a))) → IfPart Q (part_by o rule)
if-by P Q None rule h f = tt
if-by P Q (Some a) rule h f = f a h

pub if-both : {A B : Type 0} (P : A → Type 0) (Q : B → Type 0) (a : Option A) (b : Option B)
    → IfPart P a → IfPart Q b → IfPart (λ p. P p.0 × Q p.1) (both_of a b)
if-both P Q None b h k = tt
if-both P Q (Some a) None h k = tt
if-both P Q (Some a) (Some b) h k = (h, k)

pub if-good : {A : Type 0} (Q : A → Type 0) (good : Bool) (r : Rule) (at : Place) (a : A) → (good ≡ true → Q a) → IfPart Q (ok_of (refused_unless good r at a))
if-good Q true r at a h = h refl
if-good Q false r at a h = tt

pub if-then : {A B : Type 0} (P : A → Type 0) (Q : B → Type 0) (x : Answer A) (f : A → B) → IfPart P (ok_of x) → ((a : A) → P a → Q (f a)) → IfPart Q (ok_of (then_answer x f))
if-then P Q (Ok a) f h k = k a h
if-then P Q (Err rs) f h k = tt

pub if-else : {A : Type 0} (Q : A → Type 0) (c : Bool) (x y : Answer A) → (c ≡ true → IfPart Q (ok_of x)) → (c ≡ false → IfPart Q (ok_of y)) → IfPart Q (ok_of (if c then x else y))
if-else Q true x y h k = h refl
if-else Q false x y h k = k refl

-- of two lists that are empty together each is
pub append-empty : {A : Type 0} (xs ys : List A) → xs ++ ys ≡ [] → (xs ≡ []) × (ys ≡ [])
append-empty [] ys h = (refl, h)
append-empty (x ∷ xs) ys h = absurd (both_ways false refl (ap is_first h))
  where
    is_first : {A : Type 0} → List A → Bool
    is_first [] = true
    is_first (x ∷ xs) = false

module _ (ds : List Declaration) where
  -- what holds of a judged part that breaks no rule and whose declarations stand in the table
  abbrev pub Gives : {A : Type 0} → (A → Type 0) → ℕ → Judged A → Type 0
  Gives P n x = Has ds n x.declared → x.broken ≡ [] → IfPart P x.part

  -- what holds of a part wherever it stands
  abbrev pub Good : {A : Type 0} → (A → Type 0) → (Env → Judged A) → Type 0
  Good P part = (env : Env) → AllKnown ds env.known → Gives P env.next (part env)

  pub gives-judge : {A B : Type 0} (P : A → Type 0) (Q : B → Type 0) (n : ℕ) (x : Judged A) (rule : A → Answer B)
      → Gives P n x → ((a : A) → P a → IfPart Q (ok_of (rule a))) → Gives Q n (judge x rule)
  gives-judge P Q n x rule h f has clean = if-by P Q x.part rule (h has (append-empty x.broken (broken_by x.part rule) clean).0) f

  pub gives-beside : {A B : Type 0} (P : A → Type 0) (Q : B → Type 0) (n : ℕ) (x : Judged A) (y : Judged B)
      → Gives P n x → Gives Q (n + length x.declared) y → Gives (λ p. P p.0 × Q p.1) n (beside x y)
  gives-beside P Q n x y f g has clean =
      let parts = has-append ds n x.declared y.declared has in
      let none = append-empty x.broken y.broken clean in
      if-both P Q x.part y.part (f parts.0 none.0) (g parts.1 none.1)

  pub gives-both : {A B : Type 0} (P : A → Type 0) (Q : B → Type 0) (first : Env → Judged A) (second : Env → Judged B) (env : Env) → AllKnown ds env.known
      → Gives P env.next (first env) → Good Q second → Gives (λ p. P p.0 × Q p.1) env.next (both first second env)
  gives-both P Q first second env known f g = gives-beside P Q env.next (first env) (second (later env (first env))) f (g (later env (first env)) known)

  pub good-both : {A B : Type 0} (P : A → Type 0) (Q : B → Type 0) (first : Env → Judged A) (second : Env → Judged B)
      → Good P first → Good Q second → Good (λ p. P p.0 × Q p.1) (both first second)
  good-both P Q first second f g env known = gives-both P Q first second env known (f env known) g

  pub gives-if : {A : Type 0} (P : A → Type 0) (n : ℕ) (c : Bool) (x y : Judged A) → (c ≡ true → Gives P n x) → (c ≡ false → Gives P n y) → Gives P n (if c then x else y)
  gives-if P n true x y h k = h refl
  gives-if P n false x y h k = k refl

  -- ---- names

  pub known-binds : (ks : List Known) (text : List ℕ) → AllKnown ds ks → IfPart (Binds ds) (known_as ks text)
  known-binds [] text h = tt
  known-binds (k ∷ ks) text h = by (bytes_eq text k.text) (known-binds ks text h.1)
    where
      by : (same : Bool) → IfPart (Binds ds) (known_as ks text) → IfPart (Binds ds) (if same then Some k.binding else known_as ks text)
      by true rest = h.0
      by false rest = rest

  pub if-known : (P : Binding → Type 0) (name : SurfaceName) (o : Option Binding) → IfPart P o → IfPart P (ok_of (known_answer name o))
  if-known P name None h = tt
  if-known P name (Some b) h = h

  pub good-used : (name : SurfaceName) → Good (Binds ds) (used name)
  good-used name env known has clean = if-known (Binds ds) name (known_as env.known name.text) (known-binds env.known name.text known)

  -- what stands in the table as an iterator
  abbrev pub IsIterator : ℕ → Type 0
  IsIterator i = (depth : ℕ) × Binds ds (record { index = i; variable = an_iterator depth })

  -- an iterator, and what is judged in its loop
  pub gives-iterated : {A : Type 0} (P : A → Type 0) (name : SurfaceName) (loops : ℕ) (part : Env → Judged A) (env : Env) → AllKnown ds env.known
      → (AllKnown ds (inside env name loops).known → Gives P (inside env name loops).next (part (inside env name loops)))
      → Gives (λ p. IsIterator p.0 × P p.1) env.next (iterated name loops part env)
  gives-iterated P name loops part env known good has clean =
      let v = an_iterator (env.depth + loops) in
      let inner = inside env name loops in
      let bound : Binds ds (record { index = env.next; variable = v }) = binds-at ds env.next (record { name = name.text; variable = v }) has.0 refl in
      let none = append-empty (unless (is_none (known_as env.known name.text)) T2 name.place) (part inner).broken clean in
      if-both IsIterator P (Some env.next) (part inner).part (env.depth + loops, bound)
      (good (known-with ds env.known name.text (record { index = env.next; variable = v }) known bound) has.1 none.1)

  pub good-iterated : {A : Type 0} (P : A → Type 0) (name : SurfaceName) (loops : ℕ) (part : Env → Judged A) → Good P part
      → Good (λ p. IsIterator p.0 × P p.1) (iterated name loops part)
  good-iterated P name loops part good env known = gives-iterated P name loops part env known (good (inside env name loops))

  -- what is judged under a key, or takes numbers, stands among the same names
  pub good-keyed : {A : Type 0} (P : A → Type 0) (k : Key) (part : Env → Judged A) → Good P part → Good P (keyed k part)
  good-keyed P k part good env known has clean = good (record env { key = k }) known has clean

  pub good-counted : {A : Type 0} (P : A → Type 0) (n : ℕ) (part : Env → Judged A) → Good P part → Good P (counted n part)
  good-counted P n part good env known has clean = good (record env { number = env.number + n }) known has clean

  pub good-numbered : {A : Type 0} (P : A → Type 0) (part : Env → Judged A) → Good P part → Good P (numbered part)
  good-numbered P part good env known has clean =
      good (record env { number = env.number + 1; key = operators_of env.number }) known has clean
