-- What is known of names beside the table: iterators are no inputs, and there is one graph.
use Rattle.std.proofs.Common.{◌≡◌, ◌≤◌, ◌+◌, ℕ, Bool, true, false, List, [], ◌∷◌, ◌++◌, refl, arith, Some}
use Rattle.std.specs.Prelude.{if◌then◌else◌, is_none, nat_le}
use Rattle.std.specs.Str.{bytes_eq}
use Rattle.std.proofs.lemmas.Bool.{both_ways, le-leb}
use Rattle.gm_base.specs.declared.rules.Rule.TheVariants.{T2}
use Rattle.gm_ast.specs.declared.tree.Declaration.{Declaration}
use Rattle.gm_ast.specs.declared.tree.Key.{Key}
use Rattle.gm_ast.specs.declared.tree.Sort.TheVariants as Sorts
use Rattle.gm_ast.specs.declared.kinds.Binding.{Binding}
use Rattle.gm_ast.specs.Surface.{SurfaceName}
use Rattle.gm_ast.specs.Judged.{Judged, unless}
use Rattle.gm_ast.specs.Names.{Known, Env, is, known_as, known_with, used, both, later, an_iterator, inside, iterated, keyed, counted, operators_of, numbered}
use Rattle.gm_ready.proofs.Tables.{Binds, binds-at, AllKnown}
use Rattle.gm_ready.proofs.Judging.{IfPart, if-both, append-empty, Gives, gives-beside, if-known, IsIterator}

module _ (ds : List Declaration) (inputs g : ℕ) where
  -- a name stands in the table; an iterator is no input, and the graph is this one
  pub record IsKnown (b : Binding) : Type 0 where
    pub bound : Binds ds b
    pub iterator : is Sorts.Iterator b.variable ≡ true → nat_le inputs b.index ≡ true
    pub graph : is Sorts.Graph b.variable ≡ true → b.index ≡ g

  abbrev pub AllAreKnown : List Known → Type 0
  AllAreKnown [] = Unit {0}
  AllAreKnown (k ∷ ks) = IsKnown k.binding × AllAreKnown ks

  pub in-table : (ks : List Known) → AllAreKnown ks → AllKnown ds ks
  in-table [] h = tt
  in-table (k ∷ ks) h = (h.0.bound, in-table ks h.1)

  all-append : (ks : List Known) (k : Known) → AllAreKnown ks → IsKnown k.binding → AllAreKnown (ks ++ (k ∷ []))
  all-append [] k h b = (b, tt)
  all-append (x ∷ ks) k h b = (h.0, all-append ks k h.1 b)

  pub all-with : (ks : List Known) (text : List ℕ) (b : Binding) → AllAreKnown ks → IsKnown b → AllAreKnown (known_with ks text b)
  all-with ks text b h known = by (is_none (known_as ks text))
    where
      by : (new : Bool) → AllAreKnown (if new then ks ++ (record { text = text; binding = b } ∷ []) else ks)
      by true = all-append ks (record { text = text; binding = b }) h known
      by false = h

  pub known-is : (ks : List Known) (text : List ℕ) → AllAreKnown ks → IfPart IsKnown (known_as ks text)
  known-is [] text h = tt
  known-is (k ∷ ks) text h = by (bytes_eq text k.text) (known-is ks text h.1)
    where
      by : (same : Bool) → IfPart IsKnown (known_as ks text) → IfPart IsKnown (if same then Some k.binding else known_as ks text)
      by true rest = h.0
      by false rest = rest

  -- what stands around a part: what is known, behind the inputs
  pub record Surrounds (env : Env) : Type 0 where
    pub known : AllAreKnown env.known
    pub behind : inputs ≤ env.next

  -- what holds of a part wherever it stands, in a group assignment or not
  abbrev pub Told : {A : Type 0} → (A → Type 0) → Bool → (Env → Judged A) → Type 0
  Told P group part = (env : Env) → env.group ≡ group → Surrounds env → Gives ds P env.next (part env)

  pub after : {A : Type 0} (env : Env) (x : Judged A) → Surrounds env → Surrounds (later env x)
  after env x h = let low : inputs ≤ env.next = h.behind in record { known = h.known; behind = omega arith }

  pub gives-then : {A B : Type 0} (P : A → Type 0) (Q : B → Type 0) (first : Env → Judged A) (second : Env → Judged B) (group : Bool) (env : Env) → env.group ≡ group → Surrounds env
      → Gives ds P env.next (first env) → Told Q group second → Gives ds (λ p. P p.0 × Q p.1) env.next (both first second env)
  gives-then P Q first second group env e h f s = gives-beside ds P Q env.next (first env) (second (later env (first env))) f (s (later env (first env)) e (after env (first env) h))

  pub told-both : {A B : Type 0} (P : A → Type 0) (Q : B → Type 0) (group : Bool) (first : Env → Judged A) (second : Env → Judged B)
      → Told P group first → Told Q group second → Told (λ p. P p.0 × Q p.1) group (both first second)
  told-both P Q group first second f s env e h = gives-then P Q first second group env e h (f env e h) s

  pub told-used : (name : SurfaceName) (group : Bool) → Told IsKnown group (used name)
  told-used name group env e h has clean = if-known ds IsKnown name (known_as env.known name.text) (known-is env.known name.text h.known)

  -- an iterator, and what is judged in its loop
  pub told-iterated : {A : Type 0} (P : A → Type 0) (group : Bool) (name : SurfaceName) (loops : ℕ) (part : Env → Judged A) → Told P group part
      → Told (λ p. IsIterator ds p.0 × P p.1) group (iterated name loops part)
  told-iterated P group name loops part good env e h has clean =
      let v = an_iterator (env.depth + loops) in
      let inner = inside env name loops in
      let low : inputs ≤ env.next = h.behind in
      let bound : Binds ds (record { index = env.next; variable = v }) = binds-at ds env.next (record { name = name.text; variable = v }) has.0 refl in
      let known : IsKnown (record { index = env.next; variable = v }) = record { bound = bound; iterator = λ i. le-leb inputs env.next low; graph = λ i. absurd (both_ways false refl i) } in
      let within : Surrounds inner = record { known = all-with env.known name.text (record { index = env.next; variable = v }) h.known known; behind = omega arith } in
      let none = append-empty (unless (is_none (known_as env.known name.text)) T2 name.place) (part inner).broken clean in
      if-both (IsIterator ds) P (Some env.next) (part inner).part (env.depth + loops, bound) (good inner e within has.1 none.1)

  -- what is judged under a key, or takes numbers, stands among the same names
  pub told-keyed : {A : Type 0} (P : A → Type 0) (group : Bool) (k : Key) (part : Env → Judged A) → Told P group part → Told P group (keyed k part)
  told-keyed P group k part good env e h has clean = good (record env { key = k }) e (record { known = h.known; behind = h.behind }) has clean

  pub told-counted : {A : Type 0} (P : A → Type 0) (group : Bool) (n : ℕ) (part : Env → Judged A) → Told P group part → Told P group (counted n part)
  told-counted P group n part good env e h has clean = good (record env { number = env.number + n }) e (record { known = h.known; behind = h.behind }) has clean

  pub told-numbered : {A : Type 0} (P : A → Type 0) (group : Bool) (part : Env → Judged A) → Told P group part → Told P group (numbered part)
  told-numbered P group part good env e h has clean =
      good (record env { number = env.number + 1; key = operators_of env.number }) e (record { known = h.known; behind = h.behind }) has clean
