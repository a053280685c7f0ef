-- What stands in a table of declarations, and the names that mean it.
use Rattle.std.proofs.Common.{◌≡◌, ◌<◌, ◌+◌, ℕ, zero, suc, Bool, true, false, List, [], ◌∷◌, ◌++◌, length, refl, ap, subst, ◌∙◌, arith, Option, Some, None}
use Rattle.std.specs.Prelude.{not, ◌||◌, option_map, slice_get, is_none, nat_lt, if◌then◌else◌}
use Rattle.std.specs.List.{list_all}
use Rattle.std.specs.Cmp.Derive.{both_true}
use Rattle.std.proofs.lemmas.Bool.{lt-ltb}
use Rattle.std.proofs.lemmas.Option.{slice_get_within, none-some}
use Rattle.std.proofs.lemmas.List.Folds.{list_all-append}
use Rattle.gm_ast.specs.declared.tree.Declaration.{Declaration}
use Rattle.gm_ast.specs.declared.tree.Variable.{Variable}
use Rattle.gm_ast.specs.declared.kinds.Binding.{Binding}
use Rattle.gm_ast.specs.declared.tree.Sort.TheVariants.{Graph, Iterator}
use Rattle.gm_ast.specs.Names.{is, is_node_type, Known, known_as, known_with}
use Rattle.gm_semantics.specs.Statements.{variable_at, variable_or}
use Rattle.gm_forms.specs.Uses.{Role, Use, use_as, has_role, suits}

-- a variable that iterates, or the graph, has nodes as its values
abbrev pub iterates_nodes : Variable → Bool
iterates_nodes v = not (is Iterator v || is Graph v) || is_node_type v.vtype

module _ (ds : List Declaration) where
  -- these declarations stand in the table from a place on
  abbrev pub Has : ℕ → List Declaration → Type 0
  Has n [] = Unit {0}
  Has n (d ∷ xs) = (slice_get ds n ≡ Some d) × Has (n + 1) xs

  -- of one list behind another each stands in the table
  pub has-append : (n : ℕ) (xs ys : List Declaration) → Has n (xs ++ ys) → Has n xs × Has (n + length xs) ys
  has-append n [] ys h = let e : n ≡ n + zero = omega arith in (tt, subst (λ m. Has m ys) e h)
  has-append n (d ∷ xs) ys h =
      let r = has-append (n + 1) xs ys h.1 in
      let e : n + 1 + length xs ≡ n + suc (length xs) = omega arith in
      ((h.0, r.0), subst (λ m. Has m ys) e r.1)

  -- what a name means stands in the table; what iterates holds nodes
  abbrev pub Binds : Binding → Type 0
  Binds b = (option_map (λ d. d.variable) (slice_get ds b.index) ≡ Some b.variable) × (iterates_nodes b.variable ≡ true)

  pub binds-at : (n : ℕ) (d : Declaration) → slice_get ds n ≡ Some d → iterates_nodes d.variable ≡ true → Binds (record { index = n; variable = d.variable })
  binds-at n d h nodes = (ap (λ o. option_map (λ (d : Declaration). d.variable) o) h, nodes)

  -- what all known names mean stands in the table
  abbrev pub AllKnown : List Known → Type 0
  AllKnown [] = Unit {0}
  AllKnown (k ∷ ks) = Binds k.binding × AllKnown ks

  all-known-append : (ks : List Known) (k : Known) → AllKnown ks → Binds k.binding → AllKnown (ks ++ (k ∷ []))
  all-known-append [] k h b = (b, tt)
  all-known-append (x ∷ ks) k h b = (h.0, all-known-append ks k h.1 b)

  pub known-with : (ks : List Known) (text : List ℕ) (b : Binding) → AllKnown ks → Binds b → AllKnown (known_with ks text b)
  known-with ks text b h bound = by (is_none (known_as ks text))
    where
      by : (new : Bool) → AllKnown (if new then ks ++ (record { text = text; binding = b } ∷ []) else ks)
      by true = all-known-append ks (record { text = text; binding = b }) h bound
      by false = h

  -- ---- uses

  abbrev pub Suit : List Use → Type 0
  Suit us = list_all (suits ds) us ≡ true

  pub join : (us vs : List Use) → Suit us → Suit vs → Suit (us ++ vs)
  join us vs h k = list_all-append (suits ds) us vs ∙ both_true h k

  bound-within : (o : Option Declaration) (v : Variable) (n : ℕ) → slice_get ds n ≡ o → option_map (λ d. d.variable) o ≡ Some v → n < length ds
  bound-within None v n e h = absurd (none-some v h)
  bound-within (Some d) v n e h = slice_get_within ds n d e

  -- what stands in the table for a name is what the name means
  pub variable-is : (b : Binding) → Binds b → variable_at ds b.index ≡ b.variable
  variable-is b h = ap variable_or h.0

  -- what a name means may be used as what it is
  pub suit-as : (role : Role) (b : Binding) → Binds b → has_role b.variable role ≡ true → Suit (use_as role b.index)
  suit-as role b h fits =
      let within : nat_lt b.index (length ds) ≡ true = lt-ltb b.index (length ds) (bound-within (slice_get ds b.index) b.variable b.index refl h.0) in
      both_true (both_true within (ap (λ v. has_role v role) (variable-is b h) ∙ fits)) refl
