-- The known names as a map holds them.
use Rattle.std.proofs.Common.{◌≡◌, ℕ, Bool, true, false, List, [], ◌∷◌, ◌++◌, map, refl, ap, ◌∙◌, sym, Option, Some, None, Bor, cond, is_some}
use Rattle.std.specs.Prelude.{is_none, if◌then◌else◌}
use Rattle.std.specs.Str.{bytes_eq}
use Rattle.std.specs.HashMap.{get_by}
use Rattle.std.specs.Map.{lookup}
use Rattle.indexmap.specs.IndexMap.{insert_entry}
use Rattle.gm_ast.specs.declared.kinds.Binding.{Binding}
use Rattle.gm_ast.specs.Names.{Known, known_as, known_with}
use Rattle.gm_types.specs.Views.{known_of, known_in}

-- a look-up in a map of names is one among the known names
pub known-lookup : (text : List ℕ) (es : List (Bor (List ℕ) × Binding)) → lookup (λ (key : Bor (List ℕ)). bytes_eq text key.now) es ≡ known_as (known_in es) text
known-lookup text [] = refl
known-lookup text (e ∷ es) = on (bytes_eq text e.0.now) (known-lookup text es)
  where
    on : (b : Bool) → lookup (λ (key : Bor (List ℕ)). bytes_eq text key.now) es ≡ known_as (known_in es) text
        → cond b (Some e.1) (lookup (λ (key : Bor (List ℕ)). bytes_eq text key.now) es) ≡ (if b then Some e.1 else known_as (known_in es) text)
    on true h = refl
    on false h = h

-- a new name is put behind the entries
appended : (key : Bor (List ℕ)) (b : Binding) (es : List (Bor (List ℕ) × Binding)) → is_some (known_as (known_in es) key.now) ≡ false
    → known_in (insert_entry (λ x y. bytes_eq x.now y.now) es key b) ≡ known_in es ++ (record { text = key.now; binding = b } ∷ [])
appended key b [] h = refl
appended key b (e ∷ es) h = by (bytes_eq key.now e.0.now) h (appended key b es)
  where
    by : (c : Bool) → is_some (if c then Some e.1 else known_as (known_in es) key.now) ≡ false
        → (is_some (known_as (known_in es) key.now) ≡ false → known_in (insert_entry (λ x y. bytes_eq x.now y.now) es key b) ≡ known_in es ++ (record { text = key.now; binding = b } ∷ []))
        → known_in (if c then (e.0, b) ∷ es else e ∷ insert_entry (λ x y. bytes_eq x.now y.now) es key b) ≡ known_of e ∷ (known_in es ++ (record { text = key.now; binding = b } ∷ []))
    by true h go = cc
    by false h go = ap (λ ks. known_of e ∷ ks) (go h)

-- a new name goes behind the known ones
pub known-inserted : (key : Bor (List ℕ)) (b : Binding) (es : List (Bor (List ℕ) × Binding)) → is_some (known_as (known_in es) key.now) ≡ false
    → known_in (insert_entry (λ x y. bytes_eq x.now y.now) es key b) ≡ known_with (known_in es) key.now b
known-inserted key b es h = appended key b es h ∙ sym (on (known_as (known_in es) key.now) h)
  where
    on : (o : Option Binding) → is_some o ≡ false → (if is_none o then known_in es ++ (record { text = key.now; binding = b } ∷ []) else known_in es) ≡ known_in es ++ (record { text = key.now; binding = b } ∷ [])
    on None h = refl
    on (Some x) h = cc
