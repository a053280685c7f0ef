-- Lines whose terms have types keep the rules of indices, types and leaves.
use Rattle.std.proofs.Common.{◌≡◌, ℕ, Bool, true, Option, Some, None, List, [], ◌∷◌, refl, ap, ◌∙◌}
use Rattle.std.specs.Prelude.{◌&&◌, not, slice_get}
use Rattle.std.specs.List.{list_all}
use Rattle.std.proofs.lemmas.Bool.{and_from, or_right}
use Rattle.gm_value.specs.declared.values.VType.{VType}
use Rattle.gm_value.specs.declared.values.VType.TheVariants as V
use Rattle.gm_forms.proofs.Named.{both-true}
use Rattle.gm_typed_stores.specs.Values.{Each}
use Rattle.gm_image.specs.declared.images.Kind.{Kind}
use Rattle.gm_image.specs.Fits.{has_type, has_slot_type, targets_fit, reduction_fits, values_fit, message_fits, line_fits, command_fits}
use Rattle.gm_image.specs.Indices.{in_range, leaf_in_range, term_in_range, slots_in_range, line_in_range, command_in_range}
use Rattle.gm_image.specs.Leaves.{stands_in_master}
use Rattle.gm_image.specs.Parts.{all_leaves, all_places, is_shallow, line_terms, terms_of, command_terms}
use Rattle.gm_image.specs.Program.{Program, Target, Line, SetField, Fold, SetRegister, Put, Send, Skip, Each as EachLine, Command, SetGlobal, Step, Jump, Test, Turn, Back, Finish}
use Rattle.gm_image.specs.Sorts.{sort_of, expects}
use Rattle.gm_image.specs.Term.{Term}
use Rattle.gm_sound_lowering.specs.Types.{IsTerm}
use Rattle.gm_sound_lowering.proofs.Slots.{get-in}
use Rattle.gm_sound_lowering.proofs.Terms.{same-itself}

module _ (i : Program) (kind : Option ℕ) (stands : Term → Bool) where
  abbrev Is : VType → Term → Type 0
  Is = IsTerm i kind stands

  -- a value has the type of its slot
  pub record TargetIs (types : List VType) (x : Target) : Type 0 where
    pub vtype : VType
    pub slot : slice_get types x.slot ≡ Some vtype
    pub value : Is vtype x.term

  -- values have some types
  abbrev pub ValuesAre : List VType → List Term → Type 0
  ValuesAre [] [] = Unit {0}
  ValuesAre (t ∷ ts) (a ∷ more) = Is t a × ValuesAre ts more
  ValuesAre [] (a ∷ more) = ⊥
  ValuesAre (t ∷ ts) [] = ⊥

  -- a line whose terms have the types that it asks for
  abbrev pub LineIs : Line → Type 0
  LineIs (SetField f a) = (t : VType) × (slice_get i.fields f ≡ Some t) × Is t a
  LineIs (Fold r q ts) = (in_range i.places q ≡ true) × (reduction_fits i.fields r ts ≡ true) × Each (TargetIs i.fields) ts
  LineIs (SetRegister r a) = (t : VType) × (slice_get i.registers r ≡ Some t) × Is t a
  LineIs (Put r q ts) = (in_range i.places q ≡ true) × (reduction_fits i.globals r ts ≡ true) × Each (TargetIs i.globals) ts
  LineIs (Send k to vs) = Is V.Node to × (m : Kind) × (slice_get i.kinds k ≡ Some m) × ValuesAre m.values vs
  LineIs (Skip n a) = Is V.Flag a
  LineIs (EachLine d n) = Unit {0}

  -- ---- indices

  term-range : (t : VType) (a : Term) → Is t a → term_in_range i kind a ≡ true
  term-range t a h = or_right (not (is_shallow a)) (all_leaves (leaf_in_range i kind) a && all_places (in_range i.places) a) (and_from (all_leaves (leaf_in_range i kind) a) (all_places (in_range i.places) a) h.leaves h.places)

  values-range : (ts : List VType) (vs : List Term) → ValuesAre ts vs → list_all (term_in_range i kind) vs ≡ true
  values-range [] [] h = refl
  values-range (t ∷ ts) (a ∷ more) h = and_from (term_in_range i kind a) (list_all (term_in_range i kind) more) (term-range t a h.0) (values-range ts more h.1)
  values-range [] (a ∷ more) h = absurd h
  values-range (t ∷ ts) [] h = absurd h

  targets-range : (types : List VType) (xs : List Target) → Each (TargetIs types) xs → list_all (term_in_range i kind) (terms_of xs) ≡ true
  targets-range types [] h = refl
  targets-range types (x ∷ xs) h = and_from (term_in_range i kind x.term) (list_all (term_in_range i kind) (terms_of xs)) (term-range h.0.vtype x.term h.0.value) (targets-range types xs h.1)

  slots-range : (types : List VType) (xs : List Target) → Each (TargetIs types) xs → slots_in_range types xs ≡ true
  slots-range types [] h = refl
  slots-range types (x ∷ xs) h = and_from (in_range types x.slot) (slots_in_range types xs) (get-in types x.slot h.0.vtype h.0.slot) (slots-range types xs h.1)

  pub line-range : (l : Line) → LineIs l → line_in_range i l && list_all (term_in_range i kind) (line_terms l) ≡ true
  line-range (SetField f a) h = and_from (in_range i.fields f) _ (get-in i.fields f h.0 h.1) (and_from (term_in_range i kind a) true (term-range h.0 a h.2) refl)
  line-range (Fold r q ts) h =
      and_from (in_range i.places q && slots_in_range i.fields ts) (list_all (term_in_range i kind) (terms_of ts)) (and_from (in_range i.places q) (slots_in_range i.fields ts) h.0 (slots-range i.fields ts h.2)) (targets-range i.fields ts h.2)
  line-range (SetRegister r a) h = and_from (in_range i.registers r) _ (get-in i.registers r h.0 h.1) (and_from (term_in_range i kind a) true (term-range h.0 a h.2) refl)
  line-range (Put r q ts) h =
      and_from (in_range i.places q && slots_in_range i.globals ts) (list_all (term_in_range i kind) (terms_of ts)) (and_from (in_range i.places q) (slots_in_range i.globals ts) h.0 (slots-range i.globals ts h.2)) (targets-range i.globals ts h.2)
  line-range (Send k to vs) h =
      and_from (in_range i.kinds k) _ (get-in i.kinds k h.1 h.2) (and_from (term_in_range i kind to) (list_all (term_in_range i kind) vs) (term-range V.Node to h.0) (values-range h.1.values vs h.3))
  line-range (Skip n a) h = and_from (term_in_range i kind a) true (term-range V.Flag a h) refl
  line-range (EachLine d n) h = refl

  -- ---- leaves

  values-stand : (ts : List VType) (vs : List Term) → ValuesAre ts vs → list_all (all_leaves stands) vs ≡ true
  values-stand [] [] h = refl
  values-stand (t ∷ ts) (a ∷ more) h = and_from (all_leaves stands a) (list_all (all_leaves stands) more) h.0.leaf (values-stand ts more h.1)
  values-stand [] (a ∷ more) h = absurd h
  values-stand (t ∷ ts) [] h = absurd h

  targets-stand : (types : List VType) (xs : List Target) → Each (TargetIs types) xs → list_all (all_leaves stands) (terms_of xs) ≡ true
  targets-stand types [] h = refl
  targets-stand types (x ∷ xs) h = and_from (all_leaves stands x.term) (list_all (all_leaves stands) (terms_of xs)) h.0.value.leaf (targets-stand types xs h.1)

  pub line-stands : (l : Line) → LineIs l → list_all (all_leaves stands) (line_terms l) ≡ true
  line-stands (SetField f a) h = and_from (all_leaves stands a) true h.2.leaf refl
  line-stands (Fold r q ts) h = targets-stand i.fields ts h.2
  line-stands (SetRegister r a) h = and_from (all_leaves stands a) true h.2.leaf refl
  line-stands (Put r q ts) h = targets-stand i.globals ts h.2
  line-stands (Send k to vs) h = and_from (all_leaves stands to) (list_all (all_leaves stands) vs) h.0.leaf (values-stand h.1.values vs h.3)
  line-stands (Skip n a) h = and_from (all_leaves stands a) true h.leaf refl
  line-stands (EachLine d n) h = refl

  -- ---- types, where no term is too deep

  abbrev AreShallow : List Term → Type 0
  AreShallow vs = list_all is_shallow vs ≡ true

  pub term-type : (t : VType) (a : Term) → is_shallow a ≡ true → Is t a → has_type i kind t a ≡ true
  term-type t a s h = and_from (is_shallow a) (expects t (sort_of i kind a)) s (ap (expects t) h.sort ∙ same-itself t)

  slot-type : (types : List VType) (x : ℕ) (t : VType) (a : Term) → slice_get types x ≡ Some t → is_shallow a ≡ true → Is t a → has_slot_type i kind (slice_get types x) a ≡ true
  slot-type types x t a e s h = ap (λ o. has_slot_type i kind o a) e ∙ term-type t a s h

  one-shallow : (a : Term) → AreShallow (a ∷ []) → is_shallow a ≡ true
  one-shallow a h = (both-true (is_shallow a) true h).0

  values-type : (ts : List VType) (vs : List Term) → AreShallow vs → ValuesAre ts vs → values_fit i kind ts vs ≡ true
  values-type [] [] s h = refl
  values-type (t ∷ ts) (a ∷ more) s h =
      let b = both-true (is_shallow a) (list_all is_shallow more) s in and_from (has_type i kind t a) (values_fit i kind ts more) (term-type t a b.0 h.0) (values-type ts more b.1 h.1)
  values-type [] (a ∷ more) s h = absurd h
  values-type (t ∷ ts) [] s h = absurd h

  targets-type : (types : List VType) (xs : List Target) → AreShallow (terms_of xs) → Each (TargetIs types) xs → targets_fit i kind types xs ≡ true
  targets-type types [] s h = refl
  targets-type types (x ∷ xs) s h =
      let b = both-true (is_shallow x.term) (list_all is_shallow (terms_of xs)) s in
      and_from (has_slot_type i kind (slice_get types x.slot) x.term) (targets_fit i kind types xs) (slot-type types x.slot h.0.vtype x.term h.0.slot b.0 h.0.value) (targets-type types xs b.1 h.1)

  pub line-type : (l : Line) → AreShallow (line_terms l) → LineIs l → line_fits i kind l ≡ true
  line-type (SetField f a) s h = slot-type i.fields f h.0 a h.1 (one-shallow a s) h.2
  line-type (Fold r q ts) s h = and_from (reduction_fits i.fields r ts) (targets_fit i kind i.fields ts) h.1 (targets-type i.fields ts s h.2)
  line-type (SetRegister r a) s h = slot-type i.registers r h.0 a h.1 (one-shallow a s) h.2
  line-type (Put r q ts) s h = and_from (reduction_fits i.globals r ts) (targets_fit i kind i.globals ts) h.1 (targets-type i.globals ts s h.2)
  line-type (Send k to vs) s h =
      let b = both-true (is_shallow to) (list_all is_shallow vs) s in
      and_from (has_type i kind V.Node to) (message_fits i kind (slice_get i.kinds k) vs) (term-type V.Node to b.0 h.0) (ap (λ o. message_fits i kind o vs) h.2 ∙ values-type h.1.values vs b.1 h.3)
  line-type (Skip n a) s h = term-type V.Flag a (one-shallow a s) h
  line-type (EachLine d n) s h = refl

-- ---- the lines of the master list

module _ (i : Program) where
  -- a command whose terms have the types that it asks for
  abbrev pub CommandIs : Command → Type 0
  CommandIs (SetGlobal g a) = (t : VType) × (slice_get i.globals g ≡ Some t) × IsTerm i None stands_in_master t a
  CommandIs (Step q) = in_range i.blocks q ≡ true
  CommandIs (Jump to) = Unit {0}
  CommandIs (Test to a) = IsTerm i None stands_in_master V.Flag a
  CommandIs (Turn to a) = IsTerm i None stands_in_master V.Flag a
  CommandIs (Back to) = Unit {0}
  CommandIs Finish = Unit {0}

  pub command-range : (c : Command) → CommandIs c → command_in_range i c && list_all (term_in_range i None) (command_terms c) ≡ true
  command-range (SetGlobal g a) h = and_from (in_range i.globals g) _ (get-in i.globals g h.0 h.1) (and_from (term_in_range i None a) true (term-range i None stands_in_master h.0 a h.2) refl)
  command-range (Step q) h = and_from (in_range i.blocks q) true h refl
  command-range (Jump to) h = refl
  command-range (Test to a) h = and_from (term_in_range i None a) true (term-range i None stands_in_master V.Flag a h) refl
  command-range (Turn to a) h = and_from (term_in_range i None a) true (term-range i None stands_in_master V.Flag a h) refl
  command-range (Back to) h = refl
  command-range Finish h = refl

  pub command-stands : (c : Command) → CommandIs c → list_all (all_leaves stands_in_master) (command_terms c) ≡ true
  command-stands (SetGlobal g a) h = and_from (all_leaves stands_in_master a) true h.2.leaf refl
  command-stands (Step q) h = refl
  command-stands (Jump to) h = refl
  command-stands (Test to a) h = and_from (all_leaves stands_in_master a) true h.leaf refl
  command-stands (Turn to a) h = and_from (all_leaves stands_in_master a) true h.leaf refl
  command-stands (Back to) h = refl
  command-stands Finish h = refl

  pub command-type : (c : Command) → list_all is_shallow (command_terms c) ≡ true → CommandIs c → command_fits i c ≡ true
  command-type (SetGlobal g a) s h = slot-type i None stands_in_master i.globals g h.0 a h.1 (one-shallow i None stands_in_master a s) h.2
  command-type (Step q) s h = refl
  command-type (Jump to) s h = refl
  command-type (Test to a) s h = term-type i None stands_in_master V.Flag a (one-shallow i None stands_in_master a s) h
  command-type (Turn to a) s h = term-type i None stands_in_master V.Flag a (one-shallow i None stands_in_master a s) h
  command-type (Back to) s h = refl
  command-type Finish s h = refl
