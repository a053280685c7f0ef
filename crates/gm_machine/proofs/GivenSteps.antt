-- A line of a fold or a put, by the parts that its targets give.
use Rattle.std.proofs.Common.{◌≡◌, ℕ, Option, Some, None, Result, Ok, Err, List, ◌++◌, length, sym, ap, subst, ◌∙◌}
use Rattle.gm_value.specs.declared.values.Value.{Value}
use Rattle.gm_value.specs.declared.reductions.Reduce.{Reduce}
use Rattle.gm_image.specs.Program.{Target, Fold, Put}
use Rattle.gm_machine.specs.declared.faults.Fault.{Fault}
use Rattle.gm_machine.specs.declared.contributions.ContributionPart.{ContributionPart}
use Rattle.gm_machine.specs.Taking.{Contribution}
use Rattle.gm_machine.specs.Contributions.{contributions_of, AreWhole, gives_parts}
use Rattle.gm_machine.specs.Vertex.{VertexContext, VertexState, After, view, view_with, gives, line_ends, leaves, line_after}
use Rattle.gm_machine.specs.VertexViews.{answered}
use Rattle.gm_machine.proofs.ContributionLemmas.{parts-given, parts-faulted}

module _ (s : VertexContext) (r : Reduce) (place : ℕ) (ts : List Target) (w : VertexState) (fields registers : List Value) where
  evaluated : {n : ℕ} (fault : Option Fault) (parts : List ContributionPart) → fields ≡ w.fields → registers ≡ w.registers → length ts ≡ n →
      answered fault parts ≡ gives_parts (view_with s fields registers) r place n ts → answered fault parts ≡ gives_parts (view s w) r place (length ts) ts
  evaluated fault parts fields_are registers_are long is =
      is
      ∙ ap (λ k. gives_parts (view_with s fields registers) r place k ts) (sym long)
      ∙ ap (λ fs. gives_parts (view_with s fs registers) r place (length ts) ts) fields_are
      ∙ ap (λ rs. gives_parts (view_with s w.fields rs) r place (length ts) ts) registers_are

  found : {n : ℕ} (fault : Option Fault) (parts : List ContributionPart) → fields ≡ w.fields → registers ≡ w.registers → length ts ≡ n →
      answered fault parts ≡ gives_parts (view_with s fields registers) r place n ts → fault ≡ None → Ok parts ≡ gives_parts (view s w) r place (length ts) ts
  found fault parts fields_are registers_are long is none = sym (ap (λ f. answered f parts) none) ∙ evaluated fault parts fields_are registers_are long is

  -- the parts are whole contributions
  pub given-whole : {n : ℕ} (fault : Option Fault) (parts given : List ContributionPart) → fields ≡ w.fields → registers ≡ w.registers → length ts ≡ n →
      answered fault parts ≡ gives_parts (view_with s fields registers) r place n ts → fault ≡ None → given ≡ parts → AreWhole given
  given-whole fault parts given fields_are registers_are long is none same =
      subst AreWhole (sym same) (parts-given (view s w) r place ts parts (found fault parts fields_are registers_are long is none)).0

  gives-these : {n : ℕ} (fault : Option Fault) (parts given : List ContributionPart) → fields ≡ w.fields → registers ≡ w.registers → length ts ≡ n →
      answered fault parts ≡ gives_parts (view_with s fields registers) r place n ts → fault ≡ None → given ≡ parts → gives (view s w) r place ts ≡ Ok (contributions_of given)
  gives-these fault parts given fields_are registers_are long is none same =
      (parts-given (view s w) r place ts parts (found fault parts fields_are registers_are long is none)).1 ∙ ap (λ ps. Ok (contributions_of ps)) (sym same)

  gives-fault : {n : ℕ} (fault : Option Fault) (f : Fault) (parts : List ContributionPart) → fields ≡ w.fields → registers ≡ w.registers → length ts ≡ n →
      answered fault parts ≡ gives_parts (view_with s fields registers) r place n ts → fault ≡ Some f → gives (view s w) r place ts ≡ Err f
  gives-fault fault f parts fields_are registers_are long is some =
      parts-faulted (view s w) r place ts f (sym (ap (λ g. answered g parts) some) ∙ evaluated fault parts fields_are registers_are long is)

  pub fold-given : {n : ℕ} (fault : Option Fault) (parts given : List ContributionPart) (new : List Contribution) → fields ≡ w.fields → registers ≡ w.registers → length ts ≡ n →
      answered fault parts ≡ gives_parts (view_with s fields registers) r place n ts → fault ≡ None → given ≡ parts → new ≡ w.folds ++ contributions_of given →
      leaves (record w { folds = new }) ≡ line_after s (Fold r place ts) w
  fold-given fault parts given new fields_are registers_are long is none same new_is =
      ap (λ cs. leaves (record w { folds = cs })) new_is
      ∙ sym (ap (λ g. line_ends w g (λ cs. leaves (record w { folds = w.folds ++ cs }))) (gives-these fault parts given fields_are registers_are long is none same))

  pub fold-faulted : {n : ℕ} (fault : Option Fault) (f : Fault) (parts : List ContributionPart) → fields ≡ w.fields → registers ≡ w.registers → length ts ≡ n →
      answered fault parts ≡ gives_parts (view_with s fields registers) r place n ts → fault ≡ Some f →
      record { state = w; fault = Some f; skip = 0 } ≡ line_after s (Fold r place ts) w
  fold-faulted fault f parts fields_are registers_are long is some =
      sym (ap (λ g. line_ends w g (λ cs. leaves (record w { folds = w.folds ++ cs }))) (gives-fault fault f parts fields_are registers_are long is some))

  pub put-given : {n : ℕ} (fault : Option Fault) (parts given : List ContributionPart) (new : List Contribution) → fields ≡ w.fields → registers ≡ w.registers → length ts ≡ n →
      answered fault parts ≡ gives_parts (view_with s fields registers) r place n ts → fault ≡ None → given ≡ parts → new ≡ w.puts ++ contributions_of given →
      leaves (record w { puts = new }) ≡ line_after s (Put r place ts) w
  put-given fault parts given new fields_are registers_are long is none same new_is =
      ap (λ cs. leaves (record w { puts = cs })) new_is
      ∙ sym (ap (λ g. line_ends w g (λ cs. leaves (record w { puts = w.puts ++ cs }))) (gives-these fault parts given fields_are registers_are long is none same))

  pub put-faulted : {n : ℕ} (fault : Option Fault) (f : Fault) (parts : List ContributionPart) → fields ≡ w.fields → registers ≡ w.registers → length ts ≡ n →
      answered fault parts ≡ gives_parts (view_with s fields registers) r place n ts → fault ≡ Some f →
      record { state = w; fault = Some f; skip = 0 } ≡ line_after s (Put r place ts) w
  put-faulted fault f parts fields_are registers_are long is some =
      sym (ap (λ g. line_ends w g (λ cs. leaves (record w { puts = w.puts ++ cs }))) (gives-fault fault f parts fields_are registers_are long is some))
