-- The name of a value by its number. Assumes nothing.
use Rattle.std.proofs.Common.{◌≡◌, ℕ, List, ◌++◌, Some, None, Option, Result, OnOk, decimal, sym, ap, ◌∙◌, subst}
use Rattle.std.specs.Prelude.{ok_or}
use Rattle.std.specs.Option.{IfSome}
use Rattle.std.specs.Result.{MatchResult}
use Rattle.board.specs.declared.refusal.Cause.{Cause}
use Rattle.board.specs.declared.refusal.Cause.TheVariants.{ValueOutOfRange}
use Rattle.std.proofs.lemmas.Result.{IfOk-weaker}
use Rattle.decoding.specs.declared.field.Field.{Field}
use Rattle.decoding.specs.Field.{name_or_number, NamesOrNumbers, value_text}

module _ {V : Type 0} (name : V → List ℕ) (n : ℕ) (is : List ℕ → Type 0) where
  by_value : (o : Option V) (r : Result V Cause) → r ≡ ok_or o ValueOutOfRange → MatchResult r (λ v. IfSome (Some (name v)) is) (λ _. is (decimal n)) → is (name_or_number name o n)
  by_value (Some v) r e m = subst (λ (x : Result V Cause). MatchResult x (λ v. is (name v)) (λ _. is (decimal n))) e m
  by_value None r e m = subst (λ (x : Result V Cause). MatchResult x (λ v. is (name v)) (λ _. is (decimal n))) e m

  pub named : (of : ℕ → Option V) → NamesOrNumbers (λ m r. r ≡ ok_or (of m) ValueOutOfRange) (λ v. Some (name v)) n is → is (name_or_number name (of n) n)
  named of h = by_value (of n) h.0 h.1 h.2

-- what a field holds, written by the name of its value
pub said : {V E : Type 0} (name : V → List ℕ) (of : ℕ → Option V) (old new : List ℕ) (f g : Field) (n : ℕ) (r : Result Unit E) → f ≡ g → value_text g n ≡ name_or_number name (of n) n → OnOk r (NamesOrNumbers (λ m r. r ≡ ok_or (of m) ValueOutOfRange) (λ v. Some (name v)) n (λ text. new ≡ old ++ text)) → OnOk r (new ≡ old ++ value_text f n)
said name of old new f g n r e q h = IfOk-weaker r _ _ (λ s k. named name n (λ text. new ≡ old ++ text) of k ∙ ap (λ text. old ++ text) (sym (ap (λ x. value_text x n) e ∙ q))) h
