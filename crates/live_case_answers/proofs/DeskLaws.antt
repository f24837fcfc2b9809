-- What is said of a case file by the pieces of its certificate, and by a desk.
use Rattle.std.proofs.Common.{◌≡◌, refl, sym, subst, List, Option, Some, None}
use Rattle.std.specs.Prelude.{MatchOption, IsSome}
use Rattle.model_history.specs.declared.op_id.OpId.{OpId}
use Rattle.model_history.specs.History.{HistoryValue}
use Rattle.cert_check.specs.declared.certificate.Certificate.{Certificate}
use Rattle.cert_check.specs.declared.criterion.Criterion.{Criterion}
use Rattle.cert_check.specs.Certificates.{CaseRecord}
use Rattle.pattern_check.specs.declared.pattern.Pattern.{Pattern}
use Rattle.live_case_board.specs.declared.answer.Answer.{Answer}
use Rattle.live_case_board.specs.declared.answer.Answer.TheVariants.{Yes, Unknown}
use Rattle.live_case_desk.specs.Answers.{IsTrueAnswer}
use Rattle.live_case_answers.specs.Shown.{IsSaidOf, IsSaidOfFile}

pub some-is : {A : Type 0} (o : Option A) → IsSome o → (x : A) × (o ≡ Some x)
some-is (Some x) some = (x, refl)
some-is None some = absurd cc

module _ {S C R : Type 0} (answer : S → List C → C → R) where
  -- what is said of the certificate of a file is said of the file
  pub said-of_file : (file : CaseRecord S C R) (said : Answer) (certificate : Certificate) → file.2 ≡ Some certificate
      → IsSaidOf answer file.0 certificate said → IsSaidOfFile answer file said
  said-of_file file said certificate same holds =
      subst (λ (c : Option Certificate). MatchOption c (said ≡ Unknown None) (λ given. IsSaidOf answer file.0 given said)) (sym same) holds

  -- without a certificate nothing is known
  pub said-of_none : (file : CaseRecord S C R) → file.2 ≡ None → IsSaidOfFile answer file (Unknown None)
  said-of_none file none =
      subst (λ (c : Option Certificate). MatchOption c (Unknown None ≡ Unknown None) (λ given. IsSaidOf answer file.0 given (Unknown None))) (sym none) refl

module _ {S C R : Type 0} (answer : S → List C → C → R) (passes : HistoryValue S C R → Criterion → Pattern → Type 0) (file : CaseRecord S C R) where
  -- a yes of a desk is what is said of the file
  pub yes-said : IsTrueAnswer answer passes file Yes → IsSaidOfFile answer file Yes
  yes-said (certificate, same, explained) = said-of_file answer file Yes certificate same explained

  -- and so is an unknown
  pub unknown-said : (place : Option OpId) → IsTrueAnswer answer passes file (Unknown place) → IsSaidOfFile answer file (Unknown place)
  unknown-said None none = said-of_none answer file none
  unknown-said (Some o) (certificate, same, first) = said-of_file answer file (Unknown (Some o)) certificate same first
