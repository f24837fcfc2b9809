-- What follows from what is said of a case file.
use Rattle.std.proofs.Common.{◌≡◌, ℕ, refl, sym, subst, List, Option, Some, None}
use Rattle.std.specs.Prelude.{IfSome, IsSomeAnd, Result, Ok, Err, IfOk}
use Rattle.model_history.specs.declared.op_id.OpId.{OpId}
use Rattle.model_history.specs.History.{HistoryValue}
use Rattle.cert_check.specs.declared.certificate.Certificate.{Certificate}
use Rattle.cert_check.specs.declared.criterion.Criterion.{Criterion}
use Rattle.cert_check.specs.Certificates.{CaseRecord, HasShapeOf, IsCaseFile, IsExplainedThroughout, IsFirstUnexplained, criterion_of}
use Rattle.cert_check.specs.Criteria.{Meets}
use Rattle.pattern_check.specs.declared.kind.Kind.{Kind}
use Rattle.live_case_board.specs.declared.answer.Answer.{Answer}
use Rattle.live_case_board.specs.declared.answer.Answer.TheVariants.{Yes, No, Unknown, Open}
use Rattle.cert_check.specs.declared.desk_error.DeskError.{DeskError}
use Rattle.cert_check.specs.declared.desk_error.DeskError.TheVariants.{Memory}
use Rattle.judge_workers.specs.Workers.{AreWorkers}
use Rattle.live_case_answers.specs.Shown.{IsSaidOfFile}
use Rattle.app_judging.specs.Judgements.{IsFounded, IsJudgeError, IsKnown, IsUnexplainedOf}

-- what follows from what an answer is
pub ok-follows : {A E : Type 0} {P Q : A → Type 0} (r : Result A E) → ((a : A) → P a → Q a) → IfOk r P → IfOk r Q
ok-follows (Ok a) follows holds = follows a holds
ok-follows (Err e) follows holds = tt

-- a refusal for want of memory, where there may be so many workers
pub memory_alone : (workers : ℕ) (e : DeskError) → AreWorkers workers → e ≡ Memory → IsJudgeError workers e
memory_alone workers e are same = subst (λ (d : DeskError). IsJudgeError workers d) (sym same) are

-- where no kind excludes, any may
pub founded-more : (met : Type 0) (excluded : Kind → Type 0) (unexplained : OpId → Type 0) (a : Answer)
    → IsFounded met (λ kind. ⊥) unexplained a → IsFounded met excluded unexplained a
founded-more met excluded unexplained Yes founded = founded
founded-more met excluded unexplained (No kind) founded = absurd founded
founded-more met excluded unexplained (Unknown None) founded = tt
founded-more met excluded unexplained (Unknown (Some o)) founded = founded
founded-more met excluded unexplained (Open n) founded = absurd founded

pub founded-no : (met : Type 0) (unexplained : OpId → Type 0) (a : Answer) → IsFounded met (λ kind. ⊥) unexplained a → (kind : Kind) → ¬ (a ≡ No kind)
founded-no met unexplained Yes founded kind same = absurd cc
founded-no met unexplained (No other) founded kind same = absurd founded
founded-no met unexplained (Unknown None) founded kind same = absurd cc
founded-no met unexplained (Unknown (Some o)) founded kind same = absurd cc
founded-no met unexplained (Open n) founded kind same = absurd founded

pub founded-met : (met : Type 0) (excluded : Kind → Type 0) (unexplained : OpId → Type 0) (a : Answer) → IsFounded met excluded unexplained a → a ≡ Yes → met
founded-met met excluded unexplained Yes founded same = founded
founded-met met excluded unexplained (No kind) founded same = absurd cc
founded-met met excluded unexplained (Unknown place) founded same = absurd cc
founded-met met excluded unexplained (Open n) founded same = absurd cc

-- what is made for a criterion and has the shape of the history makes a case file
pub made-case_file : {S C R : Type 0} (h : HistoryValue S C R) (criterion : Criterion) (made : Option Certificate)
    → IfSome made (λ c. criterion_of c ≡ criterion) → IfSome made (λ c. HasShapeOf h c) → IsCaseFile (h, criterion, made)
made-case_file h criterion None fits shape certificate same = absurd cc
made-case_file h criterion (Some c) fits shape certificate same =
    let equal : c ≡ certificate = cc in
    (subst (λ (d : Certificate). criterion_of d ≡ criterion) equal fits, subst (λ (d : Certificate). HasShapeOf h d) equal shape)

module _ {S C R : Type 0} (answer : S → List C → C → R) where
  -- what is said of a file is founded
  module _ (law : (h : HistoryValue S C R) (c : Certificate) → HasShapeOf h c → IsExplainedThroughout answer h c → Meets answer h (criterion_of c)) where
    pub said-founded : (file : CaseRecord S C R) → IsCaseFile file → (said : Answer) → IsSaidOfFile answer file said
        → IsFounded (Meets answer file.0 file.1) (λ kind. ⊥) (IsUnexplainedOf answer file.0 file.1) said
    said-founded (h, criterion, None) is_file Yes holds = absurd cc
    said-founded (h, criterion, Some certificate) is_file Yes holds =
        let fits = is_file certificate refl in
        subst (λ (k : Criterion). Meets answer h k) fits.0 (law h certificate fits.1 holds)
    said-founded file is_file (Unknown None) holds = tt
    said-founded (h, criterion, None) is_file (Unknown (Some o)) holds = absurd cc
    said-founded (h, criterion, Some certificate) is_file (Unknown (Some o)) holds =
        let fits = is_file certificate refl in (certificate, fits.0, fits.1, holds)
    said-founded (h, criterion, None) is_file (No kind) holds = absurd cc
    said-founded (h, criterion, Some certificate) is_file (No kind) holds = absurd holds
    said-founded (h, criterion, None) is_file (Open n) holds = absurd cc
    said-founded (h, criterion, Some certificate) is_file (Open n) holds = absurd holds

  -- where the certificate explains every operation, the answer is known
  pub said-known : (file : CaseRecord S C R) (certificate : Certificate) → file.2 ≡ Some certificate
      → IsExplainedThroughout answer file.0 certificate → (said : Answer) → IsSaidOfFile answer file said → IsKnown said
  said-known (h, criterion, given) certificate same explained Yes holds = tt
  said-known (h, criterion, given) certificate same explained (No kind) holds = tt
  said-known (h, criterion, None) certificate same explained (Unknown place) holds = absurd cc
  said-known (h, criterion, Some given) certificate same explained (Unknown None) holds = absurd holds
  said-known (h, criterion, Some given) certificate same explained (Unknown (Some o)) holds =
      let first : IsFirstUnexplained answer h given o = holds in
      let equal : certificate ≡ given = cc in
      absurd (first.unexplained (subst (λ (c : Certificate). IsExplainedThroughout answer h c) equal explained o first.is_op))
  said-known (h, criterion, None) certificate same explained (Open n) holds = absurd cc
  said-known (h, criterion, Some given) certificate same explained (Open n) holds = absurd holds

  -- where what was made explains every operation, the answer is known
  pub made-known : (h : HistoryValue S C R) (criterion : Criterion) (made : Option Certificate) (file : CaseRecord S C R) → file ≡ (h, criterion, made)
      → IsSomeAnd made (λ c. IsExplainedThroughout answer h c) → (said : Answer) → IsSaidOfFile answer file said → IsKnown said
  made-known h criterion None file same explained said holds = absurd explained
  made-known h criterion (Some c) file same explained said holds =
      said-known (h, criterion, Some c) c refl explained said (subst (λ (f : CaseRecord S C R). IsSaidOfFile answer f said) same holds)

  -- what is founded for a file is founded for what it was made of
  pub made-founded : (h : HistoryValue S C R) (criterion : Criterion) (made : Option Certificate) (file : CaseRecord S C R) → file ≡ (h, criterion, made)
      → (a : Answer) → IsFounded (Meets answer file.0 file.1) (λ kind. ⊥) (IsUnexplainedOf answer file.0 file.1) a
      → IsFounded (Meets answer h criterion) (λ kind. ⊥) (IsUnexplainedOf answer h criterion) a
  made-founded h criterion made file same a founded =
      subst (λ (f : CaseRecord S C R). IsFounded (Meets answer f.0 f.1) (λ kind. ⊥) (IsUnexplainedOf answer f.0 f.1) a) same founded
