-- What is found of a history are findings that may be shown of it, with answers that `judge` may give.
use Rattle.std.proofs.Common.{◌≡◌, List, ℕ, None, Ok, subst, sym}
use Rattle.cert_check.specs.Criteria.{Meets}
use Rattle.cert_check.specs.declared.criterion.Criterion.{Criterion}
use Rattle.cert_check.specs.declared.criterion.Criterion.TheVariants.{Cc, Cm, Ccv}
use Rattle.json_histories.specs.declared.any_history.AnyHistory.{AnyHistory}
use Rattle.json_histories.specs.declared.any_history.AnyHistory.TheVariants.{Memory}
use Rattle.json_histories.specs.AnyForm.{IsAnyHistory}
use Rattle.order_memory.specs.Memory.{IsDifferentiated, MemoryHistory, memory_answer}
use Rattle.pattern_check.specs.declared.kind.Kind.{Kind}
use Rattle.pattern_check.specs.declared.pattern.Pattern.{Pattern}
use Rattle.pattern_check.specs.Patterns.{IsShownBy, kind_of}
use Rattle.judge_decision.specs.LongDecisions.{IsLongNo}
use Rattle.app_orders.specs.declared.form.ListForm.{ListForm}
use Rattle.app_orders.specs.declared.form.ListForm.TheVariants as list_forms
use Rattle.app_orders.specs.declared.form.LongForm.{LongForm}
use Rattle.app_orders.specs.declared.form.LongForm.TheVariants as long_forms
use Rattle.app_orders.specs.declared.length.Length.TheVariants.{Any, Limited}
use Rattle.app_findings.specs.declared.finding.Finding.TheVariants.{Met, Shown, Present, Unexplained}
use Rattle.app_findings.specs.declared.finding.Findings.{Findings}
use Rattle.app_findings.specs.declared.kept.Kept.{Kept}
use Rattle.app_findings.specs.declared.kept.Kept.TheVariants.{Answers}
use Rattle.app_findings.specs.Answers.{IsKnownOnDistinctValues, IsLongTrueOf, NamesUnexplained}
use Rattle.app_findings.specs.Findings.{EachIsFound, EachIsLongTrueOf, IsFinding}
use Rattle.app_findings.proofs.Each.{each_answer, each_of_three, found-is, found-known, found-names, found-true}
use Rattle.app_findings.proofs.LongTruth.{within_true}
use Rattle.app_explanations.specs.declared.clients.Clients.{Clients}
use Rattle.app_explanations.specs.ExplanationTexts.{IsExplainedBy}
use Rattle.app_explanations.specs.ListTexts.{IsListBy}
use Rattle.app_explanations.specs.Report.{AreFindingsOf}
use Rattle.app_explanations.specs.Steps.LongFound.{IsLongFound}
use Rattle.app_explanations.proofs.CoreLines.{tells_each_any}

-- within the limits
pub found_limited : (kept : Kept) (history : AnyHistory) (findings : Findings) → EachIsFound kept history findings → AreFindingsOf Limited history findings
found_limited kept history findings found = record {
  each = found-is kept history findings found;
  report = record {
    true_of = found-true kept history findings found;
    unknown = found-known kept history findings found;
    unexplained = found-names kept history findings found;
  };
}

module _ (h : MemoryHistory) where
  -- answers on a memory within the limits are answers on it as a history of any length
  long_true : (findings : Findings) → AreFindingsOf Limited (Memory h) findings → EachIsLongTrueOf (Memory h) findings
  long_true findings are =
      let found : EachIsFound Answers (Memory h) findings =
      λ criterion. record { is_finding = are.each criterion; is_true = are.report.true_of criterion; keeps = λ same. absurd cc } in
      within_true {E = Unit {0}} h (Ok findings) found

  pub limited_any : (findings : Findings) → AreFindingsOf Limited (Memory h) findings → AreFindingsOf Any (Memory h) findings
  limited_any findings are = record {
    each = are.each;
    report = record { true_of = long_true findings are; unknown = are.report.unknown; unexplained = are.report.unexplained };
  }

  pub explained_any : (clients : Clients) (form : LongForm) (text : List ℕ) → IsExplainedBy Limited clients form (Memory h) text
      → IsExplainedBy Any clients form (Memory h) text
  explained_any clients long_forms.Words text said = (said.0, limited_any said.0 said.1, tells_each_any h said.0 text said.2)
  explained_any clients long_forms.Json text said = (said.0, (limited_any said.0.findings said.1.0, said.1.1), said.2, said.3)
  explained_any clients long_forms.Picture text svg = svg

  pub listed_any : (clients : Clients) (form : ListForm) (most : ℕ) (text : List ℕ) → IsListBy Limited clients form most (Memory h) text
      → IsListBy Any clients form most (Memory h) text
  listed_any clients list_forms.Words most text (findings, are, (first, rest, lines, tells, few, indented, same)) =
      (findings, limited_any findings are, (first, rest, lines, tells_each_any h findings first tells, few, indented, same))
  listed_any clients list_forms.Json most text said =
      (said.0, record { found = limited_any said.0.findings said.1.found; remarks = said.1.remarks; faults = said.1.faults }, said.2, said.3)

  -- of a memory over the limits, by what is found of each criterion
  pub long_findings : ¬ IsAnyHistory (Memory h) → (findings : Findings) → IsLongFound h Cc findings.cc → IsLongFound h Cm findings.cm
      → IsLongFound h Ccv findings.ccv → AreFindingsOf Any (Memory h) findings
  long_findings over findings of_cc of_cm of_ccv = record {
    each = each_of_three (λ k finding. IsFinding (Memory h) k finding) findings of_cc.is_finding of_cm.is_finding of_ccv.is_finding;
    report = record {
      true_of = record {
        each = each_answer (λ k said. IsLongTrueOf (Memory h) k said) findings of_cc.is_true of_cm.is_true of_ccv.is_true;
        within = λ is. absurd (over is);
      };
      unknown = each_answer (λ k said. IsKnownOnDistinctValues (Memory h) said) findings of_cc.is_known of_cm.is_known of_ccv.is_known;
      unexplained = each_answer (λ k said. NamesUnexplained (Memory h) k said) findings of_cc.names of_cm.names of_ccv.names;
    };
  }

  module _ (criterion : Criterion) where
    pub long_met : Meets memory_answer h criterion → IsLongFound h criterion (Met None)
    long_met met = record { is_finding = (met, tt); is_true = met; is_known = tt; names = tt }

    pub long_present : (kind : Kind) → IsLongNo h criterion kind → IsLongFound h criterion (Present kind)
    long_present kind named = record { is_finding = named.excluded; is_true = named; is_known = tt; names = tt }

    pub long_shown : (pattern : Pattern) (kind : Kind) → IsLongNo h criterion kind → IsShownBy h pattern → kind_of pattern ≡ kind
        → IsLongFound h criterion (Shown pattern)
    long_shown pattern kind named shown same =
        let of_pattern : IsLongNo h criterion (kind_of pattern) = subst (λ (k : Kind). IsLongNo h criterion k) (sym same) named in
        record {
          is_finding = record { differentiated = named.excluded.present.0; against = of_pattern.excluded.against; shown = shown };
          is_true = of_pattern;
          is_known = tt;
          names = tt;
        }

    pub long_open : ¬ IsDifferentiated h → IsLongFound h criterion (Unexplained None None)
    long_open repeated = record { is_finding = (repeated, tt, tt); is_true = tt; is_known = repeated; names = tt }

  pub long_unknown : ¬ IsAnyHistory (Memory h) → ¬ IsDifferentiated h
      → AreFindingsOf Any (Memory h) (record { cc = Unexplained None None; cm = Unexplained None None; ccv = Unexplained None None })
  long_unknown over repeated =
      long_findings over (record { cc = Unexplained None None; cm = Unexplained None None; ccv = Unexplained None None }) (long_open Cc repeated)
      (long_open Cm repeated) (long_open Ccv repeated)
