-- Why there is no pair of a history and a certificate to check.
use Rattle.std.proofs.Common.{◌≡◌, ◌≢◌, ap, subst, refl, ℕ, List, inl, inr}
use Rattle.serde_json.specs.Data.{Data}
use Rattle.json_histories.specs.declared.read_error.ReadError.{ReadError}
use Rattle.json_histories.specs.declared.read_error.ReadError.TheVariants as errors
use Rattle.json_histories.specs.declared.any_history.AnyHistory.{AnyHistory}
use Rattle.json_histories.specs.declared.any_history.AnyHistory.TheVariants.{Register, Counter, Set, Queue, Memory, Counters, Sets, Queues}
use Rattle.json_histories.specs.AnyForm.{first_refusal, form_of, IsAnyHistory, IsJson}
use Rattle.json_histories.specs.Json.{elements}
use Rattle.cert_check.specs.declared.certificate.Certificate.{Certificate}
use Rattle.cert_check.specs.CertificateForm.{form_of as certificate_form, IsCertificate}
use Rattle.pattern_json.specs.Shortened.{IsTooLarge}
use Rattle.pattern_json.specs.Pairs.{pair_form, pair_refusal, IsPairRefused}
use Rattle.pattern_json.proofs.Shortened.{too_large_has_no_shape}
use Rattle.app_engine.specs.declared.failure.RunError.TheVariants.{BadCertificate, ShapeMismatch}
use Rattle.app_findings.specs.Pieces.{HasShape}
use Rattle.app_engine.specs.Checking.{IsPair, IsUnread}
use Rattle.app_engine.specs.Failure.{failure_of}

-- the first refusal of a pair is that of its history
pub refusal-pair : (d h c : Data) → d ≡ pair_form h c → pair_refusal (elements d) ≡ first_refusal h
refusal-pair d h c is = ap (λ (x : Data). pair_refusal (elements x)) is

pub pair_unread : (text : List ℕ) (e : ReadError) → IsPairRefused text e → IsUnread text (failure_of e)
pair_unread text errors.NotJson none = inl (refl, none)
pair_unread text errors.BadShape refused = inr refused
pair_unread text errors.UnknownObject refused = inr refused
pair_unread text (errors.BadOp op) refused = inr refused
pair_unread text (errors.ReturnAfterUnknown op) refused = inr refused
pair_unread text errors.TooManySessions refused = inr refused
pair_unread text errors.TooManyOps refused = inr refused
pair_unread text errors.Memory refused = tt
pair_unread text errors.BadInitial refused = inr refused

-- a certificate that is too large has the shape of no history
large_has_no_shape : (h : AnyHistory) → IsAnyHistory h → (c : Certificate) → IsTooLarge c → ¬ HasShape h c
large_has_no_shape (Register h) is c large = too_large_has_no_shape _ _ h is.0 c large
large_has_no_shape (Counter h) is c large = too_large_has_no_shape _ _ h is.0 c large
large_has_no_shape (Set h) is c large = too_large_has_no_shape _ _ h is.0 c large
large_has_no_shape (Queue h) is c large = too_large_has_no_shape _ _ h is.0 c large
large_has_no_shape (Memory h) is c large = too_large_has_no_shape _ _ h is.0 c large
large_has_no_shape (Counters h) is c large = too_large_has_no_shape _ _ h is.0 c large
large_has_no_shape (Sets h) is c large = too_large_has_no_shape _ _ h is.0 c large
large_has_no_shape (Queues h) is c large = too_large_has_no_shape _ _ h is.0 c large

module _ (text : List ℕ) (h : AnyHistory) (good : IsAnyHistory h) (d : Data) (json : IsJson text (pair_form (form_of h) d)) where
  -- the second element of the pair is no form of a certificate
  pub pair_without_certificate : ((c : Certificate) → IsCertificate c → d ≢ certificate_form c) → IsUnread text BadCertificate
  pair_without_certificate none = (pair_form (form_of h) d, json, (h, d, good, refl, none))

  pub pair_read : (c : Certificate) → d ≡ certificate_form c → IsPair text (form_of h) (certificate_form c)
  pair_read c is = subst (λ (x : Data). IsJson text (pair_form (form_of h) x)) is json

  -- it is that of a certificate which has the shape of no history
  pub pair_of_other_shape : (c : Certificate) → d ≡ certificate_form c → IsCertificate c → IsTooLarge c → IsUnread text ShapeMismatch
  pair_of_other_shape c is good_certificate large = (h, c, good, good_certificate, pair_read c is, large_has_no_shape h good c large)

pub ruleset unread_pairs = (pair_unread, pair_without_certificate, pair_read, pair_of_other_shape)
