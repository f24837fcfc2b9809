-- How a run that writes a page ends, by what its parts promise.
use Rattle.std.specs.Prelude.{◌≡◌, ◌≢◌, ℕ, List, Bool, Option, refl}
use Rattle.std.specs.Io.KnownBytes.{Appends}
use Rattle.std.proofs.Common.{inl, inr, ap}
use Rattle.app_orders.specs.declared.detail.Detail.{Detail}
use Rattle.app_orders.specs.declared.length.Length.{Length}
use Rattle.app_orders.specs.declared.page.PageOf.TheVariants as pages
use Rattle.app_engine.specs.declared.failure.RunError.{RunError}
use Rattle.app_engine.specs.declared.failure.RunError.TheVariants as failures
use Rattle.app_engine.specs.declared.input.TheConstants.{MAX_INPUT_BYTES}
use Rattle.app_engine.specs.InputLengths.{most_bytes}
use Rattle.app_engine.specs.Running.{Fails}
use Rattle.app_logs.specs.declared.failure.LogError.TheVariants as log_failures
use Rattle.app_pages.specs.declared.failure.PageError.{PageError}
use Rattle.app_pages.specs.declared.failure.PageError.TheVariants as page_failures
use Rattle.app_pages.specs.Writing.{FailsToWrite, IsPageOfInput, IsPageOfLog, WritesPage, listing_order}
use Rattle.app_process.specs.Endings.{EndsLogPage, EndsPageOf, TellsOfPage, torn_remark}
use Rattle.json_lines.specs.declared.fault.Fault.{Fault}
use Rattle.app_process.specs.Faults.{MayFail, MayFailOnPage}
use Rattle.app_process.specs.Failing.{Refuses, history_form, refusal_for}

module _ {may : Fault → Type 0} (label : Option (List ℕ)) (at_terminal : Bool) (most : ℕ) where
  pub shows_input : (long : Length) (detail : Detail) (reader before after said : Option (List ℕ)) (status : ℕ) → status ≡ 0
      → WritesPage (most_bytes long) (IsPageOfInput most long) reader before after
      → EndsPageOf may label at_terminal (pages.Input long) most detail reader before after said said status
  shows_input long detail reader before after said status is_status writes =
      inl (record { writes = writes; is_status = is_status; quiet = refl })

  pub refuses_input : {W : Type 0} (contents : W → Option (List ℕ)) (old new : W) (long : Length) (detail : Detail)
      (reader said_before said_after : Option (List ℕ)) (status : ℕ) (error : RunError) → Fails (listing_order most long) reader error → MayFail may error
      → (error ≢ failures.WriteFault → new ≡ old)
      → Refuses label at_terminal detail (refusal_for (history_form long) error) error said_before said_after status
      → EndsPageOf may label at_terminal (pages.Input long) most detail reader (contents old) (contents new) said_before said_after status
  refuses_input contents old new long detail reader said_before said_after status error fails blamed unwritten refuses =
      inr (record { error = error; fails = fails; blamed = blamed; unwritten = λ n. ap contents (unwritten n); refuses = refuses })

  pub shows_log : (reader before after said_before said_after : Option (List ℕ)) (status : ℕ) (torn : Bool) → status ≡ 0
      → WritesPage MAX_INPUT_BYTES (IsPageOfLog most torn) reader before after → Appends said_before said_after (torn_remark label torn)
      → EndsLogPage may label at_terminal most reader before after said_before said_after status
  shows_log reader before after said_before said_after status torn is_status writes said =
      inl (record { torn = torn; writes = writes; is_status = is_status; said = said })

  pub refuses_log_page : {W : Type 0} (contents : W → Option (List ℕ)) (old new : W)
      (reader said_before said_after : Option (List ℕ)) (status : ℕ) (error : PageError) → FailsToWrite most reader error → MayFailOnPage may error
      → (error ≢ page_failures.Log log_failures.WriteFault → new ≡ old)
      → TellsOfPage label at_terminal error said_before said_after status
      → EndsLogPage may label at_terminal most reader (contents old) (contents new) said_before said_after status
  refuses_log_page contents old new reader said_before said_after status error fails blamed unwritten tells =
      inr (record { error = error; fails = fails; blamed = blamed; unwritten = λ n. ap contents (unwritten n); tells = tells })
