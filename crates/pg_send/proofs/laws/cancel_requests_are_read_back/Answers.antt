use Rattle.std.proofs.Common.{◌≡◌, ◌↔◌, ◌^◌, ◌<◌, [], length, None, refl, arith}
use Rattle.std.proofs.lemmas.List.{append-nil}
use Rattle.pg_format.specs.Format.{Means}
use Rattle.pg_format.specs.Messages.{Cancel, First, cancelling, first_message, key_fault}
use Rattle.pg_format.proofs.FormatLaws.FromClient.{lawful_first_message}
use Rattle.pg_send.specs.CancelRequest.{cancel_request_body}
use Rattle.pg_send.proofs.laws.cancel_requests_are_read_back.Goals as goal

-- A cancel request is read back.
module _ (cancel : Cancel) (small : cancel.process_id < 2 ^ 32) (long : key_fault (length cancel.secret_key) ≡ None) where
  fits : first_message.Fits (cancelling cancel) []
  fits = ((omega arith, ((omega (arith, small), (refl, long)), refl)), refl)

  means : Means first_message (cancel_request_body cancel) (cancelling cancel)
  means = rw append-nil at (lawful_first_message.written (cancelling cancel) [] fits)

read_back : (cancel : Cancel) (read : First) → cancel.process_id < 2 ^ 32 → key_fault (length cancel.secret_key) ≡ None → Means first_message (cancel_request_body cancel) read ↔ (read ≡ cancelling cancel)
read_back cancel read small long =
    let itself = means cancel small long in (
      (λ p. (lawful_first_message.one_value (cancel_request_body cancel) [] [] read (cancelling cancel) p itself).0),
      (λ e. rw e itself),
    )

pub returns-clause-length : goal.returns-clause-length
returns-clause-length c = λ cancel. omega arith

pub returns-clause-read : goal.returns-clause-read
returns-clause-read c = λ cancel in_range long read. read_back cancel read in_range long
