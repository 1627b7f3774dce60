-- A SASLInitialResponse as a C program reads it.
use Rattle.std.specs.Prelude.{◌≡◌, ℕ, List, Some}
use Rattle.pg_format.specs.Format.{Means}
use Rattle.pg_format.specs.Messages.{SaslInitial, sasl_initial_response}
use Rattle.pg_c.specs.Place.{part}
use Rattle.pg_c.specs.Read.Row.{cell_in}
use Rattle.pg_c.specs.declared.client.sasl_initial.PgmsgSaslInitial.{PgmsgSaslInitial}

-- the body means the choice of a mechanism, and this is it
pub record ReadsSaslInitial (body : List ℕ) (read : PgmsgSaslInitial) : Type 0 where
  pub value : SaslInitial
  pub means : Means sasl_initial_response body value
  pub mechanism : part body read.mechanism ≡ Some value.mechanism
  pub response : cell_in body read.response ≡ Some value.response
