-- A first message as a C program reads it.
use Rattle.std.specs.Prelude.{◌≡◌, ℕ, List, Some, Ok, Err, drop}
use Rattle.pg_server.specs.Frontend.FirstMessageRef as frontend
use Rattle.pg_server.specs.declared.frontend.error.FrontendFault.{FrontendFault}
use Rattle.pg_server.specs.declared.frontend.first_message_ref.FirstMessageRef.{FirstMessageRef}
use Rattle.pg_server.specs.declared.frontend.first_message_ref.FirstMessageRef.TheVariants as messages
use Rattle.pg_c.specs.Place.{part, nowhere}
use Rattle.pg_c.specs.declared.client.first.PgmsgFirst.{PgmsgFirst}

-- the message by its kind; what is of other kinds is 0 and empty, and the settings are all after the code
abbrev pub IsGivenAs : List ℕ → FirstMessageRef → PgmsgFirst → Type 0
IsGivenAs body (messages.Startup minor settings) first =
    (part body first.settings ≡ Some (drop 4 body)) × (first ≡ record { kind = 0; minor = minor; process_id = 0; settings = first.settings; secret_key = nowhere })
IsGivenAs body (messages.CancelRequest cancel) first =
    (part body first.secret_key ≡ Some cancel.secret_key.now) × (first ≡ record { kind = 1; minor = 0; process_id = cancel.process_id; settings = nowhere; secret_key = first.secret_key })
IsGivenAs body messages.SslRequest first = first ≡ record { kind = 2; minor = 0; process_id = 0; settings = nowhere; secret_key = nowhere }
IsGivenAs body messages.GssEncRequest first = first ≡ record { kind = 3; minor = 0; process_id = 0; settings = nowhere; secret_key = nowhere }

-- the body means a first message, and this is it
pub record ReadsFirst (body : List ℕ) (first : PgmsgFirst) : Type 0 where
  pub message : FirstMessageRef
  pub reads : frontend.ReadsFirst body (Ok message)
  pub given : IsGivenAs body message first

-- the body means no first message, for this fault
abbrev pub BreaksFirst : List ℕ → FrontendFault → Type 0
BreaksFirst body why = frontend.ReadsFirst body (Err why)
