-- what a server's flow stands for
use Rattle.std.specs.Prelude.{ℕ, Bool, Option, Some, None}
use Rattle.pg_flow.specs.declared.place.Place.{Place}
use Rattle.pg_flow.specs.declared.place.Place.TheVariants.{Skipping}
use Rattle.pg_flow.specs.declared.request.Request.{Request}
use Rattle.pg_flow.specs.declared.server_flow.ServerFlow.{ServerFlow}
use Rattle.pg_flow.specs.ServerFlow.{Busy, Idle, Server, Skips}

abbrev pub server_as : Option Request → Place → Bool → ℕ → Server
server_as None Skipping quiet number = Skips
server_as None _ quiet number = Idle quiet
server_as (Some r) place quiet number = Busy r place quiet number

abbrev pub server_of : ServerFlow → Server
server_of flow = server_as flow.request flow.place flow.quiet flow.number
