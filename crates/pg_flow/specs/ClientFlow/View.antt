-- what a client's flow stands for
use Rattle.std.specs.Prelude.{List, Option, Some, None, ◌∷◌}
use Rattle.pg_flow.specs.declared.client_flow.ClientFlow.{ClientFlow}
use Rattle.pg_flow.specs.declared.early_syncs.EarlySyncs.{EarlySyncs}
use Rattle.pg_flow.specs.declared.early_syncs.EarlySyncs.TheVariants.{InCopy, InGroup, Usual}
use Rattle.pg_flow.specs.declared.place.Place.{Place}
use Rattle.pg_flow.specs.declared.request.Request.{Request}
use Rattle.pg_flow.specs.ClientFlow.{Client, Copying, Group, Plain}
use Rattle.pg_flow.specs.Plain.{state}

-- what is being answered and what waits behind it, as one queue
abbrev pub queue_as : Option Request → List Request → List Request
queue_as None rs = rs
queue_as (Some r) rs = r ∷ rs

abbrev pub queue_in : ClientFlow → List Request
queue_in flow = queue_as flow.first flow.rest.items

abbrev pub client_as : EarlySyncs → List Request → Place → Client
client_as Usual queue place = Plain (state queue place)
client_as (InCopy early) queue place = Copying early queue place
client_as (InGroup first least more skips) queue place = Group first least more queue skips

abbrev pub client_of : ClientFlow → Client
client_of flow = client_as flow.early (queue_in flow) flow.place
