-- what a flow stands for
use Rattle.pg_flow.specs.declared.flow.Role.TheVariants as roles
use Rattle.pg_flow.specs.declared.flow.Flow.{Flow}
use Rattle.pg_flow.specs.declared.flow.Role.{Role}
use Rattle.pg_flow.specs.ClientFlow.View.{client_of}
use Rattle.pg_flow.specs.Flow.{OfClient, OfServer, Session, Side, session}
use Rattle.pg_flow.specs.ServerFlow.View.{server_of}

abbrev pub side_of : Role → Side
side_of (roles.Client flow) = OfClient (client_of flow) flow.said
side_of (roles.Server flow) = OfServer (server_of flow) flow.taken

abbrev pub session_of : Flow → Session
session_of flow = session flow.stage flow.left (side_of flow.role) flow.status
