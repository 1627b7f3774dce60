use Rattle.pg_format.proofs.FormatLaws.FromServer as server
use Rattle.pg_format.proofs.laws.other_messages_from_a_server.Goals as goal

pub returns-clause-lawful_request : goal.returns-clause-lawful_request
returns-clause-lawful_request c = server.lawful_any_authentication

pub returns-clause-total_request : goal.returns-clause-total_request
returns-clause-total_request c = server.total_any_authentication

pub returns-clause-lawful_key : goal.returns-clause-lawful_key
returns-clause-lawful_key c = server.lawful_backend_key

pub returns-clause-total_key : goal.returns-clause-total_key
returns-clause-total_key c = server.total_backend_key

pub returns-clause-lawful_call : goal.returns-clause-lawful_call
returns-clause-lawful_call c = server.lawful_function_call_response

pub returns-clause-total_call : goal.returns-clause-total_call
returns-clause-total_call c = server.total_function_call_response

pub returns-clause-lawful_negotiation : goal.returns-clause-lawful_negotiation
returns-clause-lawful_negotiation c = server.lawful_negotiation

pub returns-clause-total_negotiation : goal.returns-clause-total_negotiation
returns-clause-total_negotiation c = server.total_negotiation
