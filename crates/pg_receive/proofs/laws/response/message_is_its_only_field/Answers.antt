use Rattle.pg_receive.proofs.ResponseOnlyFieldLemmas.{message_of_one, code_of_one, message_by_get, code_by_get}
use Rattle.pg_receive.proofs.laws.response.message_is_its_only_field.Goals as goal

pub returns-clause-message : goal.returns-clause-message
returns-clause-message c = message_by_get

pub returns-clause-code : goal.returns-clause-code
returns-clause-code c = code_by_get

pub returns-clause-raw_message : goal.returns-clause-raw_message
returns-clause-raw_message c = message_of_one

pub returns-clause-raw_code : goal.returns-clause-raw_code
returns-clause-raw_code c = code_of_one
