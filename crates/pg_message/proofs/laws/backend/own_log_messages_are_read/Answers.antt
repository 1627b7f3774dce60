use Rattle.pg_message.proofs.BackendLemmas.{read_in_piece}
use Rattle.pg_message.proofs.laws.backend.own_log_messages_are_read.Goals as goal

pub returns : goal.returns
returns c = read_in_piece
