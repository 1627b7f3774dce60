use Rattle.std.specs.Prelude.{[]}
use Rattle.std.proofs.Common.{refl}
use Rattle.pg_format.specs.Tables.{idle, transaction, error}
use Rattle.pg_format.proofs.FormatLaws.FromServer.{lawful_ready_for_query}
use Rattle.pg_format.proofs.laws.examples.examples_of_statuses.Goals as goal

pub returns-clause-idle : goal.returns-clause-idle
returns-clause-idle c = lawful_ready_for_query.written idle [] (tt, refl)

pub returns-clause-transaction : goal.returns-clause-transaction
returns-clause-transaction c = lawful_ready_for_query.written transaction [] (tt, refl)

pub returns-clause-error : goal.returns-clause-error
returns-clause-error c = lawful_ready_for_query.written error [] (tt, refl)
