use Rattle.std.proofs.Common.{refl}
use Rattle.pg_format.proofs.laws.examples.examples_of_writing.Goals as goal

pub returns-clause-cleartext_written : goal.returns-clause-cleartext_written
returns-clause-cleartext_written c = refl

pub returns-clause-md5_written : goal.returns-clause-md5_written
returns-clause-md5_written c = refl
