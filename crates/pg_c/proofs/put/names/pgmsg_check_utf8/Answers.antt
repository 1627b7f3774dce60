use Rattle.std.proofs.Common.{sym}
use Rattle.std.proofs.lemmas.Str.{utf8_valid_len-IsUtf8}
use Rattle.pg_c.proofs.put.names.pgmsg_check_utf8.Goals as goal

pub returns-in-Ok : goal.returns-in-Ok
returns-in-Ok c = sym (utf8_valid_len-IsUtf8 c.args.text.now c.in-Ok.ensures.cases.1)
