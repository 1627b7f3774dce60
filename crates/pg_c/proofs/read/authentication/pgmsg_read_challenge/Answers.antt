use Rattle.pg_receive.specs.Authentication.Shown.{continue_borrowed}
use Rattle.pg_c.proofs.read.authentication.pgmsg_read_challenge.Goals as goal

pub returns-in-Ok-clause-value : goal.returns-in-Ok-clause-value
returns-in-Ok-clause-value c = λ _. record {
  value = continue_borrowed c.in-Ok.read;
  means = c.in-Ok.ensures.value;
  iterations = c.lengths_of.ensures.iterations;
  salt_len = c.lengths_of.ensures.salt;
  salt = c.give.ensures.given;
  nonce_len = c.lengths_of.ensures.nonce;
  nonce = rw c.as_bytes.ensures.value at c.give_text.ensures;
}
