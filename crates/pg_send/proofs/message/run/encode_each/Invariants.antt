use Rattle.std.proofs.Common.{◌≡◌, ℕ, ◌≤◌, ◌<◌, length, take, slice_index_or, Ok, vec_len, vec_capacity}
use Rattle.pg_send.specs.Message.{messages_of}
use Rattle.pg_send.specs.Run.{IsAnswerOf}
use Rattle.pg_send.proofs.RunLemmas.{answers_fit, Ran}
use Rattle.pg_send.proofs.message.run.encode_each.Given as goal

abbrev pub invariant-loop-index : goal.invariant-loop-index
invariant-loop-index l = record {
  run : Ran (IsAnswerOf l.strict) (answers_fit l.strict) (messages_of (take l.index l.messages)) (take l.index l.answers) l.fn.buf.items l.buf.items (vec_capacity l.fn.buf) (vec_len l.fn.buf);
  grows : vec_capacity l.fn.buf ≤ vec_capacity l.buf;
  one_each : length l.answers ≡ length l.messages;
  accepted : (k : ℕ) → l.index ≤ k → k < length l.answers → slice_index_or l.answers k (Ok (tt {0})) ≡ Ok (tt {0});
}
