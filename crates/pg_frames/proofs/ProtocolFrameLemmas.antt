-- The 21 kinds are among the 24, and these among messages of any tag.
use Rattle.std.specs.Prelude.{ℕ, List}
use Rattle.pg_base.specs.Format.{IsBackendTag}
use Rattle.pg_format.specs.Protocol.{IsProtocolTag}
use Rattle.pg_format.specs.declared.protocol.ProtocolMessageKind.TheVariants as kinds
use Rattle.pg_frames.specs.ProtocolFrame as protocol
use Rattle.pg_frames.specs.Stream as known
use Rattle.pg_frames.specs.Stream.Raw as any
use Rattle.pg_frames.proofs.FramingLemmas.{more_whole, more_wants}

of_all : (tag : ℕ) → IsBackendTag tag → IsProtocolTag tag
of_all tag p = (kinds.Known p.0, p.1)

pub known_whole : (bytes : List ℕ) → known.Whole bytes → protocol.Whole bytes
known_whole bytes p = more_whole known.of_server protocol.of_protocol of_all bytes p

pub known_wants : (bytes : List ℕ) → known.WantsMore bytes → protocol.WantsMore bytes
known_wants bytes wants = more_wants known.of_server protocol.of_protocol of_all bytes wants

pub any_whole : (bytes : List ℕ) → protocol.Whole bytes → any.Whole bytes
any_whole bytes p = more_whole protocol.of_protocol any.of_any (λ tag is. tt) bytes p

pub any_wants : (bytes : List ℕ) → protocol.WantsMore bytes → any.WantsMore bytes
any_wants bytes wants = more_wants protocol.of_protocol any.of_any (λ tag is. tt) bytes wants
