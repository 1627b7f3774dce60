-- The words of a relay's errors.
use Rattle.std.specs.Prelude.{ℕ, List, ◌++◌, codes, decimal}
use Rattle.std.specs.Fmt.{signed_decimal}
use Rattle.pg_frames.specs.declared.relay.error.RelayError.{RelayError}
use Rattle.pg_frames.specs.declared.relay.error.RelayError.TheVariants.{BadLength, TooLong, NotFrames, OutOfMemory}

abbrev pub error_words : RelayError → List ℕ
error_words (BadLength length) = codes "bad message length: " ++ signed_decimal length
error_words (TooLong length limit) = codes "expected a message of at most " ++ (decimal limit ++ (codes " bytes, got " ++ decimal length))
error_words NotFrames = codes "expected whole messages to pass on"
error_words OutOfMemory = codes "out of memory"
