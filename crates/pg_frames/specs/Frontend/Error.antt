-- The words of a reader's errors.
use Rattle.std.specs.Prelude.{ℕ, List, codes}
use Rattle.pg_server.specs.Frontend.Error.{fault_words}
use Rattle.pg_frames.specs.declared.frontend.error.FrontendError.{FrontendError}
use Rattle.pg_frames.specs.declared.frontend.error.FrontendError.TheVariants.{Protocol, OutOfMemory}

abbrev pub error_words : FrontendError → List ℕ
error_words (Protocol fault) = fault_words fault
error_words OutOfMemory = codes "out of memory"
