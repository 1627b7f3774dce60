-- The messages without a body, by their tags.
use Rattle.std.specs.Prelude.{ℕ, ◌==◌, Bool, List, [], ◌∷◌, Option, Some, None, if◌then◌else◌}
use Rattle.std.specs.List.{list_any}
use Rattle.pg_base.specs.Format.{backend_tag, frontend_tag}
use Rattle.pg_base.specs.declared.format.BackendMessageFormat.TheVariants as backend
use Rattle.pg_base.specs.declared.format.FrontendMessageFormat.TheVariants as frontend
use Rattle.pg_base.specs.declared.error.ProtocolFault.{ProtocolFault}
use Rattle.pg_base.specs.declared.error.ProtocolFault.TheVariants.{UnknownMessageType}

-- those of a server, and those of a client: the tag of a CopyDone is the same
abbrev pub without_body : List ℕ
without_body =
    backend_tag backend.ParseComplete ∷ backend_tag backend.BindComplete ∷ backend_tag backend.CloseComplete ∷
    frontend_tag frontend.Flush ∷ backend_tag backend.EmptyQueryResponse ∷ frontend_tag frontend.Sync ∷ frontend_tag frontend.Terminate ∷
    frontend_tag frontend.CopyDone ∷ backend_tag backend.NoData ∷ backend_tag backend.PortalSuspended ∷ []

abbrev pub has_no_body : ℕ → Bool
has_no_body tag = list_any (λ of. tag == of) without_body

-- the fault of the tag of a message that has a body, or that there is none of
abbrev pub unknown_unless_empty : ℕ → Option ProtocolFault
unknown_unless_empty tag = if has_no_body tag then None else Some (UnknownMessageType tag)
