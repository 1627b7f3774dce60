-- A request for authentication, as a C program passes it: the number of a method, and what follows it.
use Rattle.std.specs.Prelude.{ℕ, ℤ, ◌==◌, ◌&&◌, List, length, Option, Some, None, MatchOption, if◌then◌else◌}
use Rattle.pg_base.specs.declared.error.ProtocolFault.TheVariants.{UnknownAuthentication}
use Rattle.pg_format.specs.Messages as page
use Rattle.pg_server.specs.Backend.Message.{Authentication}
use Rattle.pg_c.specs.Put.{IsRefused}
use Rattle.pg_c.specs.Server.{PutsServerMessage}

-- the request, where as many bytes follow as belong to the method
abbrev pub requested : ℕ → List ℕ → Option page.AnyAuthentication
requested method content =
    if (method == 0) && (length content == 0) then Some (page.known_method page.ok) else
    (if (method == 2) && (length content == 0) then Some page.kerberos_v5 else
    (if (method == 3) && (length content == 0) then Some (page.known_method page.cleartext_password) else
    (if (method == 5) && (length content == 4) then Some (page.known_method (page.md5_password content)) else
    (if (method == 6) && (length content == 0) then Some page.scm_credential else
    (if (method == 7) && (length content == 0) then Some page.gss else
    (if method == 8 then Some (page.gss_continue content) else
    (if (method == 9) && (length content == 0) then Some page.sspi else
    (if method == 11 then Some (page.known_method (page.sasl_continue content)) else
    (if method == 12 then Some (page.known_method (page.sasl_final content)) else None)))))))))

-- it is put, or refused where there is none
abbrev pub PutsRequest : ℕ → List ℕ → List ℕ → List ℕ → ℤ → Type 0
PutsRequest method content old new result =
    MatchOption (requested method content) (IsRefused (UnknownAuthentication method) old new result) (λ request. PutsServerMessage (Authentication request) old new result)
