-- A request for authentication by any method, and what is said of it where SASL's items are read. Documentation: "Message
-- Formats", AuthenticationOk (B) and those after it.
use Rattle.std.specs.Prelude.{ℕ, List}
use Rattle.pg_format.specs.Format.{Format}
use Rattle.pg_format.specs.Format.Sequences.{viewed}
use Rattle.pg_format.specs.Messages as page
use Rattle.pg_receive.specs.Authentication.{AuthenticationValue, value_of}
use Rattle.pg_receive.specs.Authentication.Shown.{authentication_borrowed}
use Rattle.pg_receive.specs.declared.message.authentication.any.AnyAuthenticationRef.{AnyAuthenticationRef}
use Rattle.pg_receive.specs.declared.message.authentication.any.AnyAuthenticationRef.TheVariants as requests

pub data AnyAuthenticationValue : Type 0 where
  known_method : AuthenticationValue → AnyAuthenticationValue
  kerberos_v5 : AnyAuthenticationValue
  scm_credential : AnyAuthenticationValue
  gss : AnyAuthenticationValue
  gss_continue : List ℕ → AnyAuthenticationValue
  sspi : AnyAuthenticationValue
  other_method : ℕ → List ℕ → AnyAuthenticationValue

abbrev pub any_value_of : page.AnyAuthentication → AnyAuthenticationValue
any_value_of (page.known_method request) = known_method (value_of request)
any_value_of page.kerberos_v5 = kerberos_v5
any_value_of page.scm_credential = scm_credential
any_value_of page.gss = gss
any_value_of (page.gss_continue content) = gss_continue content
any_value_of page.sspi = sspi
any_value_of (page.other_method method content) = other_method method content

abbrev pub any_requests : Format AnyAuthenticationValue
any_requests = viewed any_value_of page.any_authentication

abbrev pub any_borrowed : AnyAuthenticationRef → AnyAuthenticationValue
any_borrowed (requests.Known request) = known_method (authentication_borrowed request)
any_borrowed requests.KerberosV5 = kerberos_v5
any_borrowed requests.ScmCredential = scm_credential
any_borrowed requests.Gss = gss
any_borrowed (requests.GssContinue content) = gss_continue content.now
any_borrowed requests.Sspi = sspi
any_borrowed (requests.Other method content) = other_method method content.now
