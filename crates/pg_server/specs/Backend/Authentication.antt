-- AuthenticationOk and the requests after it: the number of a method, and what it asks. Documentation:
-- "Message Formats", the messages whose names begin with Authentication.
use Rattle.std.specs.Prelude.{◌≡◌, ℕ, List, map, length, Option, None}
use Rattle.std.specs.Borrow.{Bor}
use Rattle.std.specs.List.{list_any}
use Rattle.pg_base.specs.declared.error.ProtocolFault.{ProtocolFault}
use Rattle.pg_format.specs.Messages as page
use Rattle.pg_server.specs.Backend.OutboundItem.{breaks_names, nul_fault}
use Rattle.pg_server.specs.declared.backend.authentication.OutboundAuthentication.{OutboundAuthentication}
use Rattle.pg_server.specs.declared.backend.authentication.OutboundAuthentication.TheVariants as requests

abbrev pub request_of : OutboundAuthentication → page.AnyAuthentication
request_of requests.Ok = page.known_method page.ok
request_of requests.KerberosV5 = page.kerberos_v5
request_of requests.CleartextPassword = page.known_method page.cleartext_password
request_of (requests.Md5Password salt) = page.known_method (page.md5_password salt)
request_of requests.ScmCredential = page.scm_credential
request_of requests.Gss = page.gss
request_of (requests.GssContinue content) = page.gss_continue content.now
request_of requests.Sspi = page.sspi
request_of (requests.Sasl names) = page.known_method (page.sasl (map (λ (name : Bor (List ℕ)). name.now) names.now))
request_of (requests.SaslContinue content) = page.known_method (page.sasl_continue content.now)
request_of (requests.SaslFinal content) = page.known_method (page.sasl_final content.now)

-- the name of a mechanism is empty, which would end the names, or holds a NUL
abbrev pub names_fault : page.AnyAuthentication → Option ProtocolFault
names_fault (page.known_method (page.sasl names)) = nul_fault (list_any breaks_names names)
names_fault other = None

-- A salt has four bytes. A server asks by no method beside those of the documentation.
abbrev pub IsAskable : page.AnyAuthentication → Type 0
IsAskable (page.known_method (page.md5_password salt)) = length salt ≡ 4
IsAskable (page.other_method method content) = ⊥
IsAskable other = Unit {0}
