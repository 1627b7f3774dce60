-- What an authentication request shows, owned and borrowed.
use Rattle.std.specs.Prelude.{string_bytes, ℕ, List}
use Rattle.pg_receive.specs.declared.message.authentication.sasl_continue.AuthenticationSaslContinue.{AuthenticationSaslContinue}
use Rattle.pg_receive.specs.declared.message.authentication.sasl_continue.AuthenticationSaslContinueRef.{AuthenticationSaslContinueRef}
use Rattle.pg_receive.specs.Authentication.SaslContinue.{ContinueValue}
use Rattle.pg_receive.specs.declared.message.authentication.sasl_final.AuthenticationSaslFinal.{AuthenticationSaslFinal}
use Rattle.pg_receive.specs.declared.message.authentication.Authentication.{Authentication}
use Rattle.pg_receive.specs.declared.message.authentication.Authentication.TheVariants as requests
use Rattle.pg_receive.specs.Authentication.{AuthenticationValue, accepted, cleartext_password, md5_password, sasl, sasl_continue, sasl_final}
use Rattle.pg_receive.specs.declared.message.authentication.authentication_ref.AuthenticationRef.{AuthenticationRef}
use Rattle.pg_receive.specs.declared.message.authentication.authentication_ref.AuthenticationRef.TheVariants as borrowed

abbrev pub continue_shown : AuthenticationSaslContinue → ContinueValue
continue_shown challenge = record {
  salt = challenge.salt.items;
  iterations = challenge.iterations;
  nonce = string_bytes challenge.nonce;
  message = string_bytes challenge.message;
}

abbrev pub continue_borrowed : AuthenticationSaslContinueRef → ContinueValue
continue_borrowed challenge = record {
  salt = challenge.salt;
  iterations = challenge.iterations;
  nonce = challenge.nonce.now;
  message = challenge.message.now;
}

abbrev pub final_shown : AuthenticationSaslFinal → List ℕ
final_shown final = final.verifier.items

abbrev pub authentication_shown : Authentication → AuthenticationValue
authentication_shown requests.Ok = accepted
authentication_shown requests.CleartextPassword = cleartext_password
authentication_shown (requests.Md5Password request) = md5_password request.salt
authentication_shown (requests.Sasl names) = sasl names
authentication_shown (requests.SaslContinue challenge) = sasl_continue (continue_shown challenge)
authentication_shown (requests.SaslFinal final) = sasl_final (final_shown final)

abbrev pub authentication_borrowed : AuthenticationRef → AuthenticationValue
authentication_borrowed borrowed.Ok = accepted
authentication_borrowed borrowed.CleartextPassword = cleartext_password
authentication_borrowed (borrowed.Md5Password request) = md5_password request.salt
authentication_borrowed (borrowed.Sasl names) = sasl names
authentication_borrowed (borrowed.SaslContinue challenge) = sasl_continue (continue_borrowed challenge)
authentication_borrowed (borrowed.SaslFinal final) = sasl_final final.verifier
