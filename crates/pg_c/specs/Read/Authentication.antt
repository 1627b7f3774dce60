-- What a server asks of a client, as a C program reads it.
use Rattle.std.specs.Prelude.{◌≡◌, ◌≢◌, ◌⊎◌, ℕ, ℤ, pos, List, Some, drop, length}
use Rattle.pg_base.specs.declared.error.ProtocolFault.{ProtocolFault}
use Rattle.pg_base.specs.declared.error.ProtocolFault.TheVariants.{UnknownAuthentication}
use Rattle.pg_format.specs.Format.{Means, IsFaultOf}
use Rattle.pg_receive.specs.Authentication.{AuthenticationValue, sasl_continue, sasl_final, method_of, requests}
use Rattle.pg_receive.specs.Authentication.Mechanisms.{raw_mechanisms_in}
use Rattle.pg_receive.specs.Authentication.Raw.{Request, raw_request}
use Rattle.pg_receive.specs.Authentication.SaslContinue.{ContinueValue}
use Rattle.pg_base.specs.Sink.{IsGiven}
use Rattle.pg_c.specs.Place.{part}
use Rattle.pg_c.specs.Read.{IsBodyFault}
use Rattle.pg_c.specs.declared.read.authentication.PgmsgAuthentication.{PgmsgAuthentication}
use Rattle.pg_c.specs.declared.read.authentication.PgmsgChallenge.{PgmsgChallenge}

-- the body means a request by some method, and this is it
pub record ReadsRequest (body : List ℕ) (read : PgmsgAuthentication) : Type 0 where
  pub request : Request
  pub means : Means raw_request body request
  pub method : read.method ≡ request.method
  pub content : part body read.content ≡ Some request.content

-- the mechanisms that a body offers, after the number of the method
abbrev pub offered : List ℕ → List (List ℕ)
offered body = raw_mechanisms_in (drop 4 body)

-- the body means this challenge
abbrev pub MeansChallenge : List ℕ → ContinueValue → Type 0
MeansChallenge body challenge = Means requests body (sasl_continue challenge)

-- the body means this verifier
abbrev pub MeansVerifier : List ℕ → List ℕ → Type 0
MeansVerifier body verifier = Means requests body (sasl_final verifier)

-- the challenge, whose salt and nonce are given
pub record ReadsChallenge (body : List ℕ) (challenge : PgmsgChallenge) (salt_old salt_new nonce_old nonce_new : List ℕ) : Type 0 where
  pub value : ContinueValue
  pub means : MeansChallenge body value
  pub iterations : challenge.iterations ≡ value.iterations
  pub salt_len : challenge.salt_len ≡ length value.salt
  pub salt : IsGiven value.salt salt_old salt_new
  pub nonce_len : challenge.nonce_len ≡ length value.nonce
  pub nonce : IsGiven value.nonce nonce_old nonce_new

-- a result of 0 has read a challenge
abbrev pub Challenges : List ℕ → PgmsgChallenge → List ℕ → List ℕ → List ℕ → List ℕ → ℤ → Type 0
Challenges body challenge salt_old salt_new nonce_old nonce_new result = result ≡ pos 0 → ReadsChallenge body challenge salt_old salt_new nonce_old nonce_new

-- the verifier, whose length is the result, is given
pub record ReadsVerifier (body old new : List ℕ) (result : ℤ) : Type 0 where
  pub verifier : List ℕ
  pub means : MeansVerifier body verifier
  pub length_is : result ≡ pos (length verifier)
  pub given : IsGiven verifier old new

-- the body asks for something else than by this method
pub record IsOtherMethod (method : ℕ) (body : List ℕ) (fault : ProtocolFault) : Type 0 where
  pub value : AuthenticationValue
  pub means : Means requests body value
  pub other : method_of value ≢ method
  pub is : fault ≡ UnknownAuthentication (method_of value)

-- what is wrong with the body of a request by this method
abbrev pub IsAskedFault : ℕ → List ℕ → ProtocolFault → Type 0
IsAskedFault method body fault = IsBodyFault (IsFaultOf requests) body fault ⊎ IsOtherMethod method body fault
