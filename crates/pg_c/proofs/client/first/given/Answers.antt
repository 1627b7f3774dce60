use Rattle.std.proofs.Common.{◌≡◌, ℕ, ◌≤◌, ◌-◌, Bool, true, false, List, [], ◌++◌, Ok, Some, length, take, drop, sym, ap, ◌∙◌, arith, append-nil, length-append, append_assoc, refl}
use Rattle.std.specs.Prelude.{◌==◌}
use Rattle.std.proofs.lemmas.List.{take-append-drop, length-take-le, drop_at}
use Rattle.pg_base.specs.declared.error.ProtocolFault.TheVariants.{UnknownCode}
use Rattle.pg_format.specs.Format.{Means}
use Rattle.pg_format.specs.Format.Parts.{fail}
use Rattle.pg_format.specs.Format.Sequences.{case_of, choose}
use Rattle.pg_format.specs.Messages.{Cancel, opening, cancelling, tls, gssapi, settings_of, cancelled, asks_tls, asks_gssapi, cancel_request, ssl_request, gss_enc_request, startup, is_version_3}
use Rattle.pg_base.proofs.ReadingLemmas.{number_fits}
use Rattle.pg_server.specs.Frontend.Page.{shown_cancel}
use Rattle.pg_server.specs.Frontend.FirstMessageRef.{ReadsFirst}
use Rattle.pg_server.specs.declared.frontend.cancel_request.CancelRequestRef.{CancelRequestRef}
use Rattle.pg_server.specs.declared.frontend.first_message_ref.FirstMessageRef.{FirstMessageRef}
use Rattle.pg_server.specs.declared.frontend.first_message_ref.FirstMessageRef.TheVariants as messages
use Rattle.pg_c.specs.Place.{bytes_in}
use Rattle.pg_c.proofs.PlaceLemmas.{bytes_are}
use Rattle.pg_c.proofs.client.first.given.Goals as goal

-- The parts of a first message that was read.

-- a message has a code
code_is_there : (body : List ℕ) (message : FirstMessageRef) → ReadsFirst body (Ok message) → 4 ≤ length body
code_is_there body message p = omega (arith, number_fits 4 body p.0.0 p.1.mid p.1.first)

-- ---- a CancelRequest

-- of all that a code may be, this alone is one
by_tests : (is_cancel is_tls is_gssapi is_version : Bool) (code : ℕ) (bytes : List ℕ) (c : Cancel)
    → (choose is_cancel (case_of cancelling cancelled cancel_request) (choose is_tls (case_of {A = Unit {0}} (λ _. tls) asks_tls ssl_request) (choose is_gssapi (case_of {A = Unit {0}} (λ _. gssapi) asks_gssapi gss_enc_request) (choose is_version (case_of (opening (code - 196608)) settings_of startup) (fail (UnknownCode code)))))).Reads bytes (cancelling c) []
    → Means cancel_request bytes c
by_tests true is_tls is_gssapi is_version code bytes c p = let same : c ≡ p.0 = cc p.2 in rw same p.1
by_tests false true is_gssapi is_version code bytes c p = absurd (let other : cancelling c ≡ tls = p.2 in cc)
by_tests false false true is_version code bytes c p = absurd (let other : cancelling c ≡ gssapi = p.2 in cc)
by_tests false false false true code bytes c p = absurd (let other : cancelling c ≡ opening (code - 196608) p.0 = p.2 in cc)
by_tests false false false false code bytes c p = absurd p

cancel_is : (body : List ℕ) (c : CancelRequestRef) → ReadsFirst body (Ok (messages.CancelRequest c)) → Means cancel_request (drop 4 body) (shown_cancel c)
cancel_is body c p =
    let code = p.1.first in
    let after : drop 4 body ≡ p.1.mid = ap (drop 4) code.parts ∙ drop_at code.spelled p.1.mid 4 code.wide in
    rw after (by_tests (p.0.0 == 80877102) (p.0.0 == 80877103) (p.0.0 == 80877104) (is_version_3 p.0.0) p.0.0 p.1.mid (shown_cancel c) (rw p.2 p.1.second))

-- all that follows a code and a number
after_number : (body spelled key mid : List ℕ) → 4 ≤ length body → drop 4 body ≡ spelled ++ mid → length spelled ≡ 4 → key ≡ mid → bytes_in body 8 (length key) ≡ Some key
after_number body spelled key mid wide parts four is =
    let after : drop 4 body ≡ spelled ++ (key ++ []) = rw (append-nil key, is) parts in
    let whole : body ≡ (take 4 body ++ spelled) ++ (key ++ []) = sym (take-append-drop 4 body) ∙ ap (λ (l : List ℕ). take 4 body ++ l) after ∙ sym (append_assoc (take 4 body) spelled (key ++ [])) in
    let eight : length (take 4 body ++ spelled) ≡ 8 = omega (arith, length-append (take 4 body) spelled, length-take-le 4 body wide, four) in
    bytes_are body (take 4 body ++ spelled) key [] 8 whole eight

key_is : (body : List ℕ) (c : CancelRequestRef) → ReadsFirst body (Ok (messages.CancelRequest c)) → bytes_in body 8 (length c.secret_key.now) ≡ Some c.secret_key.now
key_is body c reads =
    let p = cancel_is body c reads in
    after_number body p.first.spelled c.secret_key.now p.mid (code_is_there body (messages.CancelRequest c) reads) p.first.parts p.first.wide p.second.0.0

pub returns-in-CancelRequest : goal.returns-in-CancelRequest
returns-in-CancelRequest c =
    let case = c.in-CancelRequest in
    rw case.is (key_is c.args.body.now case.cancel (rw case.is at c.requires), refl)
