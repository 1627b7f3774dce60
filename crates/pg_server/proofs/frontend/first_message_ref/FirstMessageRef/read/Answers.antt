use Rattle.std.proofs.Common.{◌≡◌, ◌≢◌, ℕ, ◌+◌, ◌<◌, ◌≤◌, true, false, List, [], length, drop, refl, ap, inl, inr, arith}
use Rattle.std.specs.Prelude.{◌==◌}
use Rattle.std.proofs.lemmas.Bool.{ne_eqb, le-leb, lt-leb, lt-ltb, le-ltb, cases_lt}
use Rattle.std.proofs.lemmas.Result.{err_from_is_err_and}
use Rattle.pg_base.specs.declared.error.ProtocolFault.{ProtocolFault}
use Rattle.pg_base.specs.declared.error.ProtocolFault.TheVariants.{UnknownCode}
use Rattle.pg_format.specs.Format.{Means, IsFaultOf}
use Rattle.pg_format.specs.Format.Parts.{be_u32}
use Rattle.pg_format.specs.Format.Places.{IsReadAt}
use Rattle.pg_format.specs.Messages.{Cancel, First, opening, cancelling, tls, gssapi, is_version_3, by_code, cancel_request, empty, startup, first_message}
use Rattle.pg_server.specs.Frontend.Page.{shown_cancel}
use Rattle.pg_server.proofs.frontend.first_message_ref.FirstMessageRef.read.Goals as goal

-- A first message, by its code.

-- ---- what follows a code is the message's

means_first : (body : List ℕ) (code end : ℕ) (first : First) → IsReadAt be_u32 body 0 code end → (by_code code).Reads (drop end body) first [] → Means first_message body first
means_first body code end first p q = ((code, first), record { mid = drop end body; first = p.reads; second = q }, refl)

breaks_first : (body : List ℕ) (code end : ℕ) (fault : ProtocolFault) → IsReadAt be_u32 body 0 code end → (by_code code).Breaks (length body) (drop end body) fault → IsFaultOf first_message body fault
breaks_first body code end fault p q = inr (record { value = code; mid = drop end body; reads = p.reads; breaks = q })

-- ---- the message of a code

cancel_means : (code : ℕ) (bytes : List ℕ) (cancel : Cancel) → code ≡ 80877102 → Means cancel_request bytes cancel → (by_code code).Reads bytes (cancelling cancel) []
cancel_means code bytes cancel e p = rw e (cancel, p, refl)

cancel_breaks : (code len : ℕ) (bytes : List ℕ) (fault : ProtocolFault) → code ≡ 80877102 → cancel_request.Breaks len bytes fault → (by_code code).Breaks len bytes fault
cancel_breaks code len bytes fault e p = rw e p

tls_means : (code : ℕ) (bytes : List ℕ) → code ≡ 80877103 → Means empty bytes tt → (by_code code).Reads bytes tls []
tls_means code bytes e p = rw e (tt, p, refl)

tls_breaks : (code len : ℕ) (bytes : List ℕ) (fault : ProtocolFault) → code ≡ 80877103 → empty.Breaks len bytes fault → (by_code code).Breaks len bytes fault
tls_breaks code len bytes fault e p = rw e p

gssapi_means : (code : ℕ) (bytes : List ℕ) → code ≡ 80877104 → Means empty bytes tt → (by_code code).Reads bytes gssapi []
gssapi_means code bytes e p = rw e (tt, p, refl)

gssapi_breaks : (code len : ℕ) (bytes : List ℕ) (fault : ProtocolFault) → code ≡ 80877104 → empty.Breaks len bytes fault → (by_code code).Breaks len bytes fault
gssapi_breaks code len bytes fault e p = rw e p

-- ---- versions

-- a code below those of the messages that are no session
no_other : (code : ℕ) → code < 262144 → ((code == 80877102) ≡ false) × ((code == 80877103) ≡ false) × ((code == 80877104) ≡ false)
no_other code low = (ne_eqb code 80877102 (λ e. omega (arith, low, e)), ne_eqb code 80877103 (λ e. omega (arith, low, e)), ne_eqb code 80877104 (λ e. omega (arith, low, e)))

version_3 : (code : ℕ) → 196608 ≤ code → code < 262144 → is_version_3 code ≡ true
version_3 code low high = rw (le-leb 196608 code low, lt-ltb code 262144 high) refl

no_version : (code : ℕ) → ¬ ((196608 ≤ code) × (code < 262144)) → is_version_3 code ≡ false
no_version code not =
    elim (cases_lt code 196608) [
      | inl low ↦ rw (lt-leb 196608 code low) refl
      | inr at_least ↦ elim (cases_lt code 262144) [
        | inl high ↦ absurd (not (at_least, high))
        | inr above ↦ rw (le-leb 196608 code at_least, le-ltb code 262144 above) refl
      ]
    ]

startup_means : (code minor : ℕ) (bytes : List ℕ) (settings : List (List ℕ × List ℕ)) → code ≡ 196608 + minor → minor < 65536 → Means startup bytes settings → (by_code code).Reads bytes (opening minor settings) []
startup_means code minor bytes settings e low p =
    let none = no_other code (omega (arith, e, low)) in
    rw (none.0, none.1, none.2, version_3 code (omega (arith, e)) (omega (arith, e, low))) (settings, p, ap (λ (m : ℕ). opening m settings) (omega (arith, e)))

startup_breaks : (code minor len : ℕ) (bytes : List ℕ) (fault : ProtocolFault) → code ≡ 196608 + minor → minor < 65536 → startup.Breaks len bytes fault → (by_code code).Breaks len bytes fault
startup_breaks code minor len bytes fault e low p =
    let none = no_other code (omega (arith, e, low)) in
    rw (none.0, none.1, none.2, version_3 code (omega (arith, e)) (omega (arith, e, low))) p

no_message : (code len : ℕ) (bytes : List ℕ) → code ≢ 80877102 → code ≢ 80877103 → code ≢ 80877104 → ¬ ((196608 ≤ code) × (code < 262144)) → (by_code code).Breaks len bytes (UnknownCode code)
no_message code len bytes no_cancel no_tls no_gssapi not =
    rw (ne_eqb code 80877102 no_cancel, ne_eqb code 80877103 no_tls, ne_eqb code 80877104 no_gssapi, no_version code not) refl

pub returns-in_err-code : goal.returns-in_err-code
returns-in_err-code c =
    let p = err_from_is_err_and c.from_residual.result c.from_residual.ensures.1 in
    let f = c.in_err-code.ensures in
    rw (p.1, p.2) (f.0, f.1, inl f.2)

pub returns-in_err-cancel_at-in-80877102 : goal.returns-in_err-cancel_at-in-80877102
returns-in_err-cancel_at-in-80877102 c =
    let p = err_from_is_err_and c.from_residual-in_err-cancel_at-in-80877102.result c.from_residual-in_err-cancel_at-in-80877102.ensures.1 in
    let body = c.args.body.now in
    let code = c.in_ok-code in
    let f = c.in_err-cancel_at-in-80877102.ensures in
    rw (p.1, p.2) (f.0, f.1, breaks_first body code.code code.end f.0 code.ensures (cancel_breaks code.code (length body) (drop code.end body) f.0 c.in-80877102.is f.2))

pub returns-in_ok-cancel_at-in-80877102 : goal.returns-in_ok-cancel_at-in-80877102
returns-in_ok-cancel_at-in-80877102 c =
    let body = c.args.body.now in
    let code = c.in_ok-code in
    means_first body code.code code.end (cancelling (shown_cancel c.in_ok-cancel_at-in-80877102.field-0)) code.ensures (cancel_means code.code (drop code.end body) (shown_cancel c.in_ok-cancel_at-in-80877102.field-0) c.in-80877102.is c.in_ok-cancel_at-in-80877102.ensures)

pub returns-in_err-nothing_at-in-80877103 : goal.returns-in_err-nothing_at-in-80877103
returns-in_err-nothing_at-in-80877103 c =
    let p = err_from_is_err_and c.from_residual-in_err-nothing_at-in-80877103.result c.from_residual-in_err-nothing_at-in-80877103.ensures.1 in
    let body = c.args.body.now in
    let code = c.in_ok-code in
    let f = c.in_err-nothing_at-in-80877103.ensures in
    rw (p.1, p.2) (f.0, f.1, breaks_first body code.code code.end f.0 code.ensures (tls_breaks code.code (length body) (drop code.end body) f.0 c.in-80877103.is f.2))

pub returns-in_ok-nothing_at-in-80877103 : goal.returns-in_ok-nothing_at-in-80877103
returns-in_ok-nothing_at-in-80877103 c =
    let body = c.args.body.now in
    let code = c.in_ok-code in
    means_first body code.code code.end tls code.ensures (tls_means code.code (drop code.end body) c.in-80877103.is c.in_ok-nothing_at-in-80877103.ensures)

pub returns-in_err-nothing_at-in-80877104 : goal.returns-in_err-nothing_at-in-80877104
returns-in_err-nothing_at-in-80877104 c =
    let p = err_from_is_err_and c.from_residual-in_err-nothing_at-in-80877104.result c.from_residual-in_err-nothing_at-in-80877104.ensures.1 in
    let body = c.args.body.now in
    let code = c.in_ok-code in
    let f = c.in_err-nothing_at-in-80877104.ensures in
    rw (p.1, p.2) (f.0, f.1, breaks_first body code.code code.end f.0 code.ensures (gssapi_breaks code.code (length body) (drop code.end body) f.0 c.in-80877104.is f.2))

pub returns-in_ok-nothing_at-in-80877104 : goal.returns-in_ok-nothing_at-in-80877104
returns-in_ok-nothing_at-in-80877104 c =
    let body = c.args.body.now in
    let code = c.in_ok-code in
    means_first body code.code code.end gssapi code.ensures (gssapi_means code.code (drop code.end body) c.in-80877104.is c.in_ok-nothing_at-in-80877104.ensures)

pub returns-in_err-settings-in-Some : goal.returns-in_err-settings-in-Some
returns-in_err-settings-in-Some c =
    let p = err_from_is_err_and c.from_residual-in_err-settings-in-Some.result c.from_residual-in_err-settings-in-Some.ensures.1 in
    let body = c.args.body.now in
    let code = c.in_ok-code in
    let f = c.in_err-settings-in-Some.ensures in
    rw (p.1, p.2) (f.0, f.1, breaks_first body code.code code.end f.0 code.ensures (startup_breaks code.code c.in-Some.minor (length body) (drop code.end body) f.0 c.in-Some.ensures.minor (omega arith) f.2))

pub returns-in_ok-settings-in-Some : goal.returns-in_ok-settings-in-Some
returns-in_ok-settings-in-Some c =
    let body = c.args.body.now in
    let code = c.in_ok-code in
    means_first body code.code code.end (opening c.in-Some.minor c.in_ok-settings-in-Some.settings) code.ensures (startup_means code.code c.in-Some.minor (drop code.end body) c.in_ok-settings-in-Some.settings c.in-Some.ensures.minor (omega arith) c.in_ok-settings-in-Some.ensures)

pub returns-in-None : goal.returns-in-None
returns-in-None c =
    let body = c.args.body.now in
    let code = c.in_ok-code in
    (UnknownCode code.code, refl, breaks_first body code.code code.end (UnknownCode code.code) code.ensures (no_message code.code (length body) (drop code.end body) (λ e. omega (arith, e)) (λ e. omega (arith, e)) (λ e. omega (arith, e)) c.in-None.ensures.none))
