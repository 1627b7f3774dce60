-- Requests for authentication by any method.
use Rattle.std.specs.Prelude.{◌≡◌, ◌≢◌, ℕ, true, false, List, [], length}
use Rattle.std.proofs.Common.{refl, ap, inl, inr}
use Rattle.std.proofs.lemmas.Bool.{ne_eqb}
use Rattle.pg_base.specs.declared.error.ProtocolFault.{ProtocolFault}
use Rattle.pg_base.proofs.ReadingLemmas.{one_number}
use Rattle.pg_format.specs.Format.{Means, IsFaultOf}
use Rattle.pg_format.specs.Messages as page
use Rattle.pg_receive.specs.Authentication.{AuthenticationValue, requests}
use Rattle.pg_receive.specs.Authentication.Any.{known_method, other_method, any_value_of, any_requests}
use Rattle.pg_receive.specs.Authentication.Raw.{raw_request}

-- a method that the documentation has beside the six
pub record IsBeside (method : ℕ) : Type 0 where
  pub kerberos : method ≢ 2
  pub scm : method ≢ 6
  pub gss : method ≢ 7
  pub continued : method ≢ 8
  pub sspi : method ≢ 9

pub any_means : (body : List ℕ) (method : ℕ) (content : List ℕ) (request : page.AnyAuthentication) (more : List ℕ) → Means raw_request body (record { method = method; content = content })
    → (page.asked_by_any method).Reads content request more → Means any_requests body (any_value_of request)
any_means body method content request more p q =
    let rest : content ≡ p.mid = p.second.0 in
    (request, (more, ((method, request), record { mid = p.mid; first = p.first; second = rw rest at q }, refl), refl), refl)

-- ---- one of the six

known_reads : (method : ℕ) (bytes more : List ℕ) (request : page.Authentication) → IsBeside method → page.is_asked_by method ≡ true → (page.asked_by method).Reads bytes request more
    → (page.asked_by_any method).Reads bytes (page.known_method request) more
known_reads method bytes more request beside known p =
    rw (ne_eqb method 2 beside.kerberos, ne_eqb method 6 beside.scm, ne_eqb method 7 beside.gss, ne_eqb method 8 beside.continued, ne_eqb method 9 beside.sspi, known) (request, p, refl)

known_breaks : (method len : ℕ) (bytes : List ℕ) (fault : ProtocolFault) → IsBeside method → page.is_asked_by method ≡ true → (page.asked_by method).Breaks len bytes fault → (page.asked_by_any method).Breaks len bytes fault
known_breaks method len bytes fault beside known p =
    rw (ne_eqb method 2 beside.kerberos, ne_eqb method 6 beside.scm, ne_eqb method 7 beside.gss, ne_eqb method 8 beside.continued, ne_eqb method 9 beside.sspi, known) p

pub known_means : (body : List ℕ) (method : ℕ) (content : List ℕ) (value : AuthenticationValue) → Means raw_request body (record { method = method; content = content }) → IsBeside method → page.is_asked_by method ≡ true
    → Means requests body value → Means any_requests body (known_method value)
known_means body method content value p beside known q =
    let read = q.1.1 in
    let both = one_number 4 body read.0.0 method read.1.mid p.mid read.1.first p.first in
    let second : (page.asked_by method).Reads p.mid read.0.1 q.1.0 = rw (both.0, both.1) at read.1.second in (
      page.known_method q.0,
      (q.1.0, ((method, page.known_method read.0.1), record { mid = p.mid; first = p.first; second = known_reads method p.mid q.1.0 read.0.1 beside known second }, ap (λ (r : page.Authentication). page.known_method r) read.2), refl),
      ap (λ (v : AuthenticationValue). known_method v) q.2,
    )

pub known_refused : (body : List ℕ) (method : ℕ) (content : List ℕ) (fault : ProtocolFault) → Means raw_request body (record { method = method; content = content }) → IsBeside method → page.is_asked_by method ≡ true
    → IsFaultOf requests body fault → IsFaultOf any_requests body fault
known_refused body method content fault p beside known (inl q) = inl q
known_refused body method content fault p beside known (inr q) =
    let both = one_number 4 body q.value method q.mid p.mid q.reads p.first in
    let breaks : (page.asked_by method).Breaks (length body) p.mid fault = rw (both.0, both.1) at q.breaks in
    inr (record { value = method; mid = p.mid; reads = p.first; breaks = known_breaks method (length body) p.mid fault beside known breaks })

-- ---- one that there is not

pub other_means : (body : List ℕ) (method : ℕ) (content : List ℕ) → Means raw_request body (record { method = method; content = content }) → IsBeside method → page.is_asked_by method ≡ false
    → Means any_requests body (other_method method content)
other_means body method content p beside unknown =
    let reads : (page.asked_by_any method).Reads content (page.other_method method content) [] =
    rw (ne_eqb method 2 beside.kerberos, ne_eqb method 6 beside.scm, ne_eqb method 7 beside.gss, ne_eqb method 8 beside.continued, ne_eqb method 9 beside.sspi, unknown) (content, (refl, refl), refl) in
    any_means body method content (page.other_method method content) [] p reads
