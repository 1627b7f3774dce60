-- A SASLInitialResponse makes the round trip.
use Rattle.std.proofs.Common.{◌≡◌, ℕ, ◌≤◌, pos, Bool, true, false, List, ◌++◌, length, refl, sym, ap, arith, append_assoc}
use Rattle.pg_base.specs.Cutting.{max_length}
use Rattle.pg_base.specs.Numbers.{be32}
use Rattle.pg_base.specs.Reading.{HoldsNo}
use Rattle.pg_base.proofs.CuttingLemmas.{int_be32}
use Rattle.pg_base.proofs.ReadingLemmas.{one_signed, one_text}
use Rattle.pg_send.specs.SaslInitialResponse.{SaslInitialFields, mechanism, sasl_initial_body, ReadsMechanism, ReadsSaslInitial}

mechanism_holds_no_0 : (plus : Bool) → HoldsNo 0 (mechanism plus)
mechanism_holds_no_0 true = (λ e. omega (arith, e), (λ e. omega (arith, e), (λ e. omega (arith, e), (λ e. omega (arith, e), (λ e. omega (arith, e), (λ e. omega (arith, e), (λ e. omega (arith, e), (λ e. omega (arith, e), (λ e. omega (arith, e), (λ e. omega (arith, e), (λ e. omega (arith, e), (λ e. omega (arith, e), (λ e. omega (arith, e), (λ e. omega (arith, e), (λ e. omega (arith, e), (λ e. omega (arith, e), (λ e. omega (arith, e), (λ e. omega (arith, e), tt))))))))))))))))))
mechanism_holds_no_0 false = (λ e. omega (arith, e), (λ e. omega (arith, e), (λ e. omega (arith, e), (λ e. omega (arith, e), (λ e. omega (arith, e), (λ e. omega (arith, e), (λ e. omega (arith, e), (λ e. omega (arith, e), (λ e. omega (arith, e), (λ e. omega (arith, e), (λ e. omega (arith, e), (λ e. omega (arith, e), (λ e. omega (arith, e), tt)))))))))))))

read_mechanism : (plus : Bool) → ReadsMechanism (mechanism plus) plus
read_mechanism true = refl
read_mechanism false = refl

pub read_sasl_initial : (s : SaslInitialFields) → length s.response ≤ max_length → ReadsSaslInitial (sasl_initial_body s) s
read_sasl_initial s fits = record {
  name = mechanism s.plus;
  after_name = be32 (length s.response) ++ s.response;
  first = record { clean = mechanism_holds_no_0 s.plus; parts = simp append_assoc };
  chosen = read_mechanism s.plus;
  response = record { spelled = be32 (length s.response); wide = refl; is = sym (int_be32 (length s.response) fits); parts = refl };
}

one_mechanism : (name : List ℕ) (a b : Bool) → ReadsMechanism name a → ReadsMechanism name b → a ≡ b
one_mechanism name true true p q = refl
one_mechanism name true false p q = absurd (omega (arith, ap length p, ap length q))
one_mechanism name false true p q = absurd (omega (arith, ap length p, ap length q))
one_mechanism name false false p q = refl

pub one_sasl_initial : (body : List ℕ) (a b : SaslInitialFields) → ReadsSaslInitial body a → ReadsSaslInitial body b → a ≡ b
one_sasl_initial body a b p q =
    let names = one_text body p.name q.name p.after_name q.after_name p.first q.first in
    let pluses = one_mechanism q.name a.plus b.plus (rw names.0 at p.chosen) q.chosen in
    let responses = (one_signed 4 q.after_name (pos (length a.response)) (pos (length b.response)) a.response b.response (rw names.1 at p.response) q.response).1 in
    λ i. record { response = responses i; plus = pluses i }
