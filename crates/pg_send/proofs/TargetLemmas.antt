-- What a Describe or a Close names makes the round trip.
use Rattle.std.proofs.Common.{◌≡◌, ◌≢◌, ℕ, ◌≤◌, List, [], ◌∷◌, refl, sym, ap, ◌∙◌, arith}
use Rattle.std.proofs.lemmas.List.{append-nil}
use Rattle.pg_base.specs.Id.{name, named, max_id, statement_prefix, portal_prefix}
use Rattle.pg_base.specs.Reading.{HoldsNo, Id}
use Rattle.pg_base.proofs.ReadingLemmas.{one_text}
use Rattle.pg_base.proofs.RoundTripLemmas.{id_of_name, text_of_name, one_id, statement_prefix_holds_no_0, portal_prefix_holds_no_0}
use Rattle.pg_send.specs.Target.{Target, Statement, Portal, target_body, IsTargetInRange, ReadsName, ReadsTarget}

read_name : (letter : ℕ) (prefix : List ℕ) (id : ℕ) → HoldsNo 0 prefix → id ≤ max_id → ReadsName (letter ∷ named prefix id) letter (Id prefix) id
read_name letter prefix id p h = record {
  name = name prefix id;
  after = named prefix id;
  begins = refl;
  text = rw append-nil at (text_of_name prefix id [] p h);
  is = id_of_name prefix id h;
}

pub read_target : (target : Target) → IsTargetInRange target → ReadsTarget (target_body target) target
read_target (Statement id) h = read_name 83 statement_prefix id statement_prefix_holds_no_0 h
read_target (Portal id) h = read_name 80 portal_prefix id portal_prefix_holds_no_0 h

one_name : (body : List ℕ) (letter : ℕ) (prefix : List ℕ) (a b : ℕ) → ReadsName body letter (Id prefix) a → ReadsName body letter (Id prefix) b → a ≡ b
one_name body letter prefix a b p q =
    let e : letter ∷ p.after ≡ letter ∷ q.after = sym p.begins ∙ q.begins in
    let tails : p.after ≡ q.after = cc in
    let texts = one_text q.after p.name q.name [] [] (rw tails at p.text) q.text in
    one_id prefix q.name a b (rw texts.0 at p.is) q.is

other_letter : (body : List ℕ) (m n : ℕ) (s t : List ℕ) (a b : ℕ) → m ≢ n → ReadsName body m (Id s) a → ReadsName body n (Id t) b → ⊥
other_letter body m n s t a b ne p q =
    let e : m ∷ p.after ≡ n ∷ q.after = sym p.begins ∙ q.begins in
    let heads : m ≡ n = cc in
    ne heads

pub one_target : (body : List ℕ) (a b : Target) → ReadsTarget body a → ReadsTarget body b → a ≡ b
one_target body (Statement a) (Statement b) p q = ap Statement (one_name body 83 statement_prefix a b p q)
one_target body (Statement a) (Portal b) p q = absurd (other_letter body 83 80 statement_prefix portal_prefix a b (λ e. omega (arith, e)) p q)
one_target body (Portal a) (Statement b) p q = absurd (other_letter body 80 83 portal_prefix statement_prefix a b (λ e. omega (arith, e)) p q)
one_target body (Portal a) (Portal b) p q = ap Portal (one_name body 80 portal_prefix a b p q)
