-- A password's digest makes the round trip.
use Rattle.std.specs.Prelude.{slice_index}
use Rattle.std.proofs.Common.{◌≡◌, ◌≢◌, inl, inr, ℕ, zero, suc, ◌/◌, ◌%◌, ◌<◌, All, List, [], ◌∷◌, ◌++◌, length, refl, sym, ◌∙◌, arith}
use Rattle.std.proofs.lemmas.List.Elements.{All-head, All-tail}
use Rattle.hex.specs.Hex.{lower_digits, encode_with, encode_lower}
use Rattle.pg_base.specs.Reading.{HoldsNo}
use Rattle.pg_send.specs.Password.{IsDigest, md5_body, IsWorth, HexBytes, ReadsMd5}
use Rattle.pg_send.proofs.BindLemmas.{same_front}

-- the sixteen digits and what each is worth
is_worth : (v : ℕ) → v < 16 → IsWorth (slice_index lower_digits v) v
is_worth zero h = inl (omega arith, omega arith, omega arith)
is_worth (suc zero) h = inl (omega arith, omega arith, omega arith)
is_worth (suc (suc zero)) h = inl (omega arith, omega arith, omega arith)
is_worth (suc (suc (suc zero))) h = inl (omega arith, omega arith, omega arith)
is_worth (suc (suc (suc (suc zero)))) h = inl (omega arith, omega arith, omega arith)
is_worth (suc (suc (suc (suc (suc zero))))) h = inl (omega arith, omega arith, omega arith)
is_worth (suc (suc (suc (suc (suc (suc zero)))))) h = inl (omega arith, omega arith, omega arith)
is_worth (suc (suc (suc (suc (suc (suc (suc zero))))))) h = inl (omega arith, omega arith, omega arith)
is_worth (suc (suc (suc (suc (suc (suc (suc (suc zero)))))))) h = inl (omega arith, omega arith, omega arith)
is_worth (suc (suc (suc (suc (suc (suc (suc (suc (suc zero))))))))) h = inl (omega arith, omega arith, omega arith)
is_worth (suc (suc (suc (suc (suc (suc (suc (suc (suc (suc zero)))))))))) h = inr (omega arith, omega arith, omega arith)
is_worth (suc (suc (suc (suc (suc (suc (suc (suc (suc (suc (suc zero))))))))))) h = inr (omega arith, omega arith, omega arith)
is_worth (suc (suc (suc (suc (suc (suc (suc (suc (suc (suc (suc (suc zero)))))))))))) h = inr (omega arith, omega arith, omega arith)
is_worth (suc (suc (suc (suc (suc (suc (suc (suc (suc (suc (suc (suc (suc zero))))))))))))) h = inr (omega arith, omega arith, omega arith)
is_worth (suc (suc (suc (suc (suc (suc (suc (suc (suc (suc (suc (suc (suc (suc zero)))))))))))))) h = inr (omega arith, omega arith, omega arith)
is_worth (suc (suc (suc (suc (suc (suc (suc (suc (suc (suc (suc (suc (suc (suc (suc zero))))))))))))))) h = inr (omega arith, omega arith, omega arith)
is_worth (suc (suc (suc (suc (suc (suc (suc (suc (suc (suc (suc (suc (suc (suc (suc (suc n)))))))))))))))) h = absurd (omega (arith, h))

read_hex : (bytes : List ℕ) → All (λ b. b < 256) bytes → HexBytes (encode_lower bytes) bytes
unfolding encode_with
read_hex [] small = refl
read_hex (b ∷ bytes) small =
    let lt : b < 256 = All-head (λ x. x < 256) b bytes small in (
      encode_lower bytes,
      record {
        high = slice_index lower_digits (b / 16);
        low = slice_index lower_digits (b % 16);
        high_worth = b / 16;
        low_worth = b % 16;
        high_is = is_worth (b / 16) (omega (arith, lt));
        low_is = is_worth (b % 16) (omega arith);
        is = omega arith;
        parts = refl;
      },
      read_hex bytes (All-tail (λ x. x < 256) b bytes small),
    )

one_digit : (a b worth : ℕ) → IsWorth a worth → IsWorth b worth → a ≡ b
one_digit a b worth p q =
    elim p [
      | inl x ↦ elim q [ inl y ↦ omega (arith, x, y) | inr y ↦ absurd (omega (arith, x, y)) ]
      | inr x ↦ elim q [ inl y ↦ absurd (omega (arith, x, y)) | inr y ↦ omega (arith, x, y) ]
    ]

worth_small : (digit worth : ℕ) → IsWorth digit worth → worth < 16
worth_small digit worth (inl x) = omega (arith, x)
worth_small digit worth (inr x) = omega (arith, x)

-- a byte has one pair of digits
digit_is : (digit worth : ℕ) → IsWorth digit worth → digit ≡ slice_index lower_digits worth
digit_is digit worth p = one_digit digit (slice_index lower_digits worth) worth p (is_worth worth (worth_small digit worth p))

pub hex_is : (digits bytes : List ℕ) → HexBytes digits bytes → digits ≡ encode_lower bytes
unfolding encode_with
hex_is digits [] p = p
hex_is digits (b ∷ bytes) p =
    let high : b / 16 ≡ p.1.high_worth = omega (arith, p.1.is, worth_small p.1.low p.1.low_worth p.1.low_is) in
    let low : b % 16 ≡ p.1.low_worth = omega (arith, p.1.is, worth_small p.1.low p.1.low_worth p.1.low_is) in
    p.1.parts ∙ rw (high, low) (λ i. digit_is p.1.high p.1.high_worth p.1.high_is i ∷ digit_is p.1.low p.1.low_worth p.1.low_is i ∷ hex_is p.0 bytes p.2 i)

digit_not_0 : (digit worth : ℕ) → IsWorth digit worth → digit ≢ 0
digit_not_0 digit worth (inl x) e = omega (arith, x, e)
digit_not_0 digit worth (inr x) e = omega (arith, x, e)

pub hex_holds_no_0 : (digits bytes : List ℕ) → HexBytes digits bytes → HoldsNo 0 digits
hex_holds_no_0 digits [] p = rw p tt
hex_holds_no_0 digits (b ∷ bytes) p =
    rw (p.1.parts) (digit_not_0 p.1.high p.1.high_worth p.1.high_is, (digit_not_0 p.1.low p.1.low_worth p.1.low_is, hex_holds_no_0 p.0 bytes p.2))

pub read_md5 : (digest : List ℕ) → IsDigest digest → ReadsMd5 (md5_body digest) digest
read_md5 digest h = record { digits = encode_lower digest; long = h.long; spelled = read_hex digest h.bytes; parts = refl }

one_worth : (digit a b : ℕ) → IsWorth digit a → IsWorth digit b → a ≡ b
one_worth digit a b p q =
    elim p [
      | inl x ↦ elim q [ inl y ↦ omega (arith, x, y) | inr y ↦ absurd (omega (arith, x, y)) ]
      | inr x ↦ elim q [ inl y ↦ absurd (omega (arith, x, y)) | inr y ↦ omega (arith, x, y) ]
    ]

one_hex : (digits a b : List ℕ) → length a ≡ length b → HexBytes digits a → HexBytes digits b → a ≡ b
one_hex digits [] [] len p q = refl
one_hex digits [] (b ∷ bs) len p q = absurd (omega (arith, len))
one_hex digits (a ∷ as') [] len p q = absurd (omega (arith, len))
one_hex digits (a ∷ as') (b ∷ bs) len p q =
    let e : p.1.high ∷ p.1.low ∷ p.0 ≡ q.1.high ∷ q.1.low ∷ q.0 = sym p.1.parts ∙ q.1.parts in
    let highs : p.1.high ≡ q.1.high = cc in
    let lows : p.1.low ≡ q.1.low = cc in
    let after : p.0 ≡ q.0 = cc in
    let high_worths = one_worth q.1.high p.1.high_worth q.1.high_worth (rw highs at p.1.high_is) q.1.high_is in
    let low_worths = one_worth q.1.low p.1.low_worth q.1.low_worth (rw lows at p.1.low_is) q.1.low_is in
    let bytes : a ≡ b = omega (arith, high_worths, low_worths, p.1.is, q.1.is) in
    let more = one_hex q.0 as' bs (omega (arith, len)) (rw after at p.2) q.2 in
    cc

pub one_md5 : (body a b : List ℕ) → ReadsMd5 body a → ReadsMd5 body b → a ≡ b
one_md5 body a b p q =
    let e : 109 ∷ 100 ∷ 53 ∷ (p.digits ++ 0 ∷ []) ≡ 109 ∷ 100 ∷ 53 ∷ (q.digits ++ 0 ∷ []) = sym p.parts ∙ q.parts in
    let tails : p.digits ++ 0 ∷ [] ≡ q.digits ++ 0 ∷ [] = cc in
    let digits : p.digits ≡ q.digits = same_front p.digits q.digits (0 ∷ []) tails in
    one_hex q.digits a b (p.long ∙ sym q.long) (rw digits at p.spelled) q.spelled
