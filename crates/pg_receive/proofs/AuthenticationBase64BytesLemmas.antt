-- Base64 is tested piece by piece.
use Rattle.std.proofs.Common.{◌≡◌, ℕ, zero, suc, ◌+◌, ◌*◌, ◌/◌, ◌<◌, ◌≤◌, true, false, nat_lt, List, [], ◌∷◌, ◌++◌, length, take, drop, slice_index, Option, Some, None, Result, Ok, Err, OnOk, is_ok, replicate, ◌↔◌, Bool, IfSome, IfNone, inl, inr, refl, sym, ap, ◌∙◌, arith, append_assoc}
use Rattle.std.proofs.lemmas.List.{append-nil, length-append, take-append-drop, take_all, drop_all, length-drop, get_or-drop}
use Rattle.std.proofs.lemmas.Bool.{le-ltb}
use Rattle.std.specs.Result.{result_ok}
use Rattle.std.specs.Io.KnownBytes.{prepend_known}
use Rattle.base64.specs.Engines.{standard, standard_no_pad}
use Rattle.base64.specs.GeneralPurpose.{IsBytes, decode_of, decoded_of, decoded_bytes_of, decode_slice_of, encode_of, groups_error_of, groups_bytes_of}
use Rattle.base64.specs.Decode.{IsDecodeTable, or_else, symbol_error, group_error, group_bytes, decode_group, groups_error, groups_bytes, groups_before_last, lone_error, suffix_bytes, decode_error, decode_outcome, decoded_estimate, or_error, IsWrittenOver}
use Rattle.base64.specs.Rfc4648.{encode_symbols, padding_len}
use Rattle.base64.specs.declared.decode.DecodeError.{DecodeError}
use Rattle.base64.specs.declared.decode.DecodeSliceError.{DecodeSliceError}
use Rattle.base64.specs.declared.engine.general_purpose.GeneralPurpose.{GeneralPurpose}
use Rattle.base64.proofs.Canonical.{take_groups}
use Rattle.base64.proofs.Decoding.{length-groups_bytes, groups_error_first, slice_result_room, or_error_ok}
use Rattle.base64.proofs.EngineFacts.{decode_of_strict, decode_of-encode_of}
use Rattle.base64.proofs.RoundTrip.{groups_encoded, length-encode_symbols}
use Rattle.base64.proofs.Streams.{decoded_of-groups, decoded_of-ok, decoded_of-nil}
use Rattle.base64.proofs.Tables.{are_tables_inverse, IsDecodeTable_from}
use Rattle.pg_format.specs.Sasl.{base64_of}
use Rattle.pg_receive.specs.Authentication.SaslItems.{base64_value}
use Rattle.pg_receive.specs.Authentication.Base64Bytes.{IsBase64, IsWhole}

-- ---- what decodes has no error

or_else_none : (x y : Option DecodeError) → or_else x y ≡ None → (x ≡ None) × (y ≡ None)
or_else_none None y h = (refl, h)
or_else_none (Some e) y h = cc

outcome_some : (x : Option DecodeError) (bytes b : List ℕ) → result_ok (decode_outcome x bytes) ≡ Some b → (x ≡ None) × (bytes ≡ b)
outcome_some None bytes b h = (refl, cc)
outcome_some (Some e) bytes b h = cc

no_error : (x : Option DecodeError) → ((e : DecodeError) → x ≡ Some e → ⊥) → x ≡ None
no_error None h = refl
no_error (Some e) h = absurd (h e refl)

module _ (e : GeneralPurpose) (s : List ℕ) where
  abbrev error : Option DecodeError
  error = decode_error e.decode_table e.padding.value e.config.decode_allow_trailing_bits e.config.decode_padding_mode s

  abbrev last : ℕ
  last = groups_before_last (length s)

  decoded_parts : (b : List ℕ) → decoded_of e s ≡ Some b → (error ≡ None) × (decoded_bytes_of e s ≡ b)
  unfolding decoded_of
  decoded_parts b is = outcome_some error (decoded_bytes_of e s) b is

  -- the bytes fit a room that is as long as they are
  pub exact_room : (b : List ℕ) → decoded_of e s ≡ Some b → (decode_slice_of e s (length b) ≡ Ok (length b)) × (decoded_bytes_of e s ≡ b)
  exact_room b is =
      let parts = decoded_parts b is in
      let found = or_else_none (lone_error e.decode_table e.padding.value s) _ parts.0 in
      let suffix = suffix_bytes e.decode_table e.padding.value (4 * last) s in
      let size : length b ≡ 3 * last + length suffix = ap length (sym parts.1) ∙ omega (arith, length-append (groups_bytes e.decode_table s last) suffix, length-groups_bytes e.decode_table s last) in
      let groups : nat_lt (length b / 3) last ≡ false = le-ltb (length b / 3) last (omega (arith, size)) in
      let all : nat_lt (length b) (length b) ≡ false = le-ltb (length b) (length b) (omega arith) in
      (rw (found.0, groups, found.1, parts.1, all) refl, parts.1)

  -- its first groups are symbols
  front_groups : (b : List ℕ) (q : ℕ) → decoded_of e s ≡ Some b → q ≤ last → groups_error e.decode_table s q ≡ None
  front_groups b q is within = no_error (groups_error e.decode_table s q) (λ x h.
      let found = or_else_none (lone_error e.decode_table e.padding.value s) _ (decoded_parts b is).0 in
      let all = or_else_none (groups_error e.decode_table s last) _ found.1 in
      cc (sym (groups_error_first e.decode_table s q last x h within) ∙ all.0))

-- ---- the bytes of groups are bytes

bytes_append : (xs ys : List ℕ) → IsBytes xs → IsBytes ys → IsBytes (xs ++ ys)
bytes_append [] ys p q i = q i
bytes_append (x ∷ xs) ys p q zero = p 0
bytes_append (x ∷ xs) ys p q (suc i) = bytes_append xs ys (λ k. p (suc k)) q i

symbol_small : (dec s : List ℕ) (i : ℕ) → IsDecodeTable dec → IsBytes s → symbol_error dec s i ≡ None → slice_index dec (slice_index s i) < 64
symbol_small dec s i table bytes none = elim (table (slice_index s i) (bytes i)) [
  | inl bad ↦ cc (rw bad at none)
  | inr small ↦ small
]

group_is_bytes : (m0 m1 m2 m3 : ℕ) → m0 < 64 → m1 < 64 → m2 < 64 → m3 < 64 → IsBytes (decode_group m0 m1 m2 m3)
group_is_bytes m0 m1 m2 m3 a b c d zero = omega arith
group_is_bytes m0 m1 m2 m3 a b c d (suc zero) = omega arith
group_is_bytes m0 m1 m2 m3 a b c d (suc (suc zero)) = omega arith
group_is_bytes m0 m1 m2 m3 a b c d (suc (suc (suc i))) = omega arith

no_bytes : IsBytes []
no_bytes i = omega arith

groups_are_bytes : (dec s : List ℕ) (q : ℕ) → IsDecodeTable dec → IsBytes s → groups_error dec s q ≡ None → IsBytes (groups_bytes dec s q)
unfolding groups_error groups_bytes
groups_are_bytes dec s zero table bytes none = no_bytes
groups_are_bytes dec s (suc q) table bytes none =
    let i : ℕ = 4 * q in
    let parts = or_else_none (groups_error dec s q) (group_error dec s i) none in
    let p0 = or_else_none (symbol_error dec s i) _ parts.1 in
    let p1 = or_else_none (symbol_error dec s (i + 1)) _ p0.1 in
    let p2 = or_else_none (symbol_error dec s (i + 2)) (symbol_error dec s (i + 3)) p1.1 in
    let s0 = symbol_small dec s i table bytes p0.0 in
    let s1 = symbol_small dec s (i + 1) table bytes p1.0 in
    let s2 = symbol_small dec s (i + 2) table bytes p2.0 in
    let s3 = symbol_small dec s (i + 3) table bytes p2.1 in
    bytes_append (groups_bytes dec s q) (group_bytes dec s i) (groups_are_bytes dec s q table bytes parts.0) (group_is_bytes _ _ _ _ s0 s1 s2 s3)

-- ---- a piece that is not the last

-- without padding, 48 bytes are written as by the other engine
same_whole : (bytes : List ℕ) → length bytes ≡ 48 → encode_of standard_no_pad bytes ≡ encode_of standard bytes
same_whole bytes many = rw many refl

pub whole_piece : (piece bytes : List ℕ) → length piece ≡ 64 → IsBytes piece → IsBytes bytes → decode_of standard_no_pad piece ≡ Ok bytes → IsWhole piece
whole_piece piece bytes len are_bytes are decoded =
    let spelled = decode_of_strict standard_no_pad piece bytes (refl, refl) are_bytes decoded in
    let many : length bytes ≡ 48 = omega (arith, ap length spelled, length-append (encode_symbols standard_no_pad.encode_table bytes) [], length-encode_symbols standard_no_pad.encode_table bytes, len) in
    record { bytes = bytes; are = are; many = many; is = spelled ∙ same_whole bytes many }

pub broken_piece : (piece : List ℕ) (error : DecodeError) → decode_of standard_no_pad piece ≡ Err error → ¬ IsWhole piece
broken_piece piece error broken = λ p.
    let back = decode_of-encode_of standard_no_pad p.bytes refl p.are in
    cc (sym broken ∙ ap (decode_of standard_no_pad) (p.is ∙ sym (same_whole p.bytes p.many)) ∙ back)

not_some : (o : Option (List ℕ)) → ((bytes : List ℕ) → o ≡ Some bytes → ⊥) → o ≡ None
not_some None h = refl
not_some (Some bytes) h = absurd (h bytes refl)

module _ (text : List ℕ) (long : 64 < length text) where
  -- a piece before others is of groups alone
  pub after_piece : (p : IsWhole (take 64 text)) → base64_of text ≡ prepend_known p.bytes (base64_of (drop 64 text))
  unfolding base64_of
  after_piece p =
      let symbols = encode_symbols standard.encode_table p.bytes in
      let spelled : text ≡ symbols ++ drop 64 text = sym (take-append-drop 64 text) ∙ ap (λ (l : List ℕ). l ++ drop 64 text) (p.is ∙ rw p.many (append-nil symbols)) in
      let groups = groups_encoded standard.encode_table standard.decode_table p.bytes (drop 64 text) standard.padding.value 16 standard.tables p.are (omega (arith, p.many)) in
      let none : groups_error_of standard text 16 ≡ None = ap (λ s. groups_error_of standard s 16) spelled ∙ groups.0 in
      let bytes : groups_bytes_of standard text 16 ≡ p.bytes = ap (λ s. groups_bytes_of standard s 16) spelled ∙ groups.1 ∙ take_all 48 p.bytes (omega (arith, p.many)) in
      let split = decoded_of-groups standard text [] 16 long none in
      rw (append-nil text, append-nil (drop 64 text), bytes) at split

  -- where a text is base64, such a piece of it is
  pub piece_of : (bytes : List ℕ) → IsBytes text → base64_of text ≡ Some bytes → IsWhole (take 64 text)
  unfolding base64_of
  piece_of bytes are is =
      let inverse = are_tables_inverse standard.encode_table standard.decode_table standard.padding.value standard.tables in
      let none = front_groups standard text bytes 16 is (omega (arith, long)) in
      let m = groups_bytes standard.decode_table text 16 in
      let many : length m ≡ 48 = length-groups_bytes standard.decode_table text 16 in
      let table = IsDecodeTable_from standard.encode_table standard.decode_table inverse in
      let spelled = take_groups standard.encode_table standard.decode_table text 16 inverse are (omega (arith, long)) none in
      record { bytes = m; are = groups_are_bytes standard.decode_table text 16 table are none; many = many; is = spelled ∙ rw many (sym (append-nil _)) }

-- ---- the text that is left

-- the text is so many bytes, and then those of the rest
pub record LeftText (text rest : List ℕ) (len : ℕ) : Type 0 where
  pub front : List ℕ
  pub many : len ≡ length front
  pub is : base64_of text ≡ prepend_known front (base64_of rest)
  pub within : len + length rest ≤ length text
  pub are : IsBytes text → IsBytes rest

prepend_twice : (xs ys : List ℕ) (o : Option (List ℕ)) → prepend_known xs (prepend_known ys o) ≡ prepend_known (xs ++ ys) o
prepend_twice xs ys None = refl
prepend_twice xs ys (Some zs) = ap Some (sym (append_assoc xs ys zs))

module _ (text rest : List ℕ) (len : ℕ) (left : LeftText text rest len) where
  pub one_less : 64 < length rest → IsWhole (take 64 rest) → LeftText text (drop 64 rest) (len + 48)
  one_less long p = record {
    front = left.front ++ p.bytes;
    many = omega (arith, left.many, p.many, length-append left.front p.bytes);
    is = left.is ∙ ap (prepend_known left.front) (after_piece rest long p) ∙ prepend_twice left.front p.bytes (base64_of (drop 64 rest));
    within = omega (arith, left.within, length-drop 64 rest);
    are = λ bytes i. rw (get_or-drop 64 rest i 0) (left.are bytes (64 + i));
  }

  pub last_left : (n : ℕ) → IsBase64 rest n → IsBase64 text (len + n)
  last_left n p =
      let is = left.is ∙ ap (prepend_known left.front) p.0 in
      rw is (refl, omega (arith, left.many, p.1, length-append left.front (base64_value rest)))

  pub none_left : base64_of rest ≡ None → base64_of text ≡ None
  none_left none = left.is ∙ ap (prepend_known left.front) none

  pub broken_left : 64 < length rest → IsBytes text → ¬ IsWhole (take 64 rest) → base64_of text ≡ None
  broken_left long are broken = none_left (not_some (base64_of rest) (λ bytes is. broken (piece_of rest long bytes (left.are are) is)))

-- ---- what is decoded

-- base64 is at least as long as its bytes
no_longer : (text bytes : List ℕ) → IsBytes text → decode_of standard text ≡ Ok bytes → length bytes ≤ length text
no_longer text bytes are is =
    let symbols = encode_symbols standard.encode_table bytes in
    let spelled = decode_of_strict standard text bytes (refl, refl) are is in
    omega (arith, ap length spelled, length-append symbols (replicate (padding_len (length bytes)) standard.padding.value), length-encode_symbols standard.encode_table bytes)

no_error_then : (x : Option DecodeError) (m : ℕ) (f : DecodeSliceError) → or_error x (Ok m) ≡ Err f → (e : DecodeError) × (x ≡ Some e)
no_error_then None m f h = cc
no_error_then (Some e) m f h = (e, refl)

module _ (e : GeneralPurpose) (s : List ℕ) (out : ℕ) (room : decoded_estimate (length s) ≤ out) where
  in_room : decode_slice_of e s out ≡ or_error (error e s) (Ok (length (decoded_bytes_of e s)))
  in_room = slice_result_room e.decode_table s e.padding.value e.config.decode_allow_trailing_bits e.config.decode_padding_mode out room

  room_ok : (n : ℕ) → decode_slice_of e s out ≡ Ok n → (decode_of e s ≡ Ok (decoded_bytes_of e s)) × (length (decoded_bytes_of e s) ≡ n)
  room_ok n ok =
      let parts = or_error_ok (error e s) (length (decoded_bytes_of e s)) n (sym in_room ∙ ok) in
      (rw parts.0 refl, parts.1)

  room_err : (f : DecodeSliceError) → decode_slice_of e s out ≡ Err f → (x : DecodeError) × (decode_of e s ≡ Err x)
  room_err f err =
      let found = no_error_then (error e s) (length (decoded_bytes_of e s)) f (sym in_room ∙ err) in
      (found.0, ap (λ x. decode_outcome x (decoded_bytes_of e s)) found.1)

pub whole_answer : (r : Result ℕ DecodeSliceError) (answer : Bool) (piece : List ℕ) → answer ≡ is_ok r → r ≡ decode_slice_of standard_no_pad piece 48 → OnOk r (IsBytes (decoded_bytes_of standard_no_pad piece)) → length piece ≡ 64 → IsBytes piece → (answer ≡ true) ↔ IsWhole piece
whole_answer (Ok n) answer piece e value are len are_piece =
    let ok = room_ok standard_no_pad piece 48 (omega (arith, len)) n (sym value) in
    rw e (λ _. whole_piece piece (decoded_bytes_of standard_no_pad piece) len are_piece are ok.0, λ _. refl)
whole_answer (Err f) answer piece e value are len are_piece =
    let err = room_err standard_no_pad piece 48 (omega (arith, len)) f (sym value) in
    rw e (λ bad. cc, λ p. absurd (broken_piece piece err.0 err.1 p))

module _ (piece : List ℕ) (short : length piece ≤ 64) where
  pub last_some : (r : Result ℕ DecodeSliceError) (answer : Option ℕ) → answer ≡ result_ok r → r ≡ decode_slice_of standard piece 48 → IfSome answer (IsBase64 piece)
  unfolding base64_of
  last_some (Ok n) answer e value =
      let ok = room_ok standard piece 48 (omega (arith, short)) n (sym value) in
      rw (e, decoded_of-ok standard piece _ ok.0) (refl, sym ok.1)
  last_some (Err f) answer e value = rw e tt

  pub last_within : (r : Result ℕ DecodeSliceError) (answer : Option ℕ) → answer ≡ result_ok r → r ≡ decode_slice_of standard piece 48 → IsBytes piece → IfSome answer (λ n. n ≤ length piece)
  last_within (Ok n) answer e value are =
      let ok = room_ok standard piece 48 (omega (arith, short)) n (sym value) in
      rw e (omega (arith, no_longer piece _ are ok.0, ok.1))
  last_within (Err f) answer e value are = rw e tt

  pub last_none : (r : Result ℕ DecodeSliceError) (answer : Option ℕ) → answer ≡ result_ok r → r ≡ decode_slice_of standard piece 48 → IfNone answer (base64_of piece ≡ None)
  unfolding base64_of decoded_of
  last_none (Ok n) answer e value = rw e tt
  last_none (Err f) answer e value =
      let err = room_err standard piece 48 (omega (arith, short)) f (sym value) in
      rw (e, err.1) refl

-- a room that is as long as the bytes holds them
pub copied : (r : Result ℕ DecodeSliceError) (text bytes old new : List ℕ) → base64_of text ≡ Some bytes → length old ≡ length bytes → r ≡ decode_slice_of standard text (length old) → OnOk r (IsWrittenOver (decoded_bytes_of standard text) old new) → new ≡ bytes
unfolding base64_of
copied r text bytes old new is len value written =
    let exact = exact_room standard text bytes is in
    let ok : r ≡ Ok (length bytes) = value ∙ ap (decode_slice_of standard text) len ∙ exact.0 in
    let over = rw (ok, exact.1) at written in
    over ∙ rw (drop_all (length bytes) old (omega (arith, len))) (append-nil bytes)

pub none_in_nothing : base64_of [] ≡ Some []
unfolding base64_of
none_in_nothing = decoded_of-nil standard
